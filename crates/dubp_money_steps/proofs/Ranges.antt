-- What the sources of a chain have in range, and that their rows are rows of the index.
use Rattle.std.proofs.Common.{◌≡◌, ℕ, ◌+◌, ◌^◌, ◌<◌, ◌≤◌, Bool, true, false, cond, List, [], ◌∷◌, Some, None, map, filter, length, refl, ap, ◌∙◌, subst, arith}
use Rattle.std.specs.Prelude.{unwrap_or, nat_le}
use Rattle.std.proofs.lemmas.Option.{none-some}
use Rattle.std.proofs.Math.Nat.{le_of_lt}
use Rattle.std.specs.List.{AllByRecursion, enumerate_from, flat_map}
use Rattle.std.proofs.lemmas.List.Elements.{recursion_from_All}
use Rattle.dubp_atoms.specs.Same.{Text}
use Rattle.dubp_cond.specs.declared.output.Output.{Output}
use Rattle.dubp_cond.specs.declared.tx.Tx.{Tx}
use Rattle.dubp_cond.specs.Outputs.{IsOutput}
use Rattle.dubp_cond.specs.Transactions.{IsTx}
use Rattle.dubp_block.specs.declared.block.Block.{Block}
use Rattle.dubp_rules.specs.declared.rule.Rule.TheVariants.{X04, X08}
use Rattle.dubp_chain.specs.declared.head.Head.{Head}
use Rattle.dubp_chain.specs.Chains.{params}
use Rattle.dubp_chain.specs.Members.{members}
use Rattle.dubp_chain.specs.Heads.{next_head, heads_of, head_of, time_of, next_median_time, next_amount}
use Rattle.dubp_chain.specs.Money.{Source, same_source, output_source, outputs_made, dividend_source, dividends_made, dividends_at, made_sources, is_left, cleared}
use Rattle.dubp_params.specs.declared.params.Params.{Params}
use Rattle.dubp_laws.proofs.OfLists.{all_append}
use Rattle.dubp_laws.proofs.OfLists.{each_once-map}
use Rattle.dubp_laws.proofs.Sources.{SourcesApart, sources-filter}
use Rattle.dubp_laws.proofs.MadeOnce.{made_sources-once}
use Rattle.dubp_sindex.specs.Rows.{Entry, IsInRange, AreRows}
use Rattle.dubp_chain.specs.Words as chain
use Rattle.dubp_money_steps.specs.Steps.{head_with}
use Rattle.dubp_money_steps.specs.Left.{account_in, entries_of, IsSmall}
use Rattle.dubp_money_steps.specs.Laws.{SourcesAreRows, SourcesAreRowsBeforeClearing, MadeAreSmall}
use Rattle.dubp_money_steps.proofs.Names.{each_once-same}
use Rattle.dubp_money_steps.proofs.Bounds.{places_are_there}
use Rattle.dubp_money_steps.proofs.Entries.{rises_from, names_of, without_numbers}

-- ---- the rows of some of the sources that were made

in_range_from : (account : Text → ℕ) (p : Source → Bool) (n : ℕ) (ss : List Source) → AllByRecursion IsSmall ss → n + length ss ≤ 2 ^ 63
    → AllByRecursion IsInRange (entries_of account (filter (λ (q : ℕ × Source). p q.1) (enumerate_from n ss)))
in_range_from account p n [] small count = tt
in_range_from account p n (s ∷ ss) small count =
    let later = in_range_from account p (n + 1) ss small.1 (omega (arith, count)) in
    elim (p s) as (λ r. AllByRecursion IsInRange (entries_of account (cond r ((n, s) ∷ filter (λ (q : ℕ × Source). p q.1) (enumerate_from (n + 1) ss)) (filter (λ (q : ℕ × Source). p q.1) (enumerate_from (n + 1) ss))))) [
      | true ↦ ((small.0.0, small.0.1, omega (arith, count)), later)
      | false ↦ later
    ]

rows_from : (account : Text → ℕ) (p : Source → Bool) (ss : List Source) → SourcesApart ss → AllByRecursion IsSmall ss → length ss ≤ 2 ^ 63
    → AreRows (entries_of account (filter (λ (q : ℕ × Source). p q.1) (enumerate_from 0 ss)))
rows_from account p ss apart small count = record {
  once =
      each_once-same (map (λ (e : Entry). e.0) (entries_of account (filter (λ (q : ℕ × Source). p q.1) (enumerate_from 0 ss))))
      ∙ ap (chain.each_once same_source) (names_of account (filter (λ (q : ℕ × Source). p q.1) (enumerate_from 0 ss)) ∙ ap (map (λ (s : Source). s.id)) (without_numbers p 0 ss))
      ∙ each_once-map same_source (λ (s : Source). s.id) (filter p ss)
      ∙ sources-filter p ss apart;
  rises = rises_from account p 0 ss;
  in_range = in_range_from account p 0 ss small (omega (arith, count));
}

pub sources_are_rows : SourcesAreRows
sources_are_rows texts c sound small = rows_from (account_in texts) (is_left c (cleared c)) (made_sources c) (made_sources-once c sound) small.each (le_of_lt (places_are_there c sound small))

pub sources_are_rows_before_clearing : SourcesAreRowsBeforeClearing
sources_are_rows_before_clearing texts c b sound small =
    rows_from (account_in texts) (is_left (b ∷ c) (cleared c)) (made_sources (b ∷ c)) (made_sources-once (b ∷ c) sound) small.each (le_of_lt (places_are_there (b ∷ c) sound small))

-- ---- what a block makes

outputs_small : (time : ℕ) (hash : Text) (n : ℕ) (outputs : List Output) → AllByRecursion IsOutput outputs → AllByRecursion IsSmall (map (output_source time hash) (enumerate_from n outputs))
outputs_small time hash n [] are = tt
outputs_small time hash n (o ∷ outputs) are = ((are.0.amount, are.0.base), outputs_small time hash (n + 1) outputs are.1)

all_outputs_small : (time : ℕ) (currency : Text) (txs : List Tx) → AllByRecursion IsTx txs → AllByRecursion IsSmall (flat_map (outputs_made time currency) txs)
all_outputs_small time currency [] are = tt
all_outputs_small time currency (tx ∷ txs) are =
    all_append IsSmall (outputs_made time currency tx) (flat_map (outputs_made time currency) txs)
    (outputs_small time _ 0 tx.outputs (recursion_from_All IsOutput tx.outputs are.0.outputs.each))
    (all_outputs_small time currency txs are.1)

dividends_small : (time number amount base : ℕ) (keys : List Text) → amount < 2 ^ 53 → base ≤ 15 → AllByRecursion IsSmall (map (dividend_source time number amount base) keys)
dividends_small time number amount base [] below fits = tt
dividends_small time number amount base (k ∷ keys) below fits = ((below, fits), dividends_small time number amount base keys below fits)

-- what is paid is the dividend of the head
paid_is : (p : Params) (count : ℕ) (hs : List Head) (b : Block) (amount : ℕ) → (next_head p count hs b).ud ≡ Some amount → (next_head p count hs b).dividend ≡ amount
paid_is p count [] b amount is = absurd (none-some amount is)
paid_is p count (h ∷ hs) b amount is =
    elim (nat_le h.ud_time (next_median_time p h (h ∷ hs))) as (λ r. cond r (Some (next_amount p count h (h ∷ hs)).amount) None ≡ Some amount → (next_amount p count h (h ∷ hs)).amount ≡ amount) [
      | true ↦ λ paid. ap (λ o. unwrap_or o 0) paid
      | false ↦ λ none. absurd (none-some amount none)
    ] is

paid_small : (number : ℕ) (h : Head) (keys : List Text) → ((amount : ℕ) → h.ud ≡ Some amount → amount < 2 ^ 53) → h.unit_base ≤ 15
    → AllByRecursion IsSmall (dividends_made h.median_time number h.ud h.unit_base keys)
paid_small number h keys below fits =
    elim h.ud as (λ o. h.ud ≡ o → AllByRecursion IsSmall (dividends_made h.median_time number o h.unit_base keys)) [
      | None ↦ λ _. tt
      | Some amount ↦ λ is. dividends_small h.median_time number amount h.unit_base keys (below amount is) fits
    ] refl

pub made_are_small : MadeAreSmall
made_are_small c b sound is =
    all_append IsSmall (flat_map (outputs_made (time_of (b ∷ c)) b.currency) b.transactions) (dividends_at b.number (head_of (b ∷ c)) (members (b ∷ c)))
    (all_outputs_small (time_of (b ∷ c)) b.currency b.transactions (recursion_from_All IsTx b.transactions is.transactions))
    (paid_small b.number (head_with c b) (members (b ∷ c))
    (λ amount paid. subst (λ n. n < 2 ^ 53) (paid_is (params (b ∷ c)) (length (members (b ∷ c))) (heads_of c) b amount paid) (sound.0 X08 refl).0)
    (sound.0 X04 refl))
