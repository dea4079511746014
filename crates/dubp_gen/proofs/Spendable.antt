-- Each source of a chain has numbers in range, and is worth at least 1: an output by its line and by a rule, a dividend since the first is at least 1
-- and none is below the one before, but for a tenth, rounded up, in the base above.
use Rattle.std.proofs.Common.{◌≡◌, ℕ, ◌+◌, ◌≤◌, Bool, true, false, cond, List, [], ◌∷◌, ◌++◌, length, map, filter, Option, Some, None, unwrap_or, refl, ap, subst, arith}
use Rattle.std.specs.Prelude.{nat_le}
use Rattle.std.specs.Int.{div_ceil}
use Rattle.std.specs.List.{AllByRecursion, enumerate_from, flat_map}
use Rattle.std.specs.Option.{MatchOption}
use Rattle.std.proofs.lemmas.Option.{none-some}
use Rattle.std.proofs.lemmas.List.Elements.{recursion_from_All}
use Rattle.dubp_atoms.specs.Same.{Text, same_text}
use Rattle.dubp_atoms.specs.Spelling.{IsNumber}
use Rattle.dubp_cond.specs.Conditions.{cond_text}
use Rattle.dubp_cond.specs.Outputs.{IsOutput}
use Rattle.dubp_cond.specs.Transactions.{IsTx}
use Rattle.dubp_cond.specs.declared.output.Output.{Output}
use Rattle.dubp_cond.specs.declared.source.Input.{Input}
use Rattle.dubp_cond.specs.declared.tx.Tx.{Tx}
use Rattle.dubp_block.specs.declared.block.Block.{Block}
use Rattle.dubp_block.specs.Text.{IsBlock, IsDividend, IsFirstParams}
use Rattle.dubp_chain.specs.OfParams.{IsInRange, Params}
use Rattle.dubp_chain.specs.declared.head.Head.{Head}
use Rattle.dubp_chain.specs.Chains.{Chain, no_params, params}
use Rattle.dubp_chain.specs.Members.{members}
use Rattle.dubp_chain.specs.Heads.{dividend_of, head_of, heads_of, is_reevaluated, next_amount, next_head, next_median_time, time_of, unit_base_of}
use Rattle.dubp_chain.specs.Money.{Source, output_source, outputs_made, dividend_source, dividends_made, dividends_at, made_by, made_sources, cleared, is_left, unspent, sources_of}
use Rattle.dubp_rules.specs.declared.rule.Rule.TheVariants.{X02, L22, G51, G58, G59}
use Rattle.dubp_validity.specs.LocalRules.{MovesSomething}
use Rattle.dubp_validity.specs.Rules.{IsSound}
use Rattle.dubp_gen.specs.Spendable.{IsWorth}

-- ---- lists

appended : {X : Type 0} (P : X → Type 0) (xs ys : List X) → AllByRecursion P xs → AllByRecursion P ys → AllByRecursion P (xs ++ ys)
appended P [] ys all more = more
appended P (x ∷ xs) ys all more = (all.0, appended P xs ys all.1 more)

kept : {X : Type 0} (P : X → Type 0) (p : X → Bool) (xs : List X) → AllByRecursion P xs → AllByRecursion P (filter p xs)
kept P p [] all = tt
kept P p (x ∷ xs) all =
    let later = kept P p xs all.1 in
    elim (p x) as (λ b. AllByRecursion P (cond b (x ∷ filter p xs) (filter p xs))) [ true ↦ (all.0, later) | false ↦ later ]

-- ---- the dividend is at least 1

abbrev type_of : {A : Type 0} → A → Type 0
type_of {A} a = A

chosen : {A : Type 0} (amount_of : A → ℕ) (b : Bool) (x y : A) → 1 ≤ amount_of x → 1 ≤ amount_of y → 1 ≤ amount_of (cond b x y)
chosen amount_of true x y h k = h
chosen amount_of false x y h k = k

some_tenth : (n : ℕ) → 1 ≤ n → 1 ≤ div_ceil n 10
some_tenth n some = omega (arith, some)

amount_stays : (p : Params) (count : ℕ) (h : Head) (hs : List Head) → 1 ≤ h.dividend → 1 ≤ (next_amount p count h hs).amount
amount_stays p count h hs some =
    chosen (λ (d : type_of (dividend_of h)). d.amount) (is_reevaluated p h hs) _ (dividend_of h)
    (chosen (λ (d : type_of (dividend_of h)). d.amount) _ _ _ (raised h.dividend _ _ some) (some_tenth _ (raised h.dividend _ _ some)))
    some
  where
    raised : (n m : ℕ) (b : Bool) → 1 ≤ n → 1 ≤ cond b n (n + m)
    raised n m true h = h
    raised n m false h = omega (arith, h)

first_params_are : (b : Block) → IsFirstParams b.number b.params → b.number ≡ 0 → MatchOption b.params (Unit {0}) (λ p. IsInRange p × (b.pow_min ≤ 1023)) → 1 ≤ (unwrap_or b.params no_params).ud0
first_params_are b stated zero range = by b.params stated range
  where
    by : (o : Option Params) → IsFirstParams b.number o → MatchOption o (Unit {0}) (λ p. IsInRange p × (b.pow_min ≤ 1023)) → 1 ≤ (unwrap_or o no_params).ud0
    by None other range = absurd (other zero)
    by (Some p) is range = range.0.ud0.0

abbrev head_with : Chain → Block → Head
head_with c b = next_head (params (b ∷ c)) (length (members (b ∷ c))) (heads_of c) b

dividend_some : (c : Chain) (b : Block) → IsSound (b ∷ c) → AllByRecursion IsBlock (b ∷ c) → 1 ≤ (head_with c b).dividend
dividend_some [] b sound are = first_params_are b are.0.params (sound.0 G51 refl) (sound.0 X02 refl)
dividend_some (a ∷ c) b sound are = amount_stays (params (b ∷ a ∷ c)) (length (members (b ∷ a ∷ c))) (head_with c a) (heads_of (a ∷ c)) (dividend_some c a sound.1 are.1)

paid_some : (p : Params) (count : ℕ) (hs : List Head) (b : Block) (amount : ℕ) → (next_head p count hs b).ud ≡ Some amount → 1 ≤ (next_head p count hs b).dividend → 1 ≤ amount
paid_some p count [] b amount is some = absurd (none-some amount is)
paid_some p count (h ∷ hs) b amount is some =
    elim (nat_le h.ud_time (next_median_time p h (h ∷ hs))) as (λ r. cond r (Some (next_amount p count h (h ∷ hs)).amount) None ≡ Some amount → 1 ≤ amount) [
      | true ↦ λ paid. subst (λ n. 1 ≤ n) (ap (λ o. unwrap_or o 0) paid) some
      | false ↦ λ none. absurd (none-some amount none)
    ] is

-- ---- sources

abbrev spends : Source → Input
spends s = record { amount = s.amount; base = s.base; source = s.id }

abbrev IsGood : Source → Type 0
IsGood s = IsWorth (spends s)

outputs_from : (time : ℕ) (hash : Text) (n : ℕ) (outputs : List Output) → AllByRecursion IsOutput outputs → AllByRecursion (λ output. 1 ≤ output.amount) outputs → n + length outputs ≤ 1000
    → AllByRecursion IsGood (map (output_source time hash) (enumerate_from n outputs))
outputs_from time hash n [] are some few = tt
outputs_from time hash n (o ∷ outputs) are some few =
    (record { some = some.0; amount = are.0.amount; base = are.0.base; place = omega (arith, few) }, outputs_from time hash (n + 1) outputs are.1 some.1 (omega (arith, few)))

all_outputs : (time : ℕ) (currency : Text) (txs : List Tx) → AllByRecursion IsTx txs → AllByRecursion MovesSomething txs → AllByRecursion IsGood (flat_map (outputs_made time currency) txs)
all_outputs time currency [] are some = tt
all_outputs time currency (tx ∷ txs) are some =
    appended IsGood (outputs_made time currency tx) (flat_map (outputs_made time currency) txs)
    (outputs_from time _ 0 tx.outputs (recursion_from_All IsOutput tx.outputs are.0.outputs.each) some.0.1 (omega (arith, are.0.outputs.few)))
    (all_outputs time currency txs are.1 some.1)

dividends_good : (time number amount base : ℕ) (keys : List Text) → IsNumber number → 1 ≤ amount → IsNumber amount → base ≤ 15
    → AllByRecursion IsGood (map (dividend_source time number amount base) keys)
dividends_good time number amount base [] place some below fits = tt
dividends_good time number amount base (k ∷ keys) place some below fits =
    (record { some = some; amount = below; base = fits; place = place }, dividends_good time number amount base keys place some below fits)

paid_good : (time number : ℕ) (paid : Option ℕ) (base : ℕ) (keys : List Text) → IsNumber number → ((amount : ℕ) → paid ≡ Some amount → 1 ≤ amount) → IsDividend paid → base ≤ 15
    → AllByRecursion IsGood (dividends_made time number paid base keys)
paid_good time number None base keys place some below fits = tt
paid_good time number (Some amount) base keys place some below fits = dividends_good time number amount base keys place (some amount refl) below fits

made_good : (c : Chain) → IsSound c → AllByRecursion IsBlock c → AllByRecursion IsGood (made_sources c)
made_good [] sound are = tt
made_good (b ∷ c) sound are =
    appended IsGood (made_sources c) (made_by c b) (made_good c sound.1 are.1)
    (appended IsGood (flat_map (outputs_made (time_of (b ∷ c)) b.currency) b.transactions) (dividends_at b.number (head_of (b ∷ c)) (members (b ∷ c)))
    (all_outputs (time_of (b ∷ c)) b.currency b.transactions (recursion_from_All IsTx b.transactions are.0.transactions) (sound.0 L22 refl))
    (paid_good (time_of (b ∷ c)) b.number _ (unit_base_of (b ∷ c)) (members (b ∷ c)) are.0.number
    (λ amount paid. paid_some (params (b ∷ c)) (length (members (b ∷ c))) (heads_of c) b amount paid (dividend_some c b sound are))
    (subst IsDividend (sound.0 G58 refl) are.0.dividend) (subst (λ n. n ≤ 15) (sound.0 G59 refl) are.0.unit_base)))

pub sources_are_worth : (c : Chain) (cond : Text) → IsSound c → AllByRecursion IsBlock c → AllByRecursion IsGood (sources_of c cond)
sources_are_worth c cond sound are =
    kept IsGood (λ s. same_text cond (cond_text s.cond)) (unspent c) (kept IsGood (is_left c (cleared c)) (made_sources c) (made_good c sound are))
