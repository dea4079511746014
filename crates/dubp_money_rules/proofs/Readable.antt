-- The condition of each source that a chain of blocks makes is one: outputs of transactions in range have one, and a dividend goes to a
-- key that joined.
use Rattle.std.proofs.Common.{◌≡◌, ℕ, ◌+◌, ◌≤◌, Bool, true, false, cond, List, [], ◌∷◌, ◌++◌, map, filter, length, Option, Some, None, codes, length-append, arith}
use Rattle.std.specs.List.{AllByRecursion, flat_map, enumerate_from}
use Rattle.std.specs.Cmp.Lexicographic.{slice_cmp}
use Rattle.std.specs.Ordering.{nat_cmp}
use Rattle.std.specs.declared.cmp.Ordering.TheVariants.{Less, Equal, Greater}
use Rattle.std.specs.FinMap.Entries.{by_order, put}
use Rattle.std.proofs.lemmas.List.Elements.{recursion_from_All}
use Rattle.dubp_atoms.specs.Same.{Text}
use Rattle.dubp_atoms.specs.Letters.{is_key}
use Rattle.dubp_atoms.proofs.Fits.{key_fits}
use Rattle.dubp_cond.specs.Conditions.{IsCond}
use Rattle.dubp_cond.specs.Outputs.{IsOutput}
use Rattle.dubp_cond.specs.Transactions.{IsTx}
use Rattle.dubp_cond.specs.declared.output.Output.{Output}
use Rattle.dubp_cond.specs.declared.tx.Tx.{Tx}
use Rattle.dubp_docs.specs.Spelling.{tx_hash}
use Rattle.dubp_block.specs.declared.block.Block.{Block}
use Rattle.dubp_block.specs.declared.block.MemberLine.{MemberLine}
use Rattle.dubp_block.specs.Sections.{IsMembership}
use Rattle.dubp_block.specs.Text.{IsBlock}
use Rattle.dubp_chain.specs.declared.head.Head.{Head}
use Rattle.dubp_chain.specs.Words.{marked, in_order}
use Rattle.dubp_chain.specs.Chains.{Chain}
use Rattle.dubp_chain.specs.Members.{member, members, joined_keys}
use Rattle.dubp_chain.specs.Heads.{head_of, time_of}
use Rattle.dubp_chain.specs.Money.{Source, signed_by, output_source, outputs_made, dividend_source, dividends_made, dividends_at, made_by, made_sources}
use Rattle.dubp_money_rules.proofs.OfLists.{all_append}
use Rattle.dubp_money_rules.specs.Spending.{HaveConditions}
use Rattle.dubp_money_rules.specs.Judging.{AreBlocks}

abbrev IsKey : Text → Type 0
IsKey k = is_key k ≡ true

abbrev HasCond : Source → Type 0
HasCond s = IsCond s.cond

abbrev AreKeys : List (Text × Unit {0}) → Type 0
AreKeys es = AllByRecursion IsKey (map (λ e. e.0) es)

-- ---- lists

all_filter : {X : Type 0} (P : X → Type 0) (p : X → Bool) (xs : List X) → AllByRecursion P xs → AllByRecursion P (filter p xs)
all_filter P p [] all = tt
all_filter P p (x ∷ xs) all =
    elim (p x) as (λ b. AllByRecursion P (cond b (x ∷ filter p xs) (filter p xs))) [ true ↦ (all.0, all_filter P p xs all.1) | false ↦ all_filter P p xs all.1 ]

all_flat : {X Y : Type 0} (P : X → Type 0) (Q : Y → Type 0) (f : X → List Y) → ((x : X) → P x → AllByRecursion Q (f x)) → (xs : List X) → AllByRecursion P xs → AllByRecursion Q (flat_map f xs)
all_flat P Q f each [] all = tt
all_flat P Q f each (x ∷ xs) all = all_append Q (f x) (flat_map f xs) (each x all.0) (all_flat P Q f each xs all.1)

all_map : {X Y : Type 0} (P : X → Type 0) (Q : Y → Type 0) (f : X → Y) → ((x : X) → P x → Q (f x)) → (xs : List X) → AllByRecursion P xs → AllByRecursion Q (map f xs)
all_map P Q f each [] all = tt
all_map P Q f each (x ∷ xs) all = (each x all.0, all_map P Q f each xs all.1)

-- ---- members

keys_put : (k : Text) (es : List (Text × Unit {0})) → IsKey k → AreKeys es → AreKeys (put (slice_cmp nat_cmp) k tt es)
keys_put k [] key all = (key, tt)
keys_put k (e ∷ es) key all =
    elim (slice_cmp nat_cmp k e.0) as (λ r. AreKeys (by_order r ((k, tt) ∷ e ∷ es) ((e.0, tt) ∷ es) (e ∷ put (slice_cmp nat_cmp) k tt es))) [
      | Less ↦ (key, all)
      | Equal ↦ all
      | Greater ↦ (all.0, keys_put k es key all.1)
    ]

keys_marked : (ks : List Text) → AllByRecursion IsKey ks → AreKeys (marked ks)
keys_marked [] all = tt
keys_marked (k ∷ ks) all = keys_put k (marked ks) all.0 (keys_marked ks all.1)

keys_of_block : (b : Block) → IsBlock b → AllByRecursion IsKey (map (λ line. line.key) b.joiners)
keys_of_block b is =
    all_map IsMembership IsKey (λ (line : MemberLine). line.key) (λ line l. l.key) b.joiners (recursion_from_All IsMembership b.joiners is.joiners)

members_are_keys : (c : Chain) → AreBlocks c → AllByRecursion IsKey (members c)
members_are_keys c are =
    all_filter IsKey (member c) (in_order (joined_keys c))
    (keys_marked (joined_keys c) (all_flat IsBlock IsKey (λ (b : Block). map (λ line. line.key) b.joiners) keys_of_block c are))

-- ---- conditions

short_text : (k : Text) → length k ≤ 44 → length (codes "SIG(" ++ (k ++ codes ")")) ≤ 1000
short_text k short = omega (arith, short, length-append k (codes ")"))

signed_is_cond : (k : Text) → IsKey k → IsCond (signed_by k)
signed_is_cond k key = record {
  fits = ((key, tt), tt);
  nests = omega arith;
  short = short_text k (key_fits k key);
}

outputs_have : (time : ℕ) (hash : Text) (n : ℕ) (outputs : List Output) → AllByRecursion IsOutput outputs → AllByRecursion HasCond (map (output_source time hash) (enumerate_from n outputs))
outputs_have time hash n [] all = tt
outputs_have time hash n (o ∷ os) all = (all.0.cond, outputs_have time hash (n + 1) os all.1)

tx_has : (time : ℕ) (currency : Text) (tx : Tx) → IsTx tx → AllByRecursion HasCond (outputs_made time currency tx)
tx_has time currency tx is = outputs_have time (tx_hash currency tx) 0 tx.outputs (recursion_from_All IsOutput tx.outputs is.outputs.each)

dividends_have : (time number : ℕ) (paid : Option ℕ) (base : ℕ) (keys : List Text) → AllByRecursion IsKey keys → AllByRecursion HasCond (dividends_made time number paid base keys)
dividends_have time number None base keys all = tt
dividends_have time number (Some amount) base keys all =
    all_map IsKey HasCond (dividend_source time number amount base) (λ k key. signed_is_cond k key) keys all

head_has : (number : ℕ) (head : Option Head) (keys : List Text) → AllByRecursion IsKey keys → AllByRecursion HasCond (dividends_at number head keys)
head_has number None keys all = tt
head_has number (Some h) keys all = dividends_have h.median_time number h.ud h.unit_base keys all

made_has : (c : Chain) (b : Block) → AreBlocks (b ∷ c) → AllByRecursion HasCond (made_by c b)
made_has c b are =
    all_append HasCond (flat_map (outputs_made (time_of (b ∷ c)) b.currency) b.transactions) (dividends_at b.number (head_of (b ∷ c)) (members (b ∷ c)))
    (all_flat IsTx HasCond (outputs_made (time_of (b ∷ c)) b.currency) (tx_has (time_of (b ∷ c)) b.currency) b.transactions (recursion_from_All IsTx b.transactions are.0.transactions))
    (head_has b.number (head_of (b ∷ c)) (members (b ∷ c)) (members_are_keys (b ∷ c) are))

pub conditions_are_read : (c : Chain) → AreBlocks c → HaveConditions c
conditions_are_read [] are = tt
conditions_are_read (b ∷ c) are = all_append HasCond (made_sources c) (made_by c b) (conditions_are_read c are.1) (made_has c b are)
