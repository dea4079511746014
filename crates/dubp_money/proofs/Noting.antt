-- The hashes of transactions that are noted, one after the other.
use Rattle.std.proofs.Common.{◌≡◌, ℕ, ◌+◌, ◌<◌, ◌≤◌, Bool, true, false, cond, ◌||◌, List, [], ◌∷◌, Option, Some, None, map, length, take, get_or, refl, ap, sym, ◌∙◌, subst}
use Rattle.std.specs.Prelude.{if◌then◌else◌}
use Rattle.std.specs.BTreeMap.{is_at}
use Rattle.std.specs.Cmp.Lexicographic.{slice_cmp, texts_ties}
use Rattle.std.specs.Ordering.{nat_cmp}
use Rattle.std.proofs.lemmas.List.{take_all}
use Rattle.std.proofs.lemmas.List.Folds.{list_any-append}
use Rattle.dubp_atoms.specs.Same.{Text, same_text}
use Rattle.dubp_block.specs.declared.block.Block.{Block}
use Rattle.dubp_docs.specs.declared.hashing.TxHashes.{TxHashes}
use Rattle.dubp_chain.specs.Words.{names}
use Rattle.dubp_chain.specs.Chains.{Chain}
use Rattle.dubp_chain.specs.Tables.{has_transaction}
use Rattle.dubp_chain.specs.Money.{hashes_in}
use Rattle.dubp_money_steps.proofs.Totals.{transactions_go_on}
use Rattle.dubp_money.specs.Tables.{transaction_at}
use Rattle.dubp_money.proofs.Rows.{taken_next}
use Rattle.dubp_money.proofs.Made.{map-both}

abbrev pub wholes : List TxHashes → List Text
wholes hashes = map (λ (h : TxHashes). h.whole) hashes

-- what stands at a key when these hashes are noted
abbrev pub noted : List Text → Text → Option (Unit {0}) → Option (Unit {0})
noted hashes k before = if names hashes k then Some tt else before

one_noted : (n a b : Bool) (before : Option (Unit {0})) → a ≡ b → cond b (Some tt) (if n then Some tt else before) ≡ (if (n || (a || false)) then Some tt else before)
one_noted true true b before e = subst (λ r. cond r (Some tt) (Some tt) ≡ Some tt) e refl
one_noted true false b before e = subst (λ r. cond r (Some tt) (Some tt) ≡ Some tt) e refl
one_noted false true b before e = subst (λ r. cond r (Some tt) before ≡ Some tt) e refl
one_noted false false b before e = subst (λ r. cond r (Some tt) before ≡ before) e refl

pub noted_next : (hashes : List TxHashes) (i : ℕ) (h : TxHashes) → i < length hashes → h ≡ get_or hashes i h → (k : Text) (before now new : Option (Unit {0}))
    → now ≡ noted (wholes (take i hashes)) k before → new ≡ cond (is_at (slice_cmp nat_cmp k) h.whole) (Some tt) now → new ≡ noted (wholes (take (i + 1) hashes)) k before
noted_next hashes i h within is k before now new was put =
    put
    ∙ ap (cond (is_at (slice_cmp nat_cmp k) h.whole) (Some tt)) was
    ∙ one_noted (names (wholes (take i hashes)) k) (same_text k h.whole) (is_at (slice_cmp nat_cmp k) h.whole) before (texts_ties k h.whole)
    ∙ ap (λ r. if r then Some tt else before) (sym (list_any-append (same_text k) (wholes (take i hashes)) (h.whole ∷ [])))
    ∙ ap (λ l. noted l k before) (sym (map-both (λ (x : TxHashes). x.whole) (take i hashes) (h ∷ [])) ∙ ap wholes (taken_next hashes i h within is))

abbrev there : Option (Unit {0})
there = Some tt

or_some : (n t : Bool) → (if n then there else (if t then there else None)) ≡ (if (n || t) then there else None)
or_some true t = refl
or_some false t = refl

-- those of a block stand with those of the chain
pub noted_all : (hashes : List TxHashes) (i : ℕ) (c : Chain) (b : Block) → length hashes ≤ i → wholes hashes ≡ hashes_in b → (k : Text) (before now : Option (Unit {0}))
    → now ≡ noted (wholes (take i hashes)) k before → before ≡ transaction_at c k → now ≡ transaction_at (b ∷ c) k
noted_all hashes i c b past are k before now was at =
    was
    ∙ (λ j. noted ((ap wholes (take_all i hashes past) ∙ are) j) k (at j))
    ∙ or_some (names (hashes_in b) k) (has_transaction c k)
    ∙ ap (λ r. if r then there else None) (sym (transactions_go_on c b k))
