-- The keys and pairs of the sets, in order, give the records.
use Rattle.std.proofs.Common.{◌≡◌, Bool, true, ◌||◌, List, [], ◌∷◌, ◌++◌, map, refl, sym, ◌∙◌, append_assoc, length, ap}
use Rattle.std.specs.Prelude.{◌↔◌, IsTrue}
use Rattle.std.proofs.lemmas.List.{length-map}
use Rattle.std.specs.List.{list_any}
use Rattle.std.specs.List.Sorted.{IsStrictlySortedBy}
use Rattle.std.specs.BTreeMap.{is_at}
use Rattle.dubp_atoms.specs.Same.{Text}
use Rattle.dubp_block.specs.declared.block.Block.{Block}
use Rattle.dubp_chain.specs.Words.{names}
use Rattle.dubp_chain.specs.Chains.{Chain}
use Rattle.dubp_validity.specs.declared.record.Record.{Record}
use Rattle.dubp_validity.specs.declared.record.Record.TheVariants.{Expire, ExpireRev, CertExpire}
use Rattle.dubp_validity.specs.Records.{expiry_records, revocation_records, ended_records}
use Rattle.dubp_validity.specs.Rules.{IsSound}
use Rattle.dubp_mindex.specs.Members.{Members}
use Rattle.dubp_cindex.specs.Rows.{Rows}
use Rattle.dubp_expiry.specs.Entries.{Queued}
use Rattle.dubp_steps.specs.Ordered.{text_cmp, pair_cmp, has_pair}
use Rattle.dubp_steps.proofs.Rising.{text_tied, pair_tied}
use Rattle.dubp_steps.proofs.Ends.{expiry_records_are, revocation_records_are, ended_records_are}
use Rattle.dubp_people_apply.specs.declared.ended.Ended.{Ended}
use Rattle.dubp_people_apply.specs.Counting.{HasLengths}
use Rattle.dubp_people_apply.specs.Taking.{HasAllTaken, AreRecorded}

any_same : {X : Type 0} (p q : X → Bool) (xs : List X) → ((x : X) → p x ≡ q x) → list_any p xs ≡ list_any q xs
any_same p q [] same = refl
any_same p q (x ∷ xs) same = λ i. same x i || any_same p q xs same i

named : (ks : List Text) (k : Text) → names ks k ≡ list_any (is_at (text_cmp k)) ks
named ks k = any_same _ _ ks (λ x. sym (text_tied k x))

paired : (ps : List (Text × Text)) (x y : Text) → has_pair ps x y ≡ list_any (is_at (pair_cmp (x, y))) ps
paired ps x y = any_same _ _ ps (λ p. sym (pair_tied x y p))

turned : {P : Type 0} (a b : Bool) → a ≡ b → (b ≡ true) ↔ P → IsTrue a ↔ P
turned a b same says = (λ t. says.0 (sym same ∙ t), λ p. same ∙ says.1 p)

module _ (c : Chain) (b : Block) (sound : IsSound (b ∷ c)) (sets : Ended) (are : AreRecorded c b sets) where
  pub expired_are : IsStrictlySortedBy text_cmp sets.expired.keys → map Expire sets.expired.keys ≡ expiry_records c b
  expired_are sorted = expiry_records_are c b sound sets.expired.keys sorted (λ k. turned _ _ (named sets.expired.keys k) (are.over k))

  pub revoked_are : IsStrictlySortedBy text_cmp sets.revoked.keys → map ExpireRev sets.revoked.keys ≡ revocation_records c b
  revoked_are sorted = revocation_records_are c b sound sets.revoked.keys sorted (λ k. turned _ _ (named sets.revoked.keys k) (are.revoked k))

  pub ended_are : IsStrictlySortedBy pair_cmp sets.ended.keys → map (λ p. CertExpire p.0 p.1) sets.ended.keys ≡ ended_records c b
  ended_are sorted = ended_records_are c b sets.ended.keys sorted (λ x y. turned _ _ (paired sets.ended.keys x y) (are.ended x y))

  pub have_lengths : IsStrictlySortedBy text_cmp sets.expired.keys → IsStrictlySortedBy text_cmp sets.revoked.keys → IsStrictlySortedBy pair_cmp sets.ended.keys → HasLengths c b sets
  have_lengths first second third = record {
    expired = sym (length-map sets.expired.keys Expire) ∙ ap length (expired_are first);
    revoked = sym (length-map sets.revoked.keys ExpireRev) ∙ ap length (revoked_are second);
    ended = sym (length-map sets.ended.keys (λ (p : Text × Text). CertExpire p.0 p.1)) ∙ ap length (ended_are third);
  }

-- one list behind the other
pub all_put : (c : Chain) (b : Block) → IsSound (b ∷ c) → (sets : Ended) → AreRecorded c b sets
    → IsStrictlySortedBy text_cmp sets.expired.keys → IsStrictlySortedBy text_cmp sets.revoked.keys → IsStrictlySortedBy pair_cmp sets.ended.keys
    → (a r s t : List Record) → r ≡ a ++ map Expire sets.expired.keys → s ≡ r ++ map ExpireRev sets.revoked.keys → t ≡ s ++ map (λ p. CertExpire p.0 p.1) sets.ended.keys
    → t ≡ a ++ (expiry_records c b ++ (revocation_records c b ++ ended_records c b))
all_put c b sound sets are first second third a r s t r_is s_is t_is =
    let e = expired_are c b sound sets are first in
    let v = revoked_are c b sound sets are second in
    let p = ended_are c b sound sets are third in
    t_is ∙ (λ i. s_is i ++ p i) ∙ (λ i. (r_is i ++ v i) ++ ended_records c b) ∙ (λ i. ((a ++ e i) ++ revocation_records c b) ++ ended_records c b)
    ∙ append_assoc (a ++ expiry_records c b) (revocation_records c b) (ended_records c b) ∙ append_assoc a (expiry_records c b) (revocation_records c b ++ ended_records c b)

-- the sets behind the loop
pub recorded : {M : List Members → Type 0} {C : List Rows → Type 0} {Q : List Queued → Type 0} (c : Chain) (b : Block) (sets : Ended) → HasAllTaken c b M C Q sets → AreRecorded c b sets
recorded c b sets all = record {
  over = λ k. turned _ _ (all.stand.sets.over k) (all.taken.over k);
  revoked = λ k. turned _ _ (all.stand.sets.revoked k) (all.taken.revoked k);
  ended = λ x y. turned _ _ (all.stand.sets.ended x y) (all.taken.ended x y);
}
