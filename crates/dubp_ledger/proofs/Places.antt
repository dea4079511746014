-- Where the block of a stamp stands in a chain: its number tells.
use Rattle.std.proofs.Common.{◌≡◌, ℕ, zero, suc, ◌+◌, ◌≤◌, ◌<◌, Bool, true, false, not, cond, ◌&&◌, ◌==◌, [], ◌∷◌, length, Some, None, refl, sym, ap, ◌∙◌, arith, nat_lt, eq-eqb, eqb-true}
use Rattle.std.proofs.lemmas.Bool.Decides.{nat_tests}
use Rattle.std.specs.Prelude.{option_map, position, slice_get}
use Rattle.std.specs.List.{position_or_len, prefix_len}
use Rattle.dubp_atoms.specs.Same.{same_stamp, same_text}
use Rattle.dubp_atoms.specs.declared.stamp.Stamp.{Stamp}
use Rattle.dubp_block.specs.declared.block.Block.{Block}
use Rattle.dubp_block.specs.Text.{stamp_of}
use Rattle.dubp_rules.specs.declared.rule.Rule.TheVariants.{G51}
use Rattle.dubp_chain.specs.Chains.{Chain}
use Rattle.dubp_people_and_money.specs.OfValidity.{IsSound}
use Rattle.dubp_lists.proofs.InOrder.{same_text_is, same_text_own}

-- of two stamps
other_number : (s t : Stamp) → (s.number ≡ t.number → ⊥) → same_stamp s t ≡ false
other_number s t differ = by_number (s.number == t.number) refl
  where
    by_number : (x : Bool) → s.number == t.number ≡ x → x && same_text s.hash t.hash ≡ false
    by_number false e = refl
    by_number true e = absurd (differ (eqb-true s.number t.number e))

both_true : (a b : Bool) → a && b ≡ true → (a ≡ true) × (b ≡ true)
both_true true true e = (refl, refl)
both_true true false e = absurd cc
both_true false b e = absurd cc

same_stamp_is : (s t : Stamp) → same_stamp s t ≡ true → s ≡ t
same_stamp_is s t e =
    let parts = both_true (s.number == t.number) (same_text s.hash t.hash) e in
    let number : s.number ≡ t.number = eqb-true s.number t.number parts.0 in
    let hash : s.hash ≡ t.hash = same_text_is s.hash t.hash parts.1 in
    let first : s ≡ record { number = t.number; hash = s.hash } = ap (λ n. record { number = n; hash = s.hash }) number in
    let second : record { number = t.number; hash = s.hash } ≡ t = ap (λ h. record { number = t.number; hash = h }) hash in
    first ∙ second

own_stamp : (s : Stamp) → same_stamp s s ≡ true
own_stamp s = ap (λ x. x && same_text s.hash s.hash) (eq-eqb s.number s.number refl) ∙ same_text_own s.hash

one_more : (n m : ℕ) → n ≡ m → 1 + n ≡ suc m
one_more n m e = omega (arith, e)

module _ (stamp : Stamp) where
  abbrev pub has : Block → Bool
  has b = same_stamp stamp (stamp_of b)

  passed_by : (b : Block) (c : Chain) → has b ≡ false → position_or_len has (b ∷ c) ≡ 1 + position_or_len has c
  passed_by b c e = ap (λ x. cond (not x) (1 + prefix_len (λ x. not (has x)) c) 0) e

  found_first : (b : Block) (c : Chain) → has b ≡ true → position_or_len has (b ∷ c) ≡ 0
  found_first b c e = ap (λ x. cond (not x) (1 + prefix_len (λ x. not (has x)) c) 0) e

  -- no block has a number that the chain does not reach
  beyond : (c : Chain) → IsSound c → length c ≤ stamp.number → position_or_len has c ≡ length c
  beyond [] sound far = refl
  beyond (b ∷ c) sound far =
      let number : b.number ≡ length c = sound.0 G51 refl in
      passed_by b c (other_number stamp (stamp_of b) (λ e. omega (arith, e, number, far))) ∙ one_more (position_or_len has c) (length c) (beyond c sound.1 (omega (arith, far)))

  -- the block of the number
  here : (c : Chain) → IsSound c → (count : ℕ) → stamp.number + (count + 1) ≡ length c → option_map stamp_of (slice_get c count) ≡ Some stamp → position_or_len has c ≡ count
  here [] sound count is found = absurd (omega (arith, is))
  here (b ∷ c) sound zero is found =
      let same : stamp_of b ≡ stamp = cc in
      found_first b c (ap (same_stamp stamp) same ∙ own_stamp stamp)
  here (b ∷ c) sound (suc count) is found =
      let number : b.number ≡ length c = sound.0 G51 refl in
      passed_by b c (other_number stamp (stamp_of b) (λ e. omega (arith, e, number, is))) ∙ one_more (position_or_len has c) count (here c sound.1 count (omega (arith, is)) found)

  -- it has another stamp
  elsewhere : (c : Chain) → IsSound c → (count : ℕ) → stamp.number + (count + 1) ≡ length c → (option_map stamp_of (slice_get c count) ≡ Some stamp → ⊥) → position_or_len has c ≡ length c
  elsewhere [] sound count is other = absurd (omega (arith, is))
  elsewhere (b ∷ c) sound zero is other =
      let rest = beyond c sound.1 (omega (arith, is)) in
      by_first (has b) refl rest
    where
      by_first : (x : Bool) → has b ≡ x → position_or_len has c ≡ length c → position_or_len has (b ∷ c) ≡ length (b ∷ c)
      by_first false e rest = passed_by b c e ∙ one_more (position_or_len has c) (length c) rest
      by_first true e rest = absurd (other (ap Some (sym (same_stamp_is stamp (stamp_of b) e))))
  elsewhere (b ∷ c) sound (suc count) is other =
      let number : b.number ≡ length c = sound.0 G51 refl in
      passed_by b c (other_number stamp (stamp_of b) (λ e. omega (arith, e, number, is))) ∙ one_more (position_or_len has c) (length c) (elsewhere c sound.1 count (omega (arith, is)) other)

  at_none : (c : Chain) → position_or_len has c ≡ length c → None ≡ position has c
  at_none c e = ap (λ x. cond x (Some (position_or_len has c)) None) (sym less)
    where
      less : nat_lt (position_or_len has c) (length c) ≡ false
      less = grind (arith, nat_tests, e)

  at_some : (c : Chain) (count : ℕ) → count < length c → position_or_len has c ≡ count → Some count ≡ position has c
  at_some c count within e = ap Some (sym e) ∙ ap (λ x. cond x (Some (position_or_len has c)) None) (sym less)
    where
      less : nat_lt (position_or_len has c) (length c) ≡ true
      less = grind (arith, nat_tests, e, within)

  pub none_beyond : (c : Chain) → IsSound c → length c ≤ stamp.number → None ≡ position has c
  none_beyond c sound far = at_none c (beyond c sound far)

  pub is_here : (c : Chain) → IsSound c → (count : ℕ) → stamp.number + (count + 1) ≡ length c → option_map stamp_of (slice_get c count) ≡ Some stamp → Some count ≡ position has c
  is_here c sound count is found = at_some c count (omega (arith, is)) (here c sound count is found)

  pub none_here : (c : Chain) → IsSound c → (count : ℕ) → stamp.number + (count + 1) ≡ length c → (option_map stamp_of (slice_get c count) ≡ Some stamp → ⊥) → None ≡ position has c
  none_here c sound count is other = at_none c (elsewhere c sound count is other)
