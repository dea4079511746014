-- Stored blocks that are not in the chain, behind each command.
use Rattle.std.proofs.Common.{◌≡◌, ℕ, zero, suc, Bool, true, false, not, List, [], ◌∷◌, drop, Option, Some, is_some, refl, ap, subst, ◌∙◌, cond, ◌||◌, ◌&&◌, ◌==◌, eq-eqb, eqb-true}
use Rattle.std.specs.List.{list_any}
use Rattle.dubp_atoms.specs.Same.{same_stamp, same_text}
use Rattle.dubp_lists.proofs.InOrder.{same_text_is, same_text_own}
use Rattle.dubp_atoms.specs.declared.stamp.Stamp.{Stamp}
use Rattle.dubp_block.specs.declared.block.Block.{Block}
use Rattle.dubp_block.specs.Text.{stamp_of}
use Rattle.dubp_chain.specs.Chains.{Chain}
use Rattle.dubp_replay.specs.Turns.{is_stamped, stored, without}
use Rattle.dubp_forks.specs.Stores.{AreOutside, has_stamp_of}

none_behind : (x y : Bool) → x || y ≡ false → y ≡ false
none_behind true y e = absurd cc
none_behind false y e = e

any_drop : (p : Block → Bool) (c : Chain) (n : ℕ) → list_any p c ≡ false → list_any p (drop n c) ≡ false
any_drop p c zero none = none
any_drop p [] (suc n) none = none
any_drop p (b ∷ c) (suc n) none = any_drop p c n (none_behind (p b) (list_any p c) none)

-- where the last blocks leave the chain
pub outside_drop : (store : List Block) (c : Chain) (n : ℕ) → AreOutside store c → AreOutside store (drop n c)
outside_drop [] c n out = tt
outside_drop (b ∷ store) c n out = (any_drop (is_stamped (stamp_of b)) c n out.0, outside_drop store c n out.1)

-- where a stored block leaves the store
outside_kept : (x : Bool) (b : Block) (rest : List Block) (c : Chain) → has_stamp_of c b ≡ false → AreOutside rest c → AreOutside (cond (not x) (b ∷ rest) rest) c
outside_kept true b rest c none out = out
outside_kept false b rest c none out = (none, out)

pub outside_without : (stamp : Stamp) (store : List Block) (c : Chain) → AreOutside store c → AreOutside (without stamp store) c
outside_without stamp [] c out = tt
outside_without stamp (b ∷ store) c out = outside_kept (is_stamped stamp b) b (without stamp store) c out.0 (outside_without stamp store c out.1)

-- where the block joins the chain
both_true : (a b : Bool) → a && b ≡ true → (a ≡ true) × (b ≡ true)
both_true true true e = (refl, refl)
both_true true false e = absurd cc
both_true false b e = absurd cc

stamp_own : (s : Stamp) → same_stamp s s ≡ true
stamp_own s = ap (λ x. x && same_text s.hash s.hash) (eq-eqb s.number s.number refl) ∙ same_text_own s.hash

stamp_flip : (s t : Stamp) → same_stamp s t ≡ false → same_stamp t s ≡ false
stamp_flip s t differ = flip_by (same_stamp t s) refl
  where
    flip_by : (x : Bool) → same_stamp t s ≡ x → x ≡ false
    flip_by false e = refl
    flip_by true e =
        let parts = both_true (t.number == s.number) (same_text t.hash s.hash) e in
        let number : t.number ≡ s.number = eqb-true t.number s.number parts.0 in
        let hash : t.hash ≡ s.hash = same_text_is t.hash s.hash parts.1 in
        let same : t ≡ s = cc in
        let own : same_stamp s s ≡ true = stamp_own s in
        let other : same_stamp s s ≡ false = subst (λ x. same_stamp s x ≡ false) same differ in
        absurd cc

joined_by : (b x : Block) (c : Chain) (rest : List Block) (r : Bool) → is_stamped (stamp_of b) x ≡ r → has_stamp_of c x ≡ false → AreOutside rest (b ∷ c) → AreOutside (cond (not r) (x ∷ rest) rest) (b ∷ c)
joined_by b x c rest true e none out = out
joined_by b x c rest false e none out = (ap (λ r. r || has_stamp_of c x) (stamp_flip (stamp_of b) (stamp_of x) e) ∙ none, out)

pub outside_joined : (b : Block) (store : List Block) (c : Chain) → AreOutside store c → AreOutside (without (stamp_of b) store) (b ∷ c)
outside_joined b [] c out = tt
outside_joined b (x ∷ store) c out = joined_by b x c (without (stamp_of b) store) (is_stamped (stamp_of b) x) refl out.0 (outside_joined b store c out.1)

-- a stamp that no stored block has
none_by : (b : Block) (store rest : List Block) (found : Option Block) (r : Bool) → is_some (cond r (Some b) found) ≡ false → (is_some found ≡ false → rest ≡ store) → cond (not r) (b ∷ rest) rest ≡ b ∷ store
none_by b store rest found true e same = absurd cc
none_by b store rest found false e same = ap (λ s. b ∷ s) (same e)

pub without_none : (stamp : Stamp) (store : List Block) → is_some (stored store stamp) ≡ false → without stamp store ≡ store
without_none stamp [] none = refl
without_none stamp (b ∷ store) none = none_by b store (without stamp store) (stored store stamp) (is_stamped stamp b) none (λ e. without_none stamp store e)
