-- What is known of the blocks that were taken so far, in the order of their numbers.
use Rattle.std.proofs.Common.{◌≡◌, ℕ, zero, suc, ◌+◌, ◌<◌, Bool, true, false, cond, List, [], ◌∷◌, length, get_or, Option, Some, None, is_some, inl, inr, refl, sym, ap, subst, ◌∙◌, true≢false, arith}
use Rattle.std.specs.List.Sorted.{IsPermutation, IsNonDecreasingBy}
use Rattle.std.specs.Option.{MatchOption, option_map, option_map_or}
use Rattle.std.proofs.lemmas.List.Sorted.{Contains-permutation}
use Rattle.std.proofs.lemmas.Bool.{cases_lt}
use Rattle.dubp_atoms.specs.declared.stamp.Stamp.{Stamp}
use Rattle.dubp_resolve.specs.declared.view.Offered.{Offered}
use Rattle.dubp_atoms.specs.Same.{same_stamp}
use Rattle.dubp_resolve.specs.Choice.{Choices, path_of, has_stamp, stored}
use Rattle.dubp_resolve.specs.Known.{IsFound, IsNumbered, height_of, height_at}
use Rattle.dubp_resolve.proofs.Stamps.{same_is, own_stamp}
use Rattle.dubp_resolve.proofs.Paths.{found_contains, stored_stamp}

-- what is known is right, and each block that was taken is known
pub record AreKnown (v : Choices) (blocks : List Offered) (i : ℕ) (G : Stamp → Option (Option ℕ)) : Type 0 where
  pub sound : (s : Stamp) (h : Option ℕ) → G s ≡ Some h → height_at v s ≡ Some h
  pub done : (k : ℕ) (d : Offered) → k < i → is_some (G (get_or blocks k d).stamp) ≡ true

-- the blocks are the stored ones, in the order of their numbers
pub record AreInOrder (offers blocks : List Offered) : Type 0 where
  pub same : IsPermutation offers blocks
  pub ascending : IsNonDecreasingBy (λ b. b.stamp.number) blocks

pub known_start : (v : Choices) (blocks : List Offered) (G : Stamp → Option (Option ℕ)) → ((s : Stamp) → G s ≡ None) → AreKnown v blocks 0 G
known_start v blocks G none = record { sound = λ s h e. let n = none s in cc; done = λ k d l. absurd (omega arith) }

-- what is right and there, where it is stored, is what is there
agree : (v : Choices) (G : Stamp → Option (Option ℕ)) → ((s : Stamp) (h : Option ℕ) → G s ≡ Some h → height_at v s ≡ Some h)
    → (s : Stamp) → ((c : Offered) → stored v.offers s ≡ Some c → is_some (G s) ≡ true) → G s ≡ height_at v s
agree v G sound s there = by (G s) refl (stored v.offers s) refl
  where
    by : (r : Option (Option ℕ)) → G s ≡ r → (o : Option Offered) → stored v.offers s ≡ o → G s ≡ height_at v s
    by (Some h) e o g = e ∙ sym (sound s h e)
    by None e None g = e ∙ sym (ap (option_map (λ b. height_of v (path_of v b))) g)
    by None e (Some c) g = absurd (true≢false (sym (there c g) ∙ ap is_some e))

module _ (v : Choices) (blocks : List Offered) (order : AreInOrder v.offers blocks) (G : Stamp → Option (Option ℕ)) where
  pub known_all : AreKnown v blocks (length blocks) G → (s : Stamp) → G s ≡ height_at v s
  known_all known s = agree v G known.sound s there
    where
      there : (c : Offered) → stored v.offers s ≡ Some c → is_some (G s) ≡ true
      there c g =
          let r = Contains-permutation v.offers blocks c order.same (found_contains (has_stamp s) v.offers c g) in
          subst (λ (t : Stamp). is_some (G t) ≡ true) (ap (λ (b : Offered). b.stamp) r.2 ∙ sym (stored_stamp v.offers s c g)) (known.done r.0 c r.1)

  module _ (i : ℕ) (b : Offered) (here : (d : Offered) → b ≡ get_or blocks i d) (known : AreKnown v blocks i G) where
    before_at : IsNumbered b → (s : Stamp) → b.previous ≡ Some s → G s ≡ height_at v s
    before_at numbered s p = agree v G known.sound s there
      where
        there : (c : Offered) → stored v.offers s ≡ Some c → is_some (G s) ≡ true
        there c g =
            let r = Contains-permutation v.offers blocks c order.same (found_contains (has_stamp s) v.offers c g) in
            let one : s.number + 1 ≡ b.stamp.number = ap (λ o. option_map_or (λ (s : Stamp). s.number + 1) o 0) (sym p) ∙ numbered in
            let same : s.number ≡ c.stamp.number = ap (λ (t : Stamp). t.number) (stored_stamp v.offers s c g) in
            let at : (get_or blocks r.0 c).stamp.number ≡ c.stamp.number = ap (λ (b : Offered). b.stamp.number) r.2 in
            let mine : b.stamp.number ≡ (get_or blocks i c).stamp.number = ap (λ (b : Offered). b.stamp.number) (here c) in
            let early : r.0 < i = elim (cases_lt r.0 i) as (λ _. r.0 < i) [ inl l ↦ l | inr l ↦ let up = order.ascending i r.0 c l r.1 in absurd (omega arith) ] in
            subst (λ (t : Stamp). is_some (G t) ≡ true) (ap (λ (b : Offered). b.stamp) r.2 ∙ sym (stored_stamp v.offers s c g)) (known.done r.0 c early)

    -- the block before is known, or not stored
    pub known_before : IsNumbered b → MatchOption b.previous (Unit {0}) (λ s. G s ≡ height_at v s)
    known_before numbered = by b.previous refl
      where
        by : (o : Option Stamp) → b.previous ≡ o → MatchOption o (Unit {0}) (λ s. G s ≡ height_at v s)
        by None p = tt
        by (Some s) p = before_at numbered s p

    pub known_more : IsFound v.offers b → (H : Stamp → Option (Option ℕ)) → ((s : Stamp) → H s ≡ cond (same_stamp s b.stamp) (Some (height_of v (path_of v b))) (G s)) → AreKnown v blocks (i + 1) H
    known_more found H more = record { sound = sound; done = done }
      where
        sound : (s : Stamp) (h : Option ℕ) → H s ≡ Some h → height_at v s ≡ Some h
        sound s h e = by (same_stamp s b.stamp) refl (sym (more s) ∙ e)
          where
            by : (r : Bool) → same_stamp s b.stamp ≡ r → cond (same_stamp s b.stamp) (Some (height_of v (path_of v b))) (G s) ≡ Some h → height_at v s ≡ Some h
            by true t f =
                ap (height_at v) (same_is s b.stamp t) ∙ ap (option_map (λ b. height_of v (path_of v b))) found
                ∙ (sym (ap (λ r. cond r (Some (height_of v (path_of v b))) (G s)) t) ∙ f)
            by false t f = known.sound s h (sym (ap (λ r. cond r (Some (height_of v (path_of v b))) (G s)) t) ∙ f)

        done : (k : ℕ) (d : Offered) → k < i + 1 → is_some (H (get_or blocks k d).stamp) ≡ true
        done k d l = ap is_some (more (get_or blocks k d).stamp) ∙ elim (cases_lt k i) as (λ _. is_some (cond (same_stamp (get_or blocks k d).stamp b.stamp) (Some (height_of v (path_of v b))) (G (get_or blocks k d).stamp)) ≡ true) [
          | inl m ↦ old (same_stamp (get_or blocks k d).stamp b.stamp) (known.done k d m)
          | inr m ↦
              let last : k ≡ i = omega arith in
              let is : (get_or blocks k d).stamp ≡ b.stamp = ap (λ n. (get_or blocks n d).stamp) last ∙ ap (λ (c : Offered). c.stamp) (sym (here d)) in
              ap (λ r. is_some (cond r (Some (height_of v (path_of v b))) (G (get_or blocks k d).stamp))) (ap (λ (t : Stamp). same_stamp t b.stamp) is ∙ own_stamp b.stamp)
        ]
          where
            old : (r : Bool) → is_some (G (get_or blocks k d).stamp) ≡ true → is_some (cond r (Some (height_of v (path_of v b))) (G (get_or blocks k d).stamp)) ≡ true
            old true t = refl
            old false t = t

-- the default does not matter within a list
pub within : {X : Type 0} (xs : List X) (i : ℕ) → i < length xs → (d e : X) → get_or xs i d ≡ get_or xs i e
within [] i l d e = absurd (omega arith)
within (x ∷ xs) zero l d e = refl
within (x ∷ xs) (suc i) l d e = within xs i (omega arith) d e

pub in_order : (a offers b blocks : List Offered) → a ≡ offers → blocks ≡ b → IsPermutation a b → IsNonDecreasingBy (λ b. b.stamp.number) b → AreInOrder offers blocks
in_order a offers b blocks e f p n =
    subst (λ (l : List Offered). AreInOrder l blocks) e (subst (λ (l : List Offered). AreInOrder a l) (sym f) (record { same = p; ascending = n }))
