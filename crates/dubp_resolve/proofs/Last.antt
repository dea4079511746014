-- The stamps of the last blocks of the chain are enough to choose by.
use Rattle.std.proofs.Common.{◌≡◌, ℕ, zero, suc, ◌+◌, ◌-◌, ◌<◌, ◌&&◌, ◌||◌, Bool, true, false, not, cond, List, [], ◌∷◌, length, drop, take, reverse, nat_le, nat_lt, Option, Some, None, refl, sym, ap, ◌∙◌, true≢false, arith, take-append-drop, length-drop}
use Rattle.std.specs.Option.{option_map_or}
use Rattle.std.proofs.lemmas.Bool.Decides.{nat_tests}
use Rattle.std.proofs.lemmas.List.Folds.{list_any-append}
use Rattle.std.proofs.lemmas.List.Sorted.{list_any-IsPermutation, IsPermutation-reverse}
use Rattle.dubp_atoms.specs.Same.{same_stamp}
use Rattle.dubp_atoms.specs.declared.stamp.Stamp.{Stamp}
use Rattle.dubp_resolve.specs.declared.view.Offered.{Offered}
use Rattle.dubp_resolve.specs.Choice.{Choices, Path, behind, best_of, better, choice, has_failed, is_among, is_candidate, is_detached, most_stored, path_of, stored_then}
use Rattle.dubp_resolve.specs.Laws.{AreCounted}
use Rattle.dubp_resolve.proofs.Stamps.{same_is}

-- ---- stamps whose numbers count
counted_drop : (n : ℕ) (xs : List Stamp) → AreCounted xs → AreCounted (drop n xs)
counted_drop zero xs c = c
counted_drop (suc n) [] c = c
counted_drop (suc n) (x ∷ xs) c = counted_drop n xs c.1

low : (xs : List Stamp) (s : Stamp) → AreCounted xs → is_among xs s ≡ true → s.number < length xs
low [] s c e = absurd (true≢false (sym e))
low (x ∷ xs) s c e =
    elim (same_stamp s x) as (λ r. same_stamp s x ≡ r → (r || is_among xs s) ≡ true → s.number < length (x ∷ xs)) [
      | true ↦ λ f g. let n : s.number ≡ x.number = ap (λ (t : Stamp). t.number) (same_is s x f) in let m : x.number ≡ length xs = c.0 in omega arith
      | false ↦ λ f g. let l = low xs s c.1 g in omega arith
    ] refl e

among_reversed : (xs : List Stamp) (s : Stamp) → is_among (reverse xs) s ≡ is_among xs s
among_reversed xs s = sym (list_any-IsPermutation (same_stamp s) xs (reverse xs) (IsPermutation-reverse xs))

among_parts : (n : ℕ) (xs : List Stamp) (s : Stamp) → is_among xs s ≡ (is_among (take n xs) s || is_among (drop n xs) s)
among_parts n xs s = ap (λ l. is_among l s) (sym (take-append-drop n xs)) ∙ list_any-append (same_stamp s) (take n xs) (drop n xs)

-- what is among the last is among all
kept_among : (n : ℕ) (xs : List Stamp) (s : Stamp) → is_among (reverse (take n xs)) s ≡ true → is_among xs s ≡ true
kept_among n xs s e = among_parts n xs s ∙ ap (λ r. r || is_among (drop n xs) s) (sym (among_reversed (take n xs) s) ∙ e)

-- and the others stand far behind
far_behind : (n : ℕ) (xs : List Stamp) (s : Stamp) → AreCounted xs → is_among (reverse (take n xs)) s ≡ false → is_among xs s ≡ true → s.number + n < length xs
far_behind n xs s c e f =
    let here : is_among (take n xs) s ≡ false = sym (among_reversed (take n xs) s) ∙ e in
    let there : is_among (drop n xs) s ≡ true = sym (ap (λ r. r || is_among (drop n xs) s) here) ∙ (sym (among_parts n xs s) ∙ f) in
    let l = low (drop n xs) s (counted_drop n xs c) there in
    omega (arith, length-drop n xs)

-- ---- candidates
is_more : (n m : ℕ) → m < n → nat_le n m ≡ false
is_more n m h = grind (arith, nat_tests)

same_by : (n r q k x : Bool) → (r ≡ true → q ≡ true) → (r ≡ false → q ≡ true → k ≡ false) → (n && (not (not r) && (k && x))) ≡ (n && (not (not q) && (k && x)))
same_by n true true k x a b = refl
same_by n true false k x a b = absurd (true≢false (sym (a refl)))
same_by n false false k x a b = refl
same_by n false true k x a b = sym (ap (λ k. n && (k && x)) (b refl refl))

module _ (v : Choices) (counted : AreCounted v.recent) (long : v.length ≡ length v.recent) where
  abbrev with_last : Choices
  with_last = record v { recent = reverse (take (v.kept + 1) v.recent) }

  abbrev passes : Choices → ℕ → Path → Bool
  passes w number p =
      nat_le (w.length + 2) number
      && (not (is_detached w p)
      && (nat_le (behind w p) w.kept
      && (nat_le (stored_then w p) most_stored
      && not (has_failed w p))))

  same_passes : (number : ℕ) (blocks : List Offered) (end : Option Stamp) → passes with_last number (record { blocks = blocks; end = end }) ≡ passes v number (record { blocks = blocks; end = end })
  same_passes number blocks None = refl
  same_passes number blocks (Some s) =
      same_by (nat_le (v.length + 2) number) (is_among (reverse (take (v.kept + 1) v.recent)) s) (is_among v.recent s) (nat_le (v.length - (s.number + 1)) v.kept) _
      (kept_among (v.kept + 1) v.recent s)
      (λ e f. let l = far_behind (v.kept + 1) v.recent s counted e f in is_more (v.length - (s.number + 1)) v.kept (omega arith))

  same_candidate : (b : Offered) → is_candidate with_last b ≡ is_candidate v b
  same_candidate b = same_passes b.stamp.number (path_of v b).blocks (path_of v b).end

  same_best : (best : Option Offered) (bs : List Offered) → best_of with_last best bs ≡ best_of v best bs
  same_best best [] = refl
  same_best best (b ∷ bs) =
      ap (λ r. best_of with_last (cond (r && option_map_or (λ c. nat_lt c.stamp.number b.stamp.number) best true) (Some b) best) bs) (same_candidate b)
      ∙ same_best (better v best b) bs

  pub same_choice : choice with_last ≡ choice v
  same_choice = same_best None v.offers
