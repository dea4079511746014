-- What a loop that takes at most so many values with a word between each two knows of `separated_up_to`.
use Rattle.std.proofs.Common.{◌≡◌, ℕ, suc, Bool, true, false, List, [], ◌∷◌, ◌++◌, Option, Some, None, refl, sym, ap, ◌∙◌, if◌then◌else◌}
use Rattle.dubp_cond.specs.Separated.{Read, after, read_map, separated_up_to}
use Rattle.dubp_cond.specs.Gives.{Gives, left_of}
use Rattle.dubp_cond.proofs.Loops.{word_absent, word_there, given_none, given_some, joined_maps, left_of-map}

same : {A : Type 0} → A → A
same x = x

module _ {A : Type 0} (read : Read A) (word : List ℕ) (front : List A) (at : List ℕ) (all : Option (List A × List ℕ)) where
  -- so many turns are left
  abbrev pub LeftOf : ℕ → Type 0
  LeftOf n = read_map (λ xs. front ++ xs) (separated_up_to read word n at) ≡ all

  pub no_turn : (n : ℕ) → n ≡ 0 → LeftOf n → all ≡ None
  unfolding separated_up_to
  no_turn n z so_far = sym so_far ∙ rw z refl

  pub turn_fails : (n m : ℕ) → n ≡ suc m → LeftOf n → (o : Option A) (rest : List ℕ) → Gives (λ x. x) o rest (read at) → o ≡ None → all ≡ None
  unfolding separated_up_to
  turn_fails n m e so_far o rest gives none = sym so_far ∙ rw (e, given_none (λ x. x) o rest (read at) gives none) refl

  pub turn_ends : (n m : ℕ) → n ≡ suc m → LeftOf n → (o : Option A) (x : A) (rest next : List ℕ) (taken : Bool) (items : List A) → Gives (λ x. x) o rest (read at) → o ≡ Some x → items ≡ front ++ x ∷ [] →
      (if taken then Some next else None) ≡ after word rest → taken ≡ false → (taken ≡ false → next ≡ rest) → all ≡ Some (items, next)
  unfolding separated_up_to
  turn_ends n m e so_far o x rest next taken items gives is listed word_is no_more kept =
      sym so_far ∙ rw (e, given_some (λ x. x) o x rest (read at) gives is, word_absent taken next (after word rest) word_is no_more, listed, kept no_more) refl

  pub turn_goes : (n m : ℕ) → n ≡ suc m → LeftOf n → (o : Option A) (x : A) (rest next : List ℕ) (taken : Bool) (items : List A) → Gives (λ x. x) o rest (read at) → o ≡ Some x → items ≡ front ++ x ∷ [] →
      (if taken then Some next else None) ≡ after word rest → taken ≡ true → read_map (λ xs. items ++ xs) (separated_up_to read word m next) ≡ all
  unfolding separated_up_to
  turn_goes n m e so_far o x rest next taken items gives is listed word_is more =
      rw listed (joined_maps front x (separated_up_to read word m next)
      ∙ ap (read_map (λ xs. front ++ xs)) (sym (rw (e, given_some (λ x. x) o x rest (read at) gives is, word_there taken next (after word rest) word_is more) refl)) ∙ so_far)

-- the same for a loop that passes over the values
module _ {A : Type 0} (read : Read A) (word at : List ℕ) (all : Option (List ℕ)) where
  abbrev pub PassesLeft : ℕ → Type 0
  PassesLeft n = left_of (separated_up_to read word n at) ≡ all

  pub pass_none : (n : ℕ) → n ≡ 0 → PassesLeft n → all ≡ None
  unfolding separated_up_to
  pass_none n z so_far = sym so_far ∙ rw z refl

  pub pass_stops : (n m : ℕ) → n ≡ suc m → PassesLeft n → read at ≡ None → all ≡ None
  unfolding separated_up_to
  pass_stops n m e so_far none = sym so_far ∙ rw (e, none) refl

  pub pass_last : (n m : ℕ) → n ≡ suc m → PassesLeft n → (x : A) (rest next : List ℕ) (taken : Bool) → read at ≡ Some (x, rest) →
      (if taken then Some next else None) ≡ after word rest → taken ≡ false → (taken ≡ false → next ≡ rest) → all ≡ Some next
  unfolding separated_up_to
  pass_last n m e so_far x rest next taken is word_is no_more kept = sym so_far ∙ rw (e, is, word_absent taken next (after word rest) word_is no_more, kept no_more) refl

  pub pass_more : (n m : ℕ) → n ≡ suc m → PassesLeft n → (x : A) (rest next : List ℕ) (taken : Bool) → read at ≡ Some (x, rest) →
      (if taken then Some next else None) ≡ after word rest → taken ≡ true → left_of (separated_up_to read word m next) ≡ all
  unfolding separated_up_to
  pass_more n m e so_far x rest next taken is word_is more =
      sym (left_of-map (λ xs. x ∷ xs) (separated_up_to read word m next)) ∙ ap left_of (sym (rw (e, is, word_there taken next (after word rest) word_is more) refl)) ∙ so_far
