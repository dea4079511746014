-- Values with a word between each two: what finds each value finds the list, and what reads each again reads the list again.
use Rattle.std.proofs.Common.{◌≡◌, ℕ, zero, suc, ◌+◌, ◌≤◌, ◌<◌, List, [], ◌∷◌, ◌++◌, length, map, Option, Some, None, refl, ap, ◌∙◌, arith, append_assoc, length-append}
use Rattle.std.specs.List.{AllByRecursion}
use Rattle.dubp_atoms.proofs.Numbers.{bind_some}
use Rattle.dubp_cond.specs.Joined.{joined}
use Rattle.dubp_cond.specs.Separated.{Read, after, go_on, separated_up_to, separated}
use Rattle.dubp_cond.specs.Finding.{Finds, Again, OneOrMore}
use Rattle.dubp_cond.proofs.Readers.{map_some, after_found, after_again}

-- the text of a list
abbrev pub list_text : {A : Type 0} → (A → List ℕ) → List ℕ → List A → List ℕ
list_text spell word xs = joined word (map spell xs)

-- one good value or more, and at most so many
abbrev pub UpTo : {A : Type 0} → ℕ → (A → Type 0) → List A → Type 0
UpTo n Good xs = OneOrMore Good xs × (length xs ≤ n)

pub each_good : {A : Type 0} (Good : A → Type 0) (xs : List A) → OneOrMore Good xs → AllByRecursion Good xs
each_good Good [] h = absurd h
each_good Good (x ∷ xs) h = h

joined_more : {A : Type 0} (spell : A → List ℕ) (Good : A → Type 0) (word : List ℕ) (x : A) (ys : List A) → OneOrMore Good ys → list_text spell word (x ∷ ys) ≡ spell x ++ (word ++ list_text spell word ys)
joined_more spell Good word x [] h = absurd h
joined_more spell Good word x (y ∷ ys) h = refl

module _ {A : Type 0} (read : Read A) (spell : A → List ℕ) (Good : A → Type 0) (word : List ℕ) where
  one_more : (n : ℕ) (x : A) → Good x → (at next tail rest : List ℕ) (ys xs : List A) → at ≡ word ++ next → next ≡ list_text spell word ys ++ tail → UpTo n Good ys → x ∷ ys ≡ xs → tail ≡ rest →
      (spell x ++ at ≡ list_text spell word xs ++ rest) × UpTo (suc n) Good xs
  one_more n x good at next tail rest ys xs w f good_list e r =
      rw (← e, ← r) (rw (w, joined_more spell Good word x ys good_list.0, f, append_assoc, append_assoc) refl, ((good, each_good Good ys good_list.0), omega arith))

  go_finds : (n : ℕ) (more : Read (List A)) → Finds more (list_text spell word) (UpTo n Good) → (x : A) → Good x → (at : List ℕ) (o : Option (List ℕ)) → after word at ≡ o →
      (xs : List A) (rest : List ℕ) → go_on more x o at ≡ Some (xs, rest) → (spell x ++ at ≡ list_text spell word xs ++ rest) × UpTo (suc n) Good xs
  go_finds n more finds x good at None is xs rest h =
      let p : ◌≡◌ {A = List A × List ℕ} (x ∷ [], at) (xs, rest) = cc in
      let e : x ∷ [] ≡ xs = ap (λ p. p.0) p in
      let r : at ≡ rest = ap (λ p. p.1) p in
      rw (← e, ← r) (refl, ((good, tt), omega arith))
  go_finds n more finds x good at (Some next) is xs rest h =
      let m = map_some (λ (p : List A × List ℕ). (x ∷ p.0, p.1)) (more next) (xs, rest) h in
      let f = finds next m.0.0 m.0.1 m.1 in
      let e : x ∷ m.0.0 ≡ xs = ap (λ p. p.0) m.2 in
      let r : m.0.1 ≡ rest = ap (λ p. p.1) m.2 in
      one_more n x good at next m.0.1 rest m.0.0 xs (after_found word at next is) f.0 f.1 e r

  pub separated_up_to_finds : Finds read spell Good → (n : ℕ) → Finds (separated_up_to read word n) (list_text spell word) (UpTo n Good)
  unfolding separated_up_to
  separated_up_to_finds finds zero text xs rest h = absurd cc
  separated_up_to_finds finds (suc n) text xs rest h =
      let b = bind_some (read text) (λ (r : A × List ℕ). go_on (separated_up_to read word n) r.0 (after word r.1) r.1) (xs, rest) h in
      let f = finds text b.0.0 b.0.1 b.1 in
      let g = go_finds n (separated_up_to read word n) (separated_up_to_finds finds n) b.0.0 f.1 b.0.1 (after word b.0.1) refl xs rest b.2 in
      (f.0 ∙ g.0, g.1)

  pub separated_finds : Finds read spell Good → Finds (separated read word) (list_text spell word) (OneOrMore Good)
  unfolding separated
  separated_finds finds text xs rest h =
      let f = separated_up_to_finds finds (suc (length text)) text xs rest h in
      (f.0, f.1.0)

  again_in : (Ends : List ℕ → Type 0) → Again read spell Good Ends → ((rest : List ℕ) → Ends (word ++ rest)) → (n : ℕ) (xs : List A) (rest : List ℕ) → length xs ≤ n → OneOrMore Good xs → Ends rest →
      after word rest ≡ None → separated_up_to read word n (list_text spell word xs ++ rest) ≡ Some (xs, rest)
  unfolding separated_up_to
  again_in Ends again opens n [] rest few good ends none = absurd good
  again_in Ends again opens zero (x ∷ xs) rest few good ends none = absurd (omega arith)
  again_in Ends again opens (suc n) (x ∷ []) rest few good ends none = rw (again x rest good.0 ends, none) refl
  again_in Ends again opens (suc n) (x ∷ y ∷ ys) rest few good ends none =
      let more = list_text spell word (y ∷ ys) in
      let next = again_in Ends again opens n (y ∷ ys) rest (omega arith) good.1 ends none in
      rw (
        append_assoc (spell x) (word ++ more) rest,
        append_assoc word more rest,
        again x (word ++ (more ++ rest)) good.0 (opens (more ++ rest)),
        after_again word (more ++ rest),
        next,
      ) refl

  pub separated_up_to_again : (Ends : List ℕ → Type 0) → Again read spell Good Ends → ((rest : List ℕ) → Ends (word ++ rest)) → (n : ℕ) →
      Again (separated_up_to read word n) (list_text spell word) (UpTo n Good) (λ rest. Ends rest × (after word rest ≡ None))
  separated_up_to_again Ends again opens n xs rest good ends = again_in Ends again opens n xs rest good.1 good.0 ends.0 ends.1

  -- a list has no more values than its text has characters, and one
  joined_long : (xs : List A) → 0 < length word → length xs ≤ length (list_text spell word xs) + 1
  joined_long [] h = omega arith
  joined_long (x ∷ []) h = omega arith
  joined_long (x ∷ y ∷ ys) h =
      omega (arith, joined_long (y ∷ ys) h, length-append (spell x) (word ++ list_text spell word (y ∷ ys)), length-append word (list_text spell word (y ∷ ys)))

  pub separated_again : (Ends : List ℕ → Type 0) → Again read spell Good Ends → 0 < length word → ((rest : List ℕ) → Ends (word ++ rest)) →
      Again (separated read word) (list_text spell word) (OneOrMore Good) (λ rest. Ends rest × (after word rest ≡ None))
  unfolding separated
  separated_again Ends again long opens xs rest good ends =
      again_in Ends again opens (suc (length (list_text spell word xs ++ rest))) xs rest
      (omega (arith, joined_long xs long, length-append (list_text spell word xs) rest)) good ends.0 ends.1
