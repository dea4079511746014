-- What a loop that takes values with a word between each two knows of `separated`.
use Rattle.std.proofs.Common.{◌≡◌, ℕ, ◌<◌, Bool, true, false, List, [], ◌∷◌, ◌++◌, length, map, Option, Some, None, refl, sym, ap, ◌∙◌, append_assoc, if◌then◌else◌}
use Rattle.std.proofs.lemmas.List.{map-append}
use Rattle.dubp_atoms.specs.Reading.{◌>>=◌}
use Rattle.dubp_cond.specs.Separated.{Read, after, read_map, go_on, separated}
use Rattle.dubp_cond.specs.Gives.{Gives, left_of, Passes}
use Rattle.dubp_cond.proofs.Turns.{Shrinks, separated_step}

-- ---- what `take_word` says

pub word_absent : (taken : Bool) (next : List ℕ) (o : Option (List ℕ)) → (if taken then Some next else None) ≡ o → taken ≡ false → o ≡ None
word_absent false next o h e = sym h
word_absent true next o h e = absurd cc

pub word_there : (taken : Bool) (next : List ℕ) (o : Option (List ℕ)) → (if taken then Some next else None) ≡ o → taken ≡ true → o ≡ Some next
word_there true next o h e = sym h
word_there false next o h e = absurd cc

-- ---- what a function that reads gives

pub given_none : {X A : Type 0} (view : X → A) (o : Option X) (rest : List ℕ) (r : Option (A × List ℕ)) → Gives view o rest r → o ≡ None → r ≡ None
given_none view None rest r h e = h
given_none view (Some x) rest r h e = absurd cc

pub given_some : {X A : Type 0} (view : X → A) (o : Option X) (x : X) (rest : List ℕ) (r : Option (A × List ℕ)) → Gives view o rest r → o ≡ Some x → r ≡ Some (view x, rest)
given_some view None x rest r h e = absurd cc
given_some view (Some y) x rest r h e = let i : y ≡ x = cc in rw (← i) h

pub joined_maps : {A : Type 0} (front : List A) (x : A) (r : Option (List A × List ℕ)) → read_map (λ xs. (front ++ x ∷ []) ++ xs) r ≡ read_map (λ xs. front ++ xs) (read_map (λ xs. x ∷ xs) r)
joined_maps front x None = refl
joined_maps front x (Some p) = ap (λ v. Some (v, p.1)) (append_assoc front (x ∷ []) p.0)

-- the values in front, and those behind the word where it is next
abbrev pub going_on : {A : Type 0} → Read (List A) → List A → Option (List ℕ) → Read (List A)
going_on more front None rest = Some (front, rest)
going_on more front (Some next) rest = read_map (λ xs. front ++ xs) (more next)

pub one_in_front : {A : Type 0} (more : Read (List A)) (x : A) (o : Option (List ℕ)) (rest : List ℕ) → going_on more (x ∷ []) o rest ≡ go_on more x o rest
one_in_front more x None rest = refl
one_in_front more x (Some next) rest = refl

one_more : {A : Type 0} (more : Read (List A)) (front : List A) (x : A) (o : Option (List ℕ)) (rest : List ℕ) → going_on more (front ++ x ∷ []) o rest ≡ read_map (λ xs. front ++ xs) (go_on more x o rest)
one_more more front x None rest = refl
one_more more front x (Some next) rest = joined_maps front x (more next)

-- what the loop has read, and what is left
abbrev pub SoFar : {A : Type 0} → Read A → List ℕ → List A → List ℕ → Option (List A × List ℕ) → Type 0
SoFar read word front at whole = going_on (separated read word) front (after word at) at ≡ whole

-- the code's values are seen by a view, and their list is made into one value
module _ {X A B : Type 0} (read : Read A) (short : Shrinks read) (word : List ℕ) (long : 0 < length word) (view : X → A) (make : List A → B) (items : List X) (at : List ℕ)
    (whole : Option (List A × List ℕ)) (so_far : SoFar read word (map view items) at whole) (taken : Bool) (next : List ℕ) (word_is : (if taken then Some next else None) ≡ after word at) where
  ended : taken ≡ false → (taken ≡ false → next ≡ at) → whole ≡ Some (map view items, next)
  ended no_more kept = sym so_far ∙ rw (word_absent taken next (after word at) word_is no_more, kept no_more) refl

  pub loop_ends : taken ≡ false → (taken ≡ false → next ≡ at) → read_map make whole ≡ Some (make (map view items), next)
  loop_ends no_more kept = ap (read_map make) (ended no_more kept)

  behind : taken ≡ true → whole ≡ read_map (λ xs. map view items ++ xs) (read next >>= (λ r. go_on (separated read word) r.0 (after word r.1) r.1))
  behind more = sym so_far ∙ rw (word_there taken next (after word at) word_is more) (ap (read_map (λ xs. map view items ++ xs)) (separated_step read word short long next))

  failed : taken ≡ true → (o : Option X) (rest : List ℕ) → Gives view o rest (read next) → o ≡ None → whole ≡ None
  failed more o rest gives none = behind more ∙ rw (given_none view o rest (read next) gives none) refl

  pub loop_fails : taken ≡ true → (o : Option X) (rest : List ℕ) → Gives view o rest (read next) → o ≡ None → read_map make whole ≡ None
  loop_fails more o rest gives none = ap (read_map make) (failed more o rest gives none)

  pub loop_goes : taken ≡ true → (o : Option X) (x : X) (rest : List ℕ) (all : List X) → Gives view o rest (read next) → o ≡ Some x → all ≡ items ++ x ∷ [] → SoFar read word (map view all) rest whole
  loop_goes more o x rest all gives is listed =
      rw (listed, map-append) (one_more (separated read word) (map view items) (view x) (after word rest) rest
      ∙ sym (behind more ∙ rw (given_some view o x rest (read next) gives is) refl))

-- ---- passing is reading without the value

pub left_of-map : {A B : Type 0} (f : A → B) (r : Option (A × List ℕ)) → left_of (read_map f r) ≡ left_of r
left_of-map f None = refl
left_of-map f (Some p) = refl

pub no_value : {A : Type 0} (r : Option (A × List ℕ)) → left_of r ≡ None → r ≡ None
no_value None h = refl
no_value (Some p) h = absurd cc

pub a_value : {A : Type 0} (r : Option (A × List ℕ)) (rest : List ℕ) → left_of r ≡ Some rest → (x : A) × (r ≡ Some (x, rest))
a_value None rest h = absurd cc
a_value (Some p) rest h = let e : p.1 ≡ rest = cc in (p.0, rw (← e) refl)

module _ {A B : Type 0} (read : Read A) (short : Shrinks read) (word : List ℕ) (long : 0 < length word) (make : List A → B) (at self : List ℕ) (so_far : left_of (separated read word at) ≡ left_of (separated read word self)) where
  step : left_of (separated read word at) ≡ left_of (read at >>= (λ r. go_on (separated read word) r.0 (after word r.1) r.1))
  step = ap left_of (separated_step read word short long at)

  back : left_of (read_map make (separated read word self)) ≡ left_of (separated read word at)
  back = left_of-map make (separated read word self) ∙ sym so_far

  pub pass_fails : (passed : Bool) (rest : List ℕ) → Passes passed rest (read at) → passed ≡ false → left_of (read_map make (separated read word self)) ≡ None
  pass_fails passed rest passes none = back ∙ step ∙ rw (no_value (read at) (passes ∙ rw none refl)) refl

  pub pass_ends : (passed taken : Bool) (rest next : List ℕ) → Passes passed rest (read at) → passed ≡ true → (if taken then Some next else None) ≡ after word rest → taken ≡ false →
      (taken ≡ false → next ≡ rest) → left_of (read_map make (separated read word self)) ≡ Some next
  pass_ends passed taken rest next passes there word_is no_more kept =
      let v = a_value (read at) rest (passes ∙ rw there refl) in
      back ∙ step ∙ rw (v.1, word_absent taken next (after word rest) word_is no_more, kept no_more) refl

  pub pass_goes : (passed taken : Bool) (rest next : List ℕ) → Passes passed rest (read at) → passed ≡ true → (if taken then Some next else None) ≡ after word rest → taken ≡ true →
      left_of (separated read word next) ≡ left_of (separated read word self)
  pass_goes passed taken rest next passes there word_is more =
      let v = a_value (read at) rest (passes ∙ rw there refl) in
      sym (step ∙ rw (v.1, word_there taken next (after word rest) word_is more) (left_of-map (λ xs. v.0 ∷ xs) (separated read word next))) ∙ so_far
