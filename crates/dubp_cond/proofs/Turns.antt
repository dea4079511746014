-- `separated` is one value, and then, behind the word, `separated` again: the bound on its turns does not matter.
use Rattle.std.proofs.Common.{◌≡◌, ℕ, zero, suc, ◌+◌, ◌≤◌, ◌<◌, List, ◌∷◌, length, Option, Some, None, refl, ap, arith, length-append}
use Rattle.dubp_atoms.specs.Reading.{◌>>=◌}
use Rattle.dubp_cond.specs.Separated.{Read, after, read_map, go_on, separated_up_to, separated}
use Rattle.dubp_cond.specs.Finding.{Finds}
use Rattle.dubp_cond.proofs.Readers.{after_found}

-- what is left is no longer than the text
abbrev pub Shrinks : {A : Type 0} → Read A → Type 0
Shrinks {A} read = (text : List ℕ) (x : A) (rest : List ℕ) → read text ≡ Some (x, rest) → length rest ≤ length text

pub shrinks : {A : Type 0} (read : Read A) (spell : A → List ℕ) (Good : A → Type 0) → Finds read spell Good → Shrinks read
shrinks read spell Good finds text x rest h = omega (arith, ap length (finds text x rest h).0, length-append (spell x) rest)

module _ {A : Type 0} (read : Read A) (word : List ℕ) where
  same_in : (more again : Read (List A)) (x : A) (at : List ℕ) (o : Option (List ℕ)) → after word at ≡ o → ((next : List ℕ) → length next + length word ≤ length at → more next ≡ again next) →
      go_on more x o at ≡ go_on again x o at
  same_in more again x at None is h = refl
  same_in more again x at (Some next) is h =
      ap (read_map (λ xs. x ∷ xs)) (h next (omega (arith, ap length (after_found word at next is), length-append word next)))

  same_at : Shrinks read → 0 < length word → (more again : Read (List A)) (text : List ℕ) → ((next : List ℕ) → length next < length text → more next ≡ again next) → (o : Option (A × List ℕ)) → read text ≡ o →
      (o >>= (λ r. go_on more r.0 (after word r.1) r.1)) ≡ (o >>= (λ r. go_on again r.0 (after word r.1) r.1))
  same_at short long more again text h None is = refl
  same_at short long more again text h (Some r) is =
      let s = short text r.0 r.1 is in
      same_in more again r.0 r.1 (after word r.1) refl (λ next n. h next (omega arith))

  same_turns : Shrinks read → 0 < length word → (m n : ℕ) (text : List ℕ) → length text < m → length text < n → separated_up_to read word m text ≡ separated_up_to read word n text
  unfolding separated_up_to
  same_turns short long zero n text p q = absurd (omega arith)
  same_turns short long (suc m) zero text p q = absurd (omega arith)
  same_turns short long (suc m) (suc n) text p q =
      same_at short long (separated_up_to read word m) (separated_up_to read word n) text
      (λ next s. same_turns short long m n next (omega arith) (omega arith)) (read text) refl

  pub separated_step : Shrinks read → 0 < length word → (text : List ℕ) → separated read word text ≡ (read text >>= (λ r. go_on (separated read word) r.0 (after word r.1) r.1))
  unfolding separated separated_up_to
  separated_step short long text =
      same_at short long (separated_up_to read word (length text)) (separated read word) text
      (λ next s. same_turns short long (length text) (suc (length next)) next s (omega arith)) (read text) refl
