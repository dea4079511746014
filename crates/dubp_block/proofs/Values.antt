-- A version or a base is read exactly from its text.
use Rattle.std.proofs.Common.{◌≡◌, ℕ, ◌≤◌, Bool, true, false, ◌||◌, eqb, leb, List, Option, Some, None, refl, subst, arith, inl, inr, decimal}
use Rattle.std.proofs.lemmas.Bool.{eqb-true, leb-true, le-leb}
use Rattle.dubp_atoms.specs.Reading.{number_of}
use Rattle.dubp_atoms.proofs.Numbers.{by_test, some_is, number_found, number_again}
use Rattle.dubp_block.specs.Text.{IsVersion}
use Rattle.dubp_block.specs.ReadingLines.{number_if, version_of, base_of}

-- the number that passes the test
record Passed (test : ℕ → Bool) (text : List ℕ) (n : ℕ) : Type 0 where
  read : number_of text ≡ Some n
  pass : test n ≡ true

passed_by : (test : ℕ → Bool) (text : List ℕ) (n : ℕ) (o : Option ℕ) → number_of text ≡ o → number_if test o ≡ Some n → Passed test text n
passed_by test text n (Some m) r e =
    let g = by_test (test m) (Some m) n e in
    let same = some_is m n g.1 in
    subst (λ (k : ℕ). Passed test text k) same (record { read = r; pass = g.0 })
passed_by test text n None r e = absurd cc

-- the number that passes the test, and its text
pub passed : (test : ℕ → Bool) (text : List ℕ) (n : ℕ) → number_if test (number_of text) ≡ Some n → (test n ≡ true) × (text ≡ decimal n)
passed test text n e =
    let p = passed_by test text n (number_of text) refl e in
    (p.pass, (number_found text n p.read).1)

is_version : (n : ℕ) → (eqb n 10 || eqb n 11) ≡ true → IsVersion n
is_version n h = by_ten n (eqb n 10) refl h
  where
    by_ten : (n : ℕ) (b : Bool) → eqb n 10 ≡ b → (b || eqb n 11) ≡ true → IsVersion n
    by_ten n true e h = inl (eqb-true n 10 e)
    by_ten n false e h = inr (eqb-true n 11 h)

pub version_found : (text : List ℕ) (n : ℕ) → version_of text ≡ Some n → IsVersion n × (text ≡ decimal n)
unfolding version_of
version_found text n e =
    let p = passed_by (λ k. eqb k 10 || eqb k 11) text n (number_of text) refl e in
    (is_version n p.pass, (number_found text n p.read).1)

pub version_again : (n : ℕ) → IsVersion n → version_of (decimal n) ≡ Some n
unfolding version_of
version_again n (inl e) = rw (e, number_again 10 (omega arith)) refl
version_again n (inr e) = rw (e, number_again 11 (omega arith)) refl

pub base_found : (text : List ℕ) (n : ℕ) → base_of text ≡ Some n → (n ≤ 15) × (text ≡ decimal n)
unfolding base_of
base_found text n e =
    let p = passed_by (λ k. leb k 15) text n (number_of text) refl e in
    (leb-true n 15 p.pass, (number_found text n p.read).1)

pub base_again : (n : ℕ) → n ≤ 15 → base_of (decimal n) ≡ Some n
unfolding base_of
base_again n h = rw (number_again n (omega arith), le-leb n 15 h) refl
