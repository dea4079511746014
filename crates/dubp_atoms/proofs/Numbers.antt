-- What is read as a number is its one decimal text.
use Rattle.std.proofs.Common.{◌≡◌, ℕ, zero, suc, ◌+◌, ◌-◌, ◌*◌, ◌^◌, ◌⊎◌, ◌<◌, ◌≤◌, Bool, true, false, ◌&&◌, cond, ltb, List, [], ◌∷◌, length, get_or, Option, Some, None, refl, sym, ap, subst, ◌∙◌, arith, rules, inl, inr, decimal}
use Rattle.std.specs.Prelude.{IfSome}
use Rattle.std.specs.Char.{is_ascii_digit}
use Rattle.std.specs.Str.{all_ascii_digits}
use Rattle.std.proofs.lemmas.Bool.Decides.{nat_tests}
use Rattle.std.proofs.lemmas.Bool.{ltb-true, lt-ltb}
use Rattle.std.proofs.Math.Nat.{pow-le-pow_right}
use Rattle.std.proofs.lemmas.Str.Parse.{IsNumeralModel, numerals_by_fold}
use Rattle.std.proofs.lemmas.Fmt.{decimal-digits_value, digits_decimal, digits_value-decimal, length-decimal-le, decimal_nonempty, first_decimal, decimal_digit}
use Rattle.dubp_atoms.specs.Reading.{digits_from, is_plain, number_of, ◌>>=◌}

-- the number that digits stand for, after the number so far
abbrev pub value_from : ℕ → List ℕ → ℕ
value_from n [] = n
value_from n (c ∷ cs) = value_from (n * 10 + (c - 48)) cs

pub own : IsNumeralModel (λ ds. all_ascii_digits ds ≡ true) (value_from 0)
own = numerals_by_fold _ (search rules) value_from (search rules)

pub both : (a b : Bool) → (a && b) ≡ true → (a ≡ true) × (b ≡ true)
both true b h = (refl, h)
both false b h = absurd cc

pub some_is : {A : Type 0} (x y : A) → Some x ≡ Some y → x ≡ y
some_is x y e = cc

pub by_test : {A : Type 0} (b : Bool) (x : Option A) (v : A) → cond b x None ≡ Some v → (b ≡ true) × (x ≡ Some v)
by_test true x v e = (refl, e)
by_test false x v e = absurd cc

digits_are : (n : ℕ) (ds : List ℕ) (v : ℕ) → digits_from n ds ≡ Some v → (all_ascii_digits ds ≡ true) × (v ≡ value_from n ds)
digits_are n [] v e = (refl, cc)
digits_are n (c ∷ cs) v e =
    let t = by_test (is_ascii_digit c) (digits_from (n * 10 + (c - 48)) cs) v e in
    let r = digits_are (n * 10 + (c - 48)) cs v t.1 in
    (rw (t.0, r.0) refl, r.1)

digits_again : (n : ℕ) (ds : List ℕ) → all_ascii_digits ds ≡ true → digits_from n ds ≡ Some (value_from n ds)
digits_again n [] h = refl
digits_again n (c ∷ cs) h =
    let t = both (is_ascii_digit c) (all_ascii_digits cs) h in
    rw t.0 (digits_again (n * 10 + (c - 48)) cs t.1)

pub bind_some : {A B : Type 0} (o : Option A) (f : A → Option B) (y : B) → (o >>= f) ≡ Some y → (x : A) × (o ≡ Some x) × (f x ≡ Some y)
bind_some (Some x) f y e = (x, refl, e)
bind_some None f y e = absurd cc

-- what the test on a text says
record IsPlain (text : List ℕ) : Type 0 where
  some : 0 < length text
  short : length text ≤ 16
  lead : get_or text 0 0 ≡ 48 → length text ≡ 1

plain_is : (text : List ℕ) → is_plain text ≡ true → IsPlain text
plain_is text h = record { some = grind (arith, nat_tests); short = grind (arith, nat_tests); lead = λ e. grind (arith, nat_tests) }

is_plain_from : (text : List ℕ) → 0 < length text → length text ≤ 16 → (48 < get_or text 0 0) ⊎ (length text ≡ 1) → is_plain text ≡ true
is_plain_from text a b (inl c) = grind (arith, nat_tests)
is_plain_from text a b (inr c) = grind (arith, nat_tests)

pub leads : (n : ℕ) → n < 2 ^ 64 → (48 < get_or (decimal n) 0 0) ⊎ (length (decimal n) ≡ 1)
leads zero lt = inr (ap length (decimal_digit 0 (omega arith)))
leads (suc n) lt = inl (first_decimal (suc n) (omega arith) lt)

pub number_found : (text : List ℕ) (n : ℕ) → number_of text ≡ Some n → (n < 2 ^ 53) × (text ≡ decimal n)
unfolding number_of
number_found text n e =
    let p = by_test (is_plain text) (digits_from 0 text >>= λ n. cond (ltb n (2 ^ 53)) (Some n) None) n e in
    let b = bind_some (digits_from 0 text) (λ n. cond (ltb n (2 ^ 53)) (Some n) None) n p.1 in
    let g = by_test (ltb b.0 (2 ^ 53)) (Some b.0) n b.2 in
    let d = digits_are 0 text b.0 b.1 in
    let q = plain_is text p.0 in
    let same : b.0 ≡ n = some_is b.0 n g.1 in
    let lt : n < 2 ^ 53 = subst (λ m. m < 2 ^ 53) same (ltb-true b.0 (2 ^ 53) g.0) in
    let value : value_from 0 text ≡ n = sym d.1 ∙ same in
    let small : value_from 0 text < 2 ^ 64 = omega arith in
    (lt, sym (decimal-digits_value own text d.0 q.some q.lead small) ∙ ap decimal value)

pub number_again : (n : ℕ) → n < 2 ^ 53 → number_of (decimal n) ≡ Some n
unfolding number_of
number_again n lt =
    let wide : n < 2 ^ 64 = omega arith in
    let plain : is_plain (decimal n) ≡ true = is_plain_from (decimal n) (decimal_nonempty n wide) (length-decimal-le 16 n (omega arith) (omega arith) wide) (leads n wide) in
    let read : digits_from 0 (decimal n) ≡ Some n = digits_again 0 (decimal n) (digits_decimal own n wide) ∙ ap Some (digits_value-decimal own n wide) in
    rw (plain, read, lt-ltb n (2 ^ 53) lt) refl

-- digits read so far
pub small_enough : (i v : ℕ) → i < 16 → v < 10 ^ i → v < 10 ^ 15
small_enough i v lt h =
    let p : 10 ^ i ≤ 10 ^ 15 = pow-le-pow_right {n = 10} (omega arith) {i = i} {j = 15} (omega arith) in
    omega arith

pub is_found : (text : List ℕ) (o : Option ℕ) → o ≡ number_of text → IfSome o (λ n. (n < 2 ^ 53) × (text ≡ decimal n))
is_found text (Some n) e = number_found text n (sym e)
is_found text None e = tt
