-- What is read as a decimal is its one text.
use Rattle.std.proofs.Common.{◌≡◌, ◌≢◌, ℕ, zero, suc, ◌+◌, ◌-◌, ◌*◌, ◌/◌, ◌%◌, ◌^◌, ◌<◌, ◌≤◌, Bool, true, false, ◌&&◌, cond, eqb, leb, ltb, List, [], ◌∷◌, ◌++◌, length, Option, Some, None, refl, sym, ap, subst, ◌∙◌, arith, decimal}
use Rattle.std.specs.Prelude.{IfSome}
use Rattle.std.specs.Char.{is_ascii_digit}
use Rattle.std.proofs.Math.Nat.{pow-suc, pow-zero, div-div-eq-div-mul, div-le_self}
use Rattle.std.proofs.lemmas.Bool.{ltb-true, lt-ltb, eqb-true, eqb-false, ne_eqb}
use Rattle.std.proofs.lemmas.List.{get_or_at}
use Rattle.std.proofs.lemmas.Bool.Decides.{nat_tests}
use Rattle.dubp_atoms.specs.Reading.{◌>>=◌, digits_from, number_of, places_of, dec_from, dec_of, cut_at, Lacks}
use Rattle.dubp_atoms.specs.Spelling.{IsDec, dec_text, last_digits}
use Rattle.dubp_atoms.specs.declared.dec.Dec.{Dec}
use Rattle.dubp_atoms.proofs.Numbers.{by_test, bind_some, some_is, number_found, number_again}
use Rattle.dubp_atoms.proofs.Fields.{cut_found, cut_again, decimal_lacks, glue}

pub ten_pos : (k : ℕ) → 0 < 10 ^ k
ten_pos zero = omega arith
ten_pos (suc k) = rw (pow-suc 10 k) (omega (arith, ten_pos k))

-- digits read behind a number: the number is what stands before the last of them
pub record Behind (whole : ℕ) (text : List ℕ) (n : ℕ) : Type 0 where
  pub before : n / 10 ^ length text ≡ whole
  pub last : last_digits (length text) n ≡ text

div_one : (n : ℕ) → n / 10 ^ 0 ≡ n
div_one n = rw (pow-zero 10) (omega arith)

one_more : (n k : ℕ) → n / 10 ^ suc k ≡ n / 10 ^ k / 10
one_more n k = rw (pow-suc 10 k) (sym (div-div-eq-div-mul n (10 ^ k) 10))

record IsDigit (c : ℕ) : Type 0 where
  low : 48 ≤ c
  high : c ≤ 57

digit_is : (c : ℕ) → is_ascii_digit c ≡ true → IsDigit c
digit_is c h = record { low = grind (arith, nat_tests); high = grind (arith, nat_tests) }

digit_again : (c : ℕ) → 48 ≤ c → c ≤ 57 → is_ascii_digit c ≡ true
digit_again c l h = grind (arith, nat_tests)

pub digits_behind : (whole : ℕ) (text : List ℕ) (n : ℕ) → digits_from whole text ≡ Some n → Behind whole text n
digits_behind whole [] n e = record { before = div_one n ∙ sym (some_is whole n e); last = refl }
digits_behind whole (c ∷ cs) n e =
    let t = by_test (is_ascii_digit c) (digits_from (whole * 10 + (c - 48)) cs) n e in
    let d = digit_is c t.0 in
    let low : 48 ≤ c = d.low in
    let high : c ≤ 57 = d.high in
    let r = digits_behind (whole * 10 + (c - 48)) cs n t.1 in
    let front : n / 10 ^ length cs ≡ whole * 10 + (c - 48) = r.before in
    record {
      before = one_more n (length cs) ∙ (rw front (omega arith));
      last = ap (λ x. x ∷ last_digits (length cs) n) (rw front (omega arith)) ∙ ap (λ x. c ∷ x) r.last;
    }

pub length-last_digits : (k n : ℕ) → length (last_digits k n) ≡ k
length-last_digits zero n = refl
length-last_digits (suc k) n = ap suc (length-last_digits k n)

pub digits_again : (k n : ℕ) → digits_from (n / 10 ^ k) (last_digits k n) ≡ Some n
digits_again zero n = ap Some (div_one n)
digits_again (suc k) n =
    let digit = 48 + n / 10 ^ k % 10 in
    let ascii : is_ascii_digit digit ≡ true = digit_again digit (omega arith) (omega arith) in
    let front : n / 10 ^ suc k * 10 + (digit - 48) ≡ n / 10 ^ k = rw (one_more n k) (omega arith) in
    rw (ascii, front) (digits_again k n)

-- a text of places behind a whole part
record IsBehind (whole : ℕ) (text : List ℕ) (d : Dec) : Type 0 where
  is : IsDec d
  some : d.places ≢ 0
  before : d.mantissa / 10 ^ d.places ≡ whole
  last : last_digits d.places d.mantissa ≡ text

few : (text : List ℕ) → (leb 1 (length text) && leb (length text) 9) ≡ true → (1 ≤ length text) × (length text ≤ 9)
few text h = (grind (arith, nat_tests), grind (arith, nat_tests))

places_found : (whole : ℕ) (text : List ℕ) (d : Dec) → places_of whole text ≡ Some d → IsBehind whole text d
unfolding places_of
places_found whole text d e =
    let p = by_test (leb 1 (length text) && leb (length text) 9) (digits_from whole text >>= λ n. cond (ltb n (2 ^ 53)) (Some (record { mantissa = n; places = length text })) None) d e in
    let b = bind_some (digits_from whole text) (λ n. cond (ltb n (2 ^ 53)) (Some (record { mantissa = n; places = length text })) None) d p.1 in
    let g = by_test (ltb b.0 (2 ^ 53)) (Some (record { mantissa = b.0; places = length text })) d b.2 in
    let f = few text p.0 in
    let r = digits_behind whole text b.0 b.1 in
    let made : Dec = record { mantissa = b.0; places = length text } in
    let got : IsBehind whole text made = record { is = record { mantissa = ltb-true b.0 (2 ^ 53) g.0; places = f.1 }; some = λ z. omega (arith, f.0, z); before = r.before; last = r.last } in
    subst (λ (x : Dec). IsBehind whole text x) (cc g.1) got

text_of_places : (d : Dec) → d.places ≢ 0 → dec_text d ≡ decimal (d.mantissa / 10 ^ d.places) ++ 46 ∷ last_digits d.places d.mantissa
text_of_places d some = rw (ne_eqb d.places 0 some) refl

from_found : (text : List ℕ) (o : Option (List ℕ × List ℕ)) (d : Dec) → cut_at 46 text ≡ o → dec_from text o ≡ Some d → IsDec d × (text ≡ dec_text d)
from_found text None d cut e =
    let m = bind_some (number_of text) (λ n. Some (record { mantissa = n; places = 0 })) d e in
    let n = number_found text m.0 m.1 in
    let made : Dec = record { mantissa = m.0; places = 0 } in
    let got : IsDec made × (text ≡ dec_text made) = (record { mantissa = n.0; places = omega arith }, n.1) in
    subst (λ (x : Dec). IsDec x × (text ≡ dec_text x)) (cc m.2) got
from_found text (Some p) d cut e =
    let m = bind_some (number_of p.0) (λ whole. places_of whole p.1) d e in
    let n = number_found p.0 m.0 m.1 in
    let f = places_found m.0 p.1 d m.2 in
    (f.is, cut_found 46 text p cut ∙ glue 46 p.0 p.1 (decimal (d.mantissa / 10 ^ d.places)) (last_digits d.places d.mantissa) (n.1 ∙ ap decimal (sym f.before)) (sym f.last) ∙ sym (text_of_places d f.some))

pub dec_found : (text : List ℕ) (d : Dec) → dec_of text ≡ Some d → IsDec d × (text ≡ dec_text d)
unfolding dec_of
dec_found text d e = from_found text (cut_at 46 text) d refl e

places_again : (d : Dec) → IsDec d → d.places ≢ 0 → places_of (d.mantissa / 10 ^ d.places) (last_digits d.places d.mantissa) ≡ Some d
unfolding places_of
places_again d is some =
    let long = length-last_digits d.places d.mantissa in
    let fits : (leb 1 (length (last_digits d.places d.mantissa)) && leb (length (last_digits d.places d.mantissa)) 9) ≡ true = rw long (fits_is d.places some is.places) in
    rw (fits, digits_again d.places d.mantissa, lt-ltb d.mantissa (2 ^ 53) is.mantissa, long) refl
  where
    fits_is : (k : ℕ) → k ≢ 0 → k ≤ 9 → (leb 1 k && leb k 9) ≡ true
    fits_is k n l = grind (arith, nat_tests)

-- a text without a point has no cut
not_cut : (text : List ℕ) (o : Option (List ℕ × List ℕ)) → Lacks 46 text → cut_at 46 text ≡ o → o ≡ None
not_cut text None lacks e = refl
not_cut text (Some p) lacks e = absurd (no_point text p.0 p.1 lacks (cut_found 46 text p e))
  where
    no_point : (text x y : List ℕ) → Lacks 46 text → text ≡ x ++ 46 ∷ y → ⊥
    no_point text x y lacks e = lacks (length x) (rw e (get_or_at x 46 y 0 (length x) refl))

whole_small : (d : Dec) → IsDec d → d.mantissa / 10 ^ d.places < 2 ^ 53
whole_small d is = omega (arith, is.mantissa, div-le_self d.mantissa (10 ^ d.places))

abbrev some_dec : ℕ → ℕ → Option Dec
some_dec m k = Some (record { mantissa = m; places = k })

again_by : (d : Dec) (b : Bool) → IsDec d → (b ≡ true → d.places ≡ 0) → (b ≡ false → d.places ≢ 0) → eqb d.places 0 ≡ b → dec_of (dec_text d) ≡ Some d
unfolding dec_of
again_by d true is zero_is some test =
    let at_zero = zero_is refl in
    let none : cut_at 46 (decimal d.mantissa) ≡ None = not_cut (decimal d.mantissa) (cut_at 46 (decimal d.mantissa)) (decimal_lacks 46 d.mantissa is.mantissa (omega arith) refl) refl in
    let read : number_of (decimal d.mantissa) ≡ Some d.mantissa = number_again d.mantissa is.mantissa in
    rw (test, none, read) (ap (λ (k : ℕ). some_dec d.mantissa k) (sym at_zero))
again_by d false is zero_is some test =
    let whole = d.mantissa / 10 ^ d.places in
    let small = whole_small d is in
    let cut = cut_again 46 (decimal whole) (last_digits d.places d.mantissa) (decimal_lacks 46 whole small (omega arith) refl) in
    rw (test, cut, number_again whole small) (places_again d is (some refl))

pub dec_again : (d : Dec) → IsDec d → dec_of (dec_text d) ≡ Some d
dec_again d is = again_by d (eqb d.places 0) is (eqb-true d.places 0) (eqb-false d.places 0) refl

pub dec_is_found : (text : List ℕ) (o : Option Dec) → o ≡ dec_of text → IfSome o (λ d. IsDec d × (text ≡ dec_text d))
dec_is_found text (Some d) e = dec_found text d (sym e)
dec_is_found text None e = tt
