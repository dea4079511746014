-- What is read as a signed number is its one decimal text.
use Rattle.std.proofs.Common.{◌≡◌, ℕ, ℤ, pos, negsuc, unsigned_abs, zero, suc, ◌^◌, ◌<◌, Bool, true, false, List, [], ◌∷◌, get_or, drop, Option, Some, None, refl, sym, ap, subst, ◌∙◌, arith, decimal, eqb}
use Rattle.std.specs.Prelude.{IfSome}
use Rattle.std.specs.Fmt.{signed_decimal}
use Rattle.std.proofs.lemmas.Bool.{eqb-true, ne_eqb}
use Rattle.dubp_atoms.specs.Reading.{number_of, below_zero, signed_from, signed_of}
use Rattle.dubp_atoms.proofs.Numbers.{bind_some, some_is, number_found, number_again}
use Rattle.dubp_atoms.proofs.Fields.{decimal_lacks}

-- a text that begins with a byte is that byte and the rest
with_first : (text : List ℕ) (b : ℕ) → 0 < b → get_or text 0 0 ≡ b → text ≡ b ∷ drop 1 text
with_first [] b some e = absurd (omega arith)
with_first (c ∷ cs) b some e = ap (λ x. x ∷ cs) e

below_found : (n : ℕ) (z : ℤ) → below_zero n ≡ Some z → n < 2 ^ 53 → (unsigned_abs z < 2 ^ 53) × (45 ∷ decimal n ≡ signed_decimal z)
below_found zero z e lt = absurd cc
below_found (suc n) z e lt =
    subst (λ (y : ℤ). (unsigned_abs y < 2 ^ 53) × (45 ∷ decimal (suc n) ≡ signed_decimal y)) (some_is (negsuc n) z e) (lt, refl)

from_found : (text : List ℕ) (b : Bool) (z : ℤ) → (b ≡ true → get_or text 0 0 ≡ 45) → signed_from text b ≡ Some z → (unsigned_abs z < 2 ^ 53) × (text ≡ signed_decimal z)
from_found text true z is e =
    let m = bind_some (number_of (drop 1 text)) below_zero z e in
    let n = number_found (drop 1 text) m.0 m.1 in
    let f = below_found m.0 z m.2 n.0 in
    (f.0, with_first text 45 (omega arith) (is refl) ∙ ap (λ x. 45 ∷ x) n.1 ∙ f.1)
from_found text false z is e =
    let m = bind_some (number_of text) (λ n. Some (pos n)) z e in
    let n = number_found text m.0 m.1 in
    subst (λ (y : ℤ). (unsigned_abs y < 2 ^ 53) × (text ≡ signed_decimal y)) (some_is (pos m.0) z m.2) (n.0, n.1)

pub signed_found : (text : List ℕ) (z : ℤ) → signed_of text ≡ Some z → (unsigned_abs z < 2 ^ 53) × (text ≡ signed_decimal z)
unfolding signed_of
signed_found text z e = from_found text (eqb (get_or text 0 0) 45) z (eqb-true (get_or text 0 0) 45) e

pub signed_again : (z : ℤ) → unsigned_abs z < 2 ^ 53 → signed_of (signed_decimal z) ≡ Some z
unfolding signed_of
signed_again (pos n) lt =
    rw (ne_eqb (get_or (decimal n) 0 0) 45 (decimal_lacks 45 n lt (omega arith) refl 0), number_again n lt) refl
signed_again (negsuc n) lt = rw (number_again (suc n) lt) refl

pub signed_is_found : (text : List ℕ) (o : Option ℤ) → o ≡ signed_of text → IfSome o (λ z. (unsigned_abs z < 2 ^ 53) × (text ≡ signed_decimal z))
signed_is_found text (Some z) e = signed_found text z (sym e)
signed_is_found text None e = tt
