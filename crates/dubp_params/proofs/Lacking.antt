-- Which bytes the text of a decimal lacks.
use Rattle.std.proofs.Common.{◌≡◌, ◌≢◌, ℕ, zero, suc, ◌+◌, ◌/◌, ◌%◌, ◌^◌, ◌<◌, Bool, true, false, ◌∷◌, eqb, refl, arith, decimal}
use Rattle.std.specs.Char.{is_ascii_digit}
use Rattle.std.proofs.Math.Nat.{div-le_self}
use Rattle.std.proofs.lemmas.Bool.Decides.{nat_tests}
use Rattle.dubp_atoms.specs.Reading.{Lacks}
use Rattle.dubp_atoms.specs.Spelling.{IsDec, dec_text, last_digits}
use Rattle.dubp_atoms.specs.declared.dec.Dec.{Dec}
use Rattle.dubp_atoms.proofs.Fields.{Lacks-append, Lacks-cons}
use Rattle.dubp_atoms.proofs.Stamps.{IsApart, number_lacks}

-- a byte that is no digit
record IsNoDigit (b : ℕ) : Type 0 where
  apart : (d : ℕ) → d < 10 → 48 + d ≢ b

no_digit : (b : ℕ) → is_ascii_digit b ≡ false → IsNoDigit b
no_digit b h = record { apart = λ d lt e. apart_at b d h lt e }
  where
    apart_at : (b d : ℕ) → is_ascii_digit b ≡ false → d < 10 → 48 + d ≡ b → ⊥
    apart_at b d h lt e = grind (arith, nat_tests)

last_lacks : (b k n : ℕ) → 0 < b → IsNoDigit b → Lacks b (last_digits k n)
last_lacks b zero n some apart j = λ e. omega arith
last_lacks b (suc k) n some apart j = Lacks-cons b (48 + n / 10 ^ k % 10) (last_digits k n) (apart.apart (n / 10 ^ k % 10) (omega arith)) (last_lacks b k n some apart) j

by_places : (b : ℕ) → IsApart b → 46 ≢ b → (d : Dec) → IsDec d → (t : Bool) → eqb d.places 0 ≡ t → Lacks b (dec_text d)
by_places b apart point d is true e = rw e (number_lacks b apart d.mantissa is.mantissa)
by_places b apart point d is false e =
    let small : d.mantissa / 10 ^ d.places < 2 ^ 53 = omega (arith, is.mantissa, div-le_self d.mantissa (10 ^ d.places)) in
    rw e (Lacks-append b (decimal (d.mantissa / 10 ^ d.places)) (46 ∷ last_digits d.places d.mantissa) (number_lacks b apart (d.mantissa / 10 ^ d.places) small) (Lacks-cons b 46 (last_digits d.places d.mantissa) point (last_lacks b d.places d.mantissa apart.some (no_digit b apart.digit))))

pub dec_lacks_by : (b : ℕ) → IsApart b → 46 ≢ b → (d : Dec) → IsDec d → Lacks b (dec_text d)
dec_lacks_by b apart point d is = by_places b apart point d is (eqb d.places 0) refl
