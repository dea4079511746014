-- The one spelling of numbers, decimals and stamps, and which of them have one. Protocol: spellings.
use Rattle.std.specs.Prelude.{◌≡◌, ℕ, ◌+◌, ◌/◌, ◌%◌, ◌^◌, ◌<◌, ◌≤◌, ◌==◌, zero, suc, true, ℤ, unsigned_abs, List, [], ◌∷◌, ◌++◌, if◌then◌else◌}
use Rattle.std.specs.Fmt.{decimal}
use Rattle.dubp_atoms.specs.Letters.{is_hash}
use Rattle.dubp_atoms.specs.declared.dec.Dec.{Dec}
use Rattle.dubp_atoms.specs.declared.stamp.Stamp.{Stamp}

-- NUM: its text is std's `decimal`, the digits without a needless 0
abbrev pub IsNumber : ℕ → Type 0
IsNumber n = n < 2 ^ 53

-- SNUM: its text is std's `signed_decimal`, with `-` before the digits of a number below 0
abbrev pub IsSigned : ℤ → Type 0
IsSigned z = unsigned_abs z < 2 ^ 53

-- the last digits of a number, with zeros before them where it has fewer
abbrev pub last_digits : ℕ → ℕ → List ℕ
last_digits zero n = []
last_digits (suc k) n = (48 + n / 10 ^ k % 10) ∷ last_digits k n

-- DEC: the whole part, and behind a point the places, where there are some
abbrev pub dec_text : Dec → List ℕ
dec_text d =
    if d.places == 0
    then decimal d.mantissa
    else decimal (d.mantissa / 10 ^ d.places) ++ 46 ∷ last_digits d.places d.mantissa

pub record IsDec (d : Dec) : Type 0 where
  pub mantissa : d.mantissa < 2 ^ 53
  pub places : d.places ≤ 9

-- STAMP: NUM, `-`, HASH
abbrev pub stamp_text : Stamp → List ℕ
stamp_text s = decimal s.number ++ 45 ∷ s.hash

pub record IsStamp (s : Stamp) : Type 0 where
  pub number : s.number < 2 ^ 53
  pub hash : is_hash s.hash ≡ true
