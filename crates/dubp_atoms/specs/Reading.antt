-- How the code reads atoms: what each text is read as. The laws that join it to the spelling stand in the contracts of `read`.
use Rattle.std.specs.Prelude.{◌≢◌, ℕ, ◌+◌, ◌-◌, ◌*◌, ◌^◌, ℤ, pos, negsuc, zero, suc, Bool, ◌&&◌, ◌||◌, not, true, false, ◌==◌, nat_lt, nat_le, List, [], ◌∷◌, length, slice_index, get_or, take, drop, position, Option, Some, None, option_and_then, option_map, if◌then◌else◌}
use Rattle.std.specs.Char.{is_ascii_digit}
use Rattle.dubp_atoms.specs.Letters.{is_hash}
use Rattle.dubp_atoms.specs.declared.dec.Dec.{Dec}
use Rattle.dubp_atoms.specs.declared.stamp.Stamp.{Stamp}

infixl 10 ◌>>=◌
abbrev pub ◌>>=◌ : {A B : Type 0} → Option A → (A → Option B) → Option B
o >>= f = option_and_then f o

-- the text, where it passes
abbrev pub text_if : (List ℕ → Bool) → List ℕ → Option (List ℕ)
text_if test text = if test text then Some text else None

-- the byte is nowhere in the text (nor is it the 0 past its end)
abbrev pub Lacks : ℕ → List ℕ → Type 0
Lacks byte text = (k : ℕ) → get_or text k 0 ≢ byte

-- what is before the first such byte, and what is after it
abbrev pub cut_at : ℕ → List ℕ → Option (List ℕ × List ℕ)
cut_at byte text = option_map (λ i. (take i text, drop (i + 1) text)) (position (λ c. c == byte) text)

-- digits read after the number so far
abbrev pub digits_from : ℕ → List ℕ → Option ℕ
digits_from n [] = Some n
digits_from n (c ∷ cs) = if is_ascii_digit c then digits_from (n * 10 + (c - 48)) cs else None

-- at least one digit, at most 16, and no needless 0 before them
abbrev pub is_plain : List ℕ → Bool
is_plain text = nat_le 1 (length text) && nat_le (length text) 16 && (not (slice_index text 0 == 48) || length text == 1)

unfoldable pub number_of : List ℕ → Option ℕ
number_of text =
    if is_plain text
    then digits_from 0 text >>= (λ n. if nat_lt n (2 ^ 53) then Some n else None)
    else None

-- the number below 0 of this size; there is no -0
abbrev pub below_zero : ℕ → Option ℤ
below_zero zero = None
below_zero (suc n) = Some (negsuc n)

-- a text whose first byte is `-`, or another
abbrev pub signed_from : List ℕ → Bool → Option ℤ
signed_from text true = number_of (drop 1 text) >>= below_zero
signed_from text false = number_of text >>= (λ n. Some (pos n))

unfoldable pub signed_of : List ℕ → Option ℤ
signed_of text = signed_from text (slice_index text 0 == 45)

-- a field up to its separator, and what is read after it
abbrev pub field : {A V : Type 0} → ℕ → (List ℕ → Option A) → List ℕ → (A → List ℕ → Option V) → Option V
field byte read text rest = cut_at byte text >>= (λ p. read p.0 >>= (λ a. rest a p.1))

-- one to nine digits after the whole part
unfoldable pub places_of : ℕ → List ℕ → Option Dec
places_of whole text =
    if nat_le 1 (length text) && nat_le (length text) 9
    then digits_from whole text >>= (λ n. if nat_lt n (2 ^ 53) then Some (record { mantissa = n; places = length text }) else None)
    else None

abbrev pub dec_from : List ℕ → Option (List ℕ × List ℕ) → Option Dec
dec_from text None = number_of text >>= (λ n. Some (record { mantissa = n; places = 0 }))
dec_from text (Some p) = number_of p.0 >>= (λ whole. places_of whole p.1)

unfoldable pub dec_of : List ℕ → Option Dec
dec_of text = dec_from text (cut_at 46 text)

unfoldable pub stamp_of : List ℕ → Option Stamp
stamp_of text =
    field 45 number_of text (λ number rest.
    text_if is_hash rest >>= (λ hash.
    Some (record { number = number; hash = hash })))
