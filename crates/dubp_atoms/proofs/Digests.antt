-- The text of a digest is the text of a hash.
use Rattle.std.proofs.Common.{◌≡◌, ℕ, refl, zero, suc, ◌*◌, ◌/◌, ◌%◌, ◌<◌, true, List, [], ◌∷◌, length, get_or, arith, slice_index}
use Rattle.std.specs.Char.{to_ascii_uppercase}
use Rattle.std.specs.List.{list_all}
use Rattle.hex.specs.Hex.{lower_digits, encode_with}
use Rattle.dubp_atoms.specs.Letters.{is_upper_hex, is_hash}
use Rattle.dubp_atoms.specs.Hashing.{digest_text}

-- one digit, by going through the sixteen
digit : (k : ℕ) → k < 16 → is_upper_hex (to_ascii_uppercase (slice_index lower_digits k)) ≡ true
digit zero h = refl
digit (suc zero) h = refl
digit (suc (suc zero)) h = refl
digit (suc (suc (suc zero))) h = refl
digit (suc (suc (suc (suc zero)))) h = refl
digit (suc (suc (suc (suc (suc zero))))) h = refl
digit (suc (suc (suc (suc (suc (suc zero)))))) h = refl
digit (suc (suc (suc (suc (suc (suc (suc zero))))))) h = refl
digit (suc (suc (suc (suc (suc (suc (suc (suc zero)))))))) h = refl
digit (suc (suc (suc (suc (suc (suc (suc (suc (suc zero))))))))) h = refl
digit (suc (suc (suc (suc (suc (suc (suc (suc (suc (suc zero)))))))))) h = refl
digit (suc (suc (suc (suc (suc (suc (suc (suc (suc (suc (suc zero))))))))))) h = refl
digit (suc (suc (suc (suc (suc (suc (suc (suc (suc (suc (suc (suc zero)))))))))))) h = refl
digit (suc (suc (suc (suc (suc (suc (suc (suc (suc (suc (suc (suc (suc zero))))))))))))) h = refl
digit (suc (suc (suc (suc (suc (suc (suc (suc (suc (suc (suc (suc (suc (suc zero)))))))))))))) h = refl
digit (suc (suc (suc (suc (suc (suc (suc (suc (suc (suc (suc (suc (suc (suc (suc zero))))))))))))))) h = refl
digit (suc (suc (suc (suc (suc (suc (suc (suc (suc (suc (suc (suc (suc (suc (suc (suc n)))))))))))))))) h = absurd (omega arith)

abbrev Bytes : List ℕ → Type 0
Bytes [] = Unit {0}
Bytes (b ∷ bs) = (b < 256) × Bytes bs

bytes_of : (bs : List ℕ) → ((i : ℕ) → get_or bs i 0 < 256) → Bytes bs
bytes_of [] h = tt
bytes_of (b ∷ bs) h = (h 0, bytes_of bs (λ i. h (suc i)))

digits : (bs : List ℕ) → Bytes bs → list_all is_upper_hex (digest_text bs) ≡ true
unfolding encode_with
digits [] h = refl
digits (b ∷ bs) h =
    rw (digit (b / 16) (omega (arith, h.0)), digit (b % 16) (omega arith)) (digits bs h.1)

long : (bs : List ℕ) → length (digest_text bs) ≡ 2 * length bs
unfolding encode_with
long [] = refl
long (b ∷ bs) = omega (arith, long bs)

pub digest_is_hash : (bs : List ℕ) → ((i : ℕ) → get_or bs i 0 < 256) → length bs ≡ 32 → is_hash (digest_text bs) ≡ true
unfolding is_hash
digest_is_hash bs h n = rw (long bs, n, digits bs (bytes_of bs h)) refl
