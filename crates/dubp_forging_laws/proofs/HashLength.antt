-- A hash has as many characters as another.
use Rattle.std.proofs.Common.{◌≡◌, ℕ, ◌*◌, List, [], ◌∷◌, length, refl, sym, ap, ◌∙◌, arith}
use Rattle.hex.specs.Hex.{encode_with}
use Rattle.sha2.proofs.Facts256.{length-sha256}
use Rattle.sha2.specs.Sha256.{sha256}
use Rattle.dubp_atoms.specs.Hashing.{digest_text, hash_of}

doubled : (bs : List ℕ) → length (digest_text bs) ≡ 2 * length bs
unfolding encode_with
doubled [] = refl
doubled (b ∷ bs) = omega (arith, doubled bs)

pub hash_length : (m : List ℕ) → length (hash_of m) ≡ 64
hash_length m = doubled (sha256 m) ∙ ap (λ n. 2 * n) (length-sha256 m)
