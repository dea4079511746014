-- The text of a SHA-256 value. Protocol: spellings.
use Rattle.std.specs.Prelude.{ℕ, List, map}
use Rattle.std.specs.Char.{to_ascii_uppercase}
use Rattle.hex.specs.Hex.{encode_lower}
use Rattle.sha2.specs.Sha256.{sha256}

-- the bytes of a digest in upper-case hexadecimal
abbrev pub digest_text : List ℕ → List ℕ
digest_text digest = map to_ascii_uppercase (encode_lower digest)

-- the SHA-256 of a message, as a text
abbrev pub hash_of : List ℕ → List ℕ
hash_of message = digest_text (sha256 message)
