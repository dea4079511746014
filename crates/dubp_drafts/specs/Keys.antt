-- The key and the name of each number. Protocol: the generator.
use Rattle.std.specs.Prelude.{ℕ, ◌/◌, ◌%◌, List, [], ◌∷◌, ◌++◌, codes, replicate, slice_index}
use Rattle.std.specs.Fmt.{decimal}

-- the digits of Base58, from that of 0 on
abbrev pub alphabet : List ℕ
alphabet = codes "123456789ABCDEFGHJKLMNPQRSTUVWXYZabcdefghijkmnopqrstuvwxyz"

abbrev pub base58_digit : ℕ → ℕ
base58_digit value = slice_index alphabet value

-- forty `1`, and the number as three digits of Base58, the greatest first
abbrev pub key_text : ℕ → List ℕ
key_text number =
    replicate 40 49 ++ base58_digit (number / 3364) ∷ base58_digit (number / 58 % 58) ∷ base58_digit (number % 58) ∷ []

-- `user` and the number
abbrev pub uid_text : ℕ → List ℕ
uid_text number = codes "user" ++ decimal number
