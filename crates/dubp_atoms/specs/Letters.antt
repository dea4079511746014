-- The bytes that part texts, and which texts are keys, hashes, signatures and names. Protocol: spellings.
use Rattle.std.specs.Prelude.{ℕ, Bool, ◌&&◌, ◌||◌, ◌==◌, List, length, take, slice_index, nat_le}
use Rattle.std.specs.List.{list_all}

-- the byte behind a line, the byte between the fields of a line, and the byte between words
abbrev pub LF : ℕ
LF = 10

abbrev pub COLON : ℕ
COLON = 58

abbrev pub SPACE : ℕ
SPACE = 32

abbrev pub is_between : ℕ → ℕ → ℕ → Bool
is_between low high c = nat_le low c && nat_le c high

-- 1-9 A-H J-N P-Z a-k m-z
abbrev pub is_base58 : ℕ → Bool
is_base58 c = is_between 49 57 c || is_between 65 72 c || is_between 74 78 c || is_between 80 90 c || is_between 97 107 c || is_between 109 122 c

-- 0-9 A-F
abbrev pub is_upper_hex : ℕ → Bool
is_upper_hex c = is_between 48 57 c || is_between 65 70 c

-- 0-9 A-Z a-z + /
abbrev pub is_base64 : ℕ → Bool
is_base64 c = is_between 48 57 c || is_between 65 90 c || is_between 97 122 c || c == 43 || c == 47

-- 0-9 A-Z a-z _ -
abbrev pub is_name : ℕ → Bool
is_name c = is_between 48 57 c || is_between 65 90 c || is_between 97 122 c || c == 95 || c == 45

-- 0-9 A-Z a-z _ space -
abbrev pub is_currency_letter : ℕ → Bool
is_currency_letter c = is_between 48 57 c || is_between 65 90 c || is_between 97 122 c || c == 95 || c == 32 || c == 45

-- KEY: 43 or 44 characters of Base58
unfoldable pub is_key : List ℕ → Bool
is_key text = is_between 43 44 (length text) && list_all is_base58 text

-- HASH: 64 hexadecimal digits in upper case
unfoldable pub is_hash : List ℕ → Bool
is_hash text = length text == 64 && list_all is_upper_hex text

-- UID: 2 to 100 letters, digits, `_` and `-`
unfoldable pub is_uid : List ℕ → Bool
is_uid text = is_between 2 100 (length text) && list_all is_name text

-- CURRENCY: 2 to 50 letters, digits, `_`, space and `-`
unfoldable pub is_currency : List ℕ → Bool
is_currency text = is_between 2 50 (length text) && list_all is_currency_letter text

-- SIG: 86 characters of Base64, then `==`
unfoldable pub is_sig : List ℕ → Bool
is_sig text = length text == 88 && list_all is_base64 (take 86 text) && slice_index text 86 == 61 && slice_index text 87 == 61
