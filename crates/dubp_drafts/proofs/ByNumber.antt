-- The texts of keys and names by number are those of a key and of a name.
use Rattle.std.proofs.Common.{◌≡◌, ℕ, ◌<◌, ◌^◌, true, List, [], ◌∷◌, ◌++◌, length, decimal, refl, arith}
use Rattle.std.specs.Prelude.{replicate}
use Rattle.std.specs.Char.{is_ascii_digit}
use Rattle.std.specs.Str.{all_ascii_digits}
use Rattle.std.specs.List.{list_all}
use Rattle.std.proofs.lemmas.Bool.Decides.{nat_tests}
use Rattle.std.proofs.lemmas.Fmt.{digits_decimal, length-decimal-le}
use Rattle.std.proofs.lemmas.List.Sums.{AllPass-from_list_all}
use Rattle.dubp_atoms.specs.Letters.{is_base58, is_name, is_key, is_uid}
use Rattle.dubp_atoms.proofs.Numbers.{own, both}
use Rattle.dubp_drafts.specs.Keys.{alphabet, base58_digit, uid_text}

pub digit_is_base58 : (value : ℕ) → value < 58 → is_base58 (base58_digit value) ≡ true
digit_is_base58 value small = AllPass-from_list_all is_base58 alphabet refl value 0 small

-- forty `1` and three digits of Base58
pub three_digits : (a b c : ℕ) → is_base58 a ≡ true → is_base58 b ≡ true → is_base58 c ≡ true → is_key (replicate 40 49 ++ a ∷ b ∷ c ∷ []) ≡ true
unfolding is_key
three_digits a b c p q r = rw (p, q, r) refl

digit_is_name : (c : ℕ) → is_ascii_digit c ≡ true → is_name c ≡ true
digit_is_name c h = grind (arith, nat_tests)

digits_are_names : (ds : List ℕ) → all_ascii_digits ds ≡ true → list_all is_name ds ≡ true
digits_are_names [] h = refl
digits_are_names (c ∷ cs) h =
    let digits = both (is_ascii_digit c) (all_ascii_digits cs) h in
    rw (digit_is_name c digits.0) (digits_are_names cs digits.1)

name_behind_four : (ds : List ℕ) → length ds < 90 → list_all is_name ds ≡ true → is_uid (117 ∷ 115 ∷ 101 ∷ 114 ∷ ds) ≡ true
unfolding is_uid
name_behind_four ds short all = grind (arith, nat_tests)

pub uid_text_is_uid : (number : ℕ) → number < 2 ^ 32 → is_uid (uid_text number) ≡ true
uid_text_is_uid number small =
    name_behind_four (decimal number) (omega (arith, length-decimal-le 10 number (omega arith) (omega arith) (omega arith)))
    (digits_are_names (decimal number) (digits_decimal own number (omega arith)))
