-- How long the texts of the atoms are.
use Rattle.std.proofs.Common.{◌≡◌, ℕ, ◌≤◌, true, List, length, arith}
use Rattle.std.proofs.lemmas.Bool.Decides.{nat_tests}
use Rattle.dubp_atoms.specs.Letters.{is_key, is_hash, is_sig, is_uid, is_currency}

pub key_fits : (t : List ℕ) → is_key t ≡ true → length t ≤ 44
unfolding is_key
key_fits t h = grind (arith, nat_tests)

pub hash_fits : (t : List ℕ) → is_hash t ≡ true → length t ≤ 64
unfolding is_hash
hash_fits t h = grind (arith, nat_tests)

pub sig_fits : (t : List ℕ) → is_sig t ≡ true → length t ≤ 88
unfolding is_sig
sig_fits t h = grind (arith, nat_tests)

pub uid_fits : (t : List ℕ) → is_uid t ≡ true → length t ≤ 100
unfolding is_uid
uid_fits t h = grind (arith, nat_tests)

pub currency_fits : (t : List ℕ) → is_currency t ≡ true → length t ≤ 50
unfolding is_currency
currency_fits t h = grind (arith, nat_tests)
