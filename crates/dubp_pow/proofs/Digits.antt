-- The digits of a hash.
use Rattle.std.proofs.Common.{◌≡◌, ℕ, ◌<◌, List, length, get_or, true, arith}
use Rattle.std.proofs.lemmas.Bool.Decides.{nat_tests}
use Rattle.std.proofs.lemmas.List.Sums.{AllPass-from_list_all}
use Rattle.std.specs.List.{list_all}
use Rattle.dubp_params.specs.OfAtoms.{is_hash, is_upper_hex}

pub length-hash : (t : List ℕ) → is_hash t ≡ true → length t ≡ 64
unfolding is_hash
length-hash t valid = grind (arith, nat_tests)

pub hash_digit : (t : List ℕ) → is_hash t ≡ true → (i d : ℕ) → i < length t → is_upper_hex (get_or t i d) ≡ true
unfolding is_hash
hash_digit t valid i d in_text =
    let all : list_all is_upper_hex t ≡ true = grind (arith, nat_tests) in
    AllPass-from_list_all is_upper_hex t all i d in_text
