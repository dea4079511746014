-- The stand-in for a signature is the text of a signature.
use Rattle.std.proofs.Common.{◌≡◌, ℕ, zero, suc, true, List, [], ◌∷◌, ◌++◌, codes, length, take, refl, arith}
use Rattle.std.specs.List.{list_all}
use Rattle.std.proofs.lemmas.Bool.Decides.{nat_tests}
use Rattle.std.proofs.lemmas.List.{length-append, length-take-le, take_at, append_assoc, get_or-append_right}
use Rattle.std.proofs.lemmas.List.Folds.{list_all-append}
use Rattle.dubp_atoms.specs.Letters.{is_upper_hex, is_base64, is_hash, is_sig}
use Rattle.dubp_atoms.proofs.Numbers.{both}
use Rattle.dubp_pow.proofs.Digits.{length-hash}
use Rattle.dubp_drafts.specs.Sealing.{hash_as_signature}

hex_is_base64 : (c : ℕ) → is_upper_hex c ≡ true → is_base64 c ≡ true
hex_is_base64 c h = grind (arith, nat_tests)

all_base64 : (digits : List ℕ) → list_all is_upper_hex digits ≡ true → list_all is_base64 digits ≡ true
all_base64 [] h = refl
all_base64 (c ∷ cs) h =
    let digits = both (is_upper_hex c) (list_all is_upper_hex cs) h in
    rw (hex_is_base64 c digits.0) (all_base64 cs digits.1)

front_is_base64 : (n : ℕ) (text : List ℕ) → list_all is_base64 text ≡ true → list_all is_base64 (take n text) ≡ true
front_is_base64 zero text h = refl
front_is_base64 (suc n) [] h = refl
front_is_base64 (suc n) (c ∷ cs) h =
    let rest = both (is_base64 c) (list_all is_base64 cs) h in
    rw rest.0 (front_is_base64 n cs rest.1)

hash_letters : (hash : List ℕ) → is_hash hash ≡ true → list_all is_upper_hex hash ≡ true
unfolding is_hash
hash_letters hash h = grind (arith, nat_tests)

-- 86 letters and `==`
closed_is_sig : (letters : List ℕ) → length letters ≡ 86 → list_all is_base64 letters ≡ true → is_sig (letters ++ codes "==") ≡ true
unfolding is_sig
closed_is_sig letters long all =
    let size : length (letters ++ codes "==") ≡ 88 = omega (arith, length-append letters (codes "==")) in
    let front = take_at letters (codes "==") 86 long in
    let first = get_or-append_right letters (codes "==") 86 86 0 long (omega arith) in
    let second = get_or-append_right letters (codes "==") 86 87 0 long (omega arith) in
    rw (size, front, all, first, second) refl

pub signature_is_sig : (hash : List ℕ) → is_hash hash ≡ true → is_sig (hash_as_signature hash) ≡ true
signature_is_sig hash h =
    let letters = all_base64 hash (hash_letters hash h) in
    let again : length (take 22 hash) ≡ 22 = length-take-le 22 hash (omega (arith, length-hash hash h)) in
    let long : length (hash ++ take 22 hash) ≡ 86 = omega (arith, length-append hash (take 22 hash), length-hash hash h) in
    let all : list_all is_base64 (hash ++ take 22 hash) ≡ true = rw (list_all-append is_base64 hash (take 22 hash), letters, front_is_base64 22 hash letters) refl in
    rw (← append_assoc) (closed_is_sig (hash ++ take 22 hash) long all)
