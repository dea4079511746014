-- The next variation as the code computes it.
use Rattle.std.proofs.Common.{◌≡◌, zero, suc, ℤ, pos, negsuc, neg_ℤ, ◌+ℤ◌, ◌-ℤ◌, arith, refl, to_z, of_z, SFits, w64}
use Rattle.std.proofs.lemmas.Int.{ints, to_z-of_z}
use Rattle.std.specs.Int.{int_signum}
use Rattle.dubp_pow.specs.Frames.{return_of}

-- what brings a variation nearer to 0 is its sign turned
return_of-signum : (z : ℤ) → return_of z ≡ neg_ℤ (int_signum z)
return_of-signum (pos zero) = refl
return_of-signum (pos (suc n)) = omega (arith, ints)
return_of-signum (negsuc n) = refl

pub moved_and_nearer : (var moved sign : ℤ) → SFits w64 var → SFits w64 moved → SFits w64 sign → SFits w64 (var +ℤ moved) → SFits w64 ((var +ℤ moved) -ℤ sign)
    → sign ≡ int_signum (to_z w64 (of_z w64 var))
    → to_z w64 (of_z w64 (to_z w64 (of_z w64 (to_z w64 (of_z w64 var) +ℤ to_z w64 (of_z w64 moved))) -ℤ to_z w64 (of_z w64 sign))) ≡ (var +ℤ moved) +ℤ return_of var
moved_and_nearer var moved sign fits_var fits_moved fits_sign fits_sum fits_all is_sign =
    let turned = return_of-signum var in
    let is_sign' = simp to_z-of_z at is_sign in
    simp to_z-of_z (omega (arith, ints, turned, is_sign'))
