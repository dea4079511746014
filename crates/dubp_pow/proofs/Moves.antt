-- How far a frame and its variation move.
use Rattle.std.proofs.Common.{ℕ, ◌+◌, ◌≤◌, zero, suc, ℤ, pos, negsuc, ◌+ℤ◌, ◌-ℤ◌, ◌*ℤ◌, ◌≤ℤ◌, arith}
use Rattle.std.proofs.lemmas.Int.{ints}
use Rattle.dubp_pow.specs.Frames.{return_of, next_frame_of, next_var_of}

pub next_frame_of-least : (frame : ℕ) (var : ℤ) → 1 ≤ frame → 1 ≤ next_frame_of frame var
next_frame_of-least frame (pos zero) some = some
next_frame_of-least frame (pos (suc n)) some = omega arith
next_frame_of-least frame (negsuc n) some = omega arith

pub next_frame_of-most : (frame : ℕ) (var : ℤ) → 1 ≤ frame → next_frame_of frame var ≤ frame + 1
next_frame_of-most frame (pos zero) some = omega arith
next_frame_of-most frame (pos (suc n)) some = omega arith
next_frame_of-most frame (negsuc n) some = omega arith

return_of-least : (var : ℤ) → negsuc 0 ≤ℤ return_of var
return_of-least (pos zero) = omega (arith, ints)
return_of-least (pos (suc n)) = omega (arith, ints)
return_of-least (negsuc n) = omega (arith, ints)

return_of-most : (var : ℤ) → return_of var ≤ℤ pos 1
return_of-most (pos zero) = omega (arith, ints)
return_of-most (pos (suc n)) = omega (arith, ints)
return_of-most (negsuc n) = omega (arith, ints)

add-near : (moved nearer : ℤ) → negsuc 0 ≤ℤ nearer → moved ≤ℤ ((moved +ℤ nearer) +ℤ pos 1)
add-near moved nearer least = omega (arith, ints)

add-near_most : (moved nearer : ℤ) → nearer ≤ℤ pos 1 → (moved +ℤ nearer) ≤ℤ (moved +ℤ pos 1)
add-near_most moved nearer most = omega (arith, ints)

pub next_var_of-least : (var : ℤ) (before after : ℕ) → (var +ℤ (pos 5 *ℤ (pos after -ℤ pos before))) ≤ℤ (next_var_of var before after +ℤ pos 1)
next_var_of-least var before after = add-near (var +ℤ (pos 5 *ℤ (pos after -ℤ pos before))) (return_of var) (return_of-least var)

pub next_var_of-most : (var : ℤ) (before after : ℕ) → next_var_of var before after ≤ℤ ((var +ℤ (pos 5 *ℤ (pos after -ℤ pos before))) +ℤ pos 1)
next_var_of-most var before after = add-near_most (var +ℤ (pos 5 *ℤ (pos after -ℤ pos before))) (return_of var) (return_of-most var)
