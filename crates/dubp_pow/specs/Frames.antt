-- The frame of blocks over which issuers are counted, and its variation. Protocol: frames.
use Rattle.std.specs.Prelude.{ℕ, zero, suc, ◌+◌, ◌-◌, max, ℤ, pos, negsuc, ◌+ℤ◌, ◌-ℤ◌, ◌*ℤ◌}

-- one wider where the variation is positive, one narrower where it is negative, never below 1
abbrev pub next_frame_of : ℕ → ℤ → ℕ
next_frame_of frame (pos zero) = frame
next_frame_of frame (pos (suc n)) = frame + 1
next_frame_of frame (negsuc n) = max 1 (frame - 1)

-- what brings a variation nearer to 0: −1 where it is positive, 1 where it is negative
abbrev pub return_of : ℤ → ℤ
return_of (pos zero) = pos 0
return_of (pos (suc n)) = negsuc 0
return_of (negsuc n) = pos 1

-- five for each issuer that there is more than before, and one nearer to 0
abbrev pub next_var_of : ℤ → ℕ → ℕ → ℤ
next_var_of var before after = (var +ℤ (pos 5 *ℤ (pos after -ℤ pos before))) +ℤ return_of var
