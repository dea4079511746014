-- Which keys a block makes members, and which it takes away, for the functions that count them. Protocol: people.
use Rattle.std.specs.Prelude.{Bool, not, ◌&&◌}
use Rattle.dubp_atoms.specs.Same.{Text}
use Rattle.dubp_chain.specs.Chains.{Chain}
use Rattle.dubp_chain.specs.Members.{member}

unfoldable pub is_old_member : Chain → Text → Bool
is_old_member c k = member c k

-- not a member, and not among those that are excluded
unfoldable pub is_new_member : Chain → (Text → Bool) → Text → Bool
is_new_member c out k = not (out k) && not (member c k)
