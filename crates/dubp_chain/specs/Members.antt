-- Who is a member of a chain. Protocol: people.
use Rattle.std.specs.Prelude.{Bool, true, false, List, [], ◌∷◌, filter, map, if◌then◌else◌}
use Rattle.std.specs.List.{list_any, flat_map}
use Rattle.dubp_time.specs.OfAtoms.{Text, same_text}
use Rattle.dubp_block.specs.declared.block.MemberLine.{MemberLine}
use Rattle.dubp_chain.specs.Words.{names, in_order}
use Rattle.dubp_chain.specs.Chains.{Chain}

-- a line of k
abbrev pub is_of : Text → MemberLine → Bool
is_of k line = same_text k line.key

-- the last line of Joiners or Excluded that names k is one of Joiners; in one block Excluded comes last
abbrev pub member : Chain → Text → Bool
member [] k = false
member (b ∷ c) k = if names b.excluded k then false else if list_any (is_of k) b.joiners then true else member c k

-- the keys of all lines of Joiners
abbrev pub joined_keys : Chain → List Text
joined_keys c = flat_map (λ b. map (λ line. line.key) b.joiners) c

-- the members, by key
abbrev pub members : Chain → List Text
members c = filter (member c) (in_order (joined_keys c))
