use Rattle.std.proofs.Common.{◌≡◌, take}
use Rattle.std.specs.List.{list_any}
use Rattle.dubp_atoms.specs.Same.{Text, same_text}
use Rattle.dubp_chain.specs.Members.{is_of}
use Rattle.dubp_people_views.proofs.members.joined_keys.Given as goal

abbrev pub invariant-loop-line : goal.invariant-loop-line
invariant-loop-line l = (k : Text) → list_any (same_text k) l.set.keys ≡ list_any (is_of k) (take l.line-index l.lines)
