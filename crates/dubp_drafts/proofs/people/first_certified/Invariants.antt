use Rattle.std.proofs.Common.{◌≡◌, take}
use Rattle.std.specs.List.{flat_map}
use Rattle.dubp_drafts.specs.Drafting.{by_all_others}
use Rattle.dubp_drafts.proofs.people.first_certified.Given as goal

abbrev pub invariant-loop-person : goal.invariant-loop-person
invariant-loop-person l = l.pairs.items ≡ flat_map by_all_others (take l.person-index l.person-items)
