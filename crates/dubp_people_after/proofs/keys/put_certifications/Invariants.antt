use Rattle.std.proofs.Common.{◌≡◌, take}
use Rattle.indexmap.specs.IndexMap.{get}
use Rattle.dubp_atoms.specs.Same.{Text}
use Rattle.dubp_chain.specs.Words.{last_of}
use Rattle.dubp_registry.specs.OfSteps.{of_pair}
use Rattle.dubp_people_after.specs.Keys.{same_pair}
use Rattle.dubp_people_after.proofs.keys.put_certifications.Given as goal

abbrev pub invariant-loop-line : goal.invariant-loop-line
invariant-loop-line l = (x y : Text) → get same_pair l.map (x, y) ≡ last_of (of_pair x y) (take l.line-index l.lines)
