use Rattle.std.proofs.Common.{◌≡◌, take}
use Rattle.std.specs.List.{list_any}
use Rattle.dubp_atoms.specs.Same.{Text}
use Rattle.dubp_people_after.specs.Keys.{is_between}
use Rattle.dubp_people_after.specs.Partners.{is_partner}
use Rattle.dubp_people_after.proofs.partners.put_partners.Given as goal

abbrev pub invariant-loop-line : goal.invariant-loop-line
invariant-loop-line l = (x y : Text) → is_partner l.map x y ≡ list_any (is_between x y) (take l.line-index l.lines)
