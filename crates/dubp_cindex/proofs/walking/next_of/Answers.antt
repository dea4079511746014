use Rattle.std.proofs.Common.{ap, subst}
use Rattle.dubp_cindex.specs.Following.{Follows}
use Rattle.dubp_cindex.proofs.walking.next_of.Goals as goal

pub returns : goal.returns
returns g c =
    subst (λ m. Follows m c.args.owner.now c.args.after.now c.next_in.result) (ap (λ w. w.map) c.walk_from-walk.ensures)
    (c.next_in.ensures.follows c.args.after.now (ap (λ w. w.from) c.walk_from-walk.ensures))
