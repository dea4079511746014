use Rattle.std.specs.BTreeSet.{contains}
use Rattle.dubp_iindex.specs.Rows.{texts}
use Rattle.dubp_people_distance.specs.Moved.{stays}
use Rattle.dubp_people_distance.proofs.Made.{next_member_made}
use Rattle.dubp_people_distance.proofs.next_web.NextWebWeb.next_member.Goals as goal

pub returns : goal.returns
returns g c = λ keys pairs shown.
    next_member_made shown.0 shown.1 _ _ _ _ shown.2.1.0 keys pairs shown.2.1.1 c.args.after c.lesser.result
    (c.lesser.ensures (stays shown.0 shown.1) (contains texts c.args.self.now.joined) c.args.after (c.next_staying-staying.ensures shown.0 shown.1 shown.2.0 shown.2.1.0.left) c.next_above-joining.ensures)
