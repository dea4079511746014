use Rattle.dubp_people_distance.proofs.Made.{is_member_made}
use Rattle.dubp_people_distance.proofs.next_web.NextWebWeb.is_member.Goals as goal

pub returns : goal.returns
returns g c = λ keys pairs shown.
    is_member_made shown.0 shown.1 _ _ _ _ shown.2.1.0 keys pairs shown.2.1.1 c.args.key.now c.is_member.result (c.is_member.ensures shown.0 shown.1 shown.2.0)
