use Rattle.std.proofs.Common.{◌∙◌}
use Rattle.dubp_chain.specs.Live.{live_pairs}
use Rattle.dubp_chain.specs.Members.{members}
use Rattle.dubp_people_views.proofs.Nearness.{distance_told}
use Rattle.dubp_people_views.proofs.distances.measured.Goals as goal

pub returns : goal.returns
returns g c = λ chain shown is few.
    let keys = members chain in
    let pairs = live_pairs chain in
    distance_told chain c.args.key c.args.params.now c.in-Some.least c.count_members.result c.as_slice.result.now
    (record { reached = c.in_ok-reached.reached; sentries = c.in_ok-reached.count; passes = c.is_near.result })
    is (c.count_members.ensures.count keys pairs shown) c.in-Some.ensures
    (c.as_slice.ensures.value ∙ c.in_ok-found.ensures keys pairs shown (c.count_members.ensures.in_order keys pairs shown))
    (c.in_ok-reached.ensures.reached keys pairs shown) c.in_ok-reached.ensures.count c.is_near.ensures
