use Rattle.std.proofs.Common.{refl}
use Rattle.dubp_people_views.proofs.Nearness.{distance_found, sound_searchable}
use Rattle.dubp_people_views.proofs.distances.distance.Goals as goal

pub returns : goal.returns
returns c = λ chain at sound.
    let known = c.in-Some.ensures chain at in
    distance_found chain c.args.key c.in_ok-found.found known.0 (c.in_ok-found.ensures chain (chain, (at, (sound, (refl, refl)))) known.1 (sound_searchable chain sound))
