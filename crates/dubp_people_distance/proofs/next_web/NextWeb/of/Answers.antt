use Rattle.std.proofs.Common.{refl}
use Rattle.dubp_people_distance.proofs.next_web.NextWeb.of.Goals as goal

pub count_with-count-requires : goal.count_with-count-requires
count_with-count-requires g c =
    let few = c.requires.few in
    record { few = (few.0, c.args.block.now, (few.1.0, (c.in_ok-joined.ensures few.0 few.1.0, (c.in_ok-left.ensures few.0 few.1.0, few.1.1)))) }

pub returns : goal.returns
returns g c = λ chain shown.
    let b = c.args.block.now in
    let joined = c.in_ok-joined.ensures chain shown in
    let left = c.in_ok-left.ensures chain shown in (
      chain,
      b,
      (
        shown,
        (
          record {
            joined = joined;
            left = left;
            counted = c.count_with-count.ensures chain b shown joined left;
            certified = c.in_ok-changed.ensures.certified chain shown;
            kept = c.in_ok-changed.ensures.kept chain shown;
          },
          record { keys_are = refl; pairs_are = refl },
        ),
      ),
    )
