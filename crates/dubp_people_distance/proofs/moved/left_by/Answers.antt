use Rattle.std.proofs.Common.{◌∙◌, ◌||◌, ap}
use Rattle.std.specs.List.{list_any}
use Rattle.dubp_atoms.specs.Same.{same_text}
use Rattle.dubp_people_distance.specs.Moved.{is_leaving}
use Rattle.dubp_people_distance.proofs.Sets.{excluded_left}
use Rattle.dubp_people_distance.proofs.moved.left_by.Goals as goal

pub returns : goal.returns
returns g c = λ chain shown k.
    c.in_ok-put_left.ensures chain c.args.block.now shown k
    ∙ ap (λ ks. list_any (same_text k) ks || list_any (is_leaving chain c.args.block.now k) c.as_slice.result.now) c.with_hasher-set.ensures.empty
    ∙ ap (list_any (is_leaving chain c.args.block.now k)) c.as_slice.ensures ∙ excluded_left chain c.args.block.now k
