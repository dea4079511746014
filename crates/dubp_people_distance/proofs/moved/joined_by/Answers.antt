use Rattle.std.proofs.Common.{◌∙◌, ◌||◌, ap}
use Rattle.std.specs.List.{list_any}
use Rattle.std.specs.BTreeMap.{is_at}
use Rattle.dubp_iindex.specs.Rows.{texts}
use Rattle.dubp_people_distance.specs.Moved.{is_joining}
use Rattle.dubp_people_distance.proofs.Sets.{joiners_joined}
use Rattle.dubp_people_distance.proofs.moved.joined_by.Goals as goal

pub returns : goal.returns
returns g c = λ chain shown k.
    c.in_ok-put_joined.ensures chain c.args.block.now shown k
    ∙ ap (λ ks. list_any (is_at (texts k)) ks || list_any (is_joining chain c.args.block.now k) c.as_slice.result.now) c.new-set.ensures.empty
    ∙ ap (list_any (is_joining chain c.args.block.now k)) c.as_slice.ensures ∙ joiners_joined chain c.args.block.now k
