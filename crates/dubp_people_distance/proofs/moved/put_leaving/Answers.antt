use Rattle.std.proofs.Common.{◌∙◌, sym}
use Rattle.dubp_people_distance.specs.Moved.{leaves}
use Rattle.dubp_people_distance.proofs.Sets.{put_where, table_put}
use Rattle.dubp_people_distance.proofs.moved.put_leaving.Goals as goal

pub returns-in_ok-insert : goal.returns-in_ok-insert
returns-in_ok-insert g c = λ chain b shown k.
    put_where (leaves chain b c.args.key.now) c.args.key.now k _ _ (sym (c.has_left.ensures chain b shown) ∙ c.if-has_left.true) (table_put c.args.key.now k _ _ (c.in_ok-insert.ensures.has k))
