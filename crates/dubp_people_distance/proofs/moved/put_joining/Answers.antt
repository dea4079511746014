use Rattle.std.proofs.Common.{◌∙◌, sym}
use Rattle.dubp_people_distance.specs.Moved.{joins}
use Rattle.dubp_people_distance.proofs.Sets.{put_where, tree_put}
use Rattle.dubp_people_distance.proofs.moved.put_joining.Goals as goal

pub returns-in_ok-insert_key : goal.returns-in_ok-insert_key
returns-in_ok-insert_key g c = λ chain b shown k.
    put_where (joins chain b c.args.key) c.args.key k _ _ (sym (c.has_joined.ensures chain b shown) ∙ c.if-has_joined.true) (tree_put c.args.key k _ _ (c.in_ok-insert_key.ensures k))
