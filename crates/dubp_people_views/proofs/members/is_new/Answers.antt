use Rattle.std.proofs.Common.{not, ap, ◌∙◌}
use Rattle.indexmap.specs.IndexSet.{contains}
use Rattle.dubp_atoms.specs.Same.{same_text}
use Rattle.dubp_people_views.proofs.Counting.{new_told, out_told}
use Rattle.dubp_people_views.proofs.members.is_new.Goals as goal

pub returns-then-not-contains : goal.returns-then-not-contains
returns-then-not-contains c = λ chain at sound.
    new_told chain (contains same_text c.args.excluded.now) c.args.key c.contains.result c.contains.ensures c.if-not-contains.true c.is_member.result (c.is_member.ensures chain at sound)

pub returns-else-not-contains : goal.returns-else-not-contains
returns-else-not-contains c = λ chain at sound.
    ap not c.if-not-contains.false ∙ out_told chain (contains same_text c.args.excluded.now) c.args.key c.contains.result c.contains.ensures c.if-not-contains.false
