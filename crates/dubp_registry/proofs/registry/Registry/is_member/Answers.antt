use Rattle.std.proofs.Common.{Some, None, sym, ◌∙◌}
use Rattle.dubp_left.proofs.Looked.{member-look}
use Rattle.dubp_registry.proofs.registry.Registry.is_member.Goals as goal

pub returns-in-Some : goal.returns-in-Some
returns-in-Some c = λ chain at sound. member-look chain sound c.args.key (Some c.in-Some.row) (sym c.in-Some.is ∙ c.identity.ensures chain at)

pub returns-in-None : goal.returns-in-None
returns-in-None c = λ chain at sound. member-look chain sound c.args.key None (sym c.in-None.is ∙ c.identity.ensures chain at)
