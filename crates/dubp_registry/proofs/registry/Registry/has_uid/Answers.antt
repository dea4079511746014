use Rattle.std.proofs.Common.{ap, ◌∙◌}
use Rattle.std.specs.Prelude.{is_some}
use Rattle.dubp_undo.specs.States.{states}
use Rattle.dubp_left.specs.Left.{identities_left}
use Rattle.dubp_left.proofs.Looked.{uid-look}
use Rattle.dubp_registry.proofs.registry.Registry.has_uid.Goals as goal

pub returns : goal.returns
returns c = λ chain at sound. c.is_some.ensures ∙ ap is_some (c.key_of.ensures (states identities_left chain) (c.iindex.ensures chain at)) ∙ uid-look chain sound c.args.uid
