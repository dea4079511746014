use Rattle.dubp_atoms.proofs.Fields.{is_cut, is_not_cut}
use Rattle.dubp_atoms.proofs.cutting.cut.Goals as goal

pub returns-clause-found : goal.returns-clause-found
returns-clause-found c = is_cut c.args.byte c.args.text.now c.parts.result (λ b. b.now) c.requires c.parts.ensures

pub returns-clause-none : goal.returns-clause-none
returns-clause-none c = is_not_cut c.args.byte c.args.text.now c.parts.result (λ b. b.now) c.requires c.parts.ensures
