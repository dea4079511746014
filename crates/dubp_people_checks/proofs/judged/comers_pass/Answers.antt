use Rattle.std.proofs.lemmas.Result.{IfOk-weaker}
use Rattle.dubp_people_checks.proofs.judged.comers_pass.Goals as goal

pub comers_pass-requires : goal.comers_pass-requires
comers_pass-requires c = let few = c.requires.few in record { few = (few.0, ((few.1.0, (few.1.1.1.0, few.1.1.0)), few.1.1.1.1)) }

pub returns : goal.returns
returns c = IfOk-weaker c.comers_pass.result _ _ (λ holds says chain at asked after. says chain (at, (after, asked))) c.comers_pass.ensures
