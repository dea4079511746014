use Rattle.std.proofs.lemmas.Result.{IfOk-weaker}
use Rattle.dubp_people_checks.proofs.judged.JudgedTwoChains.issuers_before.Goals as goal

pub returns : goal.returns
returns c = IfOk-weaker c.issuers.result _ _ (λ keys next chain b shown. next chain shown.0) c.issuers.ensures
