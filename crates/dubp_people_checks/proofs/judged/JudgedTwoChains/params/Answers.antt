use Rattle.dubp_people_checks.proofs.Stated.{params_stated}
use Rattle.dubp_people_checks.proofs.judged.JudgedTwoChains.params.Goals as goal

pub returns-clause-value : goal.returns-clause-value
returns-clause-value c = λ chain b shown. c.params.ensures chain b shown.1.0

pub returns-clause-stated : goal.returns-clause-stated
returns-clause-stated c = λ chain b shown. params_stated chain b c.args.self.now.next.now shown.1.1 c.params.result (c.params.ensures chain b shown.1.0)
