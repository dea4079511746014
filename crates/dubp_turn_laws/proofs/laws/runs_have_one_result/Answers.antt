use Rattle.dubp_turn_laws.proofs.Runs.{one_run}
use Rattle.dubp_turn_laws.proofs.laws.runs_have_one_result.Goals as goal

pub returns : goal.returns
returns c = one_run
