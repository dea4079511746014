use Rattle.dubp_forging_laws.proofs.Drafts.{one_draft}
use Rattle.dubp_forging_laws.proofs.laws.drafts_are_one.Goals as goal

pub returns : goal.returns
returns c = one_draft
