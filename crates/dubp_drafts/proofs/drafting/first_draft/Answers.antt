use Rattle.std.proofs.Common.{ap, ◌∙◌, Some}
use Rattle.dubp_drafts.proofs.First.{first_draft_is, first_given_is}
use Rattle.dubp_drafts.proofs.drafting.first_draft.Goals as goal

pub returns-clause-block : goal.returns-clause-block
returns-clause-block c =
    first_draft_is c.in_ok-first.first.block c.empty_stamp.result c.in_ok-first-2.field-0 c.in_ok-first.ensures.block c.empty_stamp.ensures.value (c.in_ok-first-2.ensures ∙ ap Some c.parameters.ensures.value)

pub returns-clause-verdicts : goal.returns-clause-verdicts
returns-clause-verdicts c = first_given_is c.in_ok-first.first.verdicts.items c.empty_stamp.result c.in_ok-first.ensures.verdicts c.empty_stamp.ensures.value
