use Rattle.dubp_drafts.proofs.Together.{draft_block_is, draft_is_block, five_notes}
use Rattle.dubp_drafts.proofs.drafting.draft.Goals as goal

pub returns-clause-block : goal.returns-clause-block
returns-clause-block c =
    draft_block_is c.args.number c.args.x c.args.stamp.now c.args.source c.block_with-block.result c.in_ok-identities.identities c.in_ok-joiners.joiners c.in_ok-actives.actives c.in_ok-certifications.certifications c.in_ok-transactions.transactions c.block_with-block.ensures.value c.in_ok-identities.ensures.lines c.in_ok-joiners.ensures.lines c.in_ok-actives.ensures.lines c.in_ok-certifications.ensures.lines c.in_ok-transactions.ensures.lines

pub returns-clause-verdicts : goal.returns-clause-verdicts
returns-clause-verdicts c =
    five_notes _ _ _ _ _ _ _ _ _ _ _ c.new-verdicts.ensures.items c.in_ok-identities.ensures.verdicts c.in_ok-joiners.ensures.verdicts c.in_ok-actives.ensures.verdicts c.in_ok-certifications.ensures.verdicts c.in_ok-transactions.ensures.verdicts

pub returns-clause-valid : goal.returns-clause-valid
returns-clause-valid c =
    draft_is_block c.args.number c.block_with-block.result c.in_ok-identities.identities c.in_ok-joiners.joiners c.in_ok-actives.actives c.in_ok-certifications.certifications c.in_ok-transactions.transactions c.block_with-block.ensures.value c.requires.number c.in_ok-identities.ensures.valid c.in_ok-joiners.ensures.valid c.in_ok-actives.ensures.valid c.in_ok-certifications.ensures.valid c.in_ok-transactions.ensures.valid
