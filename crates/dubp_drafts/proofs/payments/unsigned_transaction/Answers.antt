use Rattle.dubp_drafts.proofs.Paying.{made_is_tx}
use Rattle.dubp_drafts.proofs.payments.unsigned_transaction.Goals as goal

pub returns-clause-valid : goal.returns-clause-valid
returns-clause-valid c =
    made_is_tx c.args.x c.args.stamp.now c.args.source c.payer.result c.key_of.result c.blank_sig.result c.in_ok-issuers.issuers c.in_ok-inputs.inputs c.in_ok-unlocks.unlocks c.in_ok-outputs.outputs c.new.result c.in_ok-sigs.sigs c.payer.ensures.number c.key_of.ensures c.in_ok-issuers.ensures c.in_ok-inputs.ensures c.in_ok-unlocks.ensures c.in_ok-outputs.ensures c.new.ensures c.blank_sig.ensures c.in_ok-sigs.ensures c.requires.stamp c.requires.source
