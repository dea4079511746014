use Rattle.dubp_cond.specs.Transactions.{IsTx}
use Rattle.dubp_drafts.proofs.Answering.{same_where_ok, holds_where_ok, on_ok}
use Rattle.dubp_drafts.proofs.Paying.{transaction_is, transaction_given_is, signed_is_tx}
use Rattle.dubp_drafts.proofs.payments.transaction.Goals as goal

pub returns-clause-value : goal.returns-clause-value
returns-clause-value c =
    same_where_ok c.signed.result _ _ c.signed.ensures.value
    (transaction_is c.args.x c.args.stamp.now c.args.source c.in_ok-unsigned.unsigned c.currency.result c.in_ok-text.text.items c.as_slice.result.now c.payer.result c.key_of.result c.in_ok-sig.sig c.in_ok-unsigned.ensures.value c.currency.ensures c.in_ok-text.ensures c.as_slice.ensures.value c.payer.ensures.number c.key_of.ensures c.in_ok-sig.ensures.sig)

pub returns-clause-verdicts : goal.returns-clause-verdicts
returns-clause-verdicts c =
    on_ok c.signed.result _
    (transaction_given_is c.args.x c.args.stamp.now c.args.source c.in_ok-unsigned.unsigned c.currency.result c.in_ok-text.text.items c.as_slice.result.now c.payer.result c.key_of.result c.args.verdicts.now.items c.sign_and_note.new.verdicts.items c.in_ok-unsigned.ensures.value c.currency.ensures c.in_ok-text.ensures c.as_slice.ensures.value c.payer.ensures.number c.key_of.ensures c.in_ok-sig.ensures.verdicts)

pub returns-clause-valid : goal.returns-clause-valid
returns-clause-valid c =
    holds_where_ok c.signed.result IsTx _ c.signed.ensures.value
    (signed_is_tx c.args.x c.args.stamp.now c.args.source c.in_ok-unsigned.unsigned c.in_ok-sig.sig c.in_ok-unsigned.ensures.value c.requires.stamp c.requires.source c.signed.ensures.valid)
