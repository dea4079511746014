use Rattle.dubp_block.specs.Refusals.{NamesLine}
use Rattle.std.proofs.Common.{subst}
use Rattle.dubp_forks.specs.Stores.{state_of}
use Rattle.dubp_forks.proofs.Offered.{offered, unread}
use Rattle.dubp_forks.proofs.store.Store.offer.Goals as goal

pub returns-in-Ok-clause-offered : goal.returns-in-Ok-clause-offered
returns-in-Ok-clause-offered g c =
    offered (state_of c.args.verdicts.now c.args.ledger.now c.args.self.now) c.args.bytes.now c.in-Ok.read.block (record { is = c.in-Ok.ensures.found.0; text = c.in-Ok.ensures.found.1 })
    (λ d t. c.in-Ok.ensures.only d t.is t.text) c.requires.short c.check.result c.check.new.self c.check.ensures.checked

pub returns-in-Err-NotABlock-clause-offered : goal.returns-in-Err-NotABlock-clause-offered
returns-in-Err-NotABlock-clause-offered g c =
    let line = c.in-Err-NotABlock in
    unread (state_of c.args.verdicts.now c.args.ledger.now c.args.self.now) c.args.bytes.now line.line
    (λ d t. let e = line.ensures.only d t.is t.text in let f = line.field-0-is in cc) c.requires.short (subst (NamesLine c.args.bytes.now) line.field-0-is line.ensures.refused)
