use Rattle.std.proofs.Common.{subst}
use Rattle.dubp_block.specs.Refusals.{NamesLine}
use Rattle.dubp_turns.proofs.Decisions.{decided_raw, unread_raw}
use Rattle.dubp_turns.proofs.branches.Branches.act_short_block.Goals as goal

pub returns-in-Ok : goal.returns-in-Ok
returns-in-Ok g c = λ short.
    decided_raw _ _ c.args.frame.now _ c.in-Ok.read.block (record { is = c.in-Ok.ensures.found.0; text = c.in-Ok.ensures.found.1 }) (λ d t. c.in-Ok.ensures.only d t.is t.text) short c.submit.ensures

pub returns-in-Err-NotABlock : goal.returns-in-Err-NotABlock
returns-in-Err-NotABlock g c = λ short.
    let line = c.in-Err-NotABlock in
    unread_raw _ c.args.frame.now _ line.number (λ d t. let e = line.ensures.only d t.is t.text in let f = line.field-0-is in cc) short (subst (NamesLine c.args.frame.now) line.field-0-is line.ensures.refused) c.put_unread.ensures
