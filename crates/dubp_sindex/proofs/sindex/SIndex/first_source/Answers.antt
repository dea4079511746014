use Rattle.std.proofs.Common.{sym, ◌∙◌}
use Rattle.dubp_sindex.specs.States.{rows_of}
use Rattle.dubp_sindex.proofs.Walking.{first_is, first_there}
use Rattle.dubp_sindex.proofs.sindex.SIndex.first_source.Goals as goal

pub returns-in_err-linked : goal.returns-in_err-linked
returns-in_err-linked c = λ s at are.
    let first = c.in_ok-balance.balance.first in
    absurd (first_there c.args.self.now.origins (rows_of s) are c.args.account c.in_ok-balance.balance (sym (at.0.2 c.args.account) ∙ sym c.in_ok-balance.ensures) (sym (at.0.1 first) ∙ sym c.in_err-linked.ensures))

pub returns : goal.returns
returns c = λ s at are.
    let first = c.in_ok-balance.balance.first in
    c.entry_of.ensures
    ∙ first_is c.args.self.now.origins (rows_of s) are at.2 c.args.account c.in_ok-balance.balance c.in_ok-linked.linked (sym (at.0.2 c.args.account) ∙ sym c.in_ok-balance.ensures) (sym (at.0.1 first) ∙ sym c.in_ok-linked.ensures)
