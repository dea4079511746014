use Rattle.std.proofs.Common.{refl}
use Rattle.dubp_statement.specs.declared.tally.Tally.{Tally}
use Rattle.dubp_statement.proofs.Tallies.{noted}
use Rattle.dubp_statement.proofs.tally.Tally.note.Goals as goal

pub returns-clause-account : goal.returns-clause-account
returns-clause-account c = λ a is.
    let old : Tally = c.args.self.now in
    let balance = c.balance_after-balance.result in
    let new : Tally = record { names = old.names; moves = c.push.new.list; balance = balance } in
    noted old new a c.args.kind c.args.number c.args.input.now balance is refl c.balance_after-balance.ensures refl c.in_ok-push.ensures.appended
