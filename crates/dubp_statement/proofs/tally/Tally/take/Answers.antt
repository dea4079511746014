use Rattle.std.proofs.Common.{sym, ◌∙◌}
use Rattle.std.proofs.lemmas.Result.{on_ok_weaker}
use Rattle.dubp_statement.proofs.Tallies.{gone, not_gone}
use Rattle.dubp_statement.proofs.tally.Tally.take.Goals as goal

pub returns-then-not-has-clause-account : goal.returns-then-not-has-clause-account
returns-then-not-has-clause-account c = λ a is. not_gone c.args.self.now a c.args.kind c.args.number c.args.input.now is (sym c.has.ensures ∙ c.if-not-has.true)

pub returns-clause-account : goal.returns-clause-account
returns-clause-account c =
    on_ok_weaker c.note.result
    (λ noted a is. gone c.args.self.now a c.args.kind c.args.number c.args.input.now is c.note.new.self (sym c.has.ensures ∙ c.if-not-has.false) (noted a is))
    c.note.ensures.account
