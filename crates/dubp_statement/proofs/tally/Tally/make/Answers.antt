use Rattle.std.proofs.Common.{◌∷◌, [], ◌++◌, refl}
use Rattle.std.proofs.lemmas.Result.{on_ok_weaker}
use Rattle.dubp_statement.specs.declared.tally.Tally.{Tally}
use Rattle.dubp_statement.proofs.Tallies.{named}
use Rattle.dubp_statement.proofs.tally.Tally.make.Goals as goal

pub returns-clause-account : goal.returns-clause-account
returns-clause-account c =
    let old : Tally = c.args.self.now in
    let mid : Tally = record { names = c.insert.new.names; moves = old.moves; balance = old.balance } in
    on_ok_weaker c.note.result
    (λ noted a is. noted (record a { names = a.names ++ c.args.input.now.source ∷ [] }) (named old mid a c.args.input.now.source is refl refl c.in_ok-insert.ensures))
    c.note.ensures.account
