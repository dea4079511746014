use Rattle.std.proofs.Common.{◌∙◌, List, ℕ, subst, sym}
use Rattle.dubp_statement.specs.OfReplay.{IsStatement, account_of}
use Rattle.dubp_statement.specs.Tallies.{AreNumbers, IsTallyOf}
use Rattle.dubp_statement.proofs.moves.statement.Goals as goal

pub returns : goal.returns
returns g c =
    let chain = c.args.ledger.now.chain in
    let cond = c.args.cond.now.items in
    let sound = c.laws.ensures.sound in
    let tally = subst (λ (t : List ℕ). IsTallyOf (account_of t chain) c.in_ok-tally.tally) c.as_slice.ensures.value c.in_ok-tally.ensures in
    let moves = c.accounts_have_the_moves.ensures chain cond sound in
    let numbers = subst AreNumbers (sym moves) (c.balances_are_numbers.ensures chain cond sound) in
    subst (IsStatement chain cond) (sym (c.into_moves.ensures.account (account_of cond chain) tally numbers ∙ moves))
    (c.moves_are_statements.ensures chain cond sound)
