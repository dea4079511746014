use Rattle.std.proofs.Common.{◌∷◌, Some, fold, ap, subst, ◌∙◌}
use Rattle.std.proofs.lemmas.Result.{on_ok_weaker}
use Rattle.dubp_chain.specs.Heads.{head_of, time_of}
use Rattle.dubp_chain.specs.Members.{members}
use Rattle.dubp_chain.specs.Money.{cleared, cleared_by, dividends_at}
use Rattle.dubp_kept.specs.declared.left_behind.LeftBehind.{LeftBehind}
use Rattle.dubp_replay.specs.OfMoves.{with_made, with_transaction}
use Rattle.dubp_statement.specs.Tallies.{IsTallyOf}
use Rattle.dubp_statement.proofs.Folds.{payments_are}
use Rattle.dubp_statement.proofs.blocks.add_block.Goals as goal

pub returns-clause-account : goal.returns-clause-account
returns-clause-account c =
    on_ok_weaker c.add_cleared.result
    (λ gone chain a head left is.
    let b = c.args.block.now in
    let cond = c.args.cond.now in
    let h = c.args.head.now in
    let moved = fold (with_transaction cond b.number (time_of (b ∷ chain)) b.currency) a b.transactions in
    let paid = λ (l : _). fold (with_made cond b.number) moved l in
    let first = c.in_ok-add_transactions.ensures.account (time_of (b ∷ chain)) a (c.as_slice.ensures ∙ ap (λ (l : LeftBehind). l.transactions) left) is in
    let then = c.in_ok-add_dividends.ensures.account moved first in
    let same =
    ap (λ keys. dividends_at b.number (Some h) keys) (c.as_slice-2.ensures ∙ ap (λ (l : LeftBehind). l.paid) left)
    ∙ payments_are b.number (head_of (b ∷ chain)) h (members (b ∷ chain)) head in
    gone (cleared_by chain b (cleared chain)) (paid (dividends_at b.number (head_of (b ∷ chain)) (members (b ∷ chain))))
    (c.as_slice-3.ensures ∙ ap (λ (l : LeftBehind). l.cleared) left)
    (subst (λ l. IsTallyOf (paid l) c.add_dividends.new.tally) same then))
    c.add_cleared.ensures.account
