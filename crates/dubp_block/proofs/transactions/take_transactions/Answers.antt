use Rattle.std.proofs.Common.{ℕ, Bool, List, ap, sym, ◌∙◌}
use Rattle.std.specs.Prelude.{not, codes}
use Rattle.std.proofs.lemmas.Result.{err_from_is_err_and}
use Rattle.dubp_lines.specs.Taking.{line_at, just, next_passes, begins_with}
use Rattle.dubp_lines.specs.Readers.{Reader, entries}
use Rattle.dubp_lines.proofs.Readers.{goes, halts}
use Rattle.dubp_lines.proofs.Loops.{behind, behind_more, behind_all, behind_refused, entries_step, entries_stop, entries_refused}
use Rattle.dubp_cond.specs.declared.tx.Tx.{Tx}
use Rattle.dubp_block.specs.Reading.{tx_at, transactions_at}
use Rattle.dubp_block.proofs.Refusing.{refuses_on}
use Rattle.dubp_block.proofs.TxReads.{tx_shrinks}
use Rattle.dubp_block.proofs.transactions.take_transactions.Goals as goal

abbrev stops : List (List ℕ) → Bool
stops ls = not (next_passes (begins_with (codes "TX:")) ls)

abbrev body : List ℕ → Reader (List Tx)
body line = entries stops tx_at

pub returns-in_err-take : goal.returns-in_err-take
unfolding transactions_at
returns-in_err-take c =
    let p = err_from_is_err_and c.from_residual.result c.from_residual.ensures.1 in
    rw (p.1, p.2) (halts (line_at (just (codes "Transactions:"))) body c.args.lines.now _ c.in_err-take.ensures.exact)

pub returns-in_err-tx : goal.returns-in_err-tx
unfolding transactions_at
returns-in_err-tx c =
    let p = err_from_is_err_and c.from_residual-in_err-tx.result c.from_residual-in_err-tx.ensures.1 in
    rw (p.1, p.2) (refuses_on _ (tx_at c.entries.lines) (transactions_at c.args.lines.now)
    (λ n e.
    goes (line_at (just (codes "Transactions:"))) body c.args.lines.now (codes "Transactions:") c.take.new.self c.in_ok-take.ensures.exact
    ∙ c.entries.invariant
    ∙ behind_refused c.entries.taken.items n _ (entries_refused stops tx_at c.entries.lines n (ap not (sym c.has_next.ensures ∙ c.entries-test.true)) e))
    c.in_err-tx.ensures)

pub entries-smaller : goal.entries-smaller
entries-smaller c = tx_shrinks.shorter c.entries.lines c.in_ok-tx.tx c.take_tx.new.lines c.in_ok-tx.ensures

pub entries-preserved : goal.entries-preserved
entries-preserved c =
    let more = entries stops tx_at c.take_tx.new.lines in
    c.entries.invariant
    ∙ ap (behind c.entries.taken.items) (entries_step stops tx_at c.entries.lines c.take_tx.new.lines c.in_ok-tx.tx tx_shrinks (ap not (sym c.has_next.ensures ∙ c.entries-test.true)) c.in_ok-tx.ensures)
    ∙ behind_more c.entries.taken.items c.in_ok-tx.tx more
    ∙ ap (λ xs. behind xs more) (sym c.in_ok-push.ensures.appended)

pub returns : goal.returns
unfolding transactions_at
returns c =
    goes (line_at (just (codes "Transactions:"))) body c.args.lines.now (codes "Transactions:") c.take.new.self c.in_ok-take.ensures.exact
    ∙ c.entries.invariant
    ∙ behind_all c.entries.taken.items c.from_vec.result c.entries.lines _ c.from_vec.ensures (entries_stop stops tx_at c.entries.lines (ap not (sym c.has_next.ensures ∙ c.entries-test.false)))
