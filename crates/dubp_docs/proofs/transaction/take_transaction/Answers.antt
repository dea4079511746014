use Rattle.std.proofs.Common.{◌≡◌, length, Ok, refl, rules}
use Rattle.dubp_docs.specs.Reading.{sigs_at, transaction_at}
use Rattle.dubp_docs.proofs.transaction.take_transaction.Goals as goal

pub returns-in_err-currency : goal.returns-in_err-currency
unfolding transaction_at
returns-in_err-currency c = rw c.in_err-currency.ensures (search rules)

pub returns-in_err-stamp : goal.returns-in_err-stamp
unfolding transaction_at
returns-in_err-stamp c = rw (c.in_ok-currency.ensures, c.in_err-stamp.ensures) (search rules)

pub returns-in_err-locktime : goal.returns-in_err-locktime
unfolding transaction_at
returns-in_err-locktime c = rw (c.in_ok-currency.ensures, c.in_ok-stamp.ensures, c.in_err-locktime.ensures) (search rules)

pub returns-in_err-issuers : goal.returns-in_err-issuers
unfolding transaction_at
returns-in_err-issuers c = rw (c.in_ok-currency.ensures, c.in_ok-stamp.ensures, c.in_ok-locktime.ensures, c.in_err-issuers.ensures) (search rules)

pub returns-in_err-inputs : goal.returns-in_err-inputs
unfolding transaction_at
returns-in_err-inputs c = rw (c.in_ok-currency.ensures, c.in_ok-stamp.ensures, c.in_ok-locktime.ensures, c.in_ok-issuers.ensures, c.in_err-inputs.ensures) (search rules)

pub returns-in_err-unlocks : goal.returns-in_err-unlocks
unfolding transaction_at
returns-in_err-unlocks c = rw (c.in_ok-currency.ensures, c.in_ok-stamp.ensures, c.in_ok-locktime.ensures, c.in_ok-issuers.ensures, c.in_ok-inputs.ensures, c.in_err-unlocks.ensures) (search rules)

pub returns-in_err-outputs : goal.returns-in_err-outputs
unfolding transaction_at
returns-in_err-outputs c = rw (c.in_ok-currency.ensures, c.in_ok-stamp.ensures, c.in_ok-locktime.ensures, c.in_ok-issuers.ensures, c.in_ok-inputs.ensures, c.in_ok-unlocks.ensures, c.in_err-outputs.ensures) (search rules)

pub returns-in_err-text : goal.returns-in_err-text
unfolding transaction_at
returns-in_err-text c = rw (c.in_ok-currency.ensures, c.in_ok-stamp.ensures, c.in_ok-locktime.ensures, c.in_ok-issuers.ensures, c.in_ok-inputs.ensures, c.in_ok-unlocks.ensures, c.in_ok-outputs.ensures, c.in_err-text.ensures) (search rules)

pub returns-in_err-sigs : goal.returns-in_err-sigs
unfolding transaction_at
returns-in_err-sigs c = rw (c.in_ok-currency.ensures, c.in_ok-stamp.ensures, c.in_ok-locktime.ensures, c.in_ok-issuers.ensures, c.in_ok-inputs.ensures, c.in_ok-unlocks.ensures, c.in_ok-outputs.ensures, c.in_ok-text.ensures, c.in_err-sigs.ensures) (search rules)

pub returns : goal.returns
unfolding transaction_at
returns c =
    let sigs : sigs_at (length c.in_ok-issuers.issuers) c.take_comment.new.lines ≡ Ok (c.in_ok-sigs.sigs, c.take_sigs.new.lines) = rw (← c.len.ensures) c.in_ok-sigs.ensures in
    rw (c.in_ok-currency.ensures, c.in_ok-stamp.ensures, c.in_ok-locktime.ensures, c.in_ok-issuers.ensures, c.in_ok-inputs.ensures, c.in_ok-unlocks.ensures, c.in_ok-outputs.ensures, c.in_ok-text.ensures, sigs) (rw c.in_ok-comment.ensures refl)
