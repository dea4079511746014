use Rattle.std.proofs.Common.{rules}
use Rattle.dubp_docs.specs.Passing.{passed_at}
use Rattle.dubp_docs.proofs.transaction.pass_transaction.Goals as goal

pub returns-in_err-take_opening : goal.returns-in_err-take_opening
unfolding passed_at
returns-in_err-take_opening c = rw c.in_err-take_opening.ensures (search rules)

pub returns-in_err-take_named : goal.returns-in_err-take_named
unfolding passed_at
returns-in_err-take_named c = rw (c.in_ok-take_opening.ensures, c.in_err-take_named.ensures) (search rules)

pub returns-in_err-take_named-2 : goal.returns-in_err-take_named-2
unfolding passed_at
returns-in_err-take_named-2 c = rw (c.in_ok-take_opening.ensures, c.in_ok-take_named.ensures, c.in_err-take_named-2.ensures) (search rules)

pub returns-in_err-issuers : goal.returns-in_err-issuers
unfolding passed_at
returns-in_err-issuers c = rw (c.in_ok-take_opening.ensures, c.in_ok-take_named.ensures, c.in_ok-take_named-2.ensures, c.in_err-issuers.ensures) (search rules)

pub returns-in_err-pass_list : goal.returns-in_err-pass_list
unfolding passed_at
returns-in_err-pass_list c = rw (c.in_ok-take_opening.ensures, c.in_ok-take_named.ensures, c.in_ok-take_named-2.ensures, c.in_ok-issuers.ensures, c.in_err-pass_list.ensures) (search rules)

pub returns-in_err-pass_list-2 : goal.returns-in_err-pass_list-2
unfolding passed_at
returns-in_err-pass_list-2 c = rw (c.in_ok-take_opening.ensures, c.in_ok-take_named.ensures, c.in_ok-take_named-2.ensures, c.in_ok-issuers.ensures, c.in_ok-pass_list.ensures, c.in_err-pass_list-2.ensures) (search rules)

pub returns-in_err-pass_list-3 : goal.returns-in_err-pass_list-3
unfolding passed_at
returns-in_err-pass_list-3 c = rw (c.in_ok-take_opening.ensures, c.in_ok-take_named.ensures, c.in_ok-take_named-2.ensures, c.in_ok-issuers.ensures, c.in_ok-pass_list.ensures, c.in_ok-pass_list-2.ensures, c.in_err-pass_list-3.ensures) (search rules)

pub returns-in_err-take_comment : goal.returns-in_err-take_comment
unfolding passed_at
returns-in_err-take_comment c = rw (c.in_ok-take_opening.ensures, c.in_ok-take_named.ensures, c.in_ok-take_named-2.ensures, c.in_ok-issuers.ensures, c.in_ok-pass_list.ensures, c.in_ok-pass_list-2.ensures, c.in_ok-pass_list-3.ensures, c.in_err-take_comment.ensures) (search rules)

pub returns : goal.returns
unfolding passed_at
returns c = rw (c.in_ok-take_opening.ensures, c.in_ok-take_named.ensures, c.in_ok-take_named-2.ensures, c.in_ok-issuers.ensures, c.in_ok-pass_list.ensures, c.in_ok-pass_list-2.ensures, c.in_ok-pass_list-3.ensures, c.in_ok-take_comment.ensures) c.pass_sigs.ensures
