use Rattle.std.proofs.Common.{refl, rules}
use Rattle.dubp_docs.specs.Reading.{membership_at}
use Rattle.dubp_docs.proofs.reading.take_membership.Goals as goal

pub returns-in_err-currency : goal.returns-in_err-currency
unfolding membership_at
returns-in_err-currency c = rw c.in_err-currency.ensures (search rules)

pub returns-in_err-issuer : goal.returns-in_err-issuer
unfolding membership_at
returns-in_err-issuer c = rw (c.in_ok-currency.ensures, c.in_err-issuer.ensures) (search rules)

pub returns-in_err-block : goal.returns-in_err-block
unfolding membership_at
returns-in_err-block c = rw (c.in_ok-currency.ensures, c.in_ok-issuer.ensures, c.in_err-block.ensures) (search rules)

pub returns-in_err-membership : goal.returns-in_err-membership
unfolding membership_at
returns-in_err-membership c = rw (c.in_ok-currency.ensures, c.in_ok-issuer.ensures, c.in_ok-block.ensures, c.in_err-membership.ensures) (search rules)

pub returns-in_err-user_id : goal.returns-in_err-user_id
unfolding membership_at
returns-in_err-user_id c = rw (c.in_ok-currency.ensures, c.in_ok-issuer.ensures, c.in_ok-block.ensures, c.in_ok-membership.ensures, c.in_err-user_id.ensures) (search rules)

pub returns-in_err-cert_ts : goal.returns-in_err-cert_ts
unfolding membership_at
returns-in_err-cert_ts c = rw (c.in_ok-currency.ensures, c.in_ok-issuer.ensures, c.in_ok-block.ensures, c.in_ok-membership.ensures, c.in_ok-user_id.ensures, c.in_err-cert_ts.ensures) (search rules)

pub returns-in_err-sig : goal.returns-in_err-sig
unfolding membership_at
returns-in_err-sig c = rw (c.in_ok-currency.ensures, c.in_ok-issuer.ensures, c.in_ok-block.ensures, c.in_ok-membership.ensures, c.in_ok-user_id.ensures, c.in_ok-cert_ts.ensures, c.in_err-sig.ensures) (search rules)

pub returns : goal.returns
unfolding membership_at
returns c = rw (c.in_ok-currency.ensures, c.in_ok-issuer.ensures, c.in_ok-block.ensures, c.in_ok-membership.ensures, c.in_ok-user_id.ensures, c.in_ok-cert_ts.ensures, c.in_ok-sig.ensures) refl
