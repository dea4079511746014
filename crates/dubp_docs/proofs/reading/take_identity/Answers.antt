use Rattle.std.proofs.Common.{refl, rules}
use Rattle.dubp_docs.specs.Reading.{identity_at}
use Rattle.dubp_docs.proofs.reading.take_identity.Goals as goal

pub returns-in_err-currency : goal.returns-in_err-currency
unfolding identity_at
returns-in_err-currency c = rw c.in_err-currency.ensures (search rules)

pub returns-in_err-issuer : goal.returns-in_err-issuer
unfolding identity_at
returns-in_err-issuer c = rw (c.in_ok-currency.ensures, c.in_err-issuer.ensures) (search rules)

pub returns-in_err-unique_id : goal.returns-in_err-unique_id
unfolding identity_at
returns-in_err-unique_id c = rw (c.in_ok-currency.ensures, c.in_ok-issuer.ensures, c.in_err-unique_id.ensures) (search rules)

pub returns-in_err-timestamp : goal.returns-in_err-timestamp
unfolding identity_at
returns-in_err-timestamp c = rw (c.in_ok-currency.ensures, c.in_ok-issuer.ensures, c.in_ok-unique_id.ensures, c.in_err-timestamp.ensures) (search rules)

pub returns-in_err-sig : goal.returns-in_err-sig
unfolding identity_at
returns-in_err-sig c = rw (c.in_ok-currency.ensures, c.in_ok-issuer.ensures, c.in_ok-unique_id.ensures, c.in_ok-timestamp.ensures, c.in_err-sig.ensures) (search rules)

pub returns : goal.returns
unfolding identity_at
returns c = rw (c.in_ok-currency.ensures, c.in_ok-issuer.ensures, c.in_ok-unique_id.ensures, c.in_ok-timestamp.ensures, c.in_ok-sig.ensures) refl
