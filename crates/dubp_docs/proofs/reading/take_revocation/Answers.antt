use Rattle.std.proofs.Common.{refl, rules}
use Rattle.dubp_docs.specs.Reading.{revocation_at}
use Rattle.dubp_docs.proofs.reading.take_revocation.Goals as goal

pub returns-in_err-currency : goal.returns-in_err-currency
unfolding revocation_at
returns-in_err-currency c = rw c.in_err-currency.ensures (search rules)

pub returns-in_err-issuer : goal.returns-in_err-issuer
unfolding revocation_at
returns-in_err-issuer c = rw (c.in_ok-currency.ensures, c.in_err-issuer.ensures) (search rules)

pub returns-in_err-idty_unique_id : goal.returns-in_err-idty_unique_id
unfolding revocation_at
returns-in_err-idty_unique_id c = rw (c.in_ok-currency.ensures, c.in_ok-issuer.ensures, c.in_err-idty_unique_id.ensures) (search rules)

pub returns-in_err-idty_timestamp : goal.returns-in_err-idty_timestamp
unfolding revocation_at
returns-in_err-idty_timestamp c = rw (c.in_ok-currency.ensures, c.in_ok-issuer.ensures, c.in_ok-idty_unique_id.ensures, c.in_err-idty_timestamp.ensures) (search rules)

pub returns-in_err-idty_signature : goal.returns-in_err-idty_signature
unfolding revocation_at
returns-in_err-idty_signature c = rw (c.in_ok-currency.ensures, c.in_ok-issuer.ensures, c.in_ok-idty_unique_id.ensures, c.in_ok-idty_timestamp.ensures, c.in_err-idty_signature.ensures) (search rules)

pub returns-in_err-sig : goal.returns-in_err-sig
unfolding revocation_at
returns-in_err-sig c = rw (c.in_ok-currency.ensures, c.in_ok-issuer.ensures, c.in_ok-idty_unique_id.ensures, c.in_ok-idty_timestamp.ensures, c.in_ok-idty_signature.ensures, c.in_err-sig.ensures) (search rules)

pub returns : goal.returns
unfolding revocation_at
returns c = rw (c.in_ok-currency.ensures, c.in_ok-issuer.ensures, c.in_ok-idty_unique_id.ensures, c.in_ok-idty_timestamp.ensures, c.in_ok-idty_signature.ensures, c.in_ok-sig.ensures) refl
