use Rattle.std.specs.Prelude.{codes}
use Rattle.dubp_statement.proofs.Signers.{match_weaker, front_is, end_is, same_signer, no_signer}
use Rattle.dubp_statement.proofs.conditions.signer.Goals as goal

pub returns : goal.returns
returns c =
    let text = c.args.text.now in
    let rest = c.in_ok-strip_prefix.field-0.now in
    let before = c.in_ok-strip_prefix.ensures.cases in
    let front = front_is text rest (codes "SIG(") 4 before.0 before.1 in
    match_weaker c.strip_suffix.result
    (λ other k. no_signer text rest k front other)
    (λ key is k. same_signer text rest key.now k front (end_is rest key.now (codes ")") _ is.0 is.1))
    c.strip_suffix.ensures.cases
