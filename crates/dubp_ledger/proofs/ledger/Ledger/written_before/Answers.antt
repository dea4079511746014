use Rattle.std.proofs.Common.{◌∙◌, ap, subst, sym}
use Rattle.std.specs.Prelude.{slice_get}
use Rattle.dubp_people_and_money.specs.OfKept.{IsKnown}
use Rattle.dubp_ledger.specs.Traces.{traces_of}
use Rattle.dubp_ledger.proofs.Tracing.{head_there, left_there, written_found}
use Rattle.dubp_ledger.proofs.ledger.Ledger.written_before.Goals as goal

pub returns-in_default-before : goal.returns-in_default-before
returns-in_default-before g c =
    let known = subst (λ s. IsKnown s.chain c.heads.result.now) c.self.view_is c.heads.ensures in
    head_there c.args.self.now.chain c.args.number c.args.count c.requires (sym (ap (λ l. slice_get l c.args.count) known.are) ∙ c.in_default-before.ensures)

pub returns-in_default-before-2 : goal.returns-in_default-before-2
returns-in_default-before-2 g c =
    let standing = c.self.invariant.standing ∙ ap (λ s. traces_of s.chain) c.self.view_is in
    left_there c.args.self.now.chain c.args.number c.args.count c.requires (sym (ap (λ l. slice_get l c.args.count) standing) ∙ c.in_default-before-2.ensures)

pub returns : goal.returns
returns g c =
    let known = subst (λ s. IsKnown s.chain c.heads.result.now) c.self.view_is c.heads.ensures in
    let standing = c.self.invariant.standing ∙ ap (λ s. traces_of s.chain) c.self.view_is in
    written_found c.args.self.now.chain c.args.number c.args.count c.requires c.in-Some.block.now c.in-Some-before.head.now c.in-Some-before-2.left.now
    c.in-Some.ensures.0 c.in-Some.ensures.1
    (sym (ap (λ l. slice_get l c.args.count) known.are) ∙ c.in-Some-before.ensures)
    (sym (ap (λ l. slice_get l c.args.count) standing) ∙ c.in-Some-before-2.ensures)
