use Rattle.std.proofs.Common.{◌∙◌, ap, false, length, replicate, subst, sym}
use Rattle.dubp_forge.specs.Steps.{IsDrafted}
use Rattle.dubp_forge.proofs.Standing.{begins}
use Rattle.dubp_forge.proofs.asking.Forge.begin.Goals as goal

pub returns-clause-stands : goal.returns-clause-stands
returns-clause-stands g c =
    let f = c.args.self.now in
    let marks = c.in_ok-marks.marks.items in
    subst (λ l. IsDrafted f c.blank.result l marks) (sym c.new.ensures.items)
    (begins f c.blank.result marks c.blank.ensures (c.in_ok-marks.ensures ∙ ap (λ n. replicate n false) (c.held.ensures ∙ ap (λ x. length x.pool) c.self.view_is)))
