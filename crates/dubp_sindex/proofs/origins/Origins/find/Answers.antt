use Rattle.std.proofs.Common.{option_map, ap, sym, ◌∙◌}
use Rattle.dubp_sindex.specs.declared.origins.Name.TheVariants.{Dividend, Output}
use Rattle.dubp_sindex.specs.Origins.{name_in}
use Rattle.dubp_sindex.proofs.origins.Origins.find.Goals as goal

pub returns-in_err-number-in-D : goal.returns-in_err-number-in-D
returns-in_err-number-in-D c =
    c.from_residual.ensures ∙ ap (option_map (λ n. Dividend n c.in-D.block)) c.in_err-number-in-D.ensures.index ∙ (λ i. name_in (c.self.view_is i) (sym c.in-D.is i))

pub returns-in_err-number-in-T : goal.returns-in_err-number-in-T
returns-in_err-number-in-T c =
    c.from_residual-in_err-number-in-T.ensures ∙ ap (option_map (λ n. Output n c.in-T.index)) c.in_err-number-in-T.ensures.index ∙ (λ i. name_in (c.self.view_is i) (sym c.in-T.is i))
