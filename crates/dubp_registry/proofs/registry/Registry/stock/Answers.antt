use Rattle.std.proofs.Common.{refl, ap, sym, ◌∙◌}
use Rattle.std.specs.FinMap.{empty}
use Rattle.dubp_undo.specs.States.{states}
use Rattle.dubp_left.specs.Left.{certifications_left}
use Rattle.dubp_left.proofs.Looked.{newest-left}
use Rattle.std.specs.Option.{option_map_or}
use Rattle.dubp_cindex.specs.Rows.{issuer_in}
use Rattle.dubp_cindex.specs.declared.row.IssuerRow.{IssuerRow}
use Rattle.dubp_registry.proofs.Counted.{stock-looked}
use Rattle.dubp_registry.proofs.registry.Registry.stock.Goals as goal

pub returns-in-Some : goal.returns-in-Some
returns-in-Some c = λ chain at.
    ap (λ o. option_map_or (λ (row : IssuerRow). row.stock) o 0) (sym c.in-Some.is ∙ c.issuer.ensures (states certifications_left chain) (c.cindex.ensures chain at) ∙ ap (λ rows. issuer_in rows c.args.from) (newest-left empty certifications_left refl chain))
    ∙ stock-looked chain c.args.from

pub returns-in-None : goal.returns-in-None
returns-in-None c = λ chain at.
    ap (λ o. option_map_or (λ (row : IssuerRow). row.stock) o 0) (sym c.in-None.is ∙ c.issuer.ensures (states certifications_left chain) (c.cindex.ensures chain at) ∙ ap (λ rows. issuer_in rows c.args.from) (newest-left empty certifications_left refl chain))
    ∙ stock-looked chain c.args.from
