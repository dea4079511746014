use Rattle.std.proofs.Common.{refl, ap, sym, ◌∙◌}
use Rattle.std.specs.FinMap.{empty}
use Rattle.dubp_undo.specs.States.{states}
use Rattle.dubp_left.specs.Left.{certifications_left}
use Rattle.dubp_left.proofs.Looked.{newest-left}
use Rattle.std.specs.Prelude.{option_map}
use Rattle.dubp_cindex.specs.Rows.{issuer_in}
use Rattle.dubp_cindex.specs.declared.row.IssuerRow.{IssuerRow}
use Rattle.dubp_registry.proofs.Counted.{wrote-looked}
use Rattle.dubp_registry.proofs.registry.Registry.last_issued.Goals as goal

pub returns-in-Some : goal.returns-in-Some
returns-in-Some c = λ chain at sound.
    ap (option_map (λ (row : IssuerRow). row.written)) (sym c.in-Some.is ∙ c.issuer.ensures (states certifications_left chain) (c.cindex.ensures chain at) ∙ ap (λ rows. issuer_in rows c.args.from) (newest-left empty certifications_left refl chain))
    ∙ wrote-looked chain sound c.args.from

pub returns-in-None : goal.returns-in-None
returns-in-None c = λ chain at sound.
    ap (option_map (λ (row : IssuerRow). row.written)) (sym c.in-None.is ∙ c.issuer.ensures (states certifications_left chain) (c.cindex.ensures chain at) ∙ ap (λ rows. issuer_in rows c.args.from) (newest-left empty certifications_left refl chain))
    ∙ wrote-looked chain sound c.args.from
