use Rattle.std.proofs.Common.{◌∷◌, map, subst}
use Rattle.dubp_docs.specs.AddsLines.{AddsLines}
use Rattle.dubp_docs.proofs.Added.{lines_then}
use Rattle.dubp_docs.proofs.signing.add_list.Goals as goal

pub returns : goal.returns
returns g c =
    subst (λ values. AddsLines g.S.TextSink.has c.args.out.now c.add_values.new.out (c.args.heading.now ∷ map g.T.PutText.spelling values)) c.as_slice.ensures
    (lines_then c.in_ok-add_line.ensures c.in_ok-add_values.ensures)
