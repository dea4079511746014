use Rattle.std.proofs.Common.{◌∷◌, codes, subst}
use Rattle.std.proofs.lemmas.List.{map-id}
use Rattle.dubp_docs.specs.AddsLines.{AddsLines}
use Rattle.dubp_docs.proofs.Added.{lines_then}
use Rattle.dubp_docs.proofs.signing.add_transaction.Goals as goal

pub returns : goal.returns
returns g c =
    let issuers : AddsLines g.S.TextSink.has c.add_number.new.out c.add_list.new.out (codes "Issuers:" ∷ c.args.tx.now.issuers) =
    subst (λ keys. AddsLines g.S.TextSink.has c.add_number.new.out c.add_list.new.out (codes "Issuers:" ∷ keys)) (map-id c.args.tx.now.issuers) c.in_ok-add_list.ensures in
    let head = lines_then c.in_ok-add_opening.ensures (lines_then c.in_ok-add_value.ensures (lines_then c.in_ok-add_number.ensures issuers)) in
    lines_then (lines_then (lines_then (lines_then head c.in_ok-add_list-2.ensures) c.in_ok-add_list-3.ensures) c.in_ok-add_list-4.ensures) c.in_ok-add_comment.ensures
