use Rattle.std.proofs.Common.{List, ℕ, OnOk, subst, ◌∙◌}
use Rattle.std.proofs.lemmas.List.{map-id}
use Rattle.dubp_docs.specs.AddsLines.{AddsLines}
use Rattle.dubp_docs.proofs.signing.add_signatures.Goals as goal

pub returns : goal.returns
returns g c =
    let P : List (List ℕ) → Type 0 = λ lines. OnOk c.add_texts.result (AddsLines g.S.TextSink.has c.args.out.now c.add_texts.new.out lines) in
    subst P (map-id c.as_slice.result.now ∙ c.as_slice.ensures) c.add_texts.ensures
