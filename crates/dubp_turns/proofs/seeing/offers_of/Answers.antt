use Rattle.std.proofs.Common.{◌∙◌, ◌++◌, ◌∷◌, [], List, add-one, ap, arith}
use Rattle.dubp_resolve.specs.declared.view.Offered.{Offered}
use Rattle.dubp_choosing.proofs.Seen.{with_entry}
use Rattle.dubp_turns.proofs.seeing.offers_of.Goals as goal

pub loop-place-preserved : goal.loop-place-preserved
loop-place-preserved g c =
    let e = c.entry-stamp in
    rw add-one
    (c.in_ok-add_offer.ensures ∙ ap (λ (l : List Offered). l ++ record { stamp = e.result.0; previous = e.result.1 } ∷ []) c.loop-place.invariant
    ∙ with_entry c.args.branches.now.store c.loop-place.place e.result.0 e.result.1 (omega (arith, c.loop-place-test.true, c.held-place-end.ensures)) e.ensures)
