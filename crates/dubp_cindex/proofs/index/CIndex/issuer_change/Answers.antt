use Rattle.std.proofs.Common.{ap, sym, ◌∙◌}
use Rattle.std.specs.FinMap.{empty}
use Rattle.std.specs.Option.{option_map_or}
use Rattle.dubp_undo.specs.States.{newest}
use Rattle.dubp_cindex.specs.declared.row.IssuerRow.{IssuerRow}
use Rattle.dubp_cindex.specs.Changes.{changed, counted}
use Rattle.dubp_cindex.proofs.Puts.{issuer_put}
use Rattle.dubp_cindex.proofs.index.CIndex.issuer_change.Goals as goal

pub returns : goal.returns
returns c = λ s a was stocks.
    let rows = newest empty s in
    let pair = c.args.pair.now in
    let told = c.issuer-was.ensures s a in
    let put = issuer_put rows c.args.from.now c.args.to.now c.args.row.now pair c.in_ok-stock.stock c.written_after-written.result
    (c.in_ok-stock.ensures ∙ ap (counted pair) (c.stock_of.ensures ∙ ap (λ o. option_map_or (λ (r : IssuerRow). r.stock) o 0) told)) stocks (c.written_after-written.ensures rows a.0 was told) in (
      ap (changed c.issuer_becomes.result) (sym told) ∙ c.issuer_becomes.ensures.is ∙ put,
      λ e. c.issuer_becomes.ensures.stays (told ∙ sym e ∙ sym put),
    )
