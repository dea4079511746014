use Rattle.dubp_people_after.proofs.Enough.{stock_told}
use Rattle.dubp_people_after.proofs.counted.keeps_stock.Goals as goal

pub returns : goal.returns
returns g c = λ chain b shown.
    stock_told chain b c.args.line.now _ _ c.is_within.result (c.params.ensures chain b shown) (c.in_ok-count.ensures chain b shown) c.is_within.ensures
