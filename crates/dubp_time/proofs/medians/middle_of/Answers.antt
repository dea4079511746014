-- Of times in rising order the median is the mean of the middle two.
use Rattle.std.proofs.Common.{Some, ap, sym, ◌∙◌, ◌+◌, ◌/◌, length, get_or, ◌<◌, arith}
use Rattle.dubp_time.proofs.MedianLaws.{median_of_rising}
use Rattle.dubp_time.proofs.medians.middle_of.Goals as goal

pub returns : goal.returns
returns c =
    let xs = c.args.rising.now in
    let some : 0 < length xs = omega arith in
    let last = c.in_ok-last.ensures.1 in
    ap Some (c.midpoint.ensures ∙ ap (λ k. (get_or xs (k / 2) 0 + get_or xs (length xs / 2) 0) / 2) last) ∙ sym (median_of_rising xs some c.requires)
