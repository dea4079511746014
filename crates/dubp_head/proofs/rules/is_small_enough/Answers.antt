use Rattle.std.proofs.Common.{◌≡◌, length, min, ap, ◌∙◌, arith}
use Rattle.dubp_validity.specs.HeadRules.{greatest_size}
use Rattle.dubp_head.proofs.NextHeads.{small_enough}
use Rattle.dubp_head.proofs.Totals.{last_small, greatest_size-fewer}
use Rattle.dubp_head.proofs.rules.is_small_enough.Goals as goal

pub greatest_size-requires : goal.greatest_size-requires
greatest_size-requires c =
    omega (arith, c.size_of_last.ensures, last_small c.args.heads.now.list c.min-count.result c.requires.small c.requires.short)

pub returns : goal.returns
returns c =
    let hs = c.args.heads.now.list in
    let count : c.min-count.result ≡ min c.args.head.now.issuers (length hs) = omega (arith, c.min-count.ensures, c.len.ensures) in
    small_enough hs c.in-Some._last.now c.args.head.now c.args.block.now c.size.result c.greatest_size.result c.in-Some.ensures c.size.ensures
    (c.greatest_size.ensures hs (omega (arith, count)) c.size_of_last.ensures ∙ ap (λ n. greatest_size n hs) count ∙ greatest_size-fewer hs c.args.head.now.issuers)
