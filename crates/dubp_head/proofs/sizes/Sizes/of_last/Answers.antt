use Rattle.std.proofs.Common.{◌≡◌, ◌-◌, length, drop, ap, arith}
use Rattle.dubp_head.specs.Totals.{SizesState, total_of}
use Rattle.dubp_head.proofs.Totals.{length-totals, total_last}
use Rattle.dubp_head.proofs.sizes.Sizes.of_last.Goals as goal

pub returns : goal.returns
returns c hs are =
    let len : c.len-len.result ≡ length hs = omega (arith, c.len-len.ensures, c.self.inside.totals.ok.0, length-totals _ hs are, ap (λ (s : SizesState). length s.totals) c.self.view_is) in
    let before : c.saturating_sub-before.result ≡ c.len-len.result - c.args.count = omega (arith, c.saturating_sub-before.ensures) in
    let all : c.of_first.result ≡ total_of (drop (length hs - c.len-len.result) hs) = c.of_first.ensures hs are in
    let earlier : c.of_first-2.result ≡ total_of (drop (length hs - c.saturating_sub-before.result) hs) = c.of_first-2.ensures hs are in
    omega (arith, c.saturating_sub.ensures, all, earlier, total_last hs c.args.count c.len-len.result c.saturating_sub-before.result len before)
