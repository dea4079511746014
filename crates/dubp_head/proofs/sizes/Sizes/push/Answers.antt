use Rattle.std.proofs.Common.{◌≡◌, ◌-◌, ◌<◌, ◌^◌, ◌∷◌, ◌++◌, [], length, drop, reverse, ap, sym, ◌∙◌, arith, rules}
use Rattle.std.proofs.lemmas.List.Sums.{sum_by-cons}
use Rattle.dubp_chain.specs.declared.head.Head.{Head}
use Rattle.dubp_head.specs.Totals.{SizesState, total_of, totals_of}
use Rattle.dubp_head.proofs.Totals.{length-totals, total_fits, reverse-more}
use Rattle.dubp_head.proofs.sizes.Sizes.push.Goals as goal

pub returns-clause-totals : goal.returns-clause-totals
returns-clause-totals c hs h is are =
    let few : length c.self.inside.totals.items < 2 ^ 63 = search rules in
    let long = ap (λ (s : SizesState). length s.totals) c.self.view_is in
    let none : length hs - c.len.result ≡ 0 = omega (arith, c.len.ensures, c.self.inside.totals.ok.0, length-totals _ hs are, long) in
    let before : c.of_first-before.result ≡ total_of hs = c.of_first-before.ensures hs are ∙ ap (λ n. total_of (drop n hs)) none in
    let total : c.saturating_add.result ≡ total_of (h ∷ hs) = omega (arith, c.saturating_add.ensures, before, is, c.ranges.size.fits, few, long, total_fits _ hs are (omega (arith, few, long)), sum_by-cons (λ (g : Head). g.size) h hs) in
    record {
      are = c.push_reserved.ensures.items ∙ ap (λ l. l ++ c.saturating_add.result ∷ []) (ap (λ (s : SizesState). s.totals) c.self.view_is ∙ are.are) ∙ ap (λ t. reverse (totals_of hs) ++ t ∷ []) total ∙ sym (reverse-more hs h);
      each = (omega (arith, is, c.ranges.size.fits), are.each);
    }
