-- The middle two of the ranked counts are those of the counts of the frame.
use Rattle.std.proofs.Common.{◌≡◌, ◌+◌, ◌-◌, ◌/◌, ◌<◌, ◌^◌, length, get_or, map, take, ap, subst, sym, ◌∙◌, arith, rules}
use Rattle.std.proofs.lemmas.List.{get_or_default}
use Rattle.std.specs.Set.{unique_keys}
use Rattle.dubp_atoms.specs.Same.{same_text}
use Rattle.dubp_chain.specs.Heads.{blocks_of, doubled_median as doubled}
use Rattle.dubp_head.specs.Counts.{CountsState, AreCounted}
use Rattle.dubp_head.proofs.Ranking.{doubled_none, doubled_falling}
use Rattle.dubp_head.proofs.Counting.{doubled_counts, ranked-le, length-kept}
use Rattle.dubp_head.proofs.counts.Counts.doubled_median.Goals as goal

pub returns-then-count-eq0 : goal.returns-then-count-eq0
returns-then-count-eq0 c issuers counted =
    let was : AreCounted _ issuers = subst (λ s. AreCounted s issuers) (sym c.self.view_is) counted in
    subst (λ (s : CountsState). 0 ≡ doubled (map (blocks_of (take s.blocks issuers)) (unique_keys same_text (take s.blocks issuers)))) c.self.view_is (doubled_none c.self.inside.ranked.items (omega (arith, c.if-count-eq0.true, c.len-count.ensures, c.self.inside.ranked.ok.0)) ∙ doubled_counts _ issuers was)

pub overflow_add-result : goal.overflow_add-result
overflow_add-result c =
    let issuers = c.requires.issuers in
    let was : AreCounted _ issuers = subst (λ s. AreCounted s issuers) (sym c.self.view_is) c.requires.are in
    let few : length c.self.inside.numbers.items < 2 ^ 63 = search rules in
    let long : length issuers < 2 ^ 63 = omega (arith, few, length-kept _ issuers was) in
    let n : c.len-count.result ≡ length c.self.inside.ranked.items = c.len-count.ensures ∙ c.self.inside.ranked.ok.0 in
    let low = ranked-le _ issuers ((c.len-count.result - 1) / 2) was (omega (arith, n, c.if-count-eq0.false)) in
    let high = ranked-le _ issuers (c.len-count.result / 2) was (omega (arith, n, c.if-count-eq0.false)) in
    omega (arith, low, high, long, c.index.ensures ∙ get_or_default c.self.inside.ranked.items ((c.len-count.result - 1) / 2) c.index.result.now 0 (omega (arith, n, c.if-count-eq0.false)), c.index-2.ensures ∙ get_or_default c.self.inside.ranked.items (c.len-count.result / 2) c.index-2.result.now 0 (omega (arith, n, c.if-count-eq0.false)))

pub returns : goal.returns
returns c issuers counted =
    let was : AreCounted _ issuers = subst (λ s. AreCounted s issuers) (sym c.self.view_is) counted in
    let r = c.self.inside.ranked.items in
    let n : c.len-count.result ≡ length r = c.len-count.ensures ∙ c.self.inside.ranked.ok.0 in
    let low : c.index.result.now ≡ get_or r ((length r - 1) / 2) 0 = c.index.ensures ∙ get_or_default c.self.inside.ranked.items ((c.len-count.result - 1) / 2) c.index.result.now 0 (omega (arith, n, c.if-count-eq0.false)) ∙ ap (λ m. get_or r ((m - 1) / 2) 0) n in
    let high : c.index-2.result.now ≡ get_or r (length r / 2) 0 = c.index-2.ensures ∙ get_or_default c.self.inside.ranked.items (c.len-count.result / 2) c.index-2.result.now 0 (omega (arith, n, c.if-count-eq0.false)) ∙ ap (λ m. get_or r (m / 2) 0) n in
    subst (λ (s : CountsState). c.index.result.now + c.index-2.result.now ≡ doubled (map (blocks_of (take s.blocks issuers)) (unique_keys same_text (take s.blocks issuers)))) c.self.view_is
    (ap (λ m. m + c.index-2.result.now) low ∙ ap (λ m. get_or r ((length r - 1) / 2) 0 + m) high ∙ doubled_falling r (omega (arith, n, c.if-count-eq0.false)) was.ranked.falling ∙ doubled_counts _ issuers was)
