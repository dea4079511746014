use Rattle.std.proofs.Common.{◌≡◌, length, get_or, Some, refl, ap, subst, sym, ◌∙◌, arith}
use Rattle.std.proofs.lemmas.List.{get_or_default}
use Rattle.dubp_head.specs.LastBlocks.{last_place}
use Rattle.dubp_head.specs.Counts.{CountsState, AreCounted, IsEntered}
use Rattle.dubp_head.proofs.Counting.{known_within, entered_known, entered_new, length-counts-le}
use Rattle.dubp_head.proofs.counts.Counts.enter.Goals as goal

pub index-requires : goal.index-requires
index-requires c =
    let r = c.requires in
    let was = subst (λ s. AreCounted s r.issuers) (sym c.self.view_is) r.are in
    omega (arith, known_within _ r.key r.issuers c.in-Some.place was (sym r.is ∙ c.in-Some.is), c.self.inside.numbers.ok.0)

pub push_reserved-requires : goal.push_reserved-requires
push_reserved-requires c =
    let r = c.requires in
    omega (arith, length-counts-le _ r.issuers r.are, r.room, c.self.inside.counts.ok.0, ap (λ (s : CountsState). length s.counts) c.self.view_is, ap (λ (s : CountsState). s.room) c.self.view_is)

pub returns-in-Some-clause-entered : goal.returns-in-Some-clause-entered
returns-in-Some-clause-entered c issuers k last counted =
    let was = subst (λ s. AreCounted s issuers) (sym c.self.view_is) counted in
    let found : last_place issuers k ≡ Some c.in-Some.place = sym last ∙ c.in-Some.is in
    let number : c.index.result.now ≡ get_or c.self.inside.numbers.items c.in-Some.place 0 = c.index.ensures ∙ get_or_default c.self.inside.numbers.items c.in-Some.place c.index.result.now 0 (known_within _ k issuers c.in-Some.place was found) in
    subst (λ s. IsEntered s c.index.result.now issuers k) c.self.view_is (entered_known _ k issuers c.in-Some.place c.index.result.now was found number)

pub returns-in-None-clause-entered : goal.returns-in-None-clause-entered
returns-in-None-clause-entered c issuers k last counted =
    let was = subst (λ s. AreCounted s issuers) (sym c.self.view_is) counted in
    entered_new _ _ k issuers c.len-number.result was (sym last ∙ c.in-None.is) c.push_reserved.ensures.items refl refl (c.len-number.ensures ∙ c.self.inside.counts.ok.0)
