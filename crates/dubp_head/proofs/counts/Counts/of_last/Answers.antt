use Rattle.std.proofs.Common.{◌≡◌, ◌<◌, length, get_or, take, Some, ap, subst, sym, ◌∙◌, arith}
use Rattle.std.proofs.lemmas.List.{get_or_default}
use Rattle.dubp_chain.specs.Heads.{blocks_of}
use Rattle.dubp_head.specs.LastBlocks.{last_place}
use Rattle.dubp_head.specs.Counts.{CountsState, AreCounted}
use Rattle.dubp_head.proofs.Counting.{known_within, last-within, count_at, none_counted}
use Rattle.dubp_head.proofs.counts.Counts.of_last.Goals as goal

pub index-requires : goal.index-requires
index-requires c =
    let r = c.requires in
    let was = subst (λ s. AreCounted s r.issuers) (sym c.self.view_is) r.are in
    omega (arith, known_within _ r.key r.issuers c.in-Some.place was (sym r.is ∙ c.in-Some.is), c.self.inside.numbers.ok.0)

pub index-requires-in-Some : goal.index-requires-in-Some
index-requires-in-Some c =
    let r = c.requires in
    let was = subst (λ s. AreCounted s r.issuers) (sym c.self.view_is) r.are in
    let found : last_place r.issuers r.key ≡ Some c.in-Some.place = sym r.is ∙ c.in-Some.is in
    let number : c.index.result.now ≡ get_or c.self.inside.numbers.items c.in-Some.place 0 = c.index.ensures ∙ get_or_default c.self.inside.numbers.items c.in-Some.place c.index.result.now 0 (known_within _ r.key r.issuers c.in-Some.place was found) in
    omega (arith, number, last-within _ r.issuers r.key c.in-Some.place was found, c.self.inside.counts.ok.0)

pub returns-in-Some : goal.returns-in-Some
returns-in-Some c issuers k last counted =
    let was = subst (λ s. AreCounted s issuers) (sym c.self.view_is) counted in
    let found : last_place issuers k ≡ Some c.in-Some.place = sym last ∙ c.in-Some.is in
    let number : c.index.result.now ≡ get_or c.self.inside.numbers.items c.in-Some.place 0 = c.index.ensures ∙ get_or_default c.self.inside.numbers.items c.in-Some.place c.index.result.now 0 (known_within _ k issuers c.in-Some.place was found) in
    let within : c.index.result.now < length c.self.inside.counts.items = omega (arith, number, last-within _ issuers k c.in-Some.place was found) in
    c.index-in-Some.ensures
    ∙ get_or_default c.self.inside.counts.items c.index.result.now c.index-in-Some.result.now 0 within
    ∙ ap (λ n. get_or c.self.inside.counts.items n 0) number
    ∙ count_at _ issuers k c.in-Some.place was found
    ∙ ap (λ (s : CountsState). blocks_of (take s.blocks issuers) k) c.self.view_is

pub returns-in-None : goal.returns-in-None
returns-in-None c issuers k last counted = sym (none_counted c.args.self.now.blocks issuers k (sym last ∙ c.in-None.is))
