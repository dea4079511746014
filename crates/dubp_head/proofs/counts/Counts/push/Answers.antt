use Rattle.std.proofs.Common.{◌+◌, ◌<◌, ◌^◌, length, ap, subst, sym, ◌∙◌, arith, rules}
use Rattle.dubp_head.specs.Counts.{CountsState, IsRankedOf, IsEntered}
use Rattle.dubp_head.proofs.Counting.{length-kept, entered-within, entered-few, entered-length, AreCounted-push}
use Rattle.dubp_head.proofs.counts.Counts.push.Goals as goal

pub push_reserved-requires : goal.push_reserved-requires
push_reserved-requires c =
    let r = c.requires in
    omega (arith, length-kept _ r.issuers r.are, r.room, c.self.inside.numbers.ok.0, ap length c.enter-number.ensures.numbers, c.enter-number.ensures.room, ap (λ (s : CountsState). length s.numbers) c.self.view_is, ap (λ (s : CountsState). s.room) c.self.view_is)

pub raise-requires-clause-within : goal.raise-requires-clause-within
raise-requires-clause-within c =
    let r = c.requires in
    let entered = subst (λ s. IsEntered s c.enter-number.result r.issuers r.key) (sym c.self.view_is) (c.enter-number.ensures.entered r.issuers r.key r.is r.are) in
    entered-within _ r.key r.issuers c.enter-number.result entered

pub raise-requires-clause-few : goal.raise-requires-clause-few
raise-requires-clause-few c =
    let r = c.requires in
    let entered = subst (λ s. IsEntered s c.enter-number.result r.issuers r.key) (sym c.self.view_is) (c.enter-number.ensures.entered r.issuers r.key r.is r.are) in
    let few : length c.self.inside.numbers.items < 2 ^ 63 = search rules in
    omega (arith, entered-few _ r.key r.issuers c.enter-number.result entered, length-kept _ r.issuers r.are, ap length c.enter-number.ensures.numbers, few, ap (λ (s : CountsState). length s.numbers) c.self.view_is)

pub raise-requires-clause-room : goal.raise-requires-clause-room
raise-requires-clause-room c =
    let r = c.requires in
    let entered = subst (λ s. IsEntered s c.enter-number.result r.issuers r.key) (sym c.self.view_is) (c.enter-number.ensures.entered r.issuers r.key r.is r.are) in
    omega (arith, entered-length _ r.key r.issuers c.enter-number.result entered, r.room, c.push_reserved.ensures.capacity, c.enter-number.ensures.room, ap (λ (s : CountsState). s.room) c.self.view_is)

pub returns-clause-counted : goal.returns-clause-counted
returns-clause-counted c issuers k last counted =
    let r = c.requires in
    let entered = subst (λ s. IsEntered s c.enter-number.result issuers k) (sym c.self.view_is) (c.enter-number.ensures.entered issuers k last counted) in
    AreCounted-push _ k issuers c.enter-number.result entered c.args.self.now _ counted
    (omega (arith, length-kept _ r.issuers r.are, length-kept _ issuers counted, r.room))
    (ap (λ (s : CountsState). s.numbers) c.self.view_is ∙ c.enter-number.ensures.numbers)
    (ap (λ (s : CountsState). s.blocks) c.self.view_is ∙ c.enter-number.ensures.blocks)
    (omega (arith, ap (λ (s : CountsState). s.room) c.self-2.view_is, c.raise.ensures.room, c.push_reserved.ensures.capacity, c.enter-number.ensures.room, ap (λ (s : CountsState). s.room) c.self.view_is))
    (ap (λ (s : CountsState). s.counts) c.self-2.view_is ∙ c.raise.ensures.counts)
    (ap (λ (s : CountsState). s.numbers) c.self-2.view_is ∙ c.raise.ensures.numbers ∙ c.push_reserved.ensures.items)
    (ap (λ (s : CountsState). s.blocks + 1) c.self-2.view_is ∙ ap (λ n. n + 1) c.raise.ensures.blocks)
    (subst (λ (s : CountsState). IsRankedOf s.ranked s.counts) (sym c.self-2.view_is) c.raise.ensures.ranked)
