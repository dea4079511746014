use Rattle.std.proofs.Common.{◌≡◌, ℕ, ◌+◌, List, ◌∷◌, ◌++◌, length, min, reverse, ap, subst, sym, ◌∙◌}
use Rattle.std.specs.Option.{option_to_list}
use Rattle.dubp_time.specs.Median.{SameTimes}
use Rattle.dubp_head.specs.HeadsStates.{HeadsState}
use Rattle.dubp_head.specs.Frames.{frame_of}
use Rattle.dubp_head.specs.KeptHeads.{AreKept}
use Rattle.dubp_head.proofs.LastBlocks.{last-IsSome}
use Rattle.dubp_head.proofs.LastTimes.{time_at}
use Rattle.dubp_head.proofs.KeptHeads.{first-among, AreKept-pop, reverse-pop, settled, issuers_of}
use Rattle.dubp_head.proofs.heads.Heads.pop.Goals as goal

pub pop-earlier-requires : goal.pop-earlier-requires
pop-earlier-requires c =
    let items : reverse c.self.inside.heads.items ≡ c.unwrap-head.result ∷ reverse c.pop.new.self.items = reverse-pop _ _ _ _ c.pop.ensures.items c.unwrap-head.ensures in
    let was = subst (λ l. AreKept l c.self.inside.issuers c.self.inside.counts c.self.inside.sizes c.self.inside.times c.self.inside.span) items c.self.invariant in
    last-IsSome _ _ _ was.issuers

pub pop-requires-2 : goal.pop-requires-2
pop-requires-2 c =
    let items : reverse c.self.inside.heads.items ≡ c.unwrap-head.result ∷ reverse c.pop.new.self.items = reverse-pop _ _ _ _ c.pop.ensures.items c.unwrap-head.ensures in
    let was = subst (λ l. AreKept l c.self.inside.issuers c.self.inside.counts c.self.inside.sizes c.self.inside.times c.self.inside.span) items c.self.invariant in
    record { issuers = issuers_of (reverse c.pop.new.self.items); key = c.unwrap-head.result.issuer; are = was.frame.counted }

pub settle-requires : goal.settle-requires
settle-requires c =
    let items : reverse c.self.inside.heads.items ≡ c.unwrap-head.result ∷ reverse c.pop.new.self.items = reverse-pop _ _ _ _ c.pop.ensures.items c.unwrap-head.ensures in
    let was = subst (λ l. AreKept l c.self.inside.issuers c.self.inside.counts c.self.inside.sizes c.self.inside.times c.self.inside.span) items c.self.invariant in
    let all = issuers_of (reverse c.pop.new.self.items) in
    record { issuers = all; are = c.pop-2.ensures.counted all c.unwrap-head.result.issuer (c.pop-earlier.ensures.earlier all was.issuers) was.frame.counted }

pub exchange-requires-clause-there : goal.exchange-requires-clause-there
exchange-requires-clause-there c =
    let items : reverse c.self.inside.heads.items ≡ c.unwrap-head.result ∷ reverse c.pop.new.self.items = reverse-pop _ _ _ _ c.pop.ensures.items c.unwrap-head.ensures in
    let was = subst (λ l. AreKept l c.self.inside.issuers c.self.inside.counts c.self.inside.sizes c.self.inside.times c.self.inside.span) items c.self.invariant in
    first-among _ _ _ _ _ _ _ was

pub invariant_of-self : goal.invariant_of-self
invariant_of-self c =
    let items : reverse c.self.inside.heads.items ≡ c.unwrap-head.result ∷ reverse c.pop.new.self.items = reverse-pop _ _ _ _ c.pop.ensures.items c.unwrap-head.ensures in
    let was = subst (λ l. AreKept l c.self.inside.issuers c.self.inside.counts c.self.inside.sizes c.self.inside.times c.self.inside.span) items c.self.invariant in
    let come : c.time_before-come.result ≡ time_at (c.unwrap-head.result ∷ reverse c.pop.new.self.items) c.self.inside.span = c.time_before-come.ensures ∙ ap (λ (v : HeadsState). time_at v.list c.self.inside.span) (sym c.self.view_is) ∙ ap (λ l. time_at l c.self.inside.span) items in
    let exchanged = subst (λ o. (others : List ℕ) → SameTimes c.self.inside.times.times (c.unwrap-head.result.time ∷ others) → SameTimes c.exchange.new.self.times (option_to_list o ++ others)) come c.exchange.ensures.times in
    let len = subst (λ o. length c.exchange.new.self.times + 1 ≡ length c.self.inside.times.times + length (option_to_list o)) come c.exchange.ensures.len in
    let list = reverse c.pop.new.self.items in
    let counted = c.pop-2.ensures.counted (issuers_of list) c.unwrap-head.result.issuer (c.pop-earlier.ensures.earlier (issuers_of list) was.issuers) was.frame.counted in
    let newest : c.last_frame.result ≡ frame_of list = c.last_frame.ensures ∙ ap (λ l. frame_of (reverse l)) c.deref.ensures.value in
    let blocks = c.settle.ensures.blocks ∙ ap (λ n. min n (length c.pop-2.new.self.numbers)) newest in
    let frame = settled list _ _ counted (c.settle.ensures.counted (issuers_of list) counted) blocks in
    AreKept-pop _ _ _ _ _ _ _ was _ _ _ _ (c.pop-earlier.ensures.issuers _ was.issuers) frame (c.pop-3.ensures.totals list c.unwrap-head.result was.sizes) exchanged len c.exchange.ensures.width
