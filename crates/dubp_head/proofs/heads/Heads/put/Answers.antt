use Rattle.std.proofs.Common.{◌≡◌, ℕ, suc, ◌+◌, ◌-◌, List, ◌∷◌, ◌++◌, length, reverse, refl, ap, subst, sym, ◌∙◌, arith}
use Rattle.std.proofs.lemmas.List.{length-map}
use Rattle.std.specs.Option.{option_to_list}
use Rattle.dubp_time.specs.Median.{SameTimes}
use Rattle.dubp_chain.specs.declared.head.Head.{Head}
use Rattle.dubp_head.specs.HeadsStates.{HeadsState}
use Rattle.dubp_head.proofs.LastBlocks.{length-before, length-last}
use Rattle.dubp_head.proofs.LastTimes.{time_at}
use Rattle.dubp_head.proofs.KeptHeads.{gone-among, room-push, AreKept-push, reverse-push, settled, issuers_of}
use Rattle.dubp_head.proofs.Totals.{length-totals}
use Rattle.dubp_head.proofs.heads.Heads.put.Goals as goal

pub exchange-requires-clause-there : goal.exchange-requires-clause-there
exchange-requires-clause-there c =
    let gone : c.time_before-gone.result ≡ time_at (reverse c.self.inside.heads.items) (c.self.inside.span - 1) = c.time_before-gone.ensures ∙ ap (λ (v : HeadsState). time_at v.list (c.self.inside.span - 1)) (sym c.self.view_is) in
    let more : c.self.inside.span ≡ suc (c.self.inside.span - 1) = omega (arith, c.requires.span, ap (λ (v : HeadsState). v.span) c.self.view_is) in
    rw gone (gone-among _ _ _ _ _ _ _ c.self.invariant more)

pub exchange-requires-clause-room : goal.exchange-requires-clause-room
exchange-requires-clause-room c =
    let gone : c.time_before-gone.result ≡ time_at (reverse c.self.inside.heads.items) (c.self.inside.span - 1) = c.time_before-gone.ensures ∙ ap (λ (v : HeadsState). time_at v.list (c.self.inside.span - 1)) (sym c.self.view_is) in
    let more : c.self.inside.span ≡ suc (c.self.inside.span - 1) = omega (arith, c.requires.span, ap (λ (v : HeadsState). v.span) c.self.view_is) in
    rw gone (room-push _ _ _ _ _ _ _ c.self.invariant more)

pub push-earlier-requires-clause-before : goal.push-earlier-requires-clause-before
push-earlier-requires-clause-before c =
    omega (arith, c.requires.room, ap (λ (v : HeadsState). length v.list) c.self.view_is, ap (λ (v : HeadsState). v.room) c.self.view_is, length-before _ _ c.self.invariant.issuers, length-map (reverse c.self.inside.heads.items) (λ (h : Head). h.issuer))

pub push-earlier-requires-clause-last : goal.push-earlier-requires-clause-last
push-earlier-requires-clause-last c =
    omega (arith, c.requires.room, ap (λ (v : HeadsState). length v.list) c.self.view_is, ap (λ (v : HeadsState). v.room) c.self.view_is, length-last _ _ c.self.invariant.issuers, length-map (reverse c.self.inside.heads.items) (λ (h : Head). h.issuer))

pub push-requires : goal.push-requires
push-requires c =
    let list = reverse c.self.inside.heads.items in
    let kept = c.self.invariant in
    record {
      issuers = issuers_of list;
      key = c.args.head.issuer;
      are = kept.frame.counted;
      is = c.push-earlier.ensures.earlier (issuers_of list) kept.issuers;
      room = omega (arith, c.requires.room, ap (λ (v : HeadsState). length v.list) c.self.view_is, ap (λ (v : HeadsState). v.room) c.self.view_is, length-map list (λ (h : Head). h.issuer));
    }

pub push-requires-2 : goal.push-requires-2
push-requires-2 c =
    omega (arith, c.requires.room, ap (λ (v : HeadsState). length v.list) c.self.view_is, ap (λ (v : HeadsState). v.room) c.self.view_is, length-totals _ _ c.self.invariant.sizes)

pub settle-requires : goal.settle-requires
settle-requires c =
    let all = issuers_of (reverse c.self.inside.heads.items) in
    record {
      issuers = c.args.head.issuer ∷ all;
      are = c.push.ensures.counted all c.args.head.issuer (c.push-earlier.ensures.earlier all c.self.invariant.issuers) c.self.invariant.frame.counted;
    }

pub invariant_of-self : goal.invariant_of-self
invariant_of-self c =
    let gone : c.time_before-gone.result ≡ time_at (reverse c.self.inside.heads.items) (c.self.inside.span - 1) = c.time_before-gone.ensures ∙ ap (λ (v : HeadsState). time_at v.list (c.self.inside.span - 1)) (sym c.self.view_is) in
    let more : c.self.inside.span ≡ suc (c.self.inside.span - 1) = omega (arith, c.requires.span, ap (λ (v : HeadsState). v.span) c.self.view_is) in
    let exchanged = subst (λ o. (others : List ℕ) → SameTimes c.self.inside.times.times (option_to_list o ++ others) → SameTimes c.exchange.new.self.times (c.args.head.time ∷ others)) gone c.exchange.ensures.times in
    let len = subst (λ o. length c.exchange.new.self.times + length (option_to_list o) ≡ length c.self.inside.times.times + 1) gone c.exchange.ensures.len in
    let list = reverse c.self.inside.heads.items in
    let all = issuers_of list in
    let counted = c.push.ensures.counted all c.args.head.issuer (c.push-earlier.ensures.earlier all c.self.invariant.issuers) c.self.invariant.frame.counted in
    let frame = settled (c.args.head ∷ list) _ _ counted (c.settle.ensures.counted (c.args.head.issuer ∷ all) counted) c.settle.ensures.blocks in
    rw (c.push_reserved.ensures.items, reverse-push) (AreKept-push _ _ _ _ _ _ _ c.self.invariant more c.args.head _ _ _ _ (c.push-earlier.ensures.issuers _ c.self.invariant.issuers) frame (c.push-2.ensures.totals list c.args.head refl c.self.invariant.sizes) exchanged len c.exchange.ensures.width)
