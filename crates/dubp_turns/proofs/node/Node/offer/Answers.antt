use Rattle.std.proofs.Common.{subst}
use Rattle.dubp_replay.specs.Turns.{State}
use Rattle.dubp_choosing.specs.States.{state_with}
use Rattle.dubp_turns.specs.Acting.{OfferActs}
use Rattle.dubp_turns.specs.Told.{told_text}
use Rattle.dubp_turns.proofs.Turns.{held_behind, kept_behind, offer_chooses, offer_quietly, offer_refused}
use Rattle.dubp_turns.proofs.node.Node.offer.Goals as goal

pub invariant_of-self : goal.invariant_of-self
invariant_of-self g c =
    let s = c.self.inside in
    kept_behind (state_with s.pool s.branches s.auto s.failures.items) c.self.invariant c.args.frame.now c.in-Ok.stamp c.store_block.new.self c.in-Ok.ensures.offered c.store_block.ensures.same

pub returns-then-not-self : goal.returns-then-not-self
returns-then-not-self g c = λ short.
    let s = c.self.inside in
    subst (λ (x : State). OfferActs x c.args.frame.now (c.put_offer.new.line.items) (state_with s.pool c.store_block.new.self s.auto s.failures.items)) c.self.view_is
    (offer_quietly (state_with s.pool s.branches s.auto s.failures.items) c.self.invariant c.args.frame.now c.in-Ok.stamp c.store_block.new.self c.in-Ok.ensures.offered c.store_block.ensures.same
    (c.put_offer.new.line.items) c.put_offer.ensures c.if-not-self.true)

pub choose_behind-requires : goal.choose_behind-requires
choose_behind-requires g c =
    let s = c.self.inside in
    record {
      held = kept_behind (state_with s.pool s.branches s.auto s.failures.items) c.self.invariant c.args.frame.now c.in-Ok.stamp c.store_block.new.self c.in-Ok.ensures.offered c.store_block.ensures.same;
      empty = c.requires;
    }

pub invariant_of-self-in-Ok : goal.invariant_of-self-in-Ok
invariant_of-self-in-Ok g c =
    let s = c.self.inside in
    held_behind (state_with s.pool s.branches s.auto s.failures.items) c.self.invariant c.args.frame.now c.in-Ok.stamp c.store_block.new.self c.in-Ok.ensures.offered c.store_block.ensures.same
    (told_text c.choose_behind.new.line.items c.choose_behind.result) c.choose_behind.new.branches c.choose_behind.new.failures.items c.choose_behind.ensures

pub returns-else-not-self : goal.returns-else-not-self
returns-else-not-self g c = λ short.
    let s = c.self.inside in
    subst (λ (x : State). OfferActs x c.args.frame.now (told_text c.choose_behind.new.line.items c.choose_behind.result) (state_with s.pool c.choose_behind.new.branches s.auto c.choose_behind.new.failures.items)) c.self.view_is
    (offer_chooses (state_with s.pool s.branches s.auto s.failures.items) c.self.invariant c.args.frame.now c.in-Ok.stamp c.store_block.new.self c.in-Ok.ensures.offered c.store_block.ensures.same
    (told_text c.choose_behind.new.line.items c.choose_behind.result) c.choose_behind.new.branches c.choose_behind.new.failures.items c.choose_behind.ensures c.if-not-self.false)

pub returns-in-Err : goal.returns-in-Err
returns-in-Err g c = λ short.
    let s = c.self.inside in
    subst (λ (x : State). OfferActs x c.args.frame.now (c.put_offer-in-Err.new.line.items) (state_with s.pool c.store_block.new.self s.auto s.failures.items)) c.self.view_is
    (offer_refused (state_with s.pool s.branches s.auto s.failures.items) c.self.invariant c.args.frame.now (c.put_offer-in-Err.new.line.items) c.in-Err.refusal c.store_block.new.self c.in-Err.ensures.offered c.store_block.ensures.same
    c.put_offer-in-Err.ensures)
