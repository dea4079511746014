use Rattle.std.proofs.Common.{◌∙◌, ◌++◌, ap, subst}
use Rattle.dubp_choosing.proofs.Tries.{ready}
use Rattle.dubp_turns.proofs.Offers.{stored_offers}
use Rattle.dubp_turns.proofs.Switches.{IsTry, succeeded, tried}
use Rattle.dubp_turns.proofs.Turns.{held_left}
use Rattle.dubp_turns.proofs.choosing.try_one.Goals as goal

pub unreachable-requires : goal.unreachable-requires
unreachable-requires g c =
    let b = c.args.branches.now in
    let w = c.in-Err-Unknown in
    subst IsTry w.field-0-is
    (tried b c.args.tip w.field-0 c.switch_to.new.self (ready b c.args.failures.now.items c.args.tip (stored_offers b.store c.laws.ensures.stored) c.laws.ensures.sound c.requires) w.ensures)

pub unreachable-requires-in-Err-Detached : goal.unreachable-requires-in-Err-Detached
unreachable-requires-in-Err-Detached g c =
    let b = c.args.branches.now in
    let w = c.in-Err-Detached in
    subst IsTry w.field-0-is
    (tried b c.args.tip w.field-0 c.switch_to.new.self (ready b c.args.failures.now.items c.args.tip (stored_offers b.store c.laws.ensures.stored) c.laws.ensures.sound c.requires) w.ensures)

pub unreachable-requires-in-Err-TooDeep : goal.unreachable-requires-in-Err-TooDeep
unreachable-requires-in-Err-TooDeep g c =
    let b = c.args.branches.now in
    let w = c.in-Err-TooDeep in
    subst IsTry w.field-0-is
    (tried b c.args.tip w.field-0 c.switch_to.new.self (ready b c.args.failures.now.items c.args.tip (stored_offers b.store c.laws.ensures.stored) c.laws.ensures.sound c.requires) w.ensures)

pub unreachable-requires-in-Err-Full : goal.unreachable-requires-in-Err-Full
unreachable-requires-in-Err-Full g c =
    let b = c.args.branches.now in
    let w = c.in-Err-Full in
    subst IsTry w.field-0-is
    (tried b c.args.tip w.field-0 c.switch_to.new.self (ready b c.args.failures.now.items c.args.tip (stored_offers b.store c.laws.ensures.stored) c.laws.ensures.sound c.requires) w.ensures)

pub returns-in-Ok-clause-tried : goal.returns-in-Ok-clause-tried
returns-in-Ok-clause-tried g c =
    let b = c.args.branches.now in
    let fs = c.args.failures.now.items in (
      succeeded b fs c.args.tip c.switch_to.new.self c.let_go.new.failures.items c.in-Ok.ensures c.let_go.ensures,
      held_left c.switch_to.new.self.store fs c.let_go.new.failures.items c.let_go.ensures,
      c.in_ok-add.ensures ∙ ap (λ l. c.args.lines.now.items ++ l) (c.as_slice.ensures.value ∙ c.switched_text.ensures),
    )
