use Rattle.std.proofs.Common.{◌≡◌, ◌<◌, ◌-◌, ◌∙◌, ap, arith, drop, length, length-drop, suc}
use Rattle.std.proofs.lemmas.List.{length-map}
use Rattle.dubp_block.specs.Text.{stamp_of}
use Rattle.dubp_ledger.specs.OfKept.{KeptChain}
use Rattle.dubp_forks.proofs.Onward.{accept_place, one_more_steps, onward_place, taken_back, why_place}
use Rattle.dubp_forks.proofs.switching.accept_all.Goals as goal

pub accept-requires : goal.accept-requires
accept-requires g c =
    let i = c.loop-left.invariant in
    let within : c.loop-left.left - 1 < length c.args.stamps.now = omega (arith, i.within, c.loop-left-test.true) in
    let one : c.loop-left.left ≡ suc (c.loop-left.left - 1) = omega (arith, c.loop-left-test.true) in
    accept_place c.args.verdicts.now c.args.ledger.now c.loop-left.ledger c.args.blocks.now.entries c.args.stamps.now c.requires.laid.0 (c.loop-left.left - 1) c.loop-left.left c.index-stamps-left.result
    c.requires.kept c.requires.laid.1 within one c.index-stamps-left.is (i.on c.requires.laid.0 c.requires.laid.1)

pub take_back-requires : goal.take_back-requires
take_back-requires g c =
    let path = c.requires.laid.0 in
    let laid = c.requires.laid.1 in
    let on = c.loop-left.invariant.on path laid in
    omega (arith, on.kept, length-drop c.loop-left.left path, ap length laid.stamps, length-map path stamp_of, c.loop-left.invariant.within, ap (λ (k : KeptChain). k.kept) c.in-Err.ensures.same)

pub returns-in-Err-clause-same : goal.returns-in-Err-clause-same
returns-in-Err-clause-same g c =
    let path = c.requires.laid.0 in
    let laid = c.requires.laid.1 in
    let on = c.loop-left.invariant.on path laid in
    let left = c.loop-left.left in
    let all : length c.args.stamps.now - left ≡ length (drop left path) = omega (arith, length-drop left path, ap length laid.stamps, length-map path stamp_of, c.loop-left.invariant.within) in
    let again = c.in-Err.ensures.same in
    taken_back c.args.verdicts.now c.args.ledger.now c.loop-left.ledger c.take_back.new.ledger (drop left path) (length c.args.stamps.now - left) on all
    (c.take_back.ensures.chain ∙ ap (λ (k : KeptChain). drop (length c.args.stamps.now - left) k.chain) again) (c.take_back.ensures.kept ∙ ap (λ (k : KeptChain). k.kept) again) (c.take_back.ensures.out ∙ ap (λ (k : KeptChain). k.out) again)

pub returns-in-Err-clause-refused : goal.returns-in-Err-clause-refused
returns-in-Err-clause-refused g c = λ path laid.
    let i = c.loop-left.invariant in
    let within : c.loop-left.left - 1 < length c.args.stamps.now = omega (arith, i.within, c.loop-left-test.true) in
    let one : c.loop-left.left ≡ suc (c.loop-left.left - 1) = omega (arith, c.loop-left-test.true) in
    why_place c.args.verdicts.now c.args.ledger.now c.loop-left.ledger c.args.blocks.now.entries c.args.stamps.now path (c.loop-left.left - 1) c.loop-left.left c.index-stamps-left.result
    c.requires.kept laid within one c.index-stamps-left.is (i.on path laid) c.in-Err.refusal c.in-Err.ensures.refused

pub loop-left-preserved : goal.loop-left-preserved
loop-left-preserved g c =
    let i = c.loop-left.invariant in
    let within : c.loop-left.left - 1 < length c.args.stamps.now = omega (arith, i.within, c.loop-left-test.true) in
    let one : c.loop-left.left ≡ suc (c.loop-left.left - 1) = omega (arith, c.loop-left-test.true) in
    record {
      within = omega (arith, within);
      steps = let grows = c.in_default.ensures.grows in one_more_steps (length c.args.stamps.now) c.loop-left.left (c.loop-left.left - 1) c.loop-left.ledger c.accept.new.ledger grows.0 c.args.steps.now c.loop-left.steps c.accept.new.steps one i.within i.steps grows.1 grows.2;
      on = λ path laid.
          onward_place c.args.verdicts.now c.args.ledger.now c.loop-left.ledger c.args.blocks.now.entries c.args.stamps.now path (c.loop-left.left - 1) c.loop-left.left c.index-stamps-left.result
          c.requires.kept laid within one c.index-stamps-left.is (i.on path laid) c.accept.new.ledger c.requires.out c.in_default.ensures.accepted;
    }
