use Rattle.std.proofs.Common.{◌∙◌, ap, sym, drop, drop-drop, arith}
use Rattle.dubp_kept.specs.KeptChain.{last_steps}
use Rattle.dubp_kept.proofs.Within.{steps_on}
use Rattle.dubp_kept.proofs.kept.Kept.take_off.Goals as goal

pub loop-preserved : goal.loop-preserved
loop-preserved g c = record {
  chain = sym (ap (drop 1) c.withdraw.ensures.chain) ∙ ap (drop 1) c.loop.invariant.chain
      ∙ drop-drop 1 c.loop.counter c.args.self.now.chain
      ∙ ap (λ n. drop n c.args.self.now.chain) (omega arith);
  out = c.withdraw.ensures.out ∙ c.loop.invariant.out;
  kept = omega (arith, c.withdraw.ensures.kept, c.loop.invariant.kept);
  steps = omega (arith, c.loop.invariant.steps, c.withdraw.ensures.steps, ap last_steps c.loop.invariant.chain, steps_on c.loop.counter c.args.self.now.chain);
}
