use Rattle.std.proofs.Common.{◌≡◌, ◌≤◌, ◌+◌, drop}
use Rattle.dubp_kept.specs.KeptChain.{steps_of_last}
use Rattle.dubp_kept.proofs.kept.Kept.take_off.Given as goal

abbrev pub invariant-loop : goal.invariant-loop
invariant-loop g l = record {
  chain : l.self.chain ≡ drop l.counter l.initial.self.chain;
  out : l.self.out ≡ l.initial.self.out;
  kept : l.self.kept + l.counter ≡ l.initial.self.kept;
  steps : l.steps ≤ l.initial.steps + steps_of_last l.counter l.initial.self.chain;
}
