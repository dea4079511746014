use Rattle.std.proofs.Common.{◌≡◌, ◌<◌, ◌≤◌, List}
use Rattle.dubp_atoms.specs.Same.{Text}
use Rattle.dubp_head.specs.Counts.{AreCounted}
use Rattle.dubp_head.proofs.counts.Counts.grow_to.Given as goal

-- the frame has as many blocks as the counter says
abbrev pub invariant-loop : goal.invariant-loop
invariant-loop l = record {
  counted : (issuers : List Text) → AreCounted l.fn.self issuers → AreCounted l.self issuers;
  numbers : l.self.numbers ≡ l.fn.self.numbers;
  blocks : l.self.blocks ≡ l.counter;
  from : l.fn.self.blocks ≤ l.counter;
  bound : l.fn.self.blocks < l.counter → l.counter ≤ l.wanted;
  room : l.self.room ≡ l.fn.self.room;
}
