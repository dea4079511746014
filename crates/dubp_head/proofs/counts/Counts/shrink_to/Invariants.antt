use Rattle.std.proofs.Common.{◌≡◌, ◌+◌, ◌<◌, ◌≤◌, List}
use Rattle.dubp_atoms.specs.Same.{Text}
use Rattle.dubp_head.specs.Counts.{AreCounted}
use Rattle.dubp_head.proofs.counts.Counts.shrink_to.Given as goal

-- as many blocks went as steps were made
abbrev pub invariant-loop : goal.invariant-loop
invariant-loop l = record {
  counted : (issuers : List Text) → AreCounted l.fn.self issuers → AreCounted l.self issuers;
  numbers : l.self.numbers ≡ l.fn.self.numbers;
  blocks : l.self.blocks + l.counter ≡ l.fn.self.blocks + l.fn.frame;
  from : l.fn.frame ≤ l.counter;
  bound : l.fn.frame < l.counter → l.counter ≤ l.fn.self.blocks;
  room : l.self.room ≡ l.fn.self.room;
}
