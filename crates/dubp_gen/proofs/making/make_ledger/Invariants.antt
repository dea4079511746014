use Rattle.std.proofs.Common.{◌≡◌, None, min}
use Rattle.dubp_gen.specs.Generated.{IsMade}
use Rattle.dubp_gen.specs.Making.{IsOfMade, made_in}
use Rattle.dubp_gen.proofs.making.make_ledger.Given as goal

abbrev pub invariant-loop : goal.invariant-loop
invariant-loop g l = record {
  made : IsMade l.start l.counter (made_in l.ledger l.noted.items);
  of_made : IsOfMade l.start l.ledger l.verdicts l.x l.noted.items;
  kept : l.ledger.kept ≡ min l.counter 100;
  out : l.ledger.out ≡ None;
}
