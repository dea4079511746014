use Rattle.std.proofs.Common.{◌≡◌, ℕ, ◌++◌, map, take, length}
use Rattle.dubp_validity.specs.Records.{make_record}
use Rattle.dubp_money.specs.Making.{outputs_at}
use Rattle.dubp_money.proofs.making.put_makes.Given as goal

abbrev pub invariant-loop-output : goal.invariant-loop-output
invariant-loop-output l = record {
  place : l.place ≡ l.output-index;
  put : (time : ℕ) → l.out.items ≡ l.fn.out.items ++ map make_record (take l.output-index (outputs_at time l.fn.hash l.fn.tx));
  begins : take (length l.fn.out.items) l.out.items ≡ l.fn.out.items;
}
