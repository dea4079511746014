use Rattle.std.proofs.Common.{◌≡◌, ◌++◌, map, take}
use Rattle.dubp_validity.specs.declared.record.Record.TheVariants.{Dividend}
use Rattle.dubp_validity.specs.Records.{input_of}
use Rattle.dubp_money.specs.Making.{dividends_to}
use Rattle.dubp_money.proofs.paying.put_dividends.Given as goal

abbrev pub invariant-loop-key : goal.invariant-loop-key
invariant-loop-key l = record { put : l.out.items ≡ l.fn.out.items ++ map (λ s. Dividend (input_of s)) (dividends_to l.payment (take l.key-index l.members)) }
