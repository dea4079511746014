use Rattle.std.proofs.Common.{◌≡◌, ◌*◌, ◌^◌, ◌<◌, drop}
use Rattle.dubp_atoms.specs.Reading.{digits_from}
use Rattle.dubp_atoms.proofs.dec.more_digits.Given as goal

abbrev pub invariant-loop-c : goal.invariant-loop-c
invariant-loop-c l = record {
  rest : digits_from l.value (drop l.c-index l.text) ≡ digits_from l.whole l.text;
  small : l.value < 2 ^ 53 * 10 ^ l.c-index;
}
