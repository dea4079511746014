use Rattle.std.proofs.Common.{◌≡◌, take}
use Rattle.dubp_rules.proofs.codes.code.Given as goal

abbrev pub invariant-loop-byte : goal.invariant-loop-byte
invariant-loop-byte l = l.code.items ≡ take l.byte-index l.byte-items
