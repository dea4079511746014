use Rattle.std.proofs.Common.{◌≡◌, ◌+◌, ◌++◌}
use Rattle.arrayvec.specs.ArrayVec.{array_vec_len}
use Rattle.dubp_atoms.specs.Spelling.{last_digits}
use Rattle.dubp_atoms.proofs.dec.put_last_digits.Given as goal

abbrev pub invariant-loop-k : goal.invariant-loop-k
invariant-loop-k l = record {
  text : l.fn.out.items ++ last_digits l.count l.n ≡ l.out.items ++ last_digits l.k l.n;
  room : array_vec_len l.out + l.k ≡ array_vec_len l.fn.out + l.count;
}
