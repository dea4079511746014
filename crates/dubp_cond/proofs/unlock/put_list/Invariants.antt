use Rattle.std.proofs.Common.{◌≡◌, ◌+◌, ◌++◌, length, drop, map, codes}
use Rattle.arrayvec.specs.ArrayVec.{array_vec_len}
use Rattle.dubp_cond.specs.Joined.{joined}
use Rattle.dubp_cond.specs.Unlocks.{unlock_text}
use Rattle.dubp_cond.proofs.Tails.{tail}
use Rattle.dubp_cond.proofs.unlock.put_list.Given as goal

abbrev pub invariant-loop-unlock : goal.invariant-loop-unlock
invariant-loop-unlock l = record {
  text : l.out.items ++ tail l.before (codes " ") (map unlock_text (drop l.unlock-index l.list)) ≡ l.fn.out.items ++ joined (codes " ") (map unlock_text l.list);
  room : array_vec_len l.out + length (tail l.before (codes " ") (map unlock_text (drop l.unlock-index l.list))) ≡ array_vec_len l.fn.out + length (joined (codes " ") (map unlock_text l.list));
}
