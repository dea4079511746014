use Rattle.std.proofs.Common.{◌≡◌, ◌==◌, ◌<◌, ℕ, count_by}
use Rattle.dubp_local.proofs.unlocks.each_is_unlocked.Given as goal

abbrev pub invariant-loop-input : goal.invariant-loop-input
invariant-loop-input l = (i : ℕ) → i < l.input → count_by (λ line. line.input == i) l.unlocks ≡ 1
