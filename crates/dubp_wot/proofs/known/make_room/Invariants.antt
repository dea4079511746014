use Rattle.std.proofs.Common.{◌≡◌, ℕ, None, length, get_or}
use Rattle.dubp_wot.proofs.known.make_room.Given as goal

abbrev pub invariant-loop-turn : goal.invariant-loop-turn
invariant-loop-turn l = record {
  length : length l.issuers.items ≡ l._turn;
  same : (n : ℕ) → get_or l.issuers.items n None ≡ get_or l.initial.issuers.items n None;
}
