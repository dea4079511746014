use Rattle.std.proofs.Common.{ℕ, ◌<◌}
use Rattle.dubp_drafts.specs.Sealing.{MeetsWith}
use Rattle.dubp_drafts.proofs.sealing.least_nonce.Given as goal

abbrev pub invariant-loop-nonce : goal.invariant-loop-nonce
invariant-loop-nonce l = (n : ℕ) → n < l.nonce → MeetsWith l.block n l.difficulty → ⊥
