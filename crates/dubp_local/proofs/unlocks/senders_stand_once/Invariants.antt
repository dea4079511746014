use Rattle.std.proofs.Common.{IsTrue}
use Rattle.dubp_atoms.specs.Same.{same_text}
use Rattle.dubp_validity.specs.OfChain.{each_once}
use Rattle.dubp_local.proofs.Checking.{Rests}
use Rattle.dubp_local.proofs.unlocks.senders_stand_once.Given as goal

abbrev pub invariant-loop-tx : goal.invariant-loop-tx
invariant-loop-tx l = Rests (λ tx. IsTrue (each_once same_text tx.issuers)) l.transactions l.tx-index
