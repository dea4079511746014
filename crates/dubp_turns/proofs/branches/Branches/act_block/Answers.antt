use Rattle.std.proofs.Common.{inl, arith}
use Rattle.dubp_turns.proofs.LongAnswers.{long_block_turn}
use Rattle.dubp_turns.proofs.branches.Branches.act_block.Goals as goal

pub returns-then-len : goal.returns-then-len
returns-then-len g c = λ bytes handed. inl (long_block_turn _ bytes _ (omega (arith, handed.0, c.if-len.true)) c.put_refused.ensures)
