use Rattle.dubp_entries.proofs.Buffers.{moved_front}
use Rattle.dubp_entries.proofs.buffer.move_front.Goals as goal

pub returns : goal.returns
returns c = moved_front _ _ _ _ c.requires.order c.requires.within c.copy_within.ensures.after
