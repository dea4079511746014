use Rattle.dubp_block.specs.declared.block.Block.{Block}
use Rattle.dubp_chain.specs.Words.{names}
use Rattle.dubp_chain.specs.Chains.{Chain}
use Rattle.dubp_people_distance.specs.Moved.{SaysWhoLeaves}
use Rattle.dubp_people_distance.proofs.Staying.{IsPassing}
use Rattle.dubp_people_distance.proofs.moved.next_staying.Given as goal

abbrev pub invariant-loop-turn : goal.invariant-loop-turn
invariant-loop-turn g l = (c : Chain) (b : Block) → g.T.TwoChains.stand l.chains c b → SaysWhoLeaves c b (names l.left.keys) → IsPassing c b l.left.keys l.fn.after l.after l.turn
