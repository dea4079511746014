use Rattle.std.proofs.Common.{◌≡◌, ◌||◌, take}
use Rattle.std.specs.List.{list_any}
use Rattle.dubp_atoms.specs.Same.{Text, same_text}
use Rattle.dubp_block.specs.declared.block.Block.{Block}
use Rattle.dubp_chain.specs.Chains.{Chain}
use Rattle.dubp_people_distance.specs.Moved.{is_leaving}
use Rattle.dubp_people_distance.proofs.moved.put_left.Given as goal

abbrev pub invariant-loop-key : goal.invariant-loop-key
invariant-loop-key g l =
    (c : Chain) (b : Block) → g.T.TwoChains.stand l.chains c b → (k : Text)
    → list_any (same_text k) l.set.keys ≡ (list_any (same_text k) l.initial.set.keys || list_any (is_leaving c b k) (take l.key-index l.keys))
