use Rattle.std.proofs.Common.{◌≡◌, ◌||◌, take}
use Rattle.std.specs.List.{list_any}
use Rattle.std.specs.BTreeSet.{contains}
use Rattle.dubp_atoms.specs.Same.{Text}
use Rattle.dubp_block.specs.declared.block.Block.{Block}
use Rattle.dubp_chain.specs.Chains.{Chain}
use Rattle.dubp_iindex.specs.Rows.{texts}
use Rattle.dubp_people_distance.specs.Moved.{is_joining}
use Rattle.dubp_people_distance.proofs.moved.put_joined.Given as goal

abbrev pub invariant-loop-line : goal.invariant-loop-line
invariant-loop-line g l =
    (c : Chain) (b : Block) → g.T.TwoChains.stand l.chains c b → (k : Text)
    → contains texts l.set k ≡ (contains texts l.initial.set k || list_any (is_joining c b k) (take l.line-index l.lines))
