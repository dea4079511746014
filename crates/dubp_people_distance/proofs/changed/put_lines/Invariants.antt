use Rattle.std.proofs.Common.{◌≡◌, ◌||◌, ◌∷◌, take, is_some}
use Rattle.std.specs.List.{list_any}
use Rattle.indexmap.specs.IndexMap.{get}
use Rattle.dubp_atoms.specs.Same.{Text, same_text}
use Rattle.dubp_block.specs.declared.block.Block.{Block}
use Rattle.dubp_chain.specs.Chains.{Chain}
use Rattle.dubp_people_distance.specs.Certified.{AreCertified}
use Rattle.dubp_people_distance.specs.Ends.{is_end_of_line}
use Rattle.dubp_people_distance.proofs.changed.put_lines.Given as goal

abbrev pub invariant-loop-line : goal.invariant-loop-line
invariant-loop-line g l = record {
  certified : (c : Chain) (b : Block) → g.T.TwoChains.stand l.chains c b → AreCertified (b ∷ c) (get same_text l.initial.known) → AreCertified (b ∷ c) (get same_text l.known);
  has : (k : Text) → is_some (get same_text l.known k) ≡ (is_some (get same_text l.initial.known k) || list_any (is_end_of_line k) (take l.line-index l.lines));
}
