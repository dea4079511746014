use Rattle.std.proofs.Common.{◌∷◌, IsTrue, is_some}
use Rattle.indexmap.specs.IndexMap.{get}
use Rattle.dubp_atoms.specs.Same.{Text, same_text}
use Rattle.dubp_block.specs.declared.block.Block.{Block}
use Rattle.dubp_chain.specs.Chains.{Chain}
use Rattle.dubp_people_distance.specs.Certified.{AreCertified}
use Rattle.dubp_people_distance.proofs.Walked.{IsWalked}
use Rattle.dubp_people_distance.proofs.changed.put_dues.Given as goal

abbrev pub invariant-dues : goal.invariant-dues
invariant-dues g l = record {
  certified : (c : Chain) (b : Block) → g.T.TwoChains.stand l.chains c b → AreCertified (b ∷ c) (get same_text l.initial.known) → AreCertified (b ∷ c) (get same_text l.known);
  stays : (k : Text) → IsTrue (is_some (get same_text l.initial.known k)) → IsTrue (is_some (get same_text l.known k));
  walked : (c : Chain) (b : Block) → g.T.TwoChains.stand l.chains c b → IsWalked c l.behind (get same_text l.known);
}
