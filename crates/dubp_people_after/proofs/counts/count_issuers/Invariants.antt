use Rattle.std.proofs.Common.{◌≡◌, ◌≤◌, take, count_by}
use Rattle.dubp_block.specs.declared.block.Block.{Block}
use Rattle.dubp_chain.specs.Chains.{Chain}
use Rattle.dubp_people_after.specs.Near.{is_issuer}
use Rattle.dubp_people_after.proofs.counts.count_issuers.Given as goal

abbrev pub invariant-loop-i : goal.invariant-loop-i
invariant-loop-i g l = record {
  small : l.count ≤ l.i;
  counted : (c : Chain) (b : Block) → g.A.WithBlock.after l.after c b → l.count ≡ count_by (is_issuer c b l.key) (take l.i l.near.keys);
}
