use Rattle.std.proofs.Common.{◌≡◌, ◌||◌, take}
use Rattle.std.specs.List.{list_any}
use Rattle.dubp_atoms.specs.Same.{Text, same_text}
use Rattle.dubp_block.specs.declared.block.Block.{Block}
use Rattle.dubp_chain.specs.Chains.{Chain}
use Rattle.dubp_people_after.specs.Near.{is_near_issuer}
use Rattle.dubp_people_after.proofs.counts.put_issuers.Given as goal

abbrev pub invariant-loop-i : goal.invariant-loop-i
invariant-loop-i g l =
    (c : Chain) (b : Block) → g.A.WithBlock.after l.after c b → (a : Text)
    → list_any (same_text a) l.found.keys ≡ (list_any (same_text a) l.initial.found.keys || list_any (is_near_issuer c b l.key a) (take l.i l.near.keys))
