-- With a draft that has few lines of Joiners a chain has few members.
use Rattle.std.proofs.Common.{◌≡◌, ℕ, ◌^◌, ◌<◌, ◌≤◌, List, length, arith}
use Rattle.dubp_block.specs.declared.block.Block.{Block}
use Rattle.dubp_chain.specs.declared.head.Head.{Head}
use Rattle.dubp_chain.specs.Chains.{Chain}
use Rattle.dubp_head.specs.Following.{MayFollow}
use Rattle.dubp_head.specs.Laws.{members_with}
use Rattle.dubp_people_and_money.specs.OfValidity.{IsSound}
use Rattle.dubp_people_and_money.proofs.OfKept.{members_are_counted}

pub few : (c : Chain) (b : Block) (n : ℕ) → n ≡ members_with c b → IsSound c → length b.joiners ≤ 65536 → n < 2 ^ 21
few c b n count sound joiners = omega (arith, count, members_are_counted c b sound, joiners)

-- what a block keeps for no members it keeps for these
pub follows : (n : ℕ) (hs : List Head) (b : Block) → n < 2 ^ 21 → MayFollow 0 hs b → MayFollow n hs b
follows n hs b few may = record { text = may.text; size = may.size; number = may.number; small = may.small; low = may.low; few = few }
