-- The members of a chain stand in order.
use Rattle.std.proofs.Common.{subst}
use Rattle.dubp_chain.specs.Chains.{Chain}
use Rattle.dubp_chain.specs.Members.{members}
use Rattle.dubp_registry.specs.OfValidity.{IsSound}
use Rattle.dubp_registry.specs.OfLeft.{identities_left}
use Rattle.dubp_registry.proofs.Followed.{members-shown}
use Rattle.dubp_iindex.proofs.Members.{members-in_order}
use Rattle.dubp_wot.specs.Order.{IsInOrder}

pub members_rise : (c : Chain) → IsSound c → IsInOrder (members c)
members_rise c sound = subst IsInOrder (members-shown c sound) (members-in_order (identities_left c))
