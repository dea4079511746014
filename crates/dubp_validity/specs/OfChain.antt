-- What those above take from here of the definitions of dubp_chain.
pub use Rattle.dubp_chain.specs.Chains.{Chain, params, currency}
pub use Rattle.dubp_chain.specs.Made.{made, certification_made, certification_stamp, head_numbered, head_stamped}
pub use Rattle.dubp_chain.specs.declared.head.Head.{Head}
pub use Rattle.dubp_chain.specs.Heads.{head_of, heads_of, next_head, units}
pub use Rattle.dubp_chain.specs.HeadStamp.{head_stamp}
pub use Rattle.dubp_chain.specs.Members.{members}
pub use Rattle.dubp_chain.specs.People.{membership_lines}
pub use Rattle.dubp_chain.specs.Words.{each_once}
pub use Rattle.dubp_chain.specs.Money.{inputs_of, same_source}
