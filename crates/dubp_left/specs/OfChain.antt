-- What those above take from here of the definitions of dubp_chain.
pub use Rattle.dubp_chain.specs.Chains.{Chain}
pub use Rattle.dubp_chain.specs.OfBlock.{Block}
pub use Rattle.dubp_chain.specs.Words.{names}
pub use Rattle.dubp_chain.specs.Members.{member, members}
pub use Rattle.dubp_chain.specs.Made.{made, certification_made, head_numbered}
pub use Rattle.dubp_chain.specs.People.{identity_lines, leaving, revoked}
pub use Rattle.dubp_chain.specs.Live.{live, received, stock, wrote}
pub use Rattle.dubp_chain.specs.Tables.{is_to_be_excluded, CertificationRow, certification_row}
pub use Rattle.dubp_chain.specs.declared.head.Head.{Head}
