-- What those above take from here of the definitions of dubp_block.
pub use Rattle.dubp_block.specs.declared.block.Block.{Block}
pub use Rattle.dubp_block.specs.Sections.{compact_lines}
pub use Rattle.dubp_block.specs.declared.block.IdentityLine.{IdentityLine}
pub use Rattle.dubp_block.specs.declared.block.MemberLine.{MemberLine}
pub use Rattle.dubp_block.specs.declared.block.CertLine.{CertLine}
pub use Rattle.dubp_block.specs.declared.block.RevokedLine.{RevokedLine}
pub use Rattle.dubp_block.specs.Text.{block_hash_of, size_of, IsBlock, IsFirstParams}
unfoldable pub use Rattle.dubp_block.specs.Text.{inner_text, signed_text, block_text}
