-- What those above take from here of the definitions of dubp_block.
pub use Rattle.dubp_chain.specs.OfBlock.{Block, IsBlock, CertLine, IsFirstParams}
