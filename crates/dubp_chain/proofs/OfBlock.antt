-- What those above take from here of the lemmas of dubp_block.
pub use Rattle.dubp_block.proofs.Sizes.{size_is_within}
