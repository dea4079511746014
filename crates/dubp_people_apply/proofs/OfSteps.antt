-- What those above take from here of the lemmas of dubp_steps.
pub use Rattle.dubp_steps.proofs.Lines.{kicked_fold}
