-- What those above take from here of the lemmas of dubp_registry.
pub use Rattle.dubp_registry.proofs.Followed.{live-shown}
