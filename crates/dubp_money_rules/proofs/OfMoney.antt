-- What those above take from here of the lemmas of dubp_money.
pub use Rattle.dubp_money.proofs.Hashes.{whole_hashes-all}
