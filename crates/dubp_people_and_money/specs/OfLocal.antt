-- What those above take from here of the definitions of dubp_local.
pub use Rattle.dubp_kept.specs.OfLocal.{local_rules}
