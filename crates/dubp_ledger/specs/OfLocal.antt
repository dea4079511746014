-- What those above take from here of the definitions of dubp_local.
pub use Rattle.dubp_people_and_money.specs.OfLocal.{local_rules}
