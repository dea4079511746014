-- What those above take from here of the definitions of dubp_forging.
pub use Rattle.dubp_forging.specs.OfPool.{Doc, IsRead, doc_hash, is_pending, most_pending, without}
pub use Rattle.dubp_forging.specs.Forged.{Forging, IsForged, IsTried}
