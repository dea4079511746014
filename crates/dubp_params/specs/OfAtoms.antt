-- What those above take from here of the definitions of dubp_atoms.
pub use Rattle.dubp_atoms.specs.Letters.{is_upper_hex}
unfoldable pub use Rattle.dubp_atoms.specs.Letters.{is_hash}
pub use Rattle.dubp_atoms.specs.declared.dec.Dec.{Dec}
