-- What those above take from here of the definitions of dubp_atoms.
pub use Rattle.dubp_atoms.specs.Letters.{SPACE}
unfoldable pub use Rattle.dubp_atoms.specs.Letters.{is_key, is_uid}
pub use Rattle.dubp_atoms.specs.Spelling.{stamp_text, IsNumber, IsStamp}
pub use Rattle.dubp_atoms.specs.Same.{Text, same_text, same_stamp, empty_stamp}
pub use Rattle.dubp_atoms.specs.Hashing.{hash_of}
pub use Rattle.dubp_atoms.specs.declared.stamp.Stamp.{Stamp}
