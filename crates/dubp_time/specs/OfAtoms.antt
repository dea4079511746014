-- What those above take from here of the definitions of dubp_atoms.
pub use Rattle.dubp_atoms.specs.Same.{Text, same_text, same_stamp, empty_stamp}
pub use Rattle.dubp_atoms.specs.declared.dec.Dec.{Dec}
pub use Rattle.dubp_atoms.specs.Walks.{sentries_of, others, IsReachedBy, received_of, stock_of}
pub use Rattle.dubp_atoms.specs.declared.stamp.Stamp.{Stamp}
