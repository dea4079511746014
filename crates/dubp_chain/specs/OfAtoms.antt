-- What those above take from here of the definitions of dubp_atoms.
pub use Rattle.dubp_time.specs.OfAtoms.{Text, same_text}
