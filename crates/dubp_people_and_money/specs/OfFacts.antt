-- What those above take from here of the definitions of dubp_facts.
pub use Rattle.dubp_facts.specs.Facts.{first_at}
pub use Rattle.dubp_facts.specs.declared.facts.First.{First}
