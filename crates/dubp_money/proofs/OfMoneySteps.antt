-- What those above take from here of the lemmas of dubp_money_steps.
pub use Rattle.dubp_money_steps.proofs.Names.{same_name}
pub use Rattle.dubp_money_steps.proofs.Entries.{without_numbers}
pub use Rattle.dubp_money_steps.proofs.Ranges.{sources_are_rows}
