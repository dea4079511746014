-- What those above take from here of the definitions of dubp_money_steps.
pub use Rattle.dubp_money_steps.specs.Steps.{numbered}
pub use Rattle.dubp_money_steps.specs.Left.{account_in, entry_of, entries_of, sources_left, HasTexts, text_of}
