-- What those above take from here of the definitions of dubp_kept.
pub use Rattle.dubp_people_and_money.specs.OfKept.{KeptChain, with_block, Out, kept_of, most_steps, steps_of_last}
pub use Rattle.dubp_people_and_money.specs.OfKept.{left_behind, LeftBehind}
