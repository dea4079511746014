-- What those above take from here of the definitions of dubp_kept.
pub use Rattle.dubp_kept.specs.OfLocal.{all_hashes, local_rules, AreParamsOf}
pub use Rattle.dubp_kept.specs.KeptChain.{IsAsBefore, IsAsHeld, IsHeldBy, IsKnown, MayJoin, last_steps, most_kept, most_steps, steps_of_last, steps_of_out, without_last, KeptChain, with_block, Out, IsSteered, kept_of, AreStates}
pub use Rattle.dubp_kept.specs.LeftBehind.{left_behind}
pub use Rattle.dubp_kept.specs.declared.left_behind.LeftBehind.{LeftBehind}
pub use Rattle.dubp_kept.specs.Judged.{Judged}
pub use Rattle.dubp_kept.specs.declared.judgement.Judgement.{Judgement}
pub use Rattle.dubp_kept.specs.declared.judgement.Judgement.TheVariants.{Breaks, Keeps}
