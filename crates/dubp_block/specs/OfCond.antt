-- What those above take from here of the definitions of dubp_cond.
pub use Rattle.dubp_cond.specs.Tree.{CondTree, sig, no_items, add_item, no_alls, add_all}
pub use Rattle.dubp_cond.specs.Conditions.{cond_text}
pub use Rattle.dubp_cond.specs.declared.source.SourceId.{SourceId}
pub use Rattle.dubp_cond.specs.declared.source.SourceId.TheVariants.{D, T}
pub use Rattle.dubp_cond.specs.declared.source.Input.{Input}
pub use Rattle.dubp_cond.specs.declared.output.Output.{Output}
pub use Rattle.dubp_cond.specs.declared.tx.Tx.{Tx}
pub use Rattle.dubp_cond.specs.Sources.{input_text, IsInput}
pub use Rattle.dubp_cond.specs.declared.unlock.Unlock.{Unlock}
pub use Rattle.dubp_cond.specs.declared.unlock.Unlock.TheVariants.{Sig, Xhx}
pub use Rattle.dubp_cond.specs.Truth.{Moment, IsTrueAt}
