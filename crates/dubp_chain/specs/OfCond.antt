-- What those above take from here of the definitions of dubp_cond.
pub use Rattle.dubp_block.specs.OfCond.{input_text, IsInput, Unlock, Sig, Xhx, Input, Output, Tx, Moment, IsTrueAt, cond_text, SourceId, D, T}
