-- What those above take from here of the definitions of dubp_kept.
pub use Rattle.dubp_ledger.specs.OfKept.{KeptChain, Out, kept_of, with_block}
