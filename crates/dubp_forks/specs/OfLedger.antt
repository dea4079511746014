-- What those above take from here of the definitions of dubp_ledger.
pub use Rattle.dubp_ledger.specs.declared.refusal.SubmitRefusal.{SubmitRefusal}
pub use Rattle.dubp_ledger.specs.declared.refusal.SubmitRefusal.TheVariants.{Refused, NoMemory}
pub use Rattle.dubp_ledger.specs.States.{Accepted, HandedBack}
pub use Rattle.dubp_ledger.specs.declared.refusal.SubmitRefusal.TheVariants as submit_refusal_variants
