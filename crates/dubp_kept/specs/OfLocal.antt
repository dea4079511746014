-- What those above take from here of the definitions of dubp_local.
pub use Rattle.dubp_local.specs.Local.{all_hashes, local_rules, unsigned_rules, is_signature_rule, AreParamsOf, FirstLocal}
pub use Rattle.dubp_local.specs.declared.check.Checked.{Checked}
pub use Rattle.dubp_local.specs.declared.check.Checked.TheVariants as checked_variants
pub use Rattle.dubp_local.specs.declared.check.Asked.{Asked}
pub use Rattle.dubp_local.specs.declared.check.Asked.TheVariants.{Signed, Unsigned}
pub use Rattle.dubp_local.specs.Asking.{asked_rules}
pub use Rattle.dubp_local.specs.Checking.{IsChecked, made_hashes}
