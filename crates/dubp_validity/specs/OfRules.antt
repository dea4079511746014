-- What those above take from here of the definitions of dubp_rules.
pub use Rattle.dubp_rules.specs.declared.rule.Rule.TheVariants.{G51}
