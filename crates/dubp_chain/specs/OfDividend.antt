-- What those above take from here of the definitions of dubp_dividend.
pub use Rattle.dubp_dividend.specs.Reevaluation.{numerator}
