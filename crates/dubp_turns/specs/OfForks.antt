-- What those above take from here of the definitions of dubp_forks.
pub use Rattle.dubp_forks.specs.Offers.{Offered}
pub use Rattle.dubp_forks.specs.Stores.{AreApart, AreStored, IsStorable}
pub use Rattle.dubp_forks.specs.Switches.{Switched}
pub use Rattle.dubp_forks.specs.declared.refusals.OfferRefusal.{OfferRefusal}
pub use Rattle.dubp_forks.specs.declared.refusals.SwitchRefusal.{SwitchRefusal}
pub use Rattle.dubp_forks.specs.declared.refusals.SwitchRefusal.TheVariants as switch_refusal_variants
