-- What those above take from here of the definitions of dubp_steps.
pub use Rattle.dubp_left.specs.OfSteps.{certification_time, now_of, of_pair, is_end, cert_lasting, text_cmp, keys_rise}
