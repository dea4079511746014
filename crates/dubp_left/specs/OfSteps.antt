-- What those above take from here of the definitions of dubp_steps.
pub use Rattle.dubp_steps.specs.AfterLines.{certification_time, now_of, of_pair, is_end, cert_lasting, create_line, join_line, exclude_line, identity_after_lines, is_planned}
pub use Rattle.dubp_steps.specs.Ordered.{pair_cmp, text_cmp, keys_rise}
pub use Rattle.dubp_steps.specs.Counts as counts
pub use Rattle.dubp_steps.specs.Counts.{IsTableOf, IsGreatestWritten}
pub use Rattle.dubp_steps.specs.AfterLines as after_lines
pub use Rattle.dubp_steps.specs.Steps.{waits_for_end}
