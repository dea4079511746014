-- What the code asks a condition about, as a moment.
use Rattle.dubp_cond.specs.Truth.{Moment}
use Rattle.dubp_cond.specs.declared.truth.Moment as code

abbrev pub moment_of : code.Moment → Moment
moment_of m = record { unlocks = m.unlocks.now; issuers = m.issuers.now; now = m.now; written = m.written }
