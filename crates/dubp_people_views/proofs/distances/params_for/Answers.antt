use Rattle.std.proofs.Common.{sym, ◌∙◌}
use Rattle.dubp_people_views.proofs.Nearness.{some_row, first_params}
use Rattle.dubp_people_views.proofs.distances.params_for.Goals as goal

pub returns : goal.returns
returns c = λ chain at. (
  some_row chain c.args.key c.in_ok-identity.field-0 (sym c.in_ok-identity.was ∙ c.identity.ensures chain at),
  first_params chain c.in_ok-first.first (sym c.in_ok-first.was ∙ c.first.ensures chain at),
)
