use Rattle.std.proofs.Common.{◌∙◌}
use Rattle.dubp_dividend.proofs.Ceilings.{share_in_steps}
use Rattle.dubp_dividend.proofs.reevaluation.share.Goals as goal

pub returns-clause-value : goal.returns-clause-value
returns-clause-value c some =
    let params = c.args.params.now in
    c.div_ceil.ensures
    ∙ share_in_steps c.args.numerator params.c.places c.args.members params.dt_reeval c.div_ceil_by_power.result c.div_ceil_by_power-scaled.result some c.requires.valid.dt_reeval.0 c.div_ceil_by_power.ensures.value c.div_ceil_by_power-scaled.ensures.value
