use Rattle.std.proofs.Common.{ap, ◌∙◌}
use Rattle.dubp_params.specs.Reading.{params_of}
use Rattle.dubp_params.proofs.ParamsRead.{params_is_found, params_again}
use Rattle.dubp_params.proofs.reading.read_params.Goals as goal

pub returns-clause-found : goal.returns-clause-found
returns-clause-found c = params_is_found c.args.text.now c.fields.result c.fields.ensures

pub returns-clause-only : goal.returns-clause-only
returns-clause-only c = λ p is e. c.fields.ensures ∙ ap params_of e ∙ params_again p is
