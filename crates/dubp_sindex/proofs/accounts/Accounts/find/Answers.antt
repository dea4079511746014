use Rattle.std.proofs.Common.{ap, ◌∙◌}
use Rattle.dubp_sindex.specs.Numbering.{number_of}
use Rattle.dubp_sindex.proofs.accounts.Accounts.find.Goals as goal

pub returns : goal.returns
returns c = c.get_index_of.ensures.index ∙ ap (λ texts. number_of texts c.args.text.now) c.self.view_is
