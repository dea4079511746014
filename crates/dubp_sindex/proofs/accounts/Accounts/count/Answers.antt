use Rattle.std.proofs.Common.{subst}
use Rattle.dubp_sindex.specs.Numbering.{AreApart}
use Rattle.dubp_sindex.proofs.accounts.Accounts.count.Goals as goal

pub returns-clause-apart : goal.returns-clause-apart
returns-clause-apart c = subst AreApart c.self.view_is c.len.ensures.unique
