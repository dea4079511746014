use Rattle.dubp_sindex.specs.Numbering.{signed_text}
use Rattle.dubp_sindex.proofs.Texts.{with_text-there}
use Rattle.dubp_sindex.proofs.accounts.Accounts.add_signed.Goals as goal

pub returns-in-Some-clause-added : goal.returns-in-Some-clause-added
returns-in-Some-clause-added c = with_text-there c.args.self.now (signed_text c.args.key.now) c.in-Some.number c.in-Some.ensures
