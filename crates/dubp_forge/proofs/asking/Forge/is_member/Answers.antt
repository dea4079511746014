use Rattle.std.proofs.Common.{◌≡◌, subst}
use Rattle.dubp_chain.specs.Members.{member}
use Rattle.dubp_forge.proofs.asking.Forge.is_member.Goals as goal

pub returns : goal.returns
returns g c = subst (λ f. c.is_member.result ≡ member f.chain c.args.key) c.self.view_is (c.is_member.ensures c.self.inside.ledger.now.chain c.tables.ensures c.laws.ensures.sound)
