use Rattle.std.proofs.Common.{subst, sym}
use Rattle.std.specs.List.{AllByRecursion}
use Rattle.dubp_gen.specs.Making.{made_in}
use Rattle.dubp_gen.proofs.Copied.{ended_some}
use Rattle.dubp_gen.proofs.InnerHashes.{are_right}
use Rattle.dubp_validity.specs.LocalRules.{InnerHashIsRight}
use Rattle.dubp_gen.proofs.making.make_chain.Goals as goal

pub returns-in_default-clause-ended : goal.returns-in_default-clause-ended
returns-in_default-clause-ended g c =
    ended_some c.args.start c.args.n (made_in c.make_ledger.new.ledger c.in_ok-verdicts.verdicts.items) c.in_ok-verdicts.ensures.made c.in_default.ensures.some

pub returns-clause-hashed : goal.returns-clause-hashed
returns-clause-hashed g c = subst (AllByRecursion InnerHashIsRight) (sym c.in-Ok.ensures.blocks) (are_right _ c.laws.ensures.sound)
