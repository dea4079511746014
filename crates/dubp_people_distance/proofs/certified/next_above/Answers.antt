use Rattle.std.proofs.Common.{IsTrue, Option, subst, sym}
use Rattle.std.specs.BTreeSet.{contains}
use Rattle.dubp_atoms.specs.Same.{Text}
use Rattle.dubp_iindex.specs.Order.{IsNext}
use Rattle.dubp_iindex.specs.Rows.{texts}
use Rattle.dubp_people_distance.proofs.Nexts.{behind_next, first_next}
use Rattle.dubp_people_distance.proofs.certified.next_above.Goals as goal

pub returns-in-None : goal.returns-in-None
returns-in-None c =
    subst (λ (o : Option Text). IsNext (λ k. IsTrue (contains texts c.args.set.now k)) o c.first_from.result) (sym c.in-None.is)
    (first_next (contains texts c.args.set.now) c.first_from.result c.first_from.ensures.found c.first_from.ensures.least c.first_from.ensures.none)

pub returns-in-Some : goal.returns-in-Some
returns-in-Some c =
    subst (λ (o : Option Text). IsNext (λ k. IsTrue (contains texts c.args.set.now k)) o c.first_from-in-Some.result) (sym c.in-Some.is)
    (behind_next (contains texts c.args.set.now) c.first_from-in-Some.result c.in-Some.key c.first_from-in-Some.ensures.found c.first_from-in-Some.ensures.least c.first_from-in-Some.ensures.none)
