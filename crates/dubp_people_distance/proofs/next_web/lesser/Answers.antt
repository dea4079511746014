use Rattle.std.proofs.Common.{◌∙◌, IsTrue, subst, sym}
use Rattle.dubp_iindex.specs.Order.{IsNext}
use Rattle.dubp_people_distance.proofs.Nexts.{other_lesser, one_lesser}
use Rattle.dubp_people_distance.proofs.next_web.lesser.Goals as goal

pub returns-then-lt : goal.returns-then-lt
returns-then-lt c = λ p q after one other.
    other_lesser p q after c.in-Some.first c.in-Some-other.second (subst (IsNext (λ k. IsTrue (p k)) after) c.in-Some.is one) (subst (IsNext (λ k. IsTrue (q k)) after) c.in-Some-other.is other) (sym c.lt.ensures ∙ c.if-lt.true)

pub returns-else-lt : goal.returns-else-lt
returns-else-lt c = λ p q after one other.
    one_lesser p q after c.in-Some.first c.in-Some-other.second (subst (IsNext (λ k. IsTrue (p k)) after) c.in-Some.is one) (subst (IsNext (λ k. IsTrue (q k)) after) c.in-Some-other.is other) (sym c.lt.ensures ∙ c.if-lt.false)
