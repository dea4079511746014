use Rattle.std.proofs.Common.{ℕ, List, subst, sym}
use Rattle.dubp_wot.specs.Numbers.{AreBelow}
use Rattle.dubp_wot.specs.Sought.{AreCounts}
use Rattle.dubp_wot.proofs.sought.Sought.new.Goals as goal

pub count_each-requires : goal.count_each-requires
count_each-requires g c =
    subst (λ (xs : List ℕ). AreBelow c.len.result xs) (sym c.deref.ensures.value)
    (subst (λ (n : ℕ). AreBelow n c.in_ok-numbers.numbers.items) (sym c.len.ensures.value) c.in_ok-numbers.ensures.within)

pub invariant_of-result : goal.invariant_of-result
invariant_of-result g c = subst (λ (xs : List ℕ). AreCounts xs c.in_ok-counts.counts.items) c.deref.ensures.value c.in_ok-counts.ensures

pub returns-clause-sought : goal.returns-clause-sought
returns-clause-sought g c = λ members pairs shown. record { within = c.in_ok-numbers.ensures.within; are_members = c.in_ok-numbers.ensures.among members pairs shown }
