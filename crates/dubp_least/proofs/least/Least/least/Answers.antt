use Rattle.std.proofs.Common.{◌≡◌, ◌∙◌, ℕ, List, Option, Some, None, sym, ap, subst, get_or}
use Rattle.std.specs.Option.{option_map}
use Rattle.dubp_journal.specs.Least.{IsLeast, HasNone}
use Rattle.dubp_least.specs.Matches.{measure_at, winner_at, IsPlayedOver}
use Rattle.dubp_least.proofs.Winning.{least_of, none_of}
use Rattle.dubp_least.proofs.least.Least.least.Goals as goal

-- the winner of the last match as it is read, and what it holds
module _ {V : Type 0} (m : V → ℕ) (values : List (Option V)) (winners shown : List ℕ) (p : IsPlayedOver m values winners) (are : shown ≡ winners) (slot : ℕ) (read : slot ≡ winner_at shown 1) (held : Option V) (is : held ≡ get_or values slot None) where
  root : slot ≡ winner_at winners 1
  root = read ∙ ap (λ w. winner_at w 1) are

  holds : (o : Option V) → held ≡ o → measure_at m values (winner_at winners 1) ≡ option_map m o
  holds o e = sym (ap (measure_at m values) root) ∙ ap (option_map m) (sym is ∙ e)

  found : (v : V) → held ≡ Some v → IsLeast m values slot
  found v e = subst (IsLeast m values) (sym root) (least_of m values winners p (m v) (holds (Some v) e))

  none : held ≡ None → HasNone values
  none e = none_of m values winners p (holds None e)

pub returns-in-Some-clause-found : goal.returns-in-Some-clause-found
returns-in-Some-clause-found g c = found g.M.Measure.measure c.args.values.now c.args.self.now.winners.items c.deref.result.now c.requires c.deref.ensures.value c.winner_at-slot.result c.winner_at-slot.ensures c.value_at.result c.value_at.ensures c.in-Some.field-0 c.in-Some.is

pub returns-in-None-clause-none : goal.returns-in-None-clause-none
returns-in-None-clause-none g c = none g.M.Measure.measure c.args.values.now c.args.self.now.winners.items c.deref.result.now c.requires c.deref.ensures.value c.winner_at-slot.result c.winner_at-slot.ensures c.value_at.result c.value_at.ensures c.in-None.is
