use Rattle.std.proofs.Common.{◌≡◌, Option, None, subst}
use Rattle.std.specs.Prelude.{MatchOption, IsSome}
use Rattle.dubp_atoms.specs.Same.{Text}
use Rattle.dubp_chain.specs.Chains.{Chain}
use Rattle.dubp_chain.specs.People.{identity}
use Rattle.dubp_people_views.specs.Nearness.{IsDistanceOf}
use Rattle.dubp_people_views.specs.declared.distances.DistanceView.{DistanceView}
use Rattle.dubp_table_answers.proofs.Distances.{near_answer, no_answer}
use Rattle.dubp_table_answers.proofs.distance.put_distance_line.Goals as goal

-- what was found of the key, in place of the value that was matched
abbrev Found : Chain → Text → Option DistanceView → Type 0
Found chain k o = MatchOption o (identity chain k ≡ None) (λ d. IsSome (identity chain k) × IsDistanceOf chain k d)

pub returns-in-Some-clause-told : goal.returns-in-Some-clause-told
returns-in-Some-clause-told c = λ chain at sound.
    near_answer chain c.args.key c.in-Some.view c.put_view.new.line.items c.put_view.ensures (subst (Found chain c.args.key) c.in-Some.is (c.in_ok-view.ensures chain at sound))

pub returns-in-None-clause-told : goal.returns-in-None-clause-told
returns-in-None-clause-told c = λ chain at sound.
    no_answer chain c.args.key c.put_none.new.line.items c.put_none.ensures (subst (Found chain c.args.key) c.in-None.is (c.in_ok-view.ensures chain at sound))
