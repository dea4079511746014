-- What is told of how near a key is to the sentries, and its texts in the answer to DISTANCE. Protocol: distance; commands and answers.
use Rattle.std.specs.Prelude.{◌≡◌, ◌↔◌, ℕ, ◌≤◌, ◌<◌, ◌^◌, Bool, true, false, IsTrue, List, [], ◌∷◌, length, codes}
use Rattle.std.specs.Fmt.{decimal}
use Rattle.dubp_atoms.specs.Same.{Text}
use Rattle.dubp_chain.specs.Chains.{Chain, params}
use Rattle.dubp_chain.specs.Distance.{IsNear, IsReached, sentry_count}
use Rattle.dubp_chain.specs.Members.{members}
use Rattle.dubp_people_views.specs.declared.distances.DistanceView.{DistanceView}

-- so many sentries reach the key, so many there are beside it, and it passes exactly where that is near enough
pub record IsDistanceOf (c : Chain) (k : Text) (d : DistanceView) : Type 0 where
  pub reached : IsReached c k d.reached
  pub sentries : d.sentries ≡ sentry_count c k
  pub passes : IsTrue d.passes ↔ IsNear c d.reached d.sentries

abbrev pub verdict_text : Bool → List ℕ
verdict_text true = codes "PASS"
verdict_text false = codes "FAIL"

abbrev pub distance_texts : DistanceView → List Text
distance_texts d = decimal d.reached ∷ decimal d.sentries ∷ verdict_text d.passes ∷ []

-- ---- for the functions that serve them

-- the steps and the members are no more than the search takes
pub record IsSearchable (c : Chain) : Type 0 where
  pub few_steps : (params c).step_max ≤ 16
  pub few_members : length (members c) < 2 ^ 21
