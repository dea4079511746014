-- One choice after another, as the node tries them.
use Rattle.std.proofs.Common.{◌<◌, ◌++◌, ◌∷◌, [], ℕ, List, Some, true, false, map, sym, subst}
use Rattle.dubp_atoms.specs.declared.stamp.Stamp.{Stamp}
use Rattle.dubp_resolve.specs.Known.{AreOffers}
use Rattle.dubp_resolve.proofs.Ending.{candidates}
use Rattle.dubp_replay.specs.declared.failure.Failure.{Failure}
use Rattle.dubp_replay.specs.Turns.{Branches, Chooses, choices_of, offered}
use Rattle.dubp_choosing.specs.States.{IsTipOf, choosing}
use Rattle.dubp_choosing.proofs.Resolving.{IsResolving, fewer, resolved_switched, resolving_more}
use Rattle.dubp_turns.specs.Choosing.{TriedOne}

module _ (first text : List ℕ) (old b : Branches) (olds fs : List Failure) (tip : Stamp) (new : Branches) (left : List Failure) (lines : List ℕ) (r : IsResolving first old olds b fs text) (is : IsTipOf b fs (Some tip)) where
  pub switched_then : TriedOne b fs text tip true new left lines → Chooses first (choosing old olds) lines (choosing new left)
  switched_then t = subst (λ l. Chooses first (choosing old olds) l (choosing new left)) (sym t.2) (resolved_switched first text old b olds fs tip (choosing new left) r is t.0)

  module _ (offers : AreOffers (map offered b.store)) (t : TriedOne b fs text tip false new left lines) where
    own : IsTipOf b fs (Some t.0.tip)
    own = subst (λ s. IsTipOf b fs (Some s)) (sym t.1) is

    pub tried_more : IsResolving first old olds new left lines
    tried_more =
        subst (λ (x : Branches). IsResolving first old olds x left lines) (sym t.3)
        (subst (λ (l : List Failure). IsResolving first old olds b l lines) (sym t.4)
        (subst (IsResolving first old olds b (fs ++ t.0 ∷ [])) (sym t.5) (resolving_more first text old b olds fs t.0 r offers own t.2)))

    pub tried_fewer : candidates (choices_of (choosing new left)) < candidates (choices_of (choosing b fs))
    tried_fewer =
        subst (λ (x : Branches). candidates (choices_of (choosing x left)) < candidates (choices_of (choosing b fs))) (sym t.3)
        (subst (λ (l : List Failure). candidates (choices_of (choosing b l)) < candidates (choices_of (choosing b fs))) (sym t.4) (fewer b fs t.0 offers r.held own t.2))
