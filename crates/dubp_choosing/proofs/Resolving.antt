-- One choice after another, as far as they were tried.
use Rattle.std.proofs.Common.{◌≡◌, ◌<◌, ℕ, List, [], ◌∷◌, ◌++◌, map, drop, Option, Some, None, refl, sym, ap, subst, ◌∙◌, append_assoc, append-nil}
use Rattle.std.specs.List.{flat_map}
use Rattle.std.specs.Option.{option_map}
use Rattle.std.proofs.lemmas.List.{flat_map_more}
use Rattle.dubp_atoms.specs.declared.stamp.Stamp.{Stamp}
use Rattle.dubp_block.specs.declared.block.Block.{Block}
use Rattle.dubp_resolve.specs.declared.view.Offered.{Offered}
use Rattle.dubp_resolve.specs.Choice.{choice}
use Rattle.dubp_resolve.specs.Known.{AreOffers}
use Rattle.dubp_resolve.specs.Resolve.{Line, Switched, Failed}
use Rattle.dubp_replay.specs.Answers.{failed_line, switched_answer}
use Rattle.dubp_replay.specs.declared.failure.Failure.{Failure}
use Rattle.dubp_replay.specs.Turns.{Branches, Chooses, Fails, IsAcceptedOn, LeadsOff, ResolvesBy, State, Succeeds, choice_line, choices_of, left_over, offered, onward, switched}
use Rattle.dubp_choosing.specs.States.{IsTipOf, choosing}
use Rattle.dubp_resolve.proofs.Ending.{candidates}
use Rattle.dubp_choosing.proofs.Tries.{noted}

-- these choices failed so far; whatever is tried from here on comes behind them
pub record IsResolving (first : List ℕ) (old : Branches) (olds : List Failure) (b : Branches) (fs : List Failure) (text : List ℕ) : Type 0 where
  pub done : List (Line Failure)
  pub goes : (lines : List (Line Failure)) (new : State) → ResolvesBy (choosing b fs) lines new → ResolvesBy (choosing old olds) (done ++ lines) new
  pub text_is : text ≡ first ++ flat_map choice_line done
  pub same : b ≡ old
  pub more : List Failure
  pub noted : fs ≡ olds ++ more
  pub held : left_over b.store fs ≡ fs

pub resolving_start : (first : List ℕ) (b : Branches) (fs : List Failure) → left_over b.store fs ≡ fs → IsResolving first b fs b fs first
resolving_start first b fs held = record {
  done = [];
  goes = λ lines new r. r;
  text_is = sym (append-nil first);
  same = refl;
  more = [];
  noted = sym (append-nil fs);
  held = held;
}

pub resolving_more : (first text : List ℕ) (old b : Branches) (olds fs : List Failure) (f : Failure) → IsResolving first old olds b fs text → AreOffers (map offered b.store) → IsTipOf b fs (Some f.tip)
    → Fails (choosing b fs) f (choosing b (fs ++ f ∷ [])) → IsResolving first old olds b (fs ++ f ∷ []) (text ++ failed_line f)
resolving_more first text old b olds fs f r offers tip fails =
    let is = noted b fs f offers r.held tip fails.0 fails.1 fails.2 fails.3.0 fails.3.1 fails.3.2 in
    record {
      done = r.done ++ Failed f ∷ [];
      goes = λ lines new q.
          subst (λ l. ResolvesBy (choosing old olds) l new) (sym (append_assoc r.done (Failed f ∷ []) lines))
          (r.goes (Failed f ∷ lines) new (sym tip, choosing b (fs ++ f ∷ []), fails, q));
      text_is = ap (λ t. t ++ failed_line f) r.text_is ∙ flat_map_more choice_line first r.done (Failed f);
      same = r.same;
      more = r.more ++ f ∷ [];
      noted = ap (λ l. l ++ f ∷ []) r.noted ∙ append_assoc olds r.more (f ∷ []);
      held = is.held;
    }

none_of : (chosen : Option Offered) → None ≡ option_map (λ o. o.stamp) chosen → chosen ≡ None
none_of None e = refl
none_of (Some o) e = absurd cc

pub resolved_none : (first text : List ℕ) (old b : Branches) (olds fs : List Failure) → IsResolving first old olds b fs text → IsTipOf b fs None → Chooses first (choosing old olds) text (choosing b fs)
resolved_none first text old b olds fs r none = record {
  lines = r.done ++ [];
  resolves = r.goes [] (choosing b fs) (none_of (choice (choices_of (choosing b fs))) none, refl);
  text = r.text_is ∙ ap (λ l. first ++ flat_map choice_line l) (sym (append-nil r.done));
}

pub resolved_switched : (first text : List ℕ) (old b : Branches) (olds fs : List Failure) (tip : Stamp) (new : State) → IsResolving first old olds b fs text → IsTipOf b fs (Some tip) → Succeeds (choosing b fs) tip new
    → Chooses first (choosing old olds) (text ++ switched_answer tip) new
resolved_switched first text old b olds fs tip new r is succeeds = record {
  lines = r.done ++ Switched tip ∷ [];
  resolves = r.goes (Switched tip ∷ []) new (sym is, succeeds);
  text = ap (λ t. t ++ switched_answer tip) r.text_is ∙ flat_map_more choice_line first r.done (Switched tip);
}

pub succeeds_by : (b : Branches) (fs : List Failure) (tip : Stamp) (new : Branches) (left : List Failure) (path : List Block) (count : ℕ) → LeadsOff b tip path count → IsAcceptedOn b.verdicts (drop count b.chain) path
    → new ≡ switched b path count → left ≡ left_over new.store fs → Succeeds (choosing b fs) tip (choosing new left)
succeeds_by b fs tip new left path count leads accepted is kept = (path, count, leads, accepted, ap (choosing new) kept ∙ ap (onward (choosing b fs)) is)

-- a failure takes a block out of the candidates
pub fewer : (b : Branches) (fs : List Failure) (f : Failure) → AreOffers (map offered b.store) → left_over b.store fs ≡ fs → IsTipOf b fs (Some f.tip) → Fails (choosing b fs) f (choosing b (fs ++ f ∷ []))
    → candidates (choices_of (choosing b (fs ++ f ∷ []))) < candidates (choices_of (choosing b fs))
fewer b fs f offers held tip fails = (noted b fs f offers held tip fails.0 fails.1 fails.2 fails.3.0 fails.3.1 fails.3.2).fewer
