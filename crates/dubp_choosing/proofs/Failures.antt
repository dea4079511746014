-- Which failures are kept.
use Rattle.std.proofs.Common.{◌≡◌, ◌||◌, Bool, true, false, cond, List, [], ◌∷◌, ◌++◌, filter, refl, ap, subst, ◌∙◌}
use Rattle.std.specs.List.{AllByRecursion, list_any}
use Rattle.std.proofs.lemmas.List.Folds.{list_any-append}
use Rattle.dubp_block.specs.declared.block.Block.{Block}
use Rattle.dubp_replay.specs.declared.failure.Failure.{Failure}
use Rattle.dubp_replay.specs.Turns.{Branches, State, branches_of, is_stamped, left_over, onward}

module _ {X : Type 0} (p : X → Bool) where
  abbrev Passes : X → Type 0
  Passes x = p x ≡ true

  filter_passed : (xs : List X) → AllByRecursion Passes xs → filter p xs ≡ xs
  filter_passed [] all = refl
  filter_passed (x ∷ xs) all = ap (λ r. cond r (x ∷ filter p xs) (filter p xs)) all.0 ∙ ap (λ l. x ∷ l) (filter_passed xs all.1)

  filter_all : (xs : List X) → AllByRecursion Passes (filter p xs)
  filter_all [] = tt
  filter_all (x ∷ xs) =
      elim (p x) as (λ r. p x ≡ r → AllByRecursion Passes (cond r (x ∷ filter p xs) (filter p xs))) [
        | true ↦ λ e. (e, filter_all xs)
        | false ↦ λ e. filter_all xs
      ] refl

  all_of : (xs : List X) → filter p xs ≡ xs → AllByRecursion Passes xs
  all_of xs e = subst (AllByRecursion Passes) e (filter_all xs)

  all_behind : (xs : List X) (x : X) → AllByRecursion Passes xs → p x ≡ true → AllByRecursion Passes (xs ++ x ∷ [])
  all_behind [] x all e = (e, tt)
  all_behind (y ∷ xs) x all e = (all.0, all_behind xs x all.1 e)

module _ {X : Type 0} (p q : X → Bool) (more : (x : X) → p x ≡ true → q x ≡ true) where
  all_more : (xs : List X) → AllByRecursion (λ x. p x ≡ true) xs → AllByRecursion (λ x. q x ≡ true) xs
  all_more [] all = tt
  all_more (x ∷ xs) all = (more x all.0, all_more xs all.1)

abbrev is_kept : List Block → Failure → Bool
is_kept store f = list_any (is_stamped f.at) store

-- what was let go of once is let go of
pub left_twice : (store : List Block) (fs : List Failure) → left_over store (left_over store fs) ≡ left_over store fs
left_twice store fs = filter_passed (is_kept store) (left_over store fs) (filter_all (is_kept store) fs)

-- with more blocks stored
pub left_more : (store more : List Block) (fs : List Failure) → left_over store fs ≡ fs → left_over (store ++ more) fs ≡ fs
left_more store more fs held =
    filter_passed (is_kept (store ++ more)) fs
    (all_more (is_kept store) (is_kept (store ++ more)) (λ f e. list_any-append (is_stamped f.at) store more ∙ ap (λ r. r || list_any (is_stamped f.at) more) e) fs (all_of (is_kept store) fs held))

-- with one failure more
pub left_noted : (store : List Block) (fs : List Failure) (f : Failure) → left_over store fs ≡ fs → list_any (is_stamped f.at) store ≡ true → left_over store (fs ++ f ∷ []) ≡ fs ++ f ∷ []
left_noted store fs f held stored =
    filter_passed (is_kept store) (fs ++ f ∷ []) (all_behind (is_kept store) fs f (all_of (is_kept store) fs held) stored)

-- branches that are as before are no other state
pub onward_same : (old : State) (b : Branches) → left_over old.store old.failures ≡ old.failures → b ≡ branches_of old → onward old b ≡ old
onward_same old b held e =
    ap (onward old) e ∙ (λ i. record { verdicts = old.verdicts; chain = old.chain; kept = old.kept; store = old.store; auto = old.auto; failures = held i; pool = old.pool })
