-- What was answered NOMEM can be left out of a run, and a run without it has one result.
use Rattle.std.proofs.Common.{◌≡◌, ◌⊎◌, inl, inr, ℕ, true, false, not, cond, List, [], ◌∷◌, Some, None, map, refl, sym, ap, subst, ◌∙◌}
use Rattle.dubp_replay.specs.Turns.{Asked, IsServed, Runs, State}
use Rattle.dubp_turn_laws.specs.Laws.{IsServedInFull, RunsHaveOneResult, WithoutRefused, is_no_memory, served}
use Rattle.dubp_turn_laws.proofs.Memory.{other_turn}
use Rattle.dubp_turn_laws.proofs.Turns.{one_turn}

-- an answer is NOMEM and changes nothing, or it is another and that of a turn
told : (old : State) (x : Asked) (answer : List ℕ) (new : State) → IsServed old x answer new
    → ((is_no_memory answer ≡ true) × (new ≡ old)) ⊎ ((is_no_memory answer ≡ false) × IsServedInFull old x answer new)
told old None answer new s = inr (ap is_no_memory s.0, s)
told old (Some (c, frame)) answer new (inl turn) = inr (other_turn old c frame answer new turn, turn)
told old (Some (c, frame)) answer new (inr lack) = inl (ap is_no_memory lack.1.0, lack.1.1)

abbrev RunsInFull : State → List (Asked × List ℕ) → State → Type 0
RunsInFull old pairs new = Runs IsServedInFull old (map (λ p. p.0) pairs) (map (λ p. p.1) pairs) new

one_more : (old : State) (x : Asked) (answer : List ℕ) (middle : State) (rest : List (Asked × List ℕ)) (new : State)
    → IsServed old x answer middle → RunsInFull middle rest new → RunsInFull old (cond (not (is_no_memory answer)) ((x, answer) ∷ rest) rest) new
one_more old x answer middle rest new s r =
    elim (told old x answer middle s) as (λ _. RunsInFull old (cond (not (is_no_memory answer)) ((x, answer) ∷ rest) rest) new) [
      | inl lack ↦ subst (λ t. RunsInFull old (cond (not t) ((x, answer) ∷ rest) rest) new) (sym lack.0) (subst (λ m. RunsInFull m rest new) lack.1 r)
      | inr full ↦ subst (λ t. RunsInFull old (cond (not t) ((x, answer) ∷ rest) rest) new) (sym full.0) (middle, full.1, r)
    ]

pub without_lacks : WithoutRefused
without_lacks old [] [] new r = r
without_lacks old [] (answer ∷ answers) new r = absurd r
without_lacks old (x ∷ asked) [] new r = absurd r
without_lacks old (x ∷ asked) (answer ∷ answers) new r =
    one_more old x answer r.0 (served asked answers) new r.1 (without_lacks r.0 asked answers new r.2)

-- ---- one result

one_served : (old : State) (x : Asked) (a a' : List ℕ) (new new' : State) → IsServedInFull old x a new → IsServedInFull old x a' new' → (a ≡ a') × (new ≡ new')
one_served old None a a' new new' p q = (p.0 ∙ sym q.0, p.1 ∙ sym q.1)
one_served old (Some (c, frame)) a a' new new' p q = one_turn old c frame a a' new new' p q

pub one_run : RunsHaveOneResult
one_run old [] [] [] new new' p q = (refl, p ∙ sym q)
one_run old [] [] (a' ∷ more') new new' p q = absurd q
one_run old [] (a ∷ more) answers' new new' p q = absurd p
one_run old (x ∷ asked) [] answers' new new' p q = absurd p
one_run old (x ∷ asked) (a ∷ more) [] new new' p q = absurd q
one_run old (x ∷ asked) (a ∷ more) (a' ∷ more') new new' p q =
    let first = one_served old x a a' p.0 q.0 p.1 q.1 in
    let rest = one_run p.0 asked more more' new new' p.2 (subst (λ m. Runs IsServedInFull m asked more' new') (sym first.1) q.2) in
    ((λ i. first.0 i ∷ rest.0 i), rest.1)
