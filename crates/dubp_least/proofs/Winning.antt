-- The winner of the last match is the least of all slots.
use Rattle.std.proofs.Common.{◌≡◌, ℕ, suc, zero, ◌+◌, ◌*◌, ◌/◌, ◌<◌, ◌≤◌, List, length, get_or, Option, None, Some, refl, sym, ap, subst, ◌∙◌, arith, ◌⊎◌, inl, inr}
use Rattle.std.specs.Prelude.{⊤}
use Rattle.std.specs.Option.{option_map}
use Rattle.std.proofs.lemmas.Bool.{cases_lt, cases_eq}
use Rattle.std.proofs.lemmas.List.{get_or_past}
use Rattle.std.proofs.lemmas.Bool.Decides.{nat_tests}
use Rattle.dubp_journal.specs.Least.{IsLeast, HasNone}
use Rattle.dubp_least.specs.Matches.{measure_at, better, play, winner_at, IsTournament, IsPlayedOver}
use Rattle.dubp_least.proofs.Nodes.{winner_at-end}

-- the place i with the measure v is at least as good as the place j with the measure w
abbrev pub Beats : Option ℕ → ℕ → Option ℕ → ℕ → Type 0
Beats v i None j = ⊤
Beats None i (Some w) j = ⊥
Beats (Some v) i (Some w) j = (v ≤ w) × (v ≡ w → i ≤ j)

beats_self : (v : Option ℕ) (i : ℕ) → Beats v i v i
beats_self None i = tt
beats_self (Some v) i = (omega arith, λ e. omega arith)

beats_on : (u v w : Option ℕ) (i j k : ℕ) → Beats u i v j → Beats v j w k → Beats u i w k
beats_on u v None i j k p q = tt
beats_on u None (Some w) i j k p q = absurd q
beats_on None (Some v) (Some w) i j k p q = absurd p
beats_on (Some u) (Some v) (Some w) i j k p q = (omega (arith, p.0, q.0), λ e. (let a : u ≡ v = omega (arith, e, p.0, q.0) in let b : v ≡ w = omega (arith, e, p.0, q.0) in omega (arith, p.1 a, q.1 b)))

-- of two measures
two : (v w i j : ℕ) → ((better (Some v) (Some w) i j ≡ i) × (v ≤ w) × (v ≡ w → i ≤ j)) ⊎ ((better (Some v) (Some w) i j ≡ j) × (w ≤ v) × (w ≡ v → j ≤ i))
two v w i j = elim (cases_lt v w) [
  | inl lt ↦ inl (grind (arith, nat_tests), omega (arith, lt), λ e. omega (arith, lt, e))
  | inr ge ↦ elim (cases_lt w v) [
    | inl lt ↦ inr (grind (arith, nat_tests), omega (arith, lt), λ e. omega (arith, lt, e))
    | inr le ↦ elim (cases_lt i j) [
      | inl below ↦ inl (grind (arith, nat_tests), omega (arith, le), λ e. omega (arith, below))
      | inr above ↦ inr (grind (arith, nat_tests), omega (arith, ge), λ e. omega (arith, above))
    ]
  ]
]

-- the winner of a match is one of the two, and at least as good as each
module _ (measures : ℕ → Option ℕ) where
  abbrev Wins : ℕ → ℕ → Type 0
  Wins i j = Beats (measures i) i (measures j) j

  pub one_of : (i j : ℕ) → (play measures i j ≡ i) ⊎ (play measures i j ≡ j)
  one_of i j = by_measures (measures i) (measures j)
    where
      by_measures : (v w : Option ℕ) → (better v w i j ≡ i) ⊎ (better v w i j ≡ j)
      by_measures None w = inr refl
      by_measures (Some v) None = inl refl
      by_measures (Some v) (Some w) = elim (two v w i j) [ inl p ↦ inl p.0 | inr p ↦ inr p.0 ]

  pub play_same : (i j a b : ℕ) → i ≡ a → j ≡ b → play measures i j ≡ play measures a b
  play_same i j a b e f = ap (λ x. play measures x j) e ∙ ap (play measures a) f

  wins_first : (i j : ℕ) → Wins (play measures i j) i
  wins_first i j = by_measures (measures i) (measures j) refl refl
    where
      by_measures : (v w : Option ℕ) → measures i ≡ v → measures j ≡ w → Beats (measures (better v w i j)) (better v w i j) v i
      by_measures None w e f = tt
      by_measures (Some v) None e f = rw e (beats_self (Some v) i)
      by_measures (Some v) (Some w) e f = elim (two v w i j) [
        | inl p ↦ rw (p.0, e) (beats_self (Some v) i)
        | inr p ↦ rw (p.0, f) (p.1, p.2)
      ]

  wins_second : (i j : ℕ) → Wins (play measures i j) j
  wins_second i j = by_measures (measures i) (measures j) refl refl
    where
      by_measures : (v w : Option ℕ) → measures i ≡ v → measures j ≡ w → Beats (measures (better v w i j)) (better v w i j) w j
      by_measures None None e f = tt
      by_measures None (Some w) e f = rw f (beats_self (Some w) j)
      by_measures (Some v) None e f = tt
      by_measures (Some v) (Some w) e f = elim (two v w i j) [
        | inl p ↦ rw (p.0, e) (p.1, p.2)
        | inr p ↦ rw (p.0, f) (beats_self (Some w) j)
      ]

  module _ (winners : List ℕ) (t : IsTournament measures winners) where
    abbrev at : ℕ → ℕ
    at k = winner_at winners k

    -- the winner of the last match is at least as good as that of each
    root : (fuel a : ℕ) → a ≤ fuel → 1 ≤ a → a < 2 * length winners → Wins (at 1) (at a)
    root zero a le one lt = absurd (omega (arith, le, one))
    root (suc fuel) a le one lt = elim (cases_eq a 1) [
      | inl e ↦ subst (λ b. Wins (at 1) (at b)) (sym e) (beats_self (measures (at 1)) (at 1))
      | inr more ↦ (
          let h = a / 2 in
          let up = root fuel h (omega arith) (omega arith) (omega arith) in
          let here = t.played h (omega arith) (omega arith) in
          elim (cases_eq a (2 * h)) [
            | inl even ↦ (
                let left : Wins (at h) (at (2 * h)) = subst (λ w. Wins w (at (2 * h))) (sym here) (wins_first (at (2 * h)) (at (2 * h + 1))) in
                beats_on _ _ _ _ _ _ up (subst (λ x. Wins (at h) (at x)) (sym even) left))
            | inr odd ↦ (
                let is : a ≡ 2 * h + 1 = omega arith in
                let right : Wins (at h) (at (2 * h + 1)) = subst (λ w. Wins w (at (2 * h + 1))) (sym here) (wins_second (at (2 * h)) (at (2 * h + 1))) in
                beats_on _ _ _ _ _ _ up (subst (λ x. Wins (at h) (at x)) (sym is) right))
          ])
    ]

    pub best : (j : ℕ) → j < length winners → Wins (at 1) j
    best j lt = subst (Wins (at 1)) (winner_at-end winners j) (root (length winners + j) (length winners + j) (omega arith) (omega arith) (omega arith))

-- what the last match says of the slots
module _ {V : Type 0} (measure : V → ℕ) (values : List (Option V)) (winners : List ℕ) (p : IsPlayedOver measure values winners) where
  abbrev slot : ℕ
  slot = winner_at winners 1

  within : (j : ℕ) (w : V) → get_or values j None ≡ Some w → j < length values
  within j w d = elim (cases_lt j (length values)) [
    | inl lt ↦ lt
    | inr ge ↦ (let past = get_or_past values j None ge in absurd (cc))
  ]

  -- the winner beside a slot that holds a value
  against : (j : ℕ) (w : V) → get_or values j None ≡ Some w → Beats (measure_at measure values slot) slot (Some (measure w)) j
  against j w d = subst (λ o. Beats (measure_at measure values slot) slot (option_map measure o) j) d (best (measure_at measure values) winners p.matches j (omega (arith, within j w d, p.fits)))

  pub least_of : (v : ℕ) → measure_at measure values slot ≡ Some v → IsLeast measure values slot
  least_of v e = by_value (get_or values slot None) refl
    where
      by_value : (o : Option V) → get_or values slot None ≡ o → IsLeast measure values slot
      by_value None d = (let none : measure_at measure values slot ≡ None = ap (option_map measure) d in absurd (cc))
      by_value (Some x) d = record {
        value = x;
        has = d;
        least = λ j w f. (both j w f).0;
        first = λ j w lt f. (let b = both j w f in elim (cases_eq (measure x) (measure w)) [ inl same ↦ absurd (omega (arith, b.1 same, lt)) | inr off ↦ omega (arith, b.0, off) ]);
      }
        where
          both : (j : ℕ) (w : V) → get_or values j None ≡ Some w → (measure x ≤ measure w) × (measure x ≡ measure w → slot ≤ j)
          both j w f = subst (λ o. Beats (option_map measure o) slot (Some (measure w)) j) d (against j w f)

  pub none_of : measure_at measure values slot ≡ None → HasNone values
  none_of e = λ j. by_value j (get_or values j None) refl
    where
      by_value : (j : ℕ) (o : Option V) → get_or values j None ≡ o → get_or values j None ≡ None
      by_value j None d = d
      by_value j (Some w) d = absurd (subst (λ o. Beats o slot (Some (measure w)) j) e (against j w d))
