-- All matches are played, from the last node to the first.
use Rattle.std.proofs.Common.{◌≡◌, ◌≢◌, ℕ, ◌+◌, ◌-◌, ◌*◌, ◌<◌, ◌≤◌, List, length, set, Option, sym, ap, subst, ◌∙◌, arith, inl, inr}
use Rattle.std.proofs.lemmas.List.{length-set}
use Rattle.std.proofs.lemmas.Bool.{cases_eq}
use Rattle.dubp_least.specs.Matches.{play, winner_at, IsAbove, IsPlayed, IsTournament}
use Rattle.dubp_least.proofs.Nodes.{above_child, winner_at-place, winner_at-set_same, winner_at-set_other}
use Rattle.dubp_least.proofs.Winning.{one_of, play_same}

-- the matches from the node k on are played
pub record IsPlayedFrom (measures : ℕ → Option ℕ) (winners : List ℕ) (k : ℕ) : Type 0 where
  pub place : (m : ℕ) → 1 ≤ m → k ≤ m → m < 2 * length winners → winner_at winners m < length winners
  pub below : (m : ℕ) → 1 ≤ m → k ≤ m → m < 2 * length winners → IsAbove m (length winners + winner_at winners m)
  pub played : (m : ℕ) → 1 ≤ m → k ≤ m → m < length winners → IsPlayed measures winners m
  pub most : k ≤ length winners

module _ (measures : ℕ → Option ℕ) (winners : List ℕ) where
  pub none_played : IsPlayedFrom measures winners (length winners)
  none_played = record {
    place = λ m one le lt. (let is = winner_at-place winners m le in omega (arith, is, lt, le));
    below = λ m one le lt. (let is = winner_at-place winners m le in record { matches = 0; is = omega (arith, is, le) });
    played = λ m one le lt. absurd (omega (arith, le, lt));
    most = omega arith;
  }

  pub all_played : (k : ℕ) → k ≤ 1 → IsPlayedFrom measures winners k → IsTournament measures winners
  all_played k le p = record {
    places = record {
      place = λ m one lt. p.place m one (omega (arith, le, one)) lt;
      below = λ m one lt. p.below m one (omega (arith, le, one)) lt;
    };
    played = λ m one lt. p.played m one (omega (arith, le, one)) lt;
  }

  module _ (k x : ℕ) (more : 1 < k) (p : IsPlayedFrom measures winners k) (is : x ≡ play measures (winner_at winners (2 * (k - 1))) (winner_at winners (2 * (k - 1) + 1))) where
    abbrev h : ℕ
    h = k - 1

    abbrev then : List ℕ
    then = set winners h x

    long : length then ≡ length winners
    long = length-set winners h x

    -- the winner is one of the two below
    from_below : (P : ℕ → Type 0) → P (winner_at winners (2 * h)) → P (winner_at winners (2 * h + 1)) → P x
    from_below P a b = elim (one_of measures (winner_at winners (2 * h)) (winner_at winners (2 * h + 1))) [
      | inl e ↦ subst P (sym (is ∙ e)) a
      | inr e ↦ subst P (sym (is ∙ e)) b
    ]

    other : (m : ℕ) → m ≢ h → winner_at then m ≡ winner_at winners m
    other m off = winner_at-set_other winners h x m off

    same : winner_at then h ≡ x
    same = winner_at-set_same winners h x (omega (arith, p.most, more))

    -- what holds of the winner of each node before, and of x, holds of each winner now
    each : (P : ℕ → ℕ → Type 0) → P h x → (m : ℕ) → (m ≢ h → P m (winner_at winners m)) → P m (winner_at then m)
    each P at m was = elim (cases_eq m h) [
      | inl e ↦ subst (λ w. P w (winner_at then w)) (sym e) (subst (P h) (sym same) at)
      | inr off ↦ subst (P m) (sym (other m off)) (was off)
    ]

    place : (m : ℕ) → 1 ≤ m → h ≤ m → m < 2 * length then → winner_at then m < length then
    place m one le lt = subst (λ n. winner_at then m < n) (sym long) (each (λ m w. w < length winners) (from_below (λ w. w < length winners) (p.place (2 * h) (omega arith) (omega arith) (omega (arith, p.most))) (p.place (2 * h + 1) (omega arith) (omega arith) (omega (arith, p.most)))) m (λ off. p.place m one (omega (arith, le, off)) (omega (arith, lt, long))))

    below : (m : ℕ) → 1 ≤ m → h ≤ m → m < 2 * length then → IsAbove m (length then + winner_at then m)
    below m one le lt = subst (λ n. IsAbove m (n + winner_at then m)) (sym long) (each (λ m w. IsAbove m (length winners + w)) (from_below (λ w. IsAbove h (length winners + w)) (above_child (2 * h) h _ (omega arith) (p.below (2 * h) (omega arith) (omega arith) (omega (arith, p.most)))) (above_child (2 * h + 1) h _ (omega arith) (p.below (2 * h + 1) (omega arith) (omega arith) (omega (arith, p.most))))) m (λ off. p.below m one (omega (arith, le, off)) (omega (arith, lt, long))))

    -- a match below keeps its nodes' winners
    kept : (m : ℕ) → h < m → IsPlayed measures winners m → IsPlayed measures then m
    kept m lt old = other m (λ e. omega (arith, e, lt)) ∙ old ∙ sym (ap (λ i. play measures i (winner_at then (2 * m + 1))) (other (2 * m) (λ e. omega (arith, e, lt))) ∙ ap (play measures (winner_at winners (2 * m))) (other (2 * m + 1) (λ e. omega (arith, e, lt))))

    now : IsPlayed measures then h
    now = same ∙ is ∙ sym (ap (λ i. play measures i (winner_at then (2 * h + 1))) (other (2 * h) (λ d. omega arith)) ∙ ap (play measures (winner_at winners (2 * h))) (other (2 * h + 1) (λ d. omega arith)))

    pub one_more : IsPlayedFrom measures (set winners h x) h
    one_more = record {
      place = place;
      below = below;
      played = λ m one le lt. elim (cases_eq m h) [
        | inl e ↦ subst (IsPlayed measures then) (sym e) now
        | inr off ↦ kept m (omega (arith, le, off)) (p.played m one (omega (arith, le, off)) (omega (arith, lt, long)))
      ];
      most = omega (arith, p.most, long);
    }

  -- the same, with the two winners as they were read
  pub one_more_by : (k x i j : ℕ) → 1 < k → IsPlayedFrom measures winners k → i ≡ winner_at winners (2 * (k - 1)) → j ≡ winner_at winners (2 * (k - 1) + 1) → x ≡ play measures i j → IsPlayedFrom measures (set winners (k - 1) x) (k - 1)
  one_more_by k x i j more p left right is = one_more k x more p (is ∙ play_same measures i j _ _ left right)
