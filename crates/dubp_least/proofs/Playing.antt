-- The matches above a place are played again.
use Rattle.std.proofs.Common.{◌≡◌, ◌≢◌, ℕ, ◌+◌, ◌*◌, ◌/◌, ◌<◌, ◌≤◌, List, length, set, Option, None, refl, sym, ap, subst, ◌∙◌, arith, inl, inr}
use Rattle.std.proofs.lemmas.List.{get_or-set_other, length-set}
use Rattle.std.proofs.lemmas.Bool.{cases_eq}
use Rattle.std.specs.Option.{option_map}
use Rattle.dubp_least.specs.Matches.{measure_at, play, up, winner_at, IsAbove, IsPlayed, AreBelow, ArePlayedBut, IsTournament, IsPlayedOver}
use Rattle.dubp_least.proofs.Nodes.{above_child, above_step, up_zero, winner_at-set_same, winner_at-set_other}
use Rattle.dubp_least.proofs.Winning.{one_of, play_same}

-- all matches are played but those above the node k
pub record IsPlayedBelow (measures : ℕ → Option ℕ) (winners : List ℕ) (k : ℕ) : Type 0 where
  pub places : AreBelow winners
  pub others : ArePlayedBut measures winners (k / 2)
  pub first : 1 ≤ k
  pub within : k < 2 * length winners

module _ (measures : ℕ → Option ℕ) (winners : List ℕ) where
  pub begins : (place : ℕ) → place < length winners → AreBelow winners → ArePlayedBut measures winners (length winners + place) → IsPlayedBelow measures winners (length winners + place)
  begins place lt places others = record {
    places = places;
    others = λ m one below not. others m one below (λ a. elim (above_step m (length winners + place) a) [ inl e ↦ absurd (omega (arith, e, below)) | inr up ↦ not up ]);
    first = omega arith;
    within = omega arith;
  }

  pub ends : (k : ℕ) → k ≤ 1 → IsPlayedBelow measures winners k → IsTournament measures winners
  ends k le p = record { places = p.places; played = λ m one below. p.others m one below (λ a. (let none : k / 2 ≡ 0 = omega (arith, le) in let z = sym (ap (up a.matches) none ∙ up_zero a.matches) ∙ a.is in absurd (omega (arith, z, one)))) }

  module _ (k x : ℕ) (more : 1 < k) (p : IsPlayedBelow measures winners k) (is : x ≡ play measures (winner_at winners (2 * (k / 2))) (winner_at winners (2 * (k / 2) + 1))) where
    abbrev h : ℕ
    h = k / 2

    abbrev then : List ℕ
    then = set winners h x

    long : length then ≡ length winners
    long = length-set winners h x

    -- the winner is one of the two below
    from_below : (P : ℕ → Type 0) → P (winner_at winners (2 * h)) → P (winner_at winners (2 * h + 1)) → P x
    from_below P a b = elim (one_of measures (winner_at winners (2 * h)) (winner_at winners (2 * h + 1))) [
      | inl e ↦ subst P (sym (is ∙ e)) a
      | inr e ↦ subst P (sym (is ∙ e)) b
    ]

    other : (m : ℕ) → m ≢ h → winner_at then m ≡ winner_at winners m
    other m off = winner_at-set_other winners h x m off

    same : winner_at then h ≡ x
    same = winner_at-set_same winners h x (omega (arith, p.within, more))

    -- what holds of the winner of each node before, and of x, holds of each winner now
    each : (P : ℕ → ℕ → Type 0) → P h x → (m : ℕ) → P m (winner_at winners m) → P m (winner_at then m)
    each P at m was = elim (cases_eq m h) [
      | inl e ↦ subst (λ w. P w (winner_at then w)) (sym e) (subst (P h) (sym same) at)
      | inr off ↦ subst (P m) (sym (other m off)) was
    ]

    place : (m : ℕ) → 1 ≤ m → m < 2 * length then → winner_at then m < length then
    place m one lt = subst (λ n. winner_at then m < n) (sym long) (each (λ m w. w < length winners) (from_below (λ w. w < length winners) (p.places.place (2 * h) (omega arith) (omega (arith, p.within))) (p.places.place (2 * h + 1) (omega arith) (omega (arith, p.within)))) m (p.places.place m one (omega (arith, lt, long))))

    below : (m : ℕ) → 1 ≤ m → m < 2 * length then → IsAbove m (length then + winner_at then m)
    below m one lt = subst (λ n. IsAbove m (n + winner_at then m)) (sym long) (each (λ m w. IsAbove m (length winners + w)) (from_below (λ w. IsAbove h (length winners + w)) (above_child (2 * h) h _ (omega arith) (p.places.below (2 * h) (omega arith) (omega (arith, p.within)))) (above_child (2 * h + 1) h _ (omega arith) (p.places.below (2 * h + 1) (omega arith) (omega (arith, p.within))))) m (p.places.below m one (omega (arith, lt, long))))

    -- a match whose nodes keep their winners is played as before
    kept : (m : ℕ) → m ≢ h → 2 * m ≢ h → 2 * m + 1 ≢ h → IsPlayed measures winners m → IsPlayed measures then m
    kept m off left right old = other m off ∙ old ∙ sym (ap (λ i. play measures i (winner_at then (2 * m + 1))) (other (2 * m) left) ∙ ap (play measures (winner_at winners (2 * m))) (other (2 * m + 1) right))

    now : IsPlayed measures then h
    now = same ∙ is ∙ sym (ap (λ i. play measures i (winner_at then (2 * h + 1))) (other (2 * h) (λ d. omega arith)) ∙ ap (play measures (winner_at winners (2 * h))) (other (2 * h + 1) (λ d. omega arith)))

    pub replayed : IsPlayedBelow measures (set winners h x) h
    replayed = record {
      places = record { place = place; below = below };
      others = λ m one lt not. elim (cases_eq m h) [
        | inl e ↦ subst (IsPlayed measures then) (sym e) now
        | inr off ↦ (
            let old = p.others m one (omega (arith, lt, long)) (λ a. elim (above_step m h a) [ inl e ↦ off e | inr up ↦ not up ]) in
            let left : 2 * m ≢ h = λ e. not (record { matches = 0; is = omega (arith, e) }) in
            let right : 2 * m + 1 ≢ h = λ e. not (record { matches = 0; is = omega (arith, e) }) in
            kept m off left right old)
      ];
      first = omega arith;
      within = omega (arith, p.within, long);
    }

  -- the same, with the two winners as they were read
  pub replayed_by : (k x i j : ℕ) → 1 < k → IsPlayedBelow measures winners k → i ≡ winner_at winners (2 * (k / 2)) → j ≡ winner_at winners (2 * (k / 2) + 1) → x ≡ play measures i j → IsPlayedBelow measures (set winners (k / 2) x) (k / 2)
  replayed_by k x i j more p left right is = replayed k x more p (is ∙ play_same measures i j _ _ left right)

-- what one place holds has changed: only the matches above it are to be played
module _ (before after : ℕ → Option ℕ) (winners : List ℕ) (place : ℕ) (agree : (i : ℕ) → i ≢ place → before i ≡ after i) (t : IsTournament before winners) where
  play-agree : (i j : ℕ) → i ≢ place → j ≢ place → play before i j ≡ play after i j
  play-agree i j a b = rw (agree i a, agree j b) refl

  pub changed_others : ArePlayedBut after winners (length winners + place)
  changed_others m one lt not =
      let here : (c : ℕ) → 1 ≤ c → c < 2 * length winners → c / 2 ≡ m → winner_at winners c ≢ place = λ c first within half e. not (above_child c m _ half (subst (λ w. IsAbove c (length winners + w)) e (t.places.below c first within))) in
      t.played m one lt ∙ play-agree (winner_at winners (2 * m)) (winner_at winners (2 * m + 1)) (here (2 * m) (omega arith) (omega arith) (omega arith)) (here (2 * m + 1) (omega arith) (omega arith) (omega arith))

-- the same, where the tournament is that of the values with v in the slot
pub change_others : {V : Type 0} (measure : V → ℕ) (values : List (Option V)) (winners : List ℕ) (slot : ℕ) (v : Option V) → IsPlayedOver measure (set values slot v) winners → ArePlayedBut (measure_at measure values) winners (length winners + slot)
change_others measure values winners slot v t = changed_others (measure_at measure (set values slot v)) (measure_at measure values) winners slot (λ i off. ap (option_map measure) (get_or-set_other values slot i v None off)) t.matches
