-- A slot more that holds nothing takes the place that was there for it, and changes no match: why the summary of the values is also
-- that of the values with the slot.
use Rattle.std.proofs.Common.{◌≡◌, ℕ, suc, zero, ◌+◌, ◌*◌, ◌≤◌, ◌∷◌, ◌++◌, [], List, length, get_or, Option, None, refl, sym, ap, subst, ◌∙◌}
use Rattle.std.specs.Option.{option_map}
use Rattle.std.proofs.lemmas.List.{length_push}
use Rattle.dubp_least.specs.Matches.{measure_at, better, play, winner_at, IsTournament, IsPlayedOver}

play_like : (before after : ℕ → Option ℕ) → ((i : ℕ) → before i ≡ after i) → (i j : ℕ) → play before i j ≡ play after i j
play_like before after agree i j = ap (λ o. better o (before j) i j) (agree i) ∙ ap (λ o. better (after i) o i j) (agree j)

-- a tournament reads the measures alone
played_like : (before after : ℕ → Option ℕ) (winners : List ℕ) → ((i : ℕ) → before i ≡ after i) → IsTournament before winners → IsTournament after winners
played_like before after winners agree t = record {
  places = t.places;
  played = λ k one lt. t.played k one lt ∙ play_like before after agree (winner_at winners (2 * k)) (winner_at winners (2 * k + 1));
}

get_or-more : {V : Type 0} (values : List (Option V)) (i : ℕ) → get_or values i None ≡ get_or (values ++ None ∷ []) i None
get_or-more [] zero = refl
get_or-more [] (suc i) = refl
get_or-more (v ∷ values) zero = refl
get_or-more (v ∷ values) (suc i) = get_or-more values i

pub one_slot_more : {V : Type 0} (measure : V → ℕ) (values : List (Option V)) (winners : List ℕ) → IsPlayedOver measure values winners → length values + 1 ≤ length winners → IsPlayedOver measure (values ++ None ∷ []) winners
one_slot_more measure values winners p room = record {
  fits = subst (λ n. n ≤ length winners) (sym (length_push values None)) room;
  matches = played_like (measure_at measure values) (measure_at measure (values ++ None ∷ [])) winners (λ i. ap (option_map measure) (get_or-more values i)) p.matches;
}
