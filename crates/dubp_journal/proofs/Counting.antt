-- The counts of changes follow a journal that loses a change, or gets one.
use Rattle.std.proofs.Common.{◌≡◌, ℕ, zero, suc, ◌+◌, ◌-◌, ◌<◌, ◌≤◌, List, [], ◌∷◌, ◌++◌, length, get_or, set, Option, refl, ap, ◌∙◌, inl, inr, ◌⊎◌, arith}
use Rattle.std.proofs.lemmas.Bool.{cases_eq}
use Rattle.std.proofs.lemmas.List.{length-set, get_or-set_same, get_or-set_other}
use Rattle.dubp_journal.specs.Journal.{named, Follows}
use Rattle.dubp_journal.proofs.Naming.{named-append, named_same, named_other}

counted_within : (u : List ℕ) (i : ℕ) → 0 < get_or u i 0 → i < length u
counted_within [] i some = absurd (omega (arith, some))
counted_within (x ∷ u) zero some = omega arith
counted_within (x ∷ u) (suc i) some = omega (arith, counted_within u i some)

module _ {V : Type 0} where
  pub named_front : (j rest : List (ℕ × Option V)) (c : ℕ × Option V) → j ≡ c ∷ rest → (i : ℕ) → named i j ≡ named i (c ∷ []) + named i rest
  named_front j rest c split i = ap (named i) split ∙ named-append i (c ∷ []) rest

  pub named_back : (j rest : List (ℕ × Option V)) (c : ℕ × Option V) → j ≡ rest ++ c ∷ [] → (i : ℕ) → named i j ≡ named i (c ∷ []) + named i rest
  named_back j rest c split i = ap (named i) split ∙ named-append i rest (c ∷ []) ∙ omega arith

  pub follows_same : (u : List ℕ) (j : List (ℕ × Option V)) → Follows u u j j
  follows_same u j = record { same_length = refl; each = λ i. refl }

  one_less : (u : List ℕ) (c : ℕ × Option V) → 0 < get_or u c.0 0 → c.0 < length u → (i : ℕ) → (i ≡ c.0) ⊎ (i ≡ c.0 → ⊥) → get_or (set u c.0 (get_or u c.0 0 - 1)) i 0 + named i (c ∷ []) ≡ get_or u i 0
  one_less u c some lt i (inl same) = rw same (omega (arith, get_or-set_same u c.0 (get_or u c.0 0 - 1) 0 lt, named_same c.0 c.1, some))
  one_less u c some lt i (inr other) = omega (arith, get_or-set_other u c.0 i (get_or u c.0 0 - 1) 0 other, named_other i c.0 c.1 other)

  one_more_use : (u : List ℕ) (c : ℕ × Option V) → c.0 < length u → (i : ℕ) → (i ≡ c.0) ⊎ (i ≡ c.0 → ⊥) → get_or (set u c.0 (get_or u c.0 0 + 1)) i 0 ≡ get_or u i 0 + named i (c ∷ [])
  one_more_use u c lt i (inl same) = rw same (omega (arith, get_or-set_same u c.0 (get_or u c.0 0 + 1) 0 lt, named_same c.0 c.1))
  one_more_use u c lt i (inr other) = omega (arith, get_or-set_other u c.0 i (get_or u c.0 0 + 1) 0 other, named_other i c.0 c.1 other)

  -- one change leaves
  pub released : (u0 u : List ℕ) (j0 j rest : List (ℕ × Option V)) (c : ℕ × Option V) → Follows u0 u j0 j → ((i : ℕ) → named i j0 ≤ get_or u0 i 0) → ((i : ℕ) → named i j ≡ named i (c ∷ []) + named i rest) → record {
    some : 0 < get_or u c.0 0;
    within : c.0 < length u;
    follows : Follows u0 (set u c.0 (get_or u c.0 0 - 1)) j0 rest;
  }
  released u0 u j0 j rest c f counted split =
      let some : 0 < get_or u c.0 0 = omega (arith, f.each c.0, counted c.0, split c.0, named_same c.0 c.1) in
      let within = counted_within u c.0 some in
      record {
        some = some;
        within = within;
        follows = record {
          same_length = length-set u c.0 (get_or u c.0 0 - 1) ∙ f.same_length;
          each = λ i. omega (arith, f.each i, split i, one_less u c some within i (cases_eq i c.0));
        };
      }

  -- one change comes
  pub followed : (u : List ℕ) (j : List (ℕ × Option V)) (c : ℕ × Option V) → c.0 < length u → Follows u (set u c.0 (get_or u c.0 0 + 1)) j (j ++ c ∷ [])
  followed u j c lt = record {
    same_length = length-set u c.0 (get_or u c.0 0 + 1);
    each = λ i. omega (arith, named-append i j (c ∷ []), one_more_use u c lt i (cases_eq i c.0));
  }
