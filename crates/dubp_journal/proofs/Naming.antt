-- How many changes name a slot: what undoing leaves of a slot that none names, and that its row may come and go.
use Rattle.std.proofs.Common.{◌≡◌, ℕ, ◌+◌, ◌<◌, ◌≤◌, Bool, true, false, cond, nat_eq, List, [], ◌∷◌, ◌++◌, length, get_or, take, drop, Option, None, refl, sym, ap, ◌∙◌, inl, inr, ◌⊎◌, arith, take-append-drop}
use Rattle.std.proofs.lemmas.Bool.{eqb-true, eqb-false, eq-eqb}
use Rattle.std.proofs.lemmas.List.{get_or-set_other}
use Rattle.std.specs.List.{All}
use Rattle.std.proofs.lemmas.List.Elements.{All-head, All-tail}
use Rattle.dubp_journal.specs.Slots.{live}
use Rattle.dubp_journal.specs.Journal.{undo, redo_of, named, states}
use Rattle.dubp_journal.proofs.Live.{live_keys}

-- a change that names no slot i
not_named : (a i m : ℕ) (b : Bool) → nat_eq a i ≡ b → cond b 1 0 + m ≡ 0 → (i ≡ a → ⊥) × (m ≡ 0)
not_named a i m true t e = absurd (omega (arith, e))
not_named a i m false t e = (λ same. eqb-false a i t (sym same), omega (arith, e))

module _ {V : Type 0} where
  pub named-append : (i : ℕ) (j k : List (ℕ × Option V)) → named i (j ++ k) ≡ named i j + named i k
  named-append i [] k = omega arith
  named-append i (c ∷ j) k = omega (arith, named-append i j k)

  pub named-le : (i : ℕ) (j : List (ℕ × Option V)) → named i j ≤ length j
  named-le i [] = omega arith
  named-le i (c ∷ j) = omega (arith, named-le i j, at_most (nat_eq c.0 i))
    where
      at_most : (b : Bool) → cond b 1 0 ≤ 1
      at_most true = omega arith
      at_most false = omega arith

  pub named-split : (i n : ℕ) (j : List (ℕ × Option V)) → named i (take n j) + named i (drop n j) ≡ named i j
  named-split i n j = sym (named-append i (take n j) (drop n j)) ∙ ap (named i) (take-append-drop n j)

  pub named-redo_of : (i : ℕ) (slots : List (Option V)) (j : List (ℕ × Option V)) → named i (redo_of slots j) ≡ named i j
  named-redo_of i slots [] = refl
  named-redo_of i slots (c ∷ j) = named-append i (redo_of slots j) ((c.0, get_or (undo slots j) c.0 None) ∷ []) ∙ omega (arith, named-redo_of i slots j)

  -- changes of the first n slots name no other
  pub named-past : (i n : ℕ) (j : List (ℕ × Option V)) → n ≤ i → All (λ c. c.0 < n) j → named i j ≡ 0
  named-past i n [] le all = refl
  named-past i n (c ∷ j) le all = past c.0 (nat_eq c.0 i) refl (All-head (λ c. c.0 < n) c j all) (named-past i n j le (All-tail (λ c. c.0 < n) c j all))
    where
      past : (a : ℕ) (b : Bool) → nat_eq a i ≡ b → a < n → named i j ≡ 0 → cond b 1 0 + named i j ≡ 0
      past a true e lt rest = absurd (omega (arith, le, lt, eqb-true a i e))
      past a false e lt rest = omega (arith, rest)

  pub undo-unnamed : (slots : List (Option V)) (i : ℕ) (j : List (ℕ × Option V)) → named i j ≡ 0 → get_or (undo slots j) i None ≡ get_or slots i None
  undo-unnamed slots i [] e = refl
  undo-unnamed slots i (c ∷ j) e =
      let n = not_named c.0 i (named i j) (nat_eq c.0 i) refl e in
      get_or-set_other (undo slots j) c.0 i c.1 None n.0 ∙ undo-unnamed slots i j n.1

-- other keys show the same maps, where the slots in which they differ hold nothing and no change names them
pub states_same : {K V : Type 0} (keys other : List (Option K)) (P : ℕ → Type 0) → ((x : ℕ) → (get_or other x None ≡ get_or keys x None) ⊎ P x) → (slots : List (Option V)) → ((i : ℕ) → P i → get_or slots i None ≡ None) → (j : List (ℕ × Option V)) (marks : List ℕ) → ((i : ℕ) → P i → named i j ≡ 0) → states other slots j marks ≡ states keys slots j marks
states_same keys other P same slots none j [] free = refl
states_same {K} {V} keys other P same slots none j (n ∷ marks) free =
    rw (live_keys keys other (undo slots j) (λ x. empty x (same x))) (ap (λ x. (live keys (undo slots j), n) ∷ x) (states_same keys other P same slots none (drop n j) marks (λ i p. omega (arith, named-split i n j, free i p))))
  where
    empty : (x : ℕ) → (get_or other x None ≡ get_or keys x None) ⊎ P x → (get_or other x None ≡ get_or keys x None) ⊎ (get_or (undo slots j) x None ≡ None)
    empty x (inl e) = inl e
    empty x (inr p) = inr (undo-unnamed slots x j (free x p) ∙ none x p)

-- a change of another slot
pub named_other : {V : Type 0} (x i : ℕ) (v : Option V) → (x ≡ i → ⊥) → named x ((i, v) ∷ []) ≡ 0
named_other x i v other = cases (nat_eq i x) refl
  where
    cases : (b : Bool) → nat_eq i x ≡ b → cond b 1 0 + 0 ≡ 0
    cases true e = absurd (other (sym (eqb-true i x e)))
    cases false e = omega arith

pub named_same : {V : Type 0} (i : ℕ) (v : Option V) → named i ((i, v) ∷ []) ≡ 1
named_same i v = cases (nat_eq i i) (eq-eqb i i refl)
  where
    cases : (b : Bool) → b ≡ true → cond b 1 0 + 0 ≡ 1
    cases true e = omega arith
    cases false e = cc
