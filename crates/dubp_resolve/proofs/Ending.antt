-- Each failure takes a block out of the candidates, and no other comes in.
use Rattle.std.proofs.Common.{◌≡◌, ℕ, ◌+◌, ◌<◌, ◌≤◌, ◌&&◌, ◌||◌, Bool, true, false, not, cond, List, [], ◌∷◌, ◌++◌, filter, length, nat_le, Some, refl, sym, ap, subst, ◌∙◌, true≢false, arith}
use Rattle.std.specs.List.{list_any}
use Rattle.std.proofs.lemmas.List.Folds.{list_any-append}
use Rattle.dubp_atoms.specs.declared.stamp.Stamp.{Stamp}
use Rattle.dubp_resolve.specs.declared.view.Offered.{Offered}
use Rattle.dubp_atoms.specs.Same.{same_stamp}
use Rattle.dubp_resolve.specs.Choice.{Choices, choice, is_among, has_stamp, is_detached, behind, stored_then, most_stored, path_of, is_candidate, IsChoice, IsGreatest}
use Rattle.dubp_resolve.proofs.Stamps.{stamps}
use Rattle.dubp_resolve.proofs.Greatest.{choice_is}

-- with one failure more
abbrev pub with_failed : Choices → List Stamp → Choices
with_failed v failed = record v { failed = failed }

or_left : (a b : Bool) → (a || b) ≡ false → a ≡ false
or_left true b e = e
or_left false b e = refl

or_true : (a : Bool) → (a || true) ≡ true
or_true true = refl
or_true false = refl

-- what was among them still is
among_more : (failed : List Stamp) (at s : Stamp) → is_among (failed ++ at ∷ []) s ≡ (is_among failed s || (same_stamp s at || false))
among_more failed at s = list_any-append (same_stamp s) failed (at ∷ [])

less_failed : (failed : List Stamp) (at : Stamp) (blocks : List Offered)
    → list_any (λ b. is_among (failed ++ at ∷ []) b.stamp) blocks ≡ false → list_any (λ b. is_among failed b.stamp) blocks ≡ false
less_failed failed at [] e = refl
less_failed failed at (b ∷ bs) e =
    let here : (is_among failed b.stamp || (same_stamp b.stamp at || false)) ≡ false = sym (among_more failed at b.stamp) ∙ or_left (is_among (failed ++ at ∷ []) b.stamp) _ e in
    let first : is_among failed b.stamp ≡ false = or_left (is_among failed b.stamp) _ here in
    ap (λ r. r || list_any (λ b. is_among failed b.stamp) bs) first ∙ less_failed failed at bs (rest (is_among (failed ++ at ∷ []) b.stamp) _ e)
  where
    rest : (a b : Bool) → (a || b) ≡ false → b ≡ false
    rest true b e = absurd (true≢false e)
    rest false b e = e

-- a path with that block has failed
now_failed : (failed : List Stamp) (at : Stamp) (blocks : List Offered) → list_any (has_stamp at) blocks ≡ true → list_any (λ b. is_among (failed ++ at ∷ []) b.stamp) blocks ≡ true
now_failed failed at [] e = absurd (true≢false (sym e))
now_failed failed at (b ∷ bs) e =
    elim (same_stamp at b.stamp) as (λ r. same_stamp at b.stamp ≡ r → (r || list_any (has_stamp at) bs) ≡ true → (is_among (failed ++ at ∷ []) b.stamp || list_any (λ b. is_among (failed ++ at ∷ []) b.stamp) bs) ≡ true) [
      | true ↦ λ t f.
          ap (λ r. r || list_any (λ b. is_among (failed ++ at ∷ []) b.stamp) bs)
          (among_more failed at b.stamp ∙ ap (λ r. is_among failed b.stamp || (r || false)) (stamps.symm b.stamp at ∙ t) ∙ or_true (is_among failed b.stamp))
      | false ↦ λ t f. ap (λ r. is_among (failed ++ at ∷ []) b.stamp || r) (now_failed failed at bs f) ∙ or_true (is_among (failed ++ at ∷ []) b.stamp)
    ] refl e

-- ---- candidates
still : (n d k s f g : Bool) → (f ≡ false → g ≡ false) → (n && (not d && (k && (s && not f)))) ≡ true → (n && (not d && (k && (s && not g)))) ≡ true
still true false true true false g h e = ap not (h refl)
still true false true true true g h e = absurd (true≢false (sym e))
still true false true false f g h e = e
still true false false s f g h e = e
still true true k s f g h e = e
still false d k s f g h e = e

out : (n d k s f : Bool) → f ≡ true → (n && (not d && (k && (s && not f)))) ≡ false
out true false true true true h = refl
out true false true true false h = absurd (true≢false (sym h))
out true false true false f h = refl
out true false false s f h = refl
out true true k s f h = refl
out false d k s f h = refl

pub candidate_before : (v : Choices) (failed : List Stamp) (at : Stamp) (b : Offered) → is_candidate (with_failed v (failed ++ at ∷ [])) b ≡ true → is_candidate (with_failed v failed) b ≡ true
candidate_before v failed at b e =
    still (nat_le (v.length + 2) b.stamp.number) (is_detached v (path_of v b)) (nat_le (behind v (path_of v b)) v.kept) (nat_le (stored_then v (path_of v b)) most_stored)
    (list_any (λ b. is_among (failed ++ at ∷ []) b.stamp) (path_of v b).blocks) (list_any (λ b. is_among failed b.stamp) (path_of v b).blocks)
    (less_failed failed at (path_of v b).blocks) e

pub candidate_out : (v : Choices) (failed : List Stamp) (at : Stamp) (b : Offered) → list_any (has_stamp at) (path_of v b).blocks ≡ true → is_candidate (with_failed v (failed ++ at ∷ [])) b ≡ false
candidate_out v failed at b e =
    out (nat_le (v.length + 2) b.stamp.number) (is_detached v (path_of v b)) (nat_le (behind v (path_of v b)) v.kept) (nat_le (stored_then v (path_of v b)) most_stored)
    (list_any (λ b. is_among (failed ++ at ∷ []) b.stamp) (path_of v b).blocks) (now_failed failed at (path_of v b).blocks e)

-- ---- how many there are
module _ {X : Type 0} (p q : X → Bool) (less : (x : X) → q x ≡ true → p x ≡ true) where
  one : (x : X) (m n : List X) → length m ≤ length n → length (cond (q x) (x ∷ m) m) ≤ length (cond (p x) (x ∷ n) n)
  one x m n l =
      elim (q x) as (λ r. q x ≡ r → length (cond r (x ∷ m) m) ≤ length (cond (p x) (x ∷ n) n)) [
        | true ↦ λ e. rw (less x e) (omega arith)
        | false ↦ λ e. elim (p x) as (λ r. length m ≤ length (cond r (x ∷ n) n)) [ true ↦ omega arith | false ↦ l ]
      ] refl

  no_more : (xs : List X) → length (filter q xs) ≤ length (filter p xs)
  no_more [] = omega arith
  no_more (x ∷ xs) = one x (filter q xs) (filter p xs) (no_more xs)

  more : (x : X) (m n : List X) → length m < length n → length (cond (q x) (x ∷ m) m) < length (cond (p x) (x ∷ n) n)
  more x m n l =
      elim (q x) as (λ r. q x ≡ r → length (cond r (x ∷ m) m) < length (cond (p x) (x ∷ n) n)) [
        | true ↦ λ e. rw (less x e) (omega arith)
        | false ↦ λ e. elim (p x) as (λ r. length m < length (cond r (x ∷ n) n)) [ true ↦ omega arith | false ↦ l ]
      ] refl

  pub fewer : (before : List X) (x : X) (after : List X) → p x ≡ true → q x ≡ false → length (filter q (before ++ x ∷ after)) < length (filter p (before ++ x ∷ after))
  fewer [] x after e f = let l = no_more after in rw (e, f) (omega arith)
  fewer (y ∷ before) x after e f = more y (filter q (before ++ x ∷ after)) (filter p (before ++ x ∷ after)) (fewer before x after e f)

-- how many candidates there are
abbrev pub candidates : Choices → ℕ
candidates v = length (filter (is_candidate v) v.offers)

pub fewer_candidates : (v : Choices) (failed : List Stamp) (at : Stamp) (b : Offered) → choice (with_failed v failed) ≡ Some b → list_any (has_stamp at) (path_of v b).blocks ≡ true
    → candidates (with_failed v (failed ++ at ∷ [])) < candidates (with_failed v failed)
fewer_candidates v failed at b e on =
    let is : IsGreatest (with_failed v failed) v.offers b = subst (IsChoice (with_failed v failed)) e (choice_is (with_failed v failed)) in
    subst (λ l. length (filter (is_candidate (with_failed v (failed ++ at ∷ []))) l) < length (filter (is_candidate (with_failed v failed)) l)) (sym is.stands)
    (fewer (is_candidate (with_failed v failed)) (is_candidate (with_failed v (failed ++ at ∷ []))) (candidate_before v failed at) is.before b is.after is.candidate (candidate_out v failed at b on))
