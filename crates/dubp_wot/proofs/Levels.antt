-- The search by levels, over plain lists.
use Rattle.std.proofs.Common.{◌≡◌, Result, Ok, Err, IfOk, ℕ, zero, suc, ◌+◌, ◌<◌, ◌≤◌, ◌⊎◌, inl, inr, Bool, true, false, ◌||◌, List, [], ◌∷◌, ◌++◌, Some, length, slice_get, get_or, Contains, if◌then◌else◌, refl, sym, ap, subst, ◌∙◌, arith}
use Rattle.std.proofs.Math.ListN.{length-append}
use Rattle.std.specs.List.{list_any}
use Rattle.std.proofs.lemmas.Option.{slice_get_within, slice_get-get_or, same_Some}
use Rattle.std.proofs.lemmas.Bool.{cases_lt}
use Rattle.std.specs.Cmp.Lexicographic.{bytes_decides}
use Rattle.indexmap.specs.IndexSet.{insert_key}
use Rattle.dubp_atoms.specs.Same.{Text, same_text}
use Rattle.dubp_atoms.specs.Walks.{IsWalk, Reaches}
use Rattle.dubp_wot.specs.Search.{In, Grows, Closed, Level}

pub text_same : (x y : Text) → same_text x y ≡ true → x ≡ y
text_same x y = (bytes_decides x y).0

pub text_own : (x : Text) → same_text x x ≡ true
text_own x = (bytes_decides x x).1 refl

-- what holds of an answer, where there is one, gives what follows from it
pub where_ok : {T E : Type 0} {P Q : T → Type 0} (result : Result T E) → IfOk result P → ((x : T) → P x → Q x) → IfOk result Q
where_ok (Ok x) h f = f x h
where_ok (Err e) h f = tt

-- ---- keys in a list by their places

module _ {K : Type 0} where
  pub slice_get-append : (xs ys : List K) (i : ℕ) (b : K) → slice_get xs i ≡ Some b → slice_get (xs ++ ys) i ≡ Some b
  slice_get-append [] ys i b h = cc
  slice_get-append (x ∷ xs) ys zero b h = h
  slice_get-append (x ∷ xs) ys (suc i) b h = slice_get-append xs ys i b h

  -- a key of a longer list is one of the list or the last
  pub In-push : (xs : List K) (k a : K) (i : ℕ) → slice_get (xs ++ k ∷ []) i ≡ Some a → In xs a ⊎ (a ≡ k)
  In-push [] k a zero h = inr (sym (same_Some k a h))
  In-push [] k a (suc i) h = cc
  In-push (x ∷ xs) k a zero h = inl (0, h)
  In-push (x ∷ xs) k a (suc i) h = elim (In-push xs k a i h) [ inl m ↦ inl (suc m.0, m.1) | inr e ↦ inr e ]

  pub In-last : (xs : List K) (k : K) → In (xs ++ k ∷ []) k
  In-last [] k = (0, refl)
  In-last (x ∷ xs) k = let m = In-last xs k in (suc m.0, m.1)

  module _ (eq : K → K → Bool) (same : (x y : K) → eq x y ≡ true → x ≡ y) where
    pub In-from_any : (xs : List K) (a : K) → list_any (eq a) xs ≡ true → In xs a
    In-from_any [] a h = cc
    In-from_any (x ∷ xs) a h =
        elim (eq a x) as (λ t. eq a x ≡ t → (t || list_any (eq a) xs) ≡ true → In (x ∷ xs) a) [
          | true ↦ λ e _. (0, ap Some (sym (same a x e)))
          | false ↦ λ _ h'. let m = In-from_any xs a h' in (suc m.0, m.1)
        ] refl h

    pub any_from_In : ((x : K) → eq x x ≡ true) → (xs : List K) (a : K) (i : ℕ) → slice_get xs i ≡ Some a → list_any (eq a) xs ≡ true
    any_from_In own [] a i h = cc
    any_from_In own (x ∷ xs) a zero h = ap (λ t. t || list_any (eq a) xs) (subst (λ z. eq a z ≡ true) (sym (same_Some x a h)) (own a))
    any_from_In own (x ∷ xs) a (suc i) h =
        elim (eq a x) as (λ t. (t || list_any (eq a) xs) ≡ true) [ true ↦ refl | false ↦ any_from_In own xs a i h ]

    pub In-insert : (xs : List K) (k : K) → In (insert_key eq xs k) k
    In-insert xs k = by (list_any (eq k) xs) refl
      where
        by : (t : Bool) → list_any (eq k) xs ≡ t → In (if t then xs else xs ++ k ∷ []) k
        by true e = In-from_any xs k e
        by false e = In-last xs k

-- ---- a set that grows

module _ {K : Type 0} (members : List K) (pairs : List (K × K)) where
  pub Grows-none : (From : K → Type 0) (keys : List K) → Grows members pairs From keys keys
  Grows-none From keys = record { longer = omega arith; keeps = λ i b h. h; only = λ a h. inl h }

  pub Grows-then : (From : K → Type 0) (old mid new : List K) → Grows members pairs From old mid → Grows members pairs From mid new
      → Grows members pairs From old new
  Grows-then From old mid new g h = record {
    longer = let a = g.longer in let b = h.longer in omega arith;
    keeps = λ i b e. h.keeps i b (g.keeps i b e);
    only = λ a m. elim (h.only a m) [ inl n ↦ g.only a n | inr n ↦ inr n ];
  }

  pub Grows-weaker : (From From' : K → Type 0) (old new : List K) → ((b : K) → From b → From' b) → Grows members pairs From old new
      → Grows members pairs From' old new
  Grows-weaker From From' old new weaker g = record {
    longer = g.longer;
    keeps = g.keeps;
    only = λ a m. elim (g.only a m) [ inl n ↦ inl n | inr n ↦ inr (n.0, (n.1.0, weaker n.1.0 n.1.1, n.1.2)) ];
  }

  pub In-kept : (From : K → Type 0) (old new : List K) → Grows members pairs From old new → (a : K) → In old a → In new a
  In-kept From old new g a m = (m.0, g.keeps m.0 a m.1)

  pub Grows-push : (From : K → Type 0) (keys : List K) (a b : K) → Contains members a → From b → Contains pairs (a, b)
      → Grows members pairs From keys (keys ++ a ∷ [])
  Grows-push From keys a b in' from pair = record {
    longer = omega (arith, length-append keys (a ∷ []));
    keeps = λ i c h. slice_get-append keys (a ∷ []) i c h;
    only = λ c m. elim (In-push keys a c m.0 m.1) [ inl n ↦ inl n | inr e ↦ inr (subst (Contains members) (sym e) in', (b, from, subst (λ z. Contains pairs (z, b)) (sym e) pair)) ];
  }

  -- what stands at a place of the old list stood there before
  pub at-old : (From : K → Type 0) (old new : List K) → Grows members pairs From old new → (i : ℕ) (b : K) → i < length old
      → slice_get new i ≡ Some b → slice_get old i ≡ Some b
  at-old From old new g i b in_old h =
      let e = slice_get-get_or old i b in_old in
      e ∙ ap Some (same_Some (get_or old i b) b (sym (g.keeps i (get_or old i b) e) ∙ h))

  pub Closed-none : (keys : List K) → Closed members pairs 0 keys
  Closed-none keys = record { has = λ i b a low. absurd (omega arith) }

  pub Closed-less : (n m : ℕ) (keys : List K) → n ≤ m → Closed members pairs m keys → Closed members pairs n keys
  Closed-less n m keys less c = record { has = λ i b a low. c.has i b a (omega arith) }

  -- the key at place n has all its issuers in the list: one more key is closed
  pub Closed-more : (From : K → Type 0) (n : ℕ) (k : K) (old new : List K) → Closed members pairs n old → Grows members pairs From old new
      → slice_get old n ≡ Some k → ((a : K) → Contains members a → Contains pairs (a, k) → In new a) → Closed members pairs (n + 1) new
  Closed-more From n k old new c g at all = record { has = has }
    where
      has : (i : ℕ) (b a : K) → i < n + 1 → slice_get new i ≡ Some b → Contains members a → Contains pairs (a, b) → In new a
      has i b a low h in' pair =
          let within = slice_get_within old n k at in
          let there = at-old From old new g i b (omega arith) h in
          elim (cases_lt i n) [
            | inl below ↦ In-kept From old new g a (c.has i b a below there in' pair)
            | inr past ↦
                let i_is : i ≡ n = omega arith in
                let b_is : b ≡ k = same_Some b k (sym there ∙ ap (slice_get old) i_is ∙ at) in
                all a in' (subst (λ z. Contains pairs (a, z)) b_is pair)
          ]

-- ---- levels

module _ {K : Type 0} (members : List K) (pairs : List (K × K)) (target : K) where
  pub Reaches-more : (n m : ℕ) (a : K) → n ≤ m → Reaches members pairs n a target → Reaches members pairs m a target
  Reaches-more n m a more (path, few, walk) = (path, omega arith, walk)

  -- a walk ends at a member
  pub member-end : (path : List K) (a : K) → IsWalk members pairs a path target → Contains members target
  member-end [] a walk = subst (Contains members) walk.1 walk.0
  member-end (b ∷ path) a walk = member-end path b walk.2

  pub Level-first : Contains members target → Level members pairs target 0 (target ∷ [])
  Level-first in' = record { sound = sound; complete = complete }
    where
      sound : (a : K) → In (target ∷ []) a → Reaches members pairs 0 a target
      sound a (zero, h) = let e = same_Some target a h in ([], omega arith, (subst (Contains members) e in', sym e))
      sound a (suc i, h) = cc

      complete : (a : K) → Reaches members pairs 0 a target → In (target ∷ []) a
      complete a ([], few, walk) = (0, ap Some (sym walk.1))
      complete a (b ∷ path, few, walk) = absurd (omega arith)

  -- who is added by a level reaches the target in a step more
  pub sound-next : (n : ℕ) (old new : List K) → ((a : K) → In old a → Reaches members pairs n a target) → Grows members pairs (In old) old new
      → (a : K) → In new a → Reaches members pairs (n + 1) a target
  sound-next n old new sound g a m = elim (g.only a m) [
    | inl o ↦ Reaches-more n (n + 1) a (omega arith) (sound a o)
    | inr r ↦ let w = sound r.1.0 r.1.1 in (r.1.0 ∷ w.0, omega arith, (r.0, r.1.2, w.2))
  ]

  pub Level-next : (n : ℕ) (old new : List K) → Level members pairs target n old → Grows members pairs (In old) old new → Closed members pairs (length old) new
      → Level members pairs target (n + 1) new
  Level-next n old new l g c = record { sound = sound-next n old new l.sound g; complete = complete }
    where
      complete : (a : K) → Reaches members pairs (n + 1) a target → In new a
      complete a ([], few, walk) = In-kept members pairs (In old) old new g a (l.complete a ([], omega arith, walk))
      complete a (b ∷ path, few, walk) =
          let m = l.complete b (path, omega arith, walk.2) in
          c.has m.0 b a (slice_get_within old m.0 b m.1) (g.keeps m.0 b m.1) walk.0 walk.1

  -- where a level adds nothing, no later one does
  pub Level-end : (n m : ℕ) (keys : List K) → n ≤ m → Level members pairs target n keys → Closed members pairs (length keys) keys → Level members pairs target m keys
  Level-end n m keys more l c = record { sound = λ a h. Reaches-more n m a more (l.sound a h); complete = λ a r. go r.0 a r.2 }
    where
      go : (path : List K) (a : K) → IsWalk members pairs a path target → In keys a
      go [] a walk = l.complete a ([], omega arith, walk)
      go (b ∷ path) a walk = let m = go path b walk.2 in c.has m.0 b a (slice_get_within keys m.0 b m.1) m.1 walk.0 walk.1
