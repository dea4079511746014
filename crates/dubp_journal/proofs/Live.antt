-- The map that slots hold: what it has at a key, which keys are placed, and when two lists of slots or of keys show the same map.
use Rattle.std.proofs.Common.{◌≡◌, ℕ, zero, suc, ◌<◌, Bool, true, false, List, [], ◌∷◌, length, get_or, Option, Some, None, is_some, refl, sym, ap, subst, ◌∙◌, inl, inr, ◌⊎◌, arith}
use Rattle.std.specs.Prelude.{◌||◌}
use Rattle.std.specs.declared.cmp.Ordering.{Ordering}
use Rattle.std.specs.Cmp.{IsTotalOrder, eq_by_cmp_equiv}
use Rattle.std.specs.Map.{lookup}
use Rattle.std.specs.BTreeMap.{is_at}
use Rattle.std.specs.List.{list_any}
use Rattle.std.proofs.lemmas.List.{get_or_past}
use Rattle.std.proofs.lemmas.Bool.{cases_lt}
use Rattle.dubp_journal.specs.MovingTable.{get}
pub use Rattle.dubp_journal.specs.Slots.{held}
use Rattle.dubp_journal.specs.Slots.{entry, live, keys_in, Finds}

module _ {K V : Type 0} where
  -- no slot has a key that passes the test
  lookup_none : (test : K → Bool) (keys : List (Option K)) (slots : List (Option V)) → ((j : ℕ) (k : K) → get_or keys j None ≡ Some k → test k ≡ false) → lookup test (live keys slots) ≡ None
  lookup_none test [] slots lacks = refl
  lookup_none test (k ∷ keys) [] lacks = refl
  lookup_none test (None ∷ keys) (v ∷ slots) lacks = lookup_none test keys slots (λ j. lacks (suc j))
  lookup_none test (Some k ∷ keys) (None ∷ slots) lacks = lookup_none test keys slots (λ j. lacks (suc j))
  lookup_none test (Some k ∷ keys) (Some v ∷ slots) lacks = rw (lacks 0 k refl) (lookup_none test keys slots (λ j. lacks (suc j)))

  -- the slot i is the one whose key passes the test
  lookup_at : (test : K → Bool) (keys : List (Option K)) (slots : List (Option V)) (i : ℕ) (k : K) → get_or keys i None ≡ Some k → test k ≡ true → ((j : ℕ) (l : K) → get_or keys j None ≡ Some l → test l ≡ true → j ≡ i) → lookup test (live keys slots) ≡ get_or slots i None
  lookup_at test [] slots i k at is one = absurd (cc)
  lookup_at test (k ∷ keys) [] i l at is one = refl
  lookup_at test (None ∷ keys) (v ∷ slots) zero l at is one = absurd (cc)
  lookup_at test (None ∷ keys) (v ∷ slots) (suc i) l at is one = lookup_at test keys slots i l at is (λ j m a s. omega (arith, one (suc j) m a s))
  lookup_at test (Some k ∷ keys) (None ∷ slots) zero l at is one = lookup_none test keys slots (λ j m a. others j m a (test m) refl)
    where
      others : (j : ℕ) (m : K) → get_or keys j None ≡ Some m → (b : Bool) → test m ≡ b → test m ≡ false
      others j m a true s = absurd (omega (arith, one (suc j) m a s))
      others j m a false s = s
  lookup_at test (Some k ∷ keys) (Some v ∷ slots) zero l at is one = rw (here at) refl
    where
      here : Some k ≡ Some l → test k ≡ true
      here e = cc
  lookup_at test (Some k ∷ keys) (None ∷ slots) (suc i) l at is one = lookup_at test keys slots i l at is (λ j m a s. omega (arith, one (suc j) m a s))
  lookup_at test (Some k ∷ keys) (Some v ∷ slots) (suc i) l at is one = rw (not_here (test k) refl) (lookup_at test keys slots i l at is (λ j m a s. omega (arith, one (suc j) m a s)))
    where
      not_here : (b : Bool) → test k ≡ b → test k ≡ false
      not_here true s = absurd (omega (arith, one 0 k refl s))
      not_here false s = s

  -- slots behind which no key shows
  live_past : (keys : List (Option K)) → live {V = V} keys [] ≡ []
  live_past [] = refl
  live_past (k ∷ keys) = refl

  -- other keys show the same map, where they differ at slots that hold nothing
  pub live_keys : (keys other : List (Option K)) (slots : List (Option V)) → ((x : ℕ) → (get_or other x None ≡ get_or keys x None) ⊎ (get_or slots x None ≡ None)) → live other slots ≡ live keys slots
  live_keys keys other [] same = live_past other ∙ sym (live_past keys)
  live_keys [] [] (v ∷ slots) same = refl
  live_keys [] (l ∷ other) (v ∷ slots) same = first l v (same 0) ∙ live_keys [] other slots (λ x. same (suc x))
    where
      first : (l : Option K) (v : Option V) → (l ≡ None) ⊎ (v ≡ None) → entry l v (live other slots) ≡ live other slots
      first None v e = refl
      first (Some l) None e = refl
      first (Some l) (Some v) (inl e) = absurd (cc)
      first (Some l) (Some v) (inr e) = absurd (cc)
  live_keys (k ∷ keys) [] (v ∷ slots) same = sym (first k v (same 0) ∙ sym (live_keys keys [] slots (λ x. same (suc x))))
    where
      first : (k : Option K) (v : Option V) → (None ≡ k) ⊎ (v ≡ None) → entry k v (live keys slots) ≡ live keys slots
      first None v e = refl
      first (Some k) None e = refl
      first (Some k) (Some v) (inl e) = absurd (cc)
      first (Some k) (Some v) (inr e) = absurd (cc)
  live_keys (k ∷ keys) (l ∷ other) (v ∷ slots) same = first l v (same 0) ∙ ap (entry k v) (live_keys keys other slots (λ x. same (suc x)))
    where
      first : (l : Option K) (v : Option V) → (l ≡ k) ⊎ (v ≡ None) → entry l v (live other slots) ≡ entry k v (live other slots)
      first l v (inl e) = rw e refl
      first l v (inr e) = rw e (none l ∙ sym (none k))
        where
          none : (l : Option K) → entry l None (live other slots) ≡ live other slots
          none None = refl
          none (Some l) = refl

  -- other slots show the same map, where they differ at slots that have no key
  pub live_slots : (keys : List (Option K)) (slots other : List (Option V)) → ((x : ℕ) → (get_or keys x None ≡ None) ⊎ (get_or slots x None ≡ get_or other x None)) → live keys slots ≡ live keys other
  live_slots [] slots other same = refl
  live_slots (k ∷ keys) [] [] same = refl
  live_slots (k ∷ keys) [] (w ∷ other) same = sym (first k w (same 0) ∙ sym (live_slots keys [] other (λ x. same (suc x))) ∙ live_past keys)
    where
      first : (k : Option K) (w : Option V) → (k ≡ None) ⊎ (None ≡ w) → entry k w (live keys other) ≡ live keys other
      first None w e = refl
      first (Some k) None e = refl
      first (Some k) (Some w) (inl e) = absurd (cc)
      first (Some k) (Some w) (inr e) = absurd (cc)
  live_slots (k ∷ keys) (v ∷ slots) [] same = first k v (same 0) ∙ live_slots keys slots [] (λ x. same (suc x)) ∙ live_past keys
    where
      first : (k : Option K) (v : Option V) → (k ≡ None) ⊎ (v ≡ None) → entry k v (live keys slots) ≡ live keys slots
      first None v e = refl
      first (Some k) None e = refl
      first (Some k) (Some v) (inl e) = absurd (cc)
      first (Some k) (Some v) (inr e) = absurd (cc)
  live_slots (k ∷ keys) (v ∷ slots) (w ∷ other) same = first k v w (same 0) ∙ ap (entry k w) (live_slots keys slots other (λ x. same (suc x)))
    where
      first : (k : Option K) (v w : Option V) → (k ≡ None) ⊎ (v ≡ w) → entry k v (live keys slots) ≡ entry k w (live keys slots)
      first k v w (inl e) = rw e refl
      first k v w (inr e) = rw e refl

-- a key that passes the test is placed
any_at : {K : Type 0} (test : K → Bool) (keys : List (Option K)) (i : ℕ) (k : K) → get_or keys i None ≡ Some k → test k ≡ true → list_any test (keys_in keys) ≡ true
any_at test [] i k at is = absurd (cc)
any_at test (None ∷ keys) zero k at is = absurd (cc)
any_at test (None ∷ keys) (suc i) k at is = any_at test keys i k at is
any_at test (Some l ∷ keys) zero k at is = rw (here at) refl
  where
    here : Some l ≡ Some k → test l ≡ true
    here e = cc
any_at test (Some l ∷ keys) (suc i) k at is = later (test l) (any_at test keys i k at is)
  where
    later : (b : Bool) → list_any test (keys_in keys) ≡ true → (b || list_any test (keys_in keys)) ≡ true
    later true e = refl
    later false e = e

-- none is placed
any_none : {K : Type 0} (test : K → Bool) (keys : List (Option K)) → ((j : ℕ) (k : K) → get_or keys j None ≡ Some k → test k ≡ false) → list_any test (keys_in keys) ≡ false
any_none test [] lacks = refl
any_none test (None ∷ keys) lacks = any_none test keys (λ j. lacks (suc j))
any_none test (Some k ∷ keys) lacks = rw (lacks 0 k refl) (any_none test keys (λ j. lacks (suc j)))

module _ {K : Type 0} {cmp : K → K → Ordering} {slot_of : K → Option ℕ} {keys : List (Option K)} (f : Finds cmp slot_of keys) where
  -- a key without a slot is no slot's
  unfound : (q : K) → slot_of q ≡ None → (j : ℕ) (k : K) → get_or keys j None ≡ Some k → is_at (cmp q) k ≡ false
  unfound q e j k at = by_test (is_at (cmp q) k) refl
    where
      by_test : (b : Bool) → is_at (cmp q) k ≡ b → is_at (cmp q) k ≡ false
      by_test true s = (let a = f.found j k at in let b = f.alike q k s in absurd (cc))
      by_test false s = s

  one_slot : (q : K) (i : ℕ) → slot_of q ≡ Some i → (j : ℕ) (l : K) → get_or keys j None ≡ Some l → is_at (cmp q) l ≡ true → j ≡ i
  one_slot q i e j l at s = (let a = f.found j l at in let b = f.alike q l s in cc)

  -- the value at a key
  pub get-live : {V : Type 0} (q : K) (slots : List (Option V)) → get cmp (live keys slots) q ≡ held slots (slot_of q)
  get-live q slots = elim (slot_of q) as (λ r. slot_of q ≡ r → get cmp (live keys slots) q ≡ held slots r) [
    | None ↦ λ e. lookup_none (is_at (cmp q)) keys slots (unfound q e)
    | Some i ↦ λ e. (let h = f.has q i e in lookup_at (is_at (cmp q)) keys slots i h.0 h.1 h.2 (one_slot q i e))
  ] refl

  -- whether a key is placed
  pub is_some-slot : (q : K) → is_some (slot_of q) ≡ list_any (is_at (cmp q)) (keys_in keys)
  is_some-slot q = elim (slot_of q) as (λ r. slot_of q ≡ r → is_some r ≡ list_any (is_at (cmp q)) (keys_in keys)) [
    | None ↦ λ e. sym (any_none (is_at (cmp q)) keys (unfound q e))
    | Some i ↦ λ e. (let h = f.has q i e in sym (any_at (is_at (cmp q)) keys i h.0 h.1 h.2))
  ] refl

  pub slot_within : (q : K) (i : ℕ) → slot_of q ≡ Some i → i < length keys
  slot_within q i e = elim (cases_lt i (length keys)) [
    | inl lt ↦ lt
    | inr ge ↦ (let h = f.has q i e in let past = get_or_past keys i None ge in absurd (cc))
  ]

  -- two keys that have one slot are equal
  pub apart : IsTotalOrder cmp → (q k : K) (i : ℕ) → slot_of q ≡ Some i → slot_of k ≡ Some i → is_at (cmp q) k ≡ true
  apart o q k i at found =
      let a = f.has q i at in
      let b = f.has k i found in
      let same : a.0 ≡ b.0 = (let x = a.1 in let y = b.1 in cc) in
      let there : is_at (cmp q) b.0 ≡ true = subst (λ x. is_at (cmp q) x ≡ true) same a.2 in
      (eq_by_cmp_equiv o).symm q k ∙ (eq_by_cmp_equiv o).congr k b.0 q b.2 ∙ (eq_by_cmp_equiv o).symm b.0 q ∙ there

  -- another finder that finds the same
  pub still_finds : {slot_of' : K → Option ℕ} → ((q : K) → slot_of' q ≡ slot_of q) → Finds cmp slot_of' keys
  still_finds e = record { found = λ i k at. e k ∙ f.found i k at; has = λ q i d. f.has q i (sym (e q) ∙ d); alike = λ q k s. e q ∙ f.alike q k s ∙ sym (e k) }

  -- other keys, each at its slot
  pub moved_finds : (keys' : List (Option K)) → ((x : ℕ) → get_or keys' x None ≡ get_or keys x None) → Finds cmp slot_of keys'
  moved_finds keys' same = record { found = λ i k at. f.found i k (sym (same i) ∙ at); has = λ q i d. (let h = f.has q i d in (h.0, same i ∙ h.1, h.2)); alike = f.alike }

pub keys_in_same : {K : Type 0} (keys keys' : List (Option K)) → ((x : ℕ) → get_or keys' x None ≡ get_or keys x None) → keys_in keys' ≡ keys_in keys
keys_in_same [] [] same = refl
keys_in_same [] (None ∷ keys') same = keys_in_same [] keys' (λ x. same (suc x))
keys_in_same [] (Some k ∷ keys') same = (let none : Some k ≡ None = same 0 in absurd (cc))
keys_in_same (None ∷ keys) [] same = keys_in_same keys [] (λ x. same (suc x))
keys_in_same (Some k ∷ keys) [] same = (let none : None ≡ Some k = same 0 in absurd (cc))
keys_in_same {K = K} (k ∷ keys) (l ∷ keys') same = first l k (same 0) (keys_in_same keys keys' (λ x. same (suc x)))
  where
    first : (l k : Option K) → l ≡ k → keys_in keys' ≡ keys_in keys → keys_in (l ∷ keys') ≡ keys_in (k ∷ keys)
    first None None e rest = rest
    first None (Some k) e rest = absurd (cc)
    first (Some l) None e rest = absurd (cc)
    first (Some l) (Some k) e rest = (let is : l ≡ k = cc in rw (is, rest) refl)
