-- A key that gets a slot with nothing in it: no map changes.
use Rattle.std.proofs.Common.{◌≡◌, ℕ, suc, ◌+◌, ◌<◌, ◌≤◌, Bool, true, false, cond, List, [], ◌∷◌, ◌++◌, length, get_or, set, drop, Option, Some, None, IsSome, is_some, zero, refl, sym, ap, subst, ◌∙◌, inl, inr, ◌⊎◌, arith}
use Rattle.std.specs.declared.cmp.Ordering.{Ordering}
use Rattle.std.specs.Cmp.{IsTotalOrder, eq_by_cmp_equiv}
use Rattle.std.specs.List.{All}
use Rattle.std.specs.BTreeMap.{is_at}
use Rattle.std.proofs.lemmas.Bool.{cases_eq}
use Rattle.std.proofs.lemmas.List.{length-set, get_or-set_same, get_or-set_other, set-append_left, length_push}
use Rattle.std.proofs.lemmas.List.Elements.{All-head, All-tail, All-drop}
use Rattle.dubp_journal.specs.MovingTable.{Places}
use Rattle.dubp_journal.specs.Slots.{live, keys_in, Finds, HasOneMore, Widens, Grows}
use Rattle.dubp_journal.specs.Journal.{undo, named, states, IsKept}
use Rattle.dubp_journal.proofs.Journals.{length-undo}
use Rattle.dubp_journal.proofs.Live.{live_keys, live_slots, keys_in_same, is_some-slot, still_finds, moved_finds}
use Rattle.dubp_journal.proofs.Naming.{states_same}

-- a place behind the last, with nothing in it
pub get_or-more : {X : Type 0} (xs : List X) (i : ℕ) (d : X) → get_or (xs ++ d ∷ []) i d ≡ get_or xs i d
get_or-more [] zero d = refl
get_or-more [] (suc i) d = refl
get_or-more (x ∷ xs) zero d = refl
get_or-more (x ∷ xs) (suc i) d = get_or-more xs i d

live-none : {K V : Type 0} (keys : List (Option K)) (slots : List (Option V)) → live keys (slots ++ None ∷ []) ≡ live keys slots
live-none keys slots = live_slots keys (slots ++ None ∷ []) slots (λ x. inr (get_or-more slots x None))

undo-none : {V : Type 0} (slots : List (Option V)) (j : List (ℕ × Option V)) → All (λ c. c.0 < length slots) j → undo (slots ++ None ∷ []) j ≡ undo slots j ++ None ∷ []
undo-none slots [] all = refl
undo-none slots (c ∷ j) all =
    let here = All-head (λ c. c.0 < length slots) c j all in
    ap (λ x. set x c.0 c.1) (undo-none slots j (All-tail (λ c. c.0 < length slots) c j all)) ∙ set-append_left (undo slots j) (None ∷ []) c.0 c.1 (omega (arith, length-undo slots j, here))

states-none : {K V : Type 0} (keys : List (Option K)) (slots : List (Option V)) (j : List (ℕ × Option V)) (marks : List ℕ) → All (λ c. c.0 < length slots) j → states keys (slots ++ None ∷ []) j marks ≡ states keys slots j marks
states-none keys slots j [] all = refl
states-none keys slots j (n ∷ marks) all =
    rw (undo-none slots j all, live-none keys (undo slots j)) (ap (λ x. (live keys (undo slots j), n) ∷ x) (states-none keys slots (drop n j) marks (All-drop (λ c. c.0 < length slots) n j all)))

-- what a table shows is as before
module _ {K V : Type 0} {cmp : K → K → Ordering} (New : ℕ → Type 0) {keys keys' : List (Option K)} {slot_of' : K → Option ℕ} {uses uses' : List ℕ} {slots more : List (Option V)} (g : Widens cmp New keys uses slots keys' slot_of' uses' more) where
  grown_length : length slots ≤ length more
  grown_length = elim g.grown [ inl same ↦ rw same (omega arith) | inr longer ↦ rw longer (omega (arith, length_push slots None)) ]

  grown_at : (x : ℕ) → get_or more x None ≡ get_or slots x None
  grown_at x = elim g.grown [ inl same ↦ rw same refl | inr longer ↦ rw longer (get_or-more slots x None) ]

  -- a slot that had no key, and may have one now
  abbrev IsNew : ℕ → Type 0
  IsNew x = New x × (get_or keys x None ≡ None)

  fewer : (x : ℕ) → get_or keys' x None ≡ None → get_or keys x None ≡ None
  fewer x none = elim (g.others x) [ inl same ↦ sym same ∙ none | inr new ↦ new.1 ]

  new_same : (t : List (Option V)) → ((x : ℕ) → get_or keys x None ≡ None → get_or t x None ≡ None) → live keys' t ≡ live keys t
  new_same t free = live_keys keys keys' t (λ x. elim (g.others x) [ inl same ↦ inl same | inr new ↦ inr (free x new.1) ])

  module _ {slot_of : K → Option ℕ} {root : List (Option V)} {rooted : List (K × V)} {j redo : List (ℕ × Option V)} {marks redo_marks : List ℕ} {spare jr mr rr rmr : ℕ} (kept : IsKept cmp slot_of keys uses slots root rooted j redo marks redo_marks spare jr mr rr rmr) where
    slots_free : (x : ℕ) → get_or keys x None ≡ None → get_or slots x None ≡ None
    slots_free x e = (kept.places.free x e).nothing

    pub grown_live : live keys' more ≡ live keys slots
    grown_live = elim g.grown [
      | inl same ↦ rw same (new_same slots slots_free)
      | inr longer ↦ rw longer (live-none keys' slots ∙ new_same slots slots_free)
    ]

    new_unnamed : (x : ℕ) → IsNew x → named x j + named x redo ≡ 0
    new_unnamed x is = sym (kept.places.counted x) ∙ (kept.places.free x is.1).unnamed

    same_states : states keys' slots j marks ≡ states keys slots j marks
    same_states = states_same keys keys' IsNew g.others slots (λ x is. slots_free x is.1) j marks (λ x is. omega (arith, new_unnamed x is))

    pub grown_states : states keys' more j marks ≡ states keys slots j marks
    grown_states = elim g.grown [
      | inl same ↦ rw same same_states
      | inr longer ↦ rw longer (states-none keys' slots j marks kept.back_ok.within ∙ same_states)
    ]

    pub grown_ahead : states keys' root redo redo_marks ≡ states keys root redo redo_marks
    grown_ahead = states_same keys keys' IsNew g.others root (λ x is. kept.places.free_root x is.1) redo redo_marks (λ x is. omega (arith, new_unnamed x is))

    pub grown_kept : IsKept cmp slot_of' keys' uses' more root rooted j redo marks redo_marks spare jr mr rr rmr
    grown_kept = record {
      finds = g.finds;
      places = record {
        keys_each = g.keys_each;
        uses_each = g.uses_each;
        counted = λ x. g.same_uses x ∙ kept.places.counted x;
        free = λ x none. (let was = kept.places.free x (fewer x none) in record { nothing = grown_at x ∙ was.nothing; unnamed = g.same_uses x ∙ was.unnamed });
        free_root = λ x none. kept.places.free_root x (fewer x none);
      };
      back_ok = record { within = λ i d lt. omega (arith, kept.back_ok.within i d lt, grown_length); divided = kept.back_ok.divided };
      forward_ok = kept.forward_ok;
      root_fits = omega (arith, kept.root_fits, grown_length);
      rooted_is = λ some. kept.rooted_is some ∙ sym (new_same root kept.places.free_root);
      room = kept.room;
    }

pub grown_places : {K V : Type 0} {cmp : K → K → Ordering} {keys keys' : List (Option K)} {slot_of slot_of' : K → Option ℕ} {uses uses' : List ℕ} {slots more : List (Option V)} {k : K} {i : ℕ} → Finds cmp slot_of keys → Grows cmp keys slot_of uses slots k keys' slot_of' uses' more i → Places cmp (keys_in keys) (keys_in keys') k
grown_places {k = k} f g =
    let f' = g.wider.finds in
    record {
      placed = sym (is_some-slot f' k) ∙ ap is_some g.has;
      stay = λ q was. sym (is_some-slot f' q) ∙ g.stay q (is_some-slot f q ∙ was);
      only = λ q is. elim (g.only q (is_some-slot f' q ∙ is)) [ inl same ↦ inl same | inr was ↦ inr (sym (is_some-slot f q) ∙ was) ];
    }

-- no key gets a slot
pub widened_keys : {K V : Type 0} {cmp : K → K → Ordering} {keys keys' : List (Option K)} {slot_of' : K → Option ℕ} {uses uses' : List ℕ} {slots more : List (Option V)} → Widens cmp (λ x. ⊥) keys uses slots keys' slot_of' uses' more → keys_in keys' ≡ keys_in keys
widened_keys {keys = keys} {keys' = keys'} g = keys_in_same keys keys' (λ x. elim (g.others x) [ inl same ↦ same | inr new ↦ absurd new.0 ])

-- at most one slot more
module _ {K V : Type 0} {keys keys' : List (Option K)} {uses uses' : List ℕ} {slots slots' : List (Option V)} (m : HasOneMore keys uses slots keys' uses' slots') where
  pub more_keys : (x : ℕ) → get_or keys' x None ≡ get_or keys x None
  more_keys x = elim m [ inl same ↦ rw same.0 refl | inr one ↦ rw one.0 (get_or-more keys x None) ]

  more_uses : (x : ℕ) → get_or uses' x 0 ≡ get_or uses x 0
  more_uses x = elim m [ inl same ↦ rw same.1 refl | inr one ↦ rw one.1 (get_or-more uses x 0) ]

  more_grown : (slots' ≡ slots) ⊎ (slots' ≡ slots ++ None ∷ [])
  more_grown = elim m [ inl same ↦ inl same.2 | inr one ↦ inr one.2 ]

  pub more_keys_each : length keys ≡ length slots → length keys' ≡ length slots'
  more_keys_each each = elim m [ inl same ↦ rw (same.0, same.2) each | inr one ↦ rw (one.0, one.2) (omega (arith, each, length_push keys None, length_push slots None)) ]

  more_uses_each : length uses ≡ length slots → length uses' ≡ length slots'
  more_uses_each each = elim m [ inl same ↦ rw (same.1, same.2) each | inr one ↦ rw (one.1, one.2) (omega (arith, each, length_push uses 0, length_push slots None)) ]

  module _ {cmp : K → K → Ordering} {slot_of : K → Option ℕ} (f : Finds cmp slot_of keys) (keys_each : length keys ≡ length slots) (uses_each : length uses ≡ length slots) (slot_of' : K → Option ℕ) where
    -- no key gets a slot
    pub widens : (New : ℕ → Type 0) → ((q : K) → slot_of' q ≡ slot_of q) → Widens cmp New keys uses slots keys' slot_of' uses' slots'
    widens New e = record {
      finds = still_finds (moved_finds f keys' more_keys) e;
      keys_each = more_keys_each keys_each;
      uses_each = more_uses_each uses_each;
      grown = more_grown;
      same_uses = more_uses;
      others = λ x. inl (more_keys x);
    }

    -- a key with a slot keeps it
    pub grows_not : (k : K) (i : ℕ) → ((q : K) → slot_of' q ≡ slot_of q) → slot_of k ≡ Some i → Grows cmp keys slot_of uses slots k keys' slot_of' uses' slots' i
    grows_not k i e has = record {
      wider = widens (λ x. x ≡ i) e;
      has = e k ∙ has;
      stay = λ q some. rw (e q) some;
      only = λ q some. inr (subst (λ x. IsSome x) (e q) some);
    }

    -- a key that has none gets a slot that has none
    module _ (o : IsTotalOrder cmp) (k : K) (n : ℕ) (absent : slot_of k ≡ None) (within : n < length keys') (free : get_or keys' n None ≡ None) (placed : (q : K) → slot_of' q ≡ cond (is_at (cmp k) q) (Some n) (slot_of q)) where
      not_k : (q : K) (x : ℕ) → slot_of q ≡ Some x → (b : Bool) → is_at (cmp k) q ≡ b → slot_of' q ≡ Some x
      not_k q x e true s = (let a = f.alike k q s in absurd (cc))
      not_k q x e false s = placed q ∙ rw s e

      stay_cases : (b : Bool) (x : Option ℕ) → IsSome x → IsSome (cond b (Some n) x)
      stay_cases true x some = refl
      stay_cases false x some = some

      only_cases : (q : K) (b : Bool) → is_at (cmp k) q ≡ b → IsSome (cond b (Some n) (slot_of q)) → (is_at (cmp q) k ≡ true) ⊎ IsSome (slot_of q)
      only_cases q true e some = inl ((eq_by_cmp_equiv o).symm q k ∙ e)
      only_cases q false e some = inr some

      alike_new : (q l : K) → is_at (cmp q) l ≡ true → slot_of' q ≡ slot_of' l
      alike_new q l s =
          let eq = eq_by_cmp_equiv o in
          let test : is_at (cmp k) q ≡ is_at (cmp k) l = eq.symm k q ∙ eq.congr q l k s ∙ eq.symm l k in
          placed q ∙ rw (test, f.alike q l s) (sym (placed l))

      found_new : (x : ℕ) (q : K) → get_or (set keys' n (Some k)) x None ≡ Some q → (x ≡ n) ⊎ (x ≡ n → ⊥) → slot_of' q ≡ Some x
      found_new x q e (inl same) =
          let there : get_or (set keys' n (Some k)) n None ≡ Some q = ap (λ y. get_or (set keys' n (Some k)) y None) (sym same) ∙ e in
          let here = get_or-set_same keys' n (Some k) None within in
          let is : k ≡ q = cc in
          let at : is_at (cmp k) q ≡ true = subst (λ y. is_at (cmp k) y ≡ true) is ((eq_by_cmp_equiv o).refl k) in
          placed q ∙ ap (λ b. cond b (Some n) (slot_of q)) at ∙ ap Some (sym same)
      found_new x q e (inr other) = not_k q x (f.found x q (sym (get_or-set_other keys' n x (Some k) None other ∙ more_keys x) ∙ e)) (is_at (cmp k) q) refl

      has_new : (q : K) (x : ℕ) → slot_of' q ≡ Some x → (b : Bool) → is_at (cmp k) q ≡ b → (l : K) × (get_or (set keys' n (Some k)) x None ≡ Some l) × (is_at (cmp q) l ≡ true)
      has_new q x e true s =
          let at : Some n ≡ Some x = sym (ap (λ b. cond b (Some n) (slot_of q)) s) ∙ sym (placed q) ∙ e in
          let is : n ≡ x = cc in
          (k, ap (λ y. get_or (set keys' n (Some k)) y None) (sym is) ∙ get_or-set_same keys' n (Some k) None within, (eq_by_cmp_equiv o).symm q k ∙ s)
      has_new q x e false s =
          let was : slot_of q ≡ Some x = sym (ap (λ b. cond b (Some n) (slot_of q)) s) ∙ sym (placed q) ∙ e in
          let h = f.has q x was in
          let other : x ≡ n → ⊥ = λ same. no_key (get_or keys x None) h.0 (sym (more_keys x) ∙ ap (λ y. get_or keys' y None) same ∙ free) h.1 in
          (h.0, get_or-set_other keys' n x (Some k) None other ∙ more_keys x ∙ h.1, h.2)
        where
          no_key : (o : Option K) (l : K) → o ≡ None → o ≡ Some l → ⊥
          no_key o l none some = cc

      pub grows_new : Grows cmp keys slot_of uses slots k (set keys' n (Some k)) slot_of' uses' slots' n
      grows_new = record {
        wider = record {
          finds = record { found = λ x q e. found_new x q e (cases_eq x n); has = λ q x e. has_new q x e (is_at (cmp k) q) refl; alike = alike_new };
          keys_each = length-set keys' n (Some k) ∙ more_keys_each keys_each;
          uses_each = more_uses_each uses_each;
          grown = more_grown;
          same_uses = more_uses;
          others = λ x. elim (cases_eq x n) [
            | inl same ↦ inr (same, sym (more_keys x) ∙ ap (λ y. get_or keys' y None) same ∙ free)
            | inr other ↦ inl (get_or-set_other keys' n x (Some k) None other ∙ more_keys x)
          ];
        };
        has = placed k ∙ rw ((eq_by_cmp_equiv o).refl k) refl;
        stay = λ q some. rw (placed q) (stay_cases (is_at (cmp k) q) (slot_of q) some);
        only = λ q some. only_cases q (is_at (cmp k) q) refl (subst (λ x. IsSome x) (placed q) some);
      }
