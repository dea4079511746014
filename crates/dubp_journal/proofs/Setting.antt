-- A slot that is written: the map has the new value at its key alone, and the maps at the marks are as before.
use Rattle.std.proofs.Common.{◌≡◌, ℕ, suc, ◌+◌, ◌<◌, ◌≤◌, Bool, true, false, cond, List, [], ◌∷◌, ◌++◌, length, get_or, set, drop, reverse, Option, Some, None, refl, sym, ap, subst, ◌∙◌, inl, inr, arith}
use Rattle.std.specs.declared.cmp.Ordering.{Ordering}
use Rattle.std.specs.Cmp.{IsTotalOrder}
use Rattle.std.specs.List.{sum}
use Rattle.std.specs.BTreeMap.{is_at}
use Rattle.std.proofs.lemmas.List.{length-set, get_or-set_same, get_or-set_other, drop-append-le, length_push, length-drop}
use Rattle.std.proofs.lemmas.List.Elements.{All-push}
use Rattle.std.proofs.lemmas.Bool.{cases_eq}
use Rattle.dubp_journal.specs.MovingTable.{Puts, Places, one_more}
use Rattle.dubp_journal.specs.Slots.{live, keys_in, Finds, Grows}
use Rattle.dubp_journal.specs.Journal.{undo, states, bump, noted, IsJournal, Follows, IsKept}
use Rattle.dubp_journal.proofs.Journals.{undo-append, undo-set, sum_cons, no_spare}
use Rattle.dubp_journal.proofs.Live.{held, get-live, slot_within, apart}
use Rattle.dubp_journal.proofs.Placing.{grown_live, grown_states, grown_ahead, grown_kept, grown_places}
use Rattle.dubp_journal.proofs.Placed.{places_set}

-- the last mark
pub bump-push : (marks : List ℕ) (n : ℕ) → bump (marks ++ n ∷ []) ≡ marks ++ (n + 1) ∷ []
bump-push [] n = refl
bump-push (m ∷ []) n = refl
bump-push (m ∷ x ∷ marks) n = ap (λ z. m ∷ z) (bump-push (x ∷ marks) n)

sum-bump : (m : ℕ) (marks : List ℕ) → sum (bump (m ∷ marks)) ≡ sum (m ∷ marks) + 1
sum-bump m [] = omega arith
sum-bump m (n ∷ marks) = sum_cons m (bump (n ∷ marks)) ∙ omega (arith, sum-bump n marks, sum_cons m (n ∷ marks))

pub length-bump : (marks : List ℕ) → length (bump marks) ≡ length marks
length-bump [] = refl
length-bump (n ∷ []) = refl
length-bump (m ∷ n ∷ marks) = ap suc (length-bump (n ∷ marks))

pub length-noted-le : {V : Type 0} (marks : List ℕ) (j : List (ℕ × Option V)) (c : ℕ × Option V) → length (noted marks j c) ≤ length j + 1
length-noted-le [] j c = omega arith
length-noted-le (n ∷ marks) j c = omega (arith, length_push j c)

noted_ok : {V : Type 0} (n : ℕ) (j : List (ℕ × Option V)) (marks : List ℕ) (c : ℕ × Option V) → IsJournal n j marks → c.0 < n → IsJournal n (noted marks j c) (bump marks)
noted_ok n j [] c ok lt = ok
noted_ok n j (m ∷ marks) c ok lt = record { within = All-push (λ c. c.0 < n) j c ok.within lt; divided = sum-bump m marks ∙ omega (arith, ok.divided, length_push j c) }

-- the same maps before the written slot, the last of which now has one more set after it
pub noted_states : {K V : Type 0} (keys : List (Option K)) (slots : List (Option V)) (i : ℕ) (v : Option V) (j : List (ℕ × Option V)) (marks : List ℕ) → sum marks ≡ length j → states keys (set slots i v) (noted marks j (i, get_or slots i None)) (bump marks) ≡ one_more (states keys slots j marks)
noted_states keys slots i v j [] e = refl
noted_states keys slots i v j (m ∷ []) e = rw (undo-append (set slots i v) j ((i, get_or slots i None) ∷ []), undo-set slots i v) refl
noted_states keys slots i v j (m ∷ n ∷ marks) e =
    let total = sum_cons m (n ∷ marks) in
    let rest : sum (n ∷ marks) ≡ length (drop m j) = omega (arith, e, total, length-drop m j) in
    rw (undo-append (set slots i v) j ((i, get_or slots i None) ∷ []), undo-set slots i v, drop-append-le m j ((i, get_or slots i None) ∷ []) (omega (arith, e, total)))
    (ap (λ x. (live keys (undo slots j), m) ∷ x) (noted_states keys slots i v (drop m j) (n ∷ marks) rest))

pub set_kept : {K V : Type 0} {cmp : K → K → Ordering} {slot_of : K → Option ℕ} {keys : List (Option K)} {uses uses' : List ℕ} {slots root : List (Option V)} {rooted : List (K × V)} {j redo : List (ℕ × Option V)} {marks redo_marks : List ℕ} {spare jr mr rr rmr : ℕ} → IsKept cmp slot_of keys uses slots root rooted j redo marks redo_marks spare jr mr rr rmr →
    (i : ℕ) (v old : Option V) (jr' : ℕ) → i < length slots → (get_or keys i None ≡ None → ⊥) → Follows uses uses' j (noted marks j (i, old)) → length (noted marks j (i, old)) + length redo ≤ jr' → IsKept cmp slot_of keys uses' (set slots i v) root rooted (noted marks j (i, old)) redo (bump marks) redo_marks 0 jr' mr rr rmr
set_kept {slots = slots} {j = j} {marks = marks} k i v old jr' lt some f room =
    let same = length-set slots i v in
    record {
      finds = k.finds;
      places = places_set k.places i v old marks some f;
      back_ok = rw same (noted_ok (length slots) j marks (i, old) k.back_ok lt);
      forward_ok = k.forward_ok;
      root_fits = rw same k.root_fits;
      rooted_is = k.rooted_is;
      room = no_spare _ _ _ _ _ _ _ _ room (omega (arith, k.room.back_marks, length-bump marks)) (omega (arith, k.room.forward)) (omega (arith, k.room.forward_marks));
    }

-- what the map has at each key
module _ {K V : Type 0} {cmp : K → K → Ordering} (o : IsTotalOrder cmp) (k : K) (i : ℕ) (v : Option V) {slot_of : K → Option ℕ} {keys : List (Option K)} (f : Finds cmp slot_of keys) (slots : List (Option V)) (lt : i < length slots) (found : slot_of k ≡ Some i) where
  -- by whether q is k, and else by whether its slot is the written one
  put_held : (q : K) (b : Bool) → is_at (cmp q) k ≡ b → (x : Option ℕ) → slot_of q ≡ x → held (set slots i v) x ≡ cond b v (held slots x)
  put_held q true e x at =
      let is : x ≡ Some i = sym at ∙ f.alike q k e ∙ found in
      rw is (get_or-set_same slots i v None lt)
  put_held q false e None at = refl
  put_held q false e (Some x) at = elim (cases_eq x i) [
    | inl same ↦ let both = apart f o q k i (at ∙ ap Some same) found in cc (both, e)
    | inr other ↦ get_or-set_other slots i x v None other
  ]

  pub put_live : Puts cmp (live keys slots) (live keys (set slots i v)) k v
  put_live q =
      get-live f q (set slots i v) ∙ put_held q (is_at (cmp q) k) refl (slot_of q) refl ∙ ap (cond (is_at (cmp q) k) v) (sym (get-live f q slots))

-- the slot of a key that has one
pub set_within : {K V : Type 0} {cmp : K → K → Ordering} {keys keys' : List (Option K)} {slot_of slot_of' : K → Option ℕ} {uses uses' : List ℕ} {slots more : List (Option V)} {k : K} {i : ℕ} → Grows cmp keys slot_of uses slots k keys' slot_of' uses' more i → i < length more
set_within {k = k} {i = i} g = omega (arith, slot_within g.wider.finds k i g.has, g.wider.keys_each)

-- what `set` does, where the key has the slot i of `keys'` and of the slots `more`
pub record IsSet {K V : Type 0} (cmp : K → K → Ordering) (slot_of' : K → Option ℕ) (keys keys' : List (Option K)) (uses'' : List ℕ) (slots more root : List (Option V)) (rooted : List (K × V)) (k : K) (i : ℕ) (v : Option V) (j redo : List (ℕ × Option V)) (marks redo_marks : List ℕ) (jr mr rr rmr : ℕ) : Type 0 where
  pub within : i < length more
  pub kept : IsKept cmp slot_of' keys' uses'' (set more i v) root rooted (noted marks j (i, get_or more i None)) redo (bump marks) redo_marks 0 jr mr rr rmr
  pub now : Puts cmp (live keys slots) (live keys' (set more i v)) k v
  pub past : states keys' (set more i v) (noted marks j (i, get_or more i None)) (bump marks) ≡ one_more (states keys slots j marks)
  pub placed : Places cmp (keys_in keys) (keys_in keys') k
  pub ahead : reverse (states keys' root redo redo_marks) ≡ reverse (states keys root redo redo_marks)

module _ {K V : Type 0} {cmp : K → K → Ordering} (o : IsTotalOrder cmp) {slot_of slot_of' : K → Option ℕ} {keys keys' : List (Option K)} {uses uses' : List ℕ} {slots more root : List (Option V)} {rooted : List (K × V)} {k : K} {j redo : List (ℕ × Option V)} {marks redo_marks : List ℕ} {spare jr mr rr rmr : ℕ} where
  pub is_set : IsKept cmp slot_of keys uses slots root rooted j redo marks redo_marks spare jr mr rr rmr → {i : ℕ} → Grows cmp keys slot_of uses slots k keys' slot_of' uses' more i → (v : Option V) (jr' : ℕ) {uses'' : List ℕ} → Follows uses' uses'' j (noted marks j (i, get_or more i None)) → length j + length redo + 1 ≤ jr' → IsSet cmp slot_of' keys keys' uses'' slots more root rooted k i v j redo marks redo_marks jr' mr rr rmr
  is_set kept {i} g v jr' f room =
      let within : i < length more = set_within g in
      let room' : length (noted marks j (i, get_or more i None)) + length redo ≤ jr' = omega (arith, length-noted-le marks j (i, get_or more i None)) in
      let key = g.wider.finds.has k i g.has in
      let w = g.wider in
      let New : ℕ → Type 0 = λ x. x ≡ i in
      let some : get_or keys' i None ≡ None → ⊥ = λ none. no_key keys' i key.0 none key.1 in
      record {
        within = within;
        kept = set_kept (grown_kept New w kept) i v (get_or more i None) jr' within some f room';
        now = subst (λ m. Puts cmp m (live keys' (set more i v)) k v) (grown_live New w kept) (put_live o k i v w.finds more within g.has);
        past = noted_states keys' more i v j marks kept.back_ok.divided ∙ ap one_more (grown_states New w kept);
        placed = grown_places kept.finds g;
        ahead = ap reverse (grown_ahead New w kept);
      }
    where
      no_key : (ks : List (Option K)) (i : ℕ) (q : K) → get_or ks i None ≡ None → get_or ks i None ≡ Some q → ⊥
      no_key ks i q none some = cc
