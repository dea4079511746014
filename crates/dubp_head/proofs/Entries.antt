-- What a look finds among pairs in the order of their keys, and what an edit of the list does to it.
use Rattle.std.proofs.Common.{◌≡◌, ℕ, zero, suc, ◌+◌, ◌-◌, ◌<◌, ◌≤◌, Bool, true, false, cond, List, [], ◌∷◌, length, get_or, set, if◌then◌else◌, Option, Some, None, Result, Ok, Err, IfOk, IfErr, refl, sym, ap, subst, ◌∙◌, true≢false, arith}
use Rattle.std.proofs.lemmas.Bool.{cases_lt}
use Rattle.std.proofs.Common.{inl, inr}
use Rattle.std.specs.Cmp.Lexicographic.{slice_cmp, bytes_decides}
use Rattle.std.specs.declared.cmp.Ordering.TheVariants.{Less, Equal, Greater}
use Rattle.std.specs.Ordering.{nat_cmp, ordering_index, ordering_reverse}
use Rattle.std.specs.List.{insert, remove}
use Rattle.std.specs.List.Sorted.{IsSearchInRange, IsBinarySearchResult, IsNonDecreasingBy}
use Rattle.std.specs.Map.{lookup}
use Rattle.std.proofs.lemmas.Cmp.{nat_list_cmp_total, tied_itself}
use Rattle.std.proofs.lemmas.Map.Lookups.{exact_bytes}
use Rattle.std.proofs.lemmas.List.Sorted.{searchable_from_sorted}
use Rattle.std.proofs.lemmas.List.Edits.{length-insert, get_or-insert_below, get_or-insert_at, get_or-insert_above, length-remove, get_or-remove_below, get_or-remove_above}
use Rattle.std.proofs.lemmas.List.{get_or_default}
use Rattle.std.proofs.lemmas.Grind.{common_steps}
use Rattle.dubp_atoms.specs.Same.{Text, same_text}
use Rattle.dubp_head.specs.Entries.{key_at, IsRising, IsAt, IsGapFor}

-- Texts.

pub same_text_is : (x y : Text) → same_text x y ≡ true → x ≡ y
same_text_is x y e = (bytes_decides x y).0 e

pub same_text_itself : (x : Text) → same_text x x ≡ true
same_text_itself x = (bytes_decides x x).1 refl

-- a smaller text is another
differs_below : (x y : Text) → slice_cmp nat_cmp x y ≡ Less → same_text y x ≡ false
differs_below x y less = by (same_text y x) refl
  where
    by : (b : Bool) → same_text y x ≡ b → same_text y x ≡ false
    by false e = e
    by true e =
        let tied : slice_cmp nat_cmp x y ≡ Equal = subst (λ z. slice_cmp nat_cmp x z ≡ Equal) (sym (same_text_is y x e)) (tied_itself nat_list_cmp_total x) in
        cc

-- and so is a greater one
reversed : (x y : Text) → slice_cmp nat_cmp x y ≡ Greater → slice_cmp nat_cmp y x ≡ Less
reversed x y greater = nat_list_cmp_total.antisymm y x ∙ ap ordering_reverse greater

differs_above : (x y : Text) → slice_cmp nat_cmp x y ≡ Greater → same_text y x ≡ false
differs_above x y greater = by (same_text y x) refl
  where
    by : (b : Bool) → same_text y x ≡ b → same_text y x ≡ false
    by false e = e
    by true e =
        let tied : slice_cmp nat_cmp x y ≡ Equal = subst (λ z. slice_cmp nat_cmp x z ≡ Equal) (sym (same_text_is y x e)) (tied_itself nat_list_cmp_total x) in
        cc

-- Looks.

abbrev Pairs : Type 0
Pairs = List (Text × ℕ)

-- no pair before index i has the key
abbrev NoKeyBefore : Pairs → Text → ℕ → Type 0
NoKeyBefore l k i = (j : ℕ) → j < i → same_text k (key_at l j) ≡ false

no_key_before_tail : (x : Text × ℕ) (l : Pairs) (k : Text) (i : ℕ) → NoKeyBefore (x ∷ l) k (suc i) → NoKeyBefore l k i
no_key_before_tail x l k i no_key j lt = no_key (suc j) (omega arith)

is_at_tail : (x : Text × ℕ) (l : Pairs) (k : Text) (i : ℕ) → IsAt (x ∷ l) k (suc i) → IsAt l k i
is_at_tail x l k i is_at = record { in_range = omega (arith, is_at.in_range); has_key = is_at.has_key }

-- a key that no pair has is not found
lookup_absent : (l : Pairs) (k : Text) → NoKeyBefore l k (length l) → lookup (same_text k) l ≡ None
lookup_absent [] k no_key = refl
lookup_absent (x ∷ l) k no_key = rw (no_key 0 (omega arith)) (lookup_absent l k (no_key_before_tail x l k _ no_key))

-- the first pair that has the key gives the place
lookup_present : (l : Pairs) (k : Text) (i : ℕ) → IsAt l k i → NoKeyBefore l k i → (d : Text × ℕ) → lookup (same_text k) l ≡ Some (get_or l i d).1
lookup_present [] k i is_at no_key d = absurd (omega (arith, is_at.in_range))
lookup_present (x ∷ l) k zero is_at no_key d =
    let here : same_text k x.0 ≡ true = subst (λ y. same_text k y ≡ true) (sym is_at.has_key) (same_text_itself k) in
    rw here refl
lookup_present (x ∷ l) k (suc i) is_at no_key d = rw (no_key 0 (omega arith)) (lookup_present l k i (is_at_tail x l k i is_at) (no_key_before_tail x l k i no_key) d)

-- a look for q in new finds r where q is k, and else what it finds in old
abbrev pub FindsAt : Pairs → Pairs → Text → Option ℕ → Type 0
FindsAt old new k r = (q : Text) → lookup (same_text q) new ≡ (if same_text q k then r else lookup (same_text q) old)

-- where an edit behind the first pair has this effect, it has it with the first
behind_first : (x : Text × ℕ) (old new : Pairs) (k : Text) (r : Option ℕ) → same_text k x.0 ≡ false → FindsAt old new k r → FindsAt (x ∷ old) (x ∷ new) k r
behind_first x old new k r differs finds q = by (same_text q x.0) refl (same_text q k) refl
  where
    by : (a : Bool) → same_text q x.0 ≡ a → (b : Bool) → same_text q k ≡ b → lookup (same_text q) (x ∷ new) ≡ (if same_text q k then r else lookup (same_text q) (x ∷ old))
    by true here true same =
        let twice : same_text k x.0 ≡ true = subst (λ y. same_text y x.0 ≡ true) (same_text_is q k same) here in
        absurd (true≢false (sym twice ∙ differs))
    by true here false same = rw (here, same) refl
    by false here b same = rw here (finds q)

-- writing over the first pair that has the key
finds_set : (l : Pairs) (k : Text) (v i : ℕ) → IsAt l k i → NoKeyBefore l k i → FindsAt l (set l i (k, v)) k (Some v)
finds_set [] k v i is_at no_key q = absurd (omega (arith, is_at.in_range))
finds_set (x ∷ l) k v zero is_at no_key q =
    rw is_at.has_key (elim (same_text q k) as (λ b. cond b (Some v) (lookup (same_text q) l) ≡ (if b then Some v else cond b (Some x.1) (lookup (same_text q) l))) [ true ↦ refl | false ↦ refl ])
finds_set (x ∷ l) k v (suc i) is_at no_key q =
    behind_first x l (set l i (k, v)) k (Some v) (no_key 0 (omega arith)) (finds_set l k v i (is_at_tail x l k i is_at) (no_key_before_tail x l k i no_key)) q

-- a new pair before any pair that has the key
finds_insert : (l : Pairs) (k : Text) (v i : ℕ) → NoKeyBefore l k i → FindsAt l (insert l i (k, v)) k (Some v)
finds_insert l k v zero no_key q = refl
finds_insert [] k v (suc i) no_key q = refl
finds_insert (x ∷ l) k v (suc i) no_key q =
    behind_first x l (insert l i (k, v)) k (Some v) (no_key 0 (omega arith)) (finds_insert l k v i (no_key_before_tail x l k i no_key)) q

-- taking out the one pair that has the key
finds_remove : (l : Pairs) (k : Text) (i : ℕ) → IsAt l k i → NoKeyBefore l k i → ((j : ℕ) → i < j → j < length l → same_text k (key_at l j) ≡ false) → FindsAt l (remove l i) k None
finds_remove [] k i is_at no_key none q = absurd (omega (arith, is_at.in_range))
finds_remove (x ∷ l) k zero is_at no_key none q = rw is_at.has_key (by (same_text q k) refl)
  where
    by : (b : Bool) → same_text q k ≡ b → lookup (same_text q) l ≡ (if b then None else cond b (Some x.1) (lookup (same_text q) l))
    by true same = rw (same_text_is q k same) (lookup_absent l k (λ j lt. none (suc j) (omega arith) (omega arith)))
    by false same = refl
finds_remove (x ∷ l) k (suc i) is_at no_key none q =
    behind_first x l (remove l i) k None (no_key 0 (omega arith)) (finds_remove l k i (is_at_tail x l k i is_at) (no_key_before_tail x l k i no_key) (λ j lt below. none (suc j) (omega arith) (omega arith))) q

-- Pairs in the order of their keys.

module _ (l : Pairs) (rising : IsRising l) (k : Text) where
  -- the comparisons with k rise along the list, as a binary search asks
  comparisons_rise : IsNonDecreasingBy (λ pair. ordering_index (slice_cmp nat_cmp pair.0 k)) l
  comparisons_rise = searchable_from_sorted nat_list_cmp_total (λ pair. pair.0) l k (λ i d _ lt.
      let key = λ (x : Text × ℕ). x.0 in
      let first : key_at l i ≡ (get_or l i d).0 = ap key (get_or_default l i ([], 0) d (omega arith)) in
      let second : key_at l (i + 1) ≡ (get_or l (i + 1) d).0 = ap key (get_or_default l (i + 1) ([], 0) d lt) in
      let back : slice_cmp nat_cmp (key_at l (i + 1)) (key_at l i) ≡ Greater = nat_list_cmp_total.antisymm (key_at l (i + 1)) (key_at l i) ∙ ap ordering_reverse (rising i (i + 1) (omega arith) lt) in
      rw (← first, ← second, back) refl)

  -- a binary search by key ends at the key, or at the gap for it
  pub searched : (r : Result ℕ ℕ) → IsSearchInRange r (length l) → IsBinarySearchResult (λ pair. slice_cmp nat_cmp pair.0 k) l r → record { found : IfOk r (IsAt l k); absent : IfErr r (IsGapFor l k) }
  searched (Ok at) in_range equal = record { found = record { in_range = in_range; has_key = exact_bytes _ k (equal ([], 0)) }; absent = tt }
  searched (Err at) in_range parted = record {
    found = tt;
    absent = record {
      in_range = in_range;
      smaller_before = λ j lt. (parted comparisons_rise).0 j ([], 0) (omega arith) lt;
      greater_after = λ j le lt. (parted comparisons_rise).1 j ([], 0) le lt;
    };
  }

module _ (l : Pairs) (rising : IsRising l) (k : Text) (at : ℕ) (is_at : IsAt l k at) where
  no_key_before_at : NoKeyBefore l k at
  no_key_before_at j lt = differs_below _ k (subst (λ y. slice_cmp nat_cmp (key_at l j) y ≡ Less) is_at.has_key (rising j at lt is_at.in_range))

  no_key_behind : (j : ℕ) → at < j → j < length l → same_text k (key_at l j) ≡ false
  no_key_behind j lt below = differs_above _ k (nat_list_cmp_total.antisymm (key_at l j) k ∙ ap ordering_reverse (subst (λ y. slice_cmp nat_cmp y (key_at l j) ≡ Less) is_at.has_key (rising at j lt below)))

  pub lookup_at : (d : Text × ℕ) → lookup (same_text k) l ≡ Some (get_or l at d).1
  lookup_at = lookup_present l k at is_at no_key_before_at

  pub lookup_set : (v : ℕ) → FindsAt l (set l at (k, v)) k (Some v)
  lookup_set v = finds_set l k v at is_at no_key_before_at

  pub lookup_remove : FindsAt l (remove l at) k None
  lookup_remove = finds_remove l k at is_at no_key_before_at no_key_behind

  -- each key stays
  pub rising_set : (v : ℕ) → IsRising (set l at (k, v))
  rising_set v i j lt in_range = grind (arith, common_steps, rising i j, rising i at, rising at j, is_at.in_range, is_at.has_key)

  -- each key is an old one, from the gap on one place further
  pub rising_remove : IsRising (remove l at)
  rising_remove i j lt in_range =
      let shorter = length-remove l at is_at.in_range in
      let key = λ (x : Text × ℕ). x.0 in
      let below : (i : ℕ) → i < at → key_at (remove l at) i ≡ key_at l i = λ i lt. ap key (get_or-remove_below l at ([], 0) i lt is_at.in_range) in
      let above : (i : ℕ) → at ≤ i → key_at (remove l at) i ≡ key_at l (i + 1) = λ i le. ap key (get_or-remove_above l at ([], 0) i le is_at.in_range) in
      grind (arith, below i, below j, above i, above j, rising i j, rising i (j + 1), rising (i + 1) (j + 1))

module _ (l : Pairs) (k : Text) (at : ℕ) (gap : IsGapFor l k at) where
  pub lookup_gap : lookup (same_text k) l ≡ None
  lookup_gap = lookup_absent l k no_key
    where
      no_key : NoKeyBefore l k (length l)
      no_key j lt = elim (cases_lt j at) [ inl below ↦ differs_below _ k (gap.smaller_before j below) | inr from ↦ differs_above _ k (gap.greater_after j from lt) ]

  pub lookup_insert : (v : ℕ) → FindsAt l (insert l at (k, v)) k (Some v)
  lookup_insert v = finds_insert l k v at (λ j lt. differs_below _ k (gap.smaller_before j lt))

  -- each new key is an old one below the gap, k at it, or an old one moved up by one
  pub rising_insert : (v : ℕ) → IsRising l → IsRising (insert l at (k, v))
  rising_insert v rising i j lt in_range =
      let new = insert l at (k, v) in
      let key = λ (x : Text × ℕ). x.0 in
      let longer = length-insert l at (k, v) gap.in_range in
      let below : (i : ℕ) → i < at → key_at new i ≡ key_at l i = λ i below. ap key (get_or-insert_below l at (k, v) ([], 0) i below gap.in_range) in
      let here : (i : ℕ) → i ≡ at → key_at new i ≡ k = λ i here. rw here (ap key (get_or-insert_at l at (k, v) ([], 0) gap.in_range)) in
      let above : (i : ℕ) → at < i → key_at new i ≡ key_at l (i - 1) = λ i above. subst (λ q. key_at new q ≡ key_at l (i - 1)) {x = i - 1 + 1} (omega arith) (ap key (get_or-insert_above l at (k, v) ([], 0) (i - 1) (omega arith) gap.in_range)) in
      let greater : (j : ℕ) → at ≤ j → j < length l → slice_cmp nat_cmp k (key_at l j) ≡ Less = λ j le lt. reversed _ k (gap.greater_after j le lt) in
      grind (arith, below i, here i, above i, below j, here j, above j, rising i j, rising i (j - 1), rising (i - 1) (j - 1), gap.smaller_before i, greater (j - 1))
