-- A walk over the keys in their order to the first whose slot holds something.
use Rattle.std.proofs.Common.{◌≡◌, ℕ, Bool, true, false, cond, List, [], ◌∷◌, Option, Some, None, IsSome, refl, sym, ap, subst, ◌∙◌}
use Rattle.std.specs.Prelude.{◌&&◌, IfSome, IfNone}
use Rattle.std.specs.List.{AllByRecursion, filter}
use Rattle.std.specs.List.Sorted.{IsStrictlySortedBy}
use Rattle.std.specs.Map.{keys_of}
use Rattle.std.specs.declared.cmp.Ordering.{Ordering}
use Rattle.std.specs.declared.cmp.Ordering.TheVariants.{Less, Equal, Greater}
use Rattle.std.specs.declared.ops.Bound.{Bound}
use Rattle.std.specs.declared.ops.Bound.TheVariants.{Included, Excluded, Unbounded}
use Rattle.std.specs.Cmp.{IsTotalOrder, alike_right, eq_by_cmp_equiv, tied_back}
use Rattle.std.specs.Ordering.{is_eq, is_gt, is_le, is_lt}
use Rattle.std.specs.BTreeMap.{is_at}
use Rattle.std.specs.BTreeMap.Range.{IsFromStart, IsLeBy, IsLtBy, entries_between, range_contains}
use Rattle.std.proofs.lemmas.Map.Entries.{lookup_head, lookup-filter-keys}
use Rattle.std.proofs.lemmas.Map.Keys.{sorted_head, sorted_tail}
use Rattle.std.proofs.lemmas.Map.Views.{IsInRange-from_range_contains, range_contains-from_IsInRange}
use Rattle.std.proofs.lemmas.List.Kept.{IsStrictlySortedBy-filter}
use Rattle.dubp_journal.specs.MovingTable.{get, IsLeast, HasNone}
use Rattle.dubp_journal.specs.Slots.{held, live, Finds, IsFirstHeld, HasNoneHeld}
use Rattle.dubp_journal.specs.Walking.{Walking, IsRest, IsLeft, IsStep}
use Rattle.dubp_journal.proofs.Live.{get-live}

-- ---- a table is what its slots hold

module _ {K V : Type 0} {cmp : K → K → Ordering} {slot_of : K → Option ℕ} {keys : List (Option K)} (f : Finds cmp slot_of keys) (slots : List (Option V)) (from : Bound K) where
  pub least_of_table : (r : Option (K × V)) → IfSome r (IsFirstHeld cmp slot_of slots from) → IfSome r (IsLeast cmp (live keys slots) (IsFromStart cmp from))
  least_of_table None is = tt
  least_of_table (Some e) is = record {
    passes = is.within;
    value = get-live f e.0 slots ∙ is.has;
    least = λ q passes some. is.least q passes (subst IsSome (get-live f q slots) some);
  }

  pub none_of_table : (r : Option (K × V)) → IfNone r (HasNoneHeld cmp slot_of slots from) → IfNone r (HasNone cmp (live keys slots) (IsFromStart cmp from))
  none_of_table None none = λ q passes. get-live f q slots ∙ none q passes
  none_of_table (Some e) none = tt

-- ---- a walk over an ordered map

tied : (r : Ordering) → is_eq r ≡ true → r ≡ Equal
tied Less e = cc
tied Equal e = refl
tied Greater e = cc

module _ {K : Type 0} {cmp : K → K → Ordering} (o : IsTotalOrder cmp) where
  -- equal keys are both behind a bound or both not
  from_alike : (from : Bound K) (x y : K) → cmp x y ≡ Equal → range_contains cmp from Unbounded x ≡ range_contains cmp from Unbounded y
  from_alike (Included a) x y e = ap (λ r. is_le r && true) (alike_right o x y a e)
  from_alike (Excluded a) x y e = ap (λ r. is_lt r && true) (alike_right o x y a e)
  from_alike Unbounded x y e = refl

  -- what a look-up finds among keys that are all above k is above k
  above : (k q : K) (es : List (K × ℕ)) → AllByRecursion (λ y. cmp k y ≡ Less) (keys_of es) → IsSome (get cmp es q) → cmp k q ≡ Less
  above k q [] all some = cc
  above k q (e ∷ es) all some =
      elim (is_at (cmp q) e.0) as (λ b. is_at (cmp q) e.0 ≡ b → IsSome (cond b (Some e.1) (get cmp es q)) → cmp k q ≡ Less) [
        | true ↦ λ at _. alike_right o q e.0 k (tied (cmp q e.0) at) ∙ all.0
        | false ↦ λ _ some. above k q es all.1 some
      ] refl some

  is_own : (k : K) → is_at (cmp k) k ≡ true
  is_own k = (eq_by_cmp_equiv o).refl k

  -- a key is not among keys that are all above it
  none_above : (k q : K) (es : List (K × ℕ)) → AllByRecursion (λ y. cmp k y ≡ Less) (keys_of es) → is_at (cmp q) k ≡ true → IsSome (get cmp es q) → ⊥
  none_above k q es all at some = (let less = above k q es all some in let same = tied_back o q k (tied (cmp q k) at) in absurd (cc))

  -- what is above a key behind a bound is behind the bound
  behind_bound : (from : Bound K) (k q : K) → IsFromStart cmp from k → cmp k q ≡ Less → IsFromStart cmp from q
  behind_bound (Included a) k q passes less = elim (cmp a k) as (λ r. cmp a k ≡ r → is_gt r ≡ false → is_gt (cmp a q) ≡ false) [
    | Less ↦ λ e _. ap is_gt (o.trans a k q e less)
    | Equal ↦ λ e _. ap is_gt (o.congr a k q e ∙ less)
    | Greater ↦ λ e p. absurd (cc)
  ] refl passes
  behind_bound (Excluded a) k q passes less = o.trans a k q passes less
  behind_bound Unbounded k q passes less = tt

keys_filter : {K : Type 0} (p : K → Bool) (es : List (K × ℕ)) → keys_of (filter (λ (e : K × ℕ). p e.0) es) ≡ filter p (keys_of es)
keys_filter p [] = refl
keys_filter p (e ∷ es) = elim (p e.0) as (λ b. keys_of (cond b (e ∷ filter (λ x. p x.0) es) (filter (λ x. p x.0) es)) ≡ cond b (e.0 ∷ filter p (keys_of es)) (filter p (keys_of es))) [
  | true ↦ ap (λ ks. e.0 ∷ ks) (keys_filter p es)
  | false ↦ keys_filter p es
]

module _ {K V : Type 0} {cmp : K → K → Ordering} (o : IsTotalOrder cmp) where
  module _ (m : List (K × ℕ)) (slots : List (Option V)) (from : Bound K) where
    pub set_out : IsStrictlySortedBy cmp (keys_of m) → IsRest cmp (IsFromStart cmp from) (λ q. held slots (get cmp m q)) slots (entries_between cmp from Unbounded m)
    set_out rises = record {
      rises = subst (IsStrictlySortedBy cmp) (sym (keys_filter within m)) (IsStrictlySortedBy-filter cmp within (keys_of m) rises);
      within = λ q some. by_test q (within q) refl some;
      is = λ q passes. ap (held slots) (sym (at q true (range_contains-from_IsInRange o from Unbounded q (passes, tt))));
    }
      where
        within : K → Bool
        within q = range_contains cmp from Unbounded q

        at : (q : K) (b : Bool) → within q ≡ b → get cmp (entries_between cmp from Unbounded m) q ≡ cond b (get cmp m q) None
        at q b is = lookup-filter-keys (is_at (cmp q)) within b (λ k tie. sym (from_alike o from q k (tied (cmp q k) tie)) ∙ is) m

        by_test : (q : K) (b : Bool) → within q ≡ b → IsSome (get cmp (entries_between cmp from Unbounded m) q) → IsFromStart cmp from q
        by_test q true is some = (IsInRange-from_range_contains o from Unbounded q is).0
        by_test q false is some = (let never = subst IsSome (at q false is) some in absurd (cc))

  module _ (P : K → Type 0) (value : K → Option V) (slots : List (Option V)) where
    -- the same rest, of values that are the same
    pub rest_of : (other : K → Option V) → ((q : K) → other q ≡ value q) → (rest : List (K × ℕ)) → IsRest cmp P value slots rest → IsRest cmp P other slots rest
    rest_of other same rest is = record { rises = is.rises; within = is.within; is = λ q passes. same q ∙ is.is q passes }

    module _ (e : K × ℕ) (rest : List (K × ℕ)) (is : IsRest cmp P value slots (e ∷ rest)) where
      behind : AllByRecursion (λ y. cmp e.0 y ≡ Less) (keys_of rest)
      behind = sorted_head cmp e.0 (keys_of rest) is.rises

      own : get cmp (e ∷ rest) e.0 ≡ Some e.1
      own = lookup_head (is_at (cmp e.0)) e rest (is_own o e.0)

      pub first_within : P e.0
      first_within = is.within e.0 (subst IsSome (sym own) refl)

      pub first_value : value e.0 ≡ held slots (Some e.1)
      first_value = is.is e.0 first_within ∙ ap (held slots) own

      pub first_least : (q : K) → P q → IsSome (value q) → IsLeBy cmp e.0 q
      first_least q passes some = least_of (found (get cmp (e ∷ rest) q) (subst IsSome (is.is q passes) some))
        where
          found : (s : Option ℕ) → IsSome (held slots s) → IsSome s
          found None some = some
          found (Some i) some = refl

          least_of : IsSome (get cmp (e ∷ rest) q) → IsLeBy cmp e.0 q
          least_of some = elim (is_at (cmp q) e.0) as (λ b. is_at (cmp q) e.0 ≡ b → IsSome (cond b (Some e.1) (get cmp rest q)) → IsLeBy cmp e.0 q) [
            | true ↦ λ at _. ap is_gt (tied_back o q e.0 (tied (cmp q e.0) at))
            | false ↦ λ _ later. ap is_gt (above o e.0 q rest behind later)
          ] refl some

      -- the first slot holds nothing
      pub goes_on : held slots (Some e.1) ≡ None → IsRest cmp P value slots rest
      goes_on nothing = record {
        rises = sorted_tail cmp e.0 (keys_of rest) is.rises;
        within = λ q some. is.within q (further q (is_at (cmp q) e.0) some);
        is = λ q passes. is.is q passes ∙ passed q (is_at (cmp q) e.0) refl (get cmp rest q) refl;
      }
        where
          further : (q : K) (b : Bool) → IsSome (get cmp rest q) → IsSome (cond b (Some e.1) (get cmp rest q))
          further q true some = refl
          further q false some = some

          passed : (q : K) (b : Bool) → is_at (cmp q) e.0 ≡ b → (r : Option ℕ) → get cmp rest q ≡ r → held slots (cond b (Some e.1) (get cmp rest q)) ≡ held slots (get cmp rest q)
          passed q true at None is_none = nothing ∙ ap (held slots) (sym is_none)
          passed q true at (Some i) is_some = absurd (none_above o e.0 q rest behind at (subst IsSome (sym is_some) refl))
          passed q false at r is_r = refl

      -- the walk goes on behind the first key
      pub goes_behind : ((q : K) → cmp e.0 q ≡ Less → P q) → IsRest cmp (IsLtBy cmp e.0) value slots rest
      goes_behind wider = record {
        rises = sorted_tail cmp e.0 (keys_of rest) is.rises;
        within = λ q some. above o e.0 q rest behind some;
        is = λ q less. is.is q (wider q less) ∙ ap (held slots) (other q less (is_at (cmp q) e.0) refl);
      }
        where
          other : (q : K) → cmp e.0 q ≡ Less → (b : Bool) → is_at (cmp q) e.0 ≡ b → cond b (Some e.1) (get cmp rest q) ≡ get cmp rest q
          other q less true at = (let same = tied_back o q e.0 (tied (cmp q e.0) at) in absurd (cc))
          other q less false at = refl

  module _ (m : List (K × ℕ)) (slots : List (Option V)) (from : Bound K) (e : K × ℕ) (rest : List (K × ℕ)) (is : IsRest cmp (IsFromStart cmp from) (λ q. held slots (get cmp m q)) slots (e ∷ rest)) where
    pub first_held : (v : V) → held slots (Some e.1) ≡ Some v → IsFirstHeld cmp (get cmp m) slots from (e.0, v)
    first_held v has = record {
      within = first_within (IsFromStart cmp from) (λ q. held slots (get cmp m q)) slots e rest is;
      has = first_value (IsFromStart cmp from) (λ q. held slots (get cmp m q)) slots e rest is ∙ has;
      least = first_least (IsFromStart cmp from) (λ q. held slots (get cmp m q)) slots e rest is;
    }

  -- ---- a walk that keeps its place

  module _ (w : Walking K V) (slots : List (Option V)) where
    pub step_none : (rest left : List (K × ℕ)) → rest ≡ [] → left ≡ [] → IsLeft cmp w slots rest → IsStep cmp w slots left None
    step_none rest left e l is =
        let empty : IsLeft cmp w slots [] = subst (IsLeft cmp w slots) e is in
        subst (λ xs. IsStep cmp w slots xs None) (sym l) (λ q passes. empty.is q passes, empty)

    pub step_some : (e : K × ℕ) (rest : List (K × ℕ)) → IsLeft cmp w slots (e ∷ rest) → (v : V) → held slots (Some e.1) ≡ Some v → IsStep cmp w slots rest (Some (e.0, v))
    step_some e rest is v has =
        let P : K → Type 0 = IsFromStart cmp w.from in
        let passes = first_within P (get cmp w.map) slots e rest is in (
          record { passes = passes; value = first_value P (get cmp w.map) slots e rest is ∙ has; least = first_least P (get cmp w.map) slots e rest is },
          goes_behind P (get cmp w.map) slots e rest is (λ q less. behind_bound o w.from e.0 q passes less),
        )
