-- What the map of stored blocks does to its entries, each of which is a block under its key.
use Rattle.std.proofs.Common.{◌≡◌, ◌||◌, Bool, true, false, not, cond, List, [], ◌∷◌, map, filter, find, Some, refl, sym, ap, ◌∙◌, true≢false}
use Rattle.std.specs.Cmp.{IsEquivalence}
use Rattle.std.specs.List.{list_any}
use Rattle.std.specs.Map.{lookup, remove_entry}

pub rest_of : (a b : Bool) → (a || b) ≡ false → b ≡ false
rest_of true b e = absurd (true≢false e)
rest_of false b e = e

pub first_of_two : (a b : Bool) → (a || b) ≡ false → a ≡ false
first_of_two true b e = absurd (true≢false e)
first_of_two false b e = refl

pub same_some : {X : Type 0} (x y : X) → Some x ≡ Some y → x ≡ y
same_some x y e = cc

module _ {K B : Type 0} (eq : K → K → Bool) (key : B → K) where
  abbrev pub is_keyed : K → B → Bool
  is_keyed k b = eq k (key b)

  -- one of these has the key of that one
  abbrev pub is_one_of : List B → B → Bool
  is_one_of bs b = list_any (is_keyed (key b)) bs

  -- no two have one key
  abbrev pub AreApart : List B → Type 0
  AreApart [] = Unit {0}
  AreApart (b ∷ bs) = (is_one_of bs b ≡ false) × AreApart bs

  -- the entry of a block
  abbrev pub keyed : B → K × B
  keyed b = (key b, b)

  pub lookup-keyed : (k : K) (bs : List B) → lookup (eq k) (map keyed bs) ≡ find (is_keyed k) bs
  lookup-keyed k [] = refl
  lookup-keyed k (b ∷ bs) =
      elim (eq k (key b)) as (λ r. cond r (Some b) (lookup (eq k) (map keyed bs)) ≡ cond r (Some b) (find (is_keyed k) bs)) [
        | true ↦ refl
        | false ↦ lookup-keyed k bs
      ]

  module _ (laws : IsEquivalence eq) where
    -- of two keys that are one, each tells the same keys
    same_test : (k l m : K) → eq k l ≡ true → eq k m ≡ eq l m
    same_test k l m e = laws.congr k l m e

    -- none passes, where one is
    pub none_keyed : (k l : K) (bs : List B) → eq k l ≡ true → list_any (is_keyed k) bs ≡ list_any (is_keyed l) bs
    none_keyed k l [] e = refl
    none_keyed k l (b ∷ bs) e = ap (λ r. r || list_any (is_keyed k) bs) (same_test k l (key b) e) ∙ ap (λ r. is_keyed l b || r) (none_keyed k l bs e)

    filter_none : (k : K) (bs : List B) → list_any (is_keyed k) bs ≡ false → filter (λ b. not (is_keyed k b)) bs ≡ bs
    filter_none k [] e = refl
    filter_none k (b ∷ bs) e =
        ap (λ r. cond (not r) (b ∷ filter (λ c. not (is_keyed k c)) bs) (filter (λ c. not (is_keyed k c)) bs)) (first_of_two (is_keyed k b) _ e)
        ∙ ap (λ l. b ∷ l) (filter_none k bs (rest_of (is_keyed k b) _ e))

    pub remove_entry-keyed : (k : K) (bs : List B) → AreApart bs → remove_entry (eq k) (map keyed bs) ≡ map keyed (filter (λ b. not (is_keyed k b)) bs)
    remove_entry-keyed k [] a = refl
    remove_entry-keyed k (b ∷ bs) a =
        elim (eq k (key b)) as (λ r. eq k (key b) ≡ r → cond r (map keyed bs) (keyed b ∷ remove_entry (eq k) (map keyed bs)) ≡ map keyed (cond (not r) (b ∷ filter (λ c. not (is_keyed k c)) bs) (filter (λ c. not (is_keyed k c)) bs))) [
          | true ↦ λ e. ap (map keyed) (sym (filter_none k bs (none_keyed k (key b) bs e ∙ a.0)))
          | false ↦ λ e. ap (λ l. keyed b ∷ l) (remove_entry-keyed k bs a.1)
        ] refl

    -- a key is among those of some blocks exactly where one of them has it
    any_key : (b : B) (path : List B) → list_any (λ k. eq k (key b)) (map key path) ≡ is_one_of path b
    any_key b [] = refl
    any_key b (c ∷ path) = ap (λ r. r || list_any (λ k. eq k (key b)) (map key path)) (laws.symm (key c) (key b)) ∙ ap (λ r. is_keyed (key b) c || r) (any_key b path)

    -- the entries of these keys leave
    pub filter-keyed : (path bs : List B) → filter (λ e. not (list_any (λ k. eq k e.0) (map key path))) (map keyed bs) ≡ map keyed (filter (λ b. not (is_one_of path b)) bs)
    filter-keyed path [] = refl
    filter-keyed path (b ∷ bs) =
        ap (λ r. cond (not r) (keyed b ∷ filter (λ e. not (list_any (λ k. eq k e.0) (map key path))) (map keyed bs)) (filter (λ e. not (list_any (λ k. eq k e.0) (map key path))) (map keyed bs))) (any_key b path)
        ∙ elim (is_one_of path b) as (λ r. cond (not r) (keyed b ∷ filter (λ e. not (list_any (λ k. eq k e.0) (map key path))) (map keyed bs)) (filter (λ e. not (list_any (λ k. eq k e.0) (map key path))) (map keyed bs)) ≡ map keyed (cond (not r) (b ∷ filter (λ b. not (is_one_of path b)) bs) (filter (λ b. not (is_one_of path b)) bs))) [
          | true ↦ filter-keyed path bs
          | false ↦ ap (λ l. keyed b ∷ l) (filter-keyed path bs)
        ]
