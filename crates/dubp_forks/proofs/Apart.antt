-- Lists of blocks of which no two have one key, and what is left of them.
use Rattle.std.proofs.Common.{◌≡◌, ℕ, ◌+◌, ◌||◌, Bool, true, false, not, cond, List, [], ◌∷◌, ◌++◌, filter, find, length, reverse, take, drop, Some, is_some, refl, sym, ap, subst, ◌∙◌, true≢false, arith, take-append-drop}
use Rattle.std.specs.Cmp.{IsEquivalence}
use Rattle.std.specs.List.{list_any, AllByRecursion}
use mathlib.Core.List.{reverse_aux}
use Rattle.std.proofs.lemmas.List.Folds.{list_any-append}
use Rattle.std.proofs.lemmas.List.Sorted.{list_any-IsPermutation, IsPermutation-reverse}
use Rattle.dubp_forks.proofs.Keyed.{is_keyed, is_one_of, AreApart, rest_of, first_of_two, same_some, none_keyed}

-- ---- of all of a list
pub All-append : {X : Type 0} (P : X → Type 0) (xs ys : List X) → AllByRecursion P xs → AllByRecursion P ys → AllByRecursion P (xs ++ ys)
All-append P [] ys p q = q
All-append P (x ∷ xs) ys p q = (p.0, All-append P xs ys p.1 q)

pub All-front : {X : Type 0} (P : X → Type 0) (xs ys : List X) → AllByRecursion P (xs ++ ys) → AllByRecursion P xs
All-front P [] ys p = tt
All-front P (x ∷ xs) ys p = (p.0, All-front P xs ys p.1)

pub All-back : {X : Type 0} (P : X → Type 0) (xs ys : List X) → AllByRecursion P (xs ++ ys) → AllByRecursion P ys
All-back P [] ys p = p
All-back P (x ∷ xs) ys p = All-back P xs ys p.1

pub All-take : {X : Type 0} (P : X → Type 0) (n : ℕ) (xs : List X) → AllByRecursion P xs → AllByRecursion P (take n xs)
All-take P n xs p = All-front P (take n xs) (drop n xs) (subst (AllByRecursion P) (sym (take-append-drop n xs)) p)

pub All-drop : {X : Type 0} (P : X → Type 0) (n : ℕ) (xs : List X) → AllByRecursion P xs → AllByRecursion P (drop n xs)
All-drop P n xs p = All-back P (take n xs) (drop n xs) (subst (AllByRecursion P) (sym (take-append-drop n xs)) p)

pub All-imp : {X : Type 0} (P Q : X → Type 0) → ((x : X) → P x → Q x) → (xs : List X) → AllByRecursion P xs → AllByRecursion Q xs
All-imp P Q f [] p = tt
All-imp P Q f (x ∷ xs) p = (f x p.0, All-imp P Q f xs p.1)

All-aux : {X : Type 0} (P : X → Type 0) (xs ys : List X) → AllByRecursion P xs → AllByRecursion P ys → AllByRecursion P (reverse_aux xs ys)
All-aux P [] ys p q = q
All-aux P (x ∷ xs) ys p q = All-aux P xs (x ∷ ys) p.1 (p.0, q)

pub All-reverse : {X : Type 0} (P : X → Type 0) (xs : List X) → AllByRecursion P xs → AllByRecursion P (reverse xs)
All-reverse P xs p = All-aux P xs [] p tt

-- each that is kept passed, and keeps what held of it
pub All-filter : {X : Type 0} (P : X → Type 0) (test : X → Bool) (xs : List X) → AllByRecursion P xs → AllByRecursion P (filter test xs)
All-filter P test [] p = tt
All-filter P test (x ∷ xs) p =
    elim (test x) as (λ r. AllByRecursion P (cond r (x ∷ filter test xs) (filter test xs))) [
      | true ↦ (p.0, All-filter P test xs p.1)
      | false ↦ All-filter P test xs p.1
    ]

pub filter_passed : {X : Type 0} (test : X → Bool) (xs : List X) → AllByRecursion (λ x. test x ≡ true) (filter test xs)
filter_passed test [] = tt
filter_passed test (x ∷ xs) =
    elim (test x) as (λ r. test x ≡ r → AllByRecursion (λ x. test x ≡ true) (cond r (x ∷ filter test xs) (filter test xs))) [
      | true ↦ λ e. (e, filter_passed test xs)
      | false ↦ λ e. filter_passed test xs
    ] refl

pub All-found : {X : Type 0} (P : X → Type 0) (test : X → Bool) (xs : List X) (x : X) → AllByRecursion P xs → find test xs ≡ Some x → P x
All-found P test [] x p f = cc
All-found {X} P test (y ∷ xs) x p f =
    elim (test y) as (λ r. cond r (Some y) (find test xs) ≡ Some x → P x) [
      | true ↦ λ g. subst P (same_some y x g) p.0
      | false ↦ λ g. All-found P test xs x p.1 g
    ] f

-- what is found passes
pub found_passes : {X : Type 0} (test : X → Bool) (xs : List X) (x : X) → find test xs ≡ Some x → test x ≡ true
found_passes test [] x f = cc
found_passes {X} test (y ∷ xs) x f =
    elim (test y) as (λ r. test y ≡ r → cond r (Some y) (find test xs) ≡ Some x → test x ≡ true) [
      | true ↦ λ e g. subst (λ (z : X). test z ≡ true) (same_some y x g) e
      | false ↦ λ e g. found_passes test xs x g
    ] refl f

-- none is found exactly where none passes
pub find_any : {X : Type 0} (test : X → Bool) (xs : List X) → is_some (find test xs) ≡ list_any test xs
find_any test [] = refl
find_any test (x ∷ xs) =
    elim (test x) as (λ r. is_some (cond r (Some x) (find test xs)) ≡ (r || list_any test xs)) [ true ↦ refl | false ↦ find_any test xs ]

list_any_less : {X : Type 0} (test kept : X → Bool) (xs : List X) → list_any test xs ≡ false → list_any test (filter kept xs) ≡ false
list_any_less test kept [] e = refl
list_any_less test kept (x ∷ xs) e =
    elim (kept x) as (λ r. list_any test (cond r (x ∷ filter kept xs) (filter kept xs)) ≡ false) [
      | true ↦ ap (λ r. r || list_any test (filter kept xs)) (first_of_two (test x) _ e) ∙ list_any_less test kept xs (rest_of (test x) _ e)
      | false ↦ list_any_less test kept xs (rest_of (test x) _ e)
    ]

or_none : (a b : Bool) → a ≡ false → b ≡ false → (a || b) ≡ false
or_none a b e f = ap (λ x. x || b) e ∙ f

of_not : (a : Bool) → not a ≡ true → a ≡ false
of_not true e = absurd (true≢false (sym e))
of_not false e = refl

module _ {K B : Type 0} (eq : K → K → Bool) (key : B → K) where
  -- no key of the one list is one of the other
  abbrev pub AreOff : List B → List B → Type 0
  AreOff xs ys = AllByRecursion (λ x. is_one_of eq key ys x ≡ false) xs

  -- each of these is the one that is found by its key
  abbrev pub AreFound : List B → List B → Type 0
  AreFound bs xs = AllByRecursion (λ b. find (is_keyed eq key (key b)) bs ≡ Some b) xs

  pub AreOff-append : (xs ys zs : List B) → AreOff xs ys → AreOff xs zs → AreOff xs (ys ++ zs)
  AreOff-append [] ys zs p q = tt
  AreOff-append (x ∷ xs) ys zs p q =
      (list_any-append (is_keyed eq key (key x)) ys zs ∙ or_none _ _ p.0 q.0, AreOff-append xs ys zs p.1 q.1)

  pub AreOff-front : (xs ys zs : List B) → AreOff xs (ys ++ zs) → AreOff xs ys
  AreOff-front [] ys zs p = tt
  AreOff-front (x ∷ xs) ys zs p =
      (first_of_two (is_one_of eq key ys x) (is_one_of eq key zs x) (sym (list_any-append (is_keyed eq key (key x)) ys zs) ∙ p.0), AreOff-front xs ys zs p.1)

  pub AreOff-back : (xs ys zs : List B) → AreOff xs (ys ++ zs) → AreOff xs zs
  AreOff-back [] ys zs p = tt
  AreOff-back (x ∷ xs) ys zs p =
      (rest_of (is_one_of eq key ys x) (is_one_of eq key zs x) (sym (list_any-append (is_keyed eq key (key x)) ys zs) ∙ p.0), AreOff-back xs ys zs p.1)

  pub AreOff-reverse : (xs ys : List B) → AreOff xs ys → AreOff xs (reverse ys)
  AreOff-reverse [] ys p = tt
  AreOff-reverse (x ∷ xs) ys p =
      (sym (list_any-IsPermutation (is_keyed eq key (key x)) ys (reverse ys) (IsPermutation-reverse ys)) ∙ p.0, AreOff-reverse xs ys p.1)

  -- those whose key is not among these keep off them
  pub AreOff-filter : (bs path : List B) → AreOff (filter (λ b. not (is_one_of eq key path b)) bs) path
  AreOff-filter bs path =
      All-imp (λ b. not (is_one_of eq key path b) ≡ true) (λ b. is_one_of eq key path b ≡ false) (λ b e. of_not (is_one_of eq key path b) e)
      (filter (λ b. not (is_one_of eq key path b)) bs) (filter_passed (λ b. not (is_one_of eq key path b)) bs)

  -- what holds of all of them holds of those that are found
  pub All-AreFound : (P : B → Type 0) (bs xs : List B) → AllByRecursion P bs → AreFound bs xs → AllByRecursion P xs
  All-AreFound P bs [] p f = tt
  All-AreFound P bs (x ∷ xs) p f = (All-found P (is_keyed eq key (key x)) bs x p f.0, All-AreFound P bs xs p f.1)

  pub AreApart-append : (xs ys : List B) → AreApart eq key xs → AreApart eq key ys → AreOff xs ys → AreApart eq key (xs ++ ys)
  AreApart-append [] ys p q o = q
  AreApart-append (x ∷ xs) ys p q o =
      (list_any-append (is_keyed eq key (key x)) xs ys ∙ or_none _ _ p.0 o.0, AreApart-append xs ys p.1 q o.1)

  pub AreApart-split : (xs ys : List B) → AreApart eq key (xs ++ ys) → AreOff xs ys
  AreApart-split [] ys p = tt
  AreApart-split (x ∷ xs) ys p =
      (rest_of (is_one_of eq key xs x) (is_one_of eq key ys x) (sym (list_any-append (is_keyed eq key (key x)) xs ys) ∙ p.0), AreApart-split xs ys p.1)

  pub AreApart-front : (xs ys : List B) → AreApart eq key (xs ++ ys) → AreApart eq key xs
  AreApart-front [] ys p = tt
  AreApart-front (x ∷ xs) ys p =
      (first_of_two (is_one_of eq key xs x) (is_one_of eq key ys x) (sym (list_any-append (is_keyed eq key (key x)) xs ys) ∙ p.0), AreApart-front xs ys p.1)

  pub AreApart-back : (xs ys : List B) → AreApart eq key (xs ++ ys) → AreApart eq key ys
  AreApart-back [] ys p = p
  AreApart-back (x ∷ xs) ys p = AreApart-back xs ys p.1

  pub AreApart-filter : (kept : B → Bool) (xs : List B) → AreApart eq key xs → AreApart eq key (filter kept xs)
  AreApart-filter kept [] p = tt
  AreApart-filter kept (x ∷ xs) p =
      elim (kept x) as (λ r. AreApart eq key (cond r (x ∷ filter kept xs) (filter kept xs))) [
        | true ↦ (list_any_less (is_keyed eq key (key x)) kept xs p.0, AreApart-filter kept xs p.1)
        | false ↦ AreApart-filter kept xs p.1
      ]

  module _ (laws : IsEquivalence eq) where
    AreOff-one : (x : B) (ys : List B) → is_one_of eq key ys x ≡ false → AreOff ys (x ∷ [])
    AreOff-one x [] e = tt
    AreOff-one x (y ∷ ys) e =
        (or_none (eq (key y) (key x)) false (laws.symm (key y) (key x) ∙ first_of_two (eq (key x) (key y)) _ e) refl, AreOff-one x ys (rest_of (eq (key x) (key y)) _ e))

    pub AreOff-symm : (xs ys : List B) → AreOff xs ys → AreOff ys xs
    AreOff-symm [] ys o = nothing ys
      where
        nothing : (ys : List B) → AreOff ys []
        nothing [] = tt
        nothing (y ∷ ys) = (refl, nothing ys)
    AreOff-symm (x ∷ xs) ys o = AreOff-append ys (x ∷ []) xs (AreOff-one x ys o.0) (AreOff-symm xs ys o.1)

    AreApart-aux : (xs ys : List B) → AreApart eq key xs → AreApart eq key ys → AreOff xs ys → AreApart eq key (reverse_aux xs ys)
    AreApart-aux [] ys p q o = q
    AreApart-aux (x ∷ xs) ys p q o =
        AreApart-aux xs (x ∷ ys) p.1 (o.0, q) (AreOff-append xs (x ∷ []) ys (AreOff-one x xs p.0) o.1)

    pub AreApart-reverse : (xs : List B) → AreApart eq key xs → AreApart eq key (reverse xs)
    AreApart-reverse xs p = AreApart-aux xs [] p tt (AreOff-symm [] xs tt)

    -- ---- how many are left
    filter_others : (path : List B) (b : B) (cs : List B) → is_one_of eq key cs b ≡ false → filter (λ c. not (is_one_of eq key (b ∷ path) c)) cs ≡ filter (λ c. not (is_one_of eq key path c)) cs
    filter_others path b [] e = refl
    filter_others path b (c ∷ cs) e =
        ap (λ r. cond (not (r || is_one_of eq key path c)) (c ∷ filter (λ c. not (is_one_of eq key (b ∷ path) c)) cs) (filter (λ c. not (is_one_of eq key (b ∷ path) c)) cs)) (laws.symm (key c) (key b) ∙ first_of_two (eq (key b) (key c)) _ e)
        ∙ ap (λ l. cond (not (is_one_of eq key path c)) (c ∷ l) l) (filter_others path b cs (rest_of (eq (key b) (key c)) _ e))

    one_less : (path : List B) (b : B) (bs : List B) → AreApart eq key bs → find (is_keyed eq key (key b)) bs ≡ Some b → is_one_of eq key path b ≡ false
        → length (filter (λ c. not (is_one_of eq key (b ∷ path) c)) bs) + 1 ≡ length (filter (λ c. not (is_one_of eq key path c)) bs)
    one_less path b [] a f n = cc
    one_less path b (c ∷ cs) a f n =
        elim (eq (key b) (key c)) as (λ r. eq (key b) (key c) ≡ r → cond r (Some c) (find (is_keyed eq key (key b)) cs) ≡ Some b
        → length (cond (not (eq (key c) (key b) || is_one_of eq key path c)) (c ∷ filter (λ c. not (is_one_of eq key (b ∷ path) c)) cs) (filter (λ c. not (is_one_of eq key (b ∷ path) c)) cs)) + 1
        ≡ length (cond (not (is_one_of eq key path c)) (c ∷ filter (λ c. not (is_one_of eq key path c)) cs) (filter (λ c. not (is_one_of eq key path c)) cs))) [
          | true ↦ λ e g.
              let here : eq (key c) (key b) ≡ true = laws.symm (key c) (key b) ∙ e in
              let out : is_one_of eq key path c ≡ false = subst (λ (x : B). is_one_of eq key path x ≡ false) (sym (same_some c b g)) n in
              let same = filter_others path b cs (none_keyed eq key laws (key b) (key c) cs e ∙ a.0) in
              rw (here, out) (rw same (omega arith))
          | false ↦ λ e g.
              let other : eq (key c) (key b) ≡ false = laws.symm (key c) (key b) ∙ e in
              let less = one_less path b cs a.1 g n in
              rw other (by (is_one_of eq key path c) c _ _ less)
        ] refl f
      where
        by : (r : Bool) (c : B) (xs ys : List B) → length xs + 1 ≡ length ys → length (cond (not r) (c ∷ xs) xs) + 1 ≡ length (cond (not r) (c ∷ ys) ys)
        by true c xs ys e = e
        by false c xs ys e = omega arith

    filter_all : (bs : List B) → filter (λ c. not (is_one_of eq key [] c)) bs ≡ bs
    filter_all [] = refl
    filter_all (b ∷ bs) = ap (λ l. b ∷ l) (filter_all bs)

    pub length_left : (path bs : List B) → AreApart eq key bs → AreApart eq key path → AreFound bs path → length (filter (λ c. not (is_one_of eq key path c)) bs) + length path ≡ length bs
    length_left [] bs a p f = omega (arith, ap length (filter_all bs))
    length_left (b ∷ path) bs a p f =
        let less = one_less path b bs a f.0 p.0 in
        let rest = length_left path bs a p.1 f.1 in
        omega arith
