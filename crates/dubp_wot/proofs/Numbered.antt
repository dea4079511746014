-- Keys by their numbers, over plain lists: who is known by a number, who is found, and what a mark says.
use Rattle.std.proofs.Common.{◌≡◌, ℕ, zero, suc, ◌+◌, ◌<◌, ◌↔◌, nat_eq, nat_lt, Bool, true, false, cond, if◌then◌else◌, List, [], ◌∷◌, ◌++◌, Vec, Global, Result, Ok, Err, IfOk, OnErr, Option, Some, None, IfSome, IsSome, ◌⊎◌, length, slice_get, get_or, set, take, Contains, inl, inr, refl, sym, ap, subst, ◌∙◌, true≢false, arith}
use Rattle.std.specs.List.{AllByRecursion, IsDistinct, list_any, position, position_or_len}
use Rattle.std.specs.Option.{option_map, option_to_list}
use Rattle.std.proofs.Math.ListN.{length-append}
use Rattle.std.proofs.lemmas.List.{append-nil, map-append, get_or-map, get_or_default, length-map, get_or-set_same, get_or-set_other, get_or_past, get_or_read}
use Rattle.std.proofs.lemmas.List.Elements.{filter_more}
use Rattle.std.proofs.lemmas.List.Sums.{passes_at_first}
use Rattle.std.proofs.lemmas.Map.Keys.{IsDistinct-head, IsDistinct-tail}
use Rattle.std.proofs.lemmas.Option.{slice_get_within, slice_get-get_or, slice_get-map, same_Some, get_or_from_slice_get}
use Rattle.std.proofs.lemmas.Bool.{cases_lt, ltb-true}
use Rattle.std.proofs.lemmas.Bool.Decides.{Decides-eqb}
use Rattle.indexmap.specs.IndexSet.{insert_key}
use Rattle.dubp_atoms.specs.Same.{Text, same_text}
use Rattle.dubp_wot.specs.Known.{AreIssuersOf, KnowIssuers, is_among, members_among}
use Rattle.dubp_wot.specs.Numbers.{Numbered, name, named, AreBelow, AreNumbers, Keeps}
use Rattle.dubp_wot.specs.Search.{In, Grows, Closed, Level}
use Rattle.dubp_wot.proofs.Issuers.{among-has, has-among}
use Rattle.dubp_wot.proofs.Levels.{text_same, text_own, slice_get-append, In-push, Grows-none, Grows-then, Grows-weaker, Grows-push, at-old, Closed-more, Level-first}

pub nat_same : (x y : ℕ) → nat_eq x y ≡ true → x ≡ y
nat_same x y = (Decides-eqb x y).0

pub nat_own : (x : ℕ) → nat_eq x x ≡ true
nat_own x = (Decides-eqb x x).1 refl

-- ---- keys keep their numbers

pub Keeps-none : (keys : List Text) → Keeps keys keys
Keeps-none keys = record { longer = omega arith; keeps = λ i k h. h }

pub Keeps-then : (old mid new : List Text) → Keeps old mid → Keeps mid new → Keeps old new
Keeps-then old mid new g h = record {
  longer = let a = g.longer in let b = h.longer in omega arith;
  keeps = λ i k e. h.keeps i k (g.keeps i k e);
}

pub Keeps-insert : (keys : List Text) (k : Text) → Keeps keys (insert_key same_text keys k)
Keeps-insert keys k = by (list_any (same_text k) keys)
  where
    by : (t : Bool) → Keeps keys (if t then keys else keys ++ k ∷ [])
    by true = Keeps-none keys
    by false = record { longer = omega (arith, length-append keys (k ∷ [])); keeps = λ i c h. slice_get-append keys (k ∷ []) i c h }

-- a key is put, or there is no memory for it
pub Keeps-result : {R E : Type 0} (result : Result R E) (old new : List Text) (k : Text) → IfOk result (λ _. new ≡ insert_key same_text old k)
    → OnErr result (new ≡ old) → Keeps old new
Keeps-result (Ok r) old new k put stays = subst (Keeps old) (sym put) (Keeps-insert old k)
Keeps-result (Err e) old new k put stays = subst (Keeps old) (sym stays) (Keeps-none old)

-- a key that has a number had it before, or is the one that was put
In-insert_cases : (keys : List Text) (k a : Text) → In (insert_key same_text keys k) a → In keys a ⊎ (a ≡ k)
In-insert_cases keys k a = by (list_any (same_text k) keys)
  where
    by : (t : Bool) → In (if t then keys else keys ++ k ∷ []) a → In keys a ⊎ (a ≡ k)
    by true m = inl m
    by false m = In-push keys k a m.0 m.1

pub In-result : {R E : Type 0} (result : Result R E) (old new : List Text) (k a : Text) → IfOk result (λ _. new ≡ insert_key same_text old k)
    → OnErr result (new ≡ old) → In new a → In old a ⊎ (a ≡ k)
In-result (Ok r) old new k a put stays m = In-insert_cases old k a (subst (λ ks. In ks a) put m)
In-result (Err e) old new k a put stays m = inl (subst (λ ks. In ks a) stays m)

-- the number of a key is its place
pub number_is : (keys : List Text) (k : Text) → IfSome (position (same_text k) keys) (λ n. slice_get keys n ≡ Some k)
number_is keys k = by (nat_lt (position_or_len (same_text k) keys) (length keys)) refl
  where
    by : (t : Bool) → nat_lt (position_or_len (same_text k) keys) (length keys) ≡ t
        → IfSome (cond t (Some (position_or_len (same_text k) keys)) None) (λ n. slice_get keys n ≡ Some k)
    by true e =
        let n = position_or_len (same_text k) keys in
        let within = ltb-true n (length keys) e in
        slice_get-get_or keys n [] within ∙ ap Some (sym (text_same k (get_or keys n []) (passes_at_first (same_text k) keys [] within)))
    by false e = tt

module _ (old new : List Text) (kept : Keeps old new) where
  pub name-kept : (n : ℕ) → n < length old → name new n ≡ name old n
  name-kept n within = get_or_from_slice_get new n (get_or old n []) [] (kept.keeps n (get_or old n []) (slice_get-get_or old n [] within))

  pub named-kept : (xs : List ℕ) → AreBelow (length old) xs → named new xs ≡ named old xs
  named-kept [] below = refl
  named-kept (x ∷ xs) below =
      ap (λ k. k ∷ named new xs) (name-kept x (below x (0, refl))) ∙ ap (λ ks. name old x ∷ ks) (named-kept xs (λ n m. below n (suc m.0, m.1)))

  pub AreBelow-kept : (xs : List ℕ) → AreBelow (length old) xs → AreBelow (length new) xs
  AreBelow-kept xs below n m = let a = below n m in let b = kept.longer in omega arith

  pub AreNumbers-kept : (issuers : List (Option (Vec ℕ Global))) → AreNumbers old issuers → AreNumbers new issuers
  AreNumbers-kept issuers are i = by (get_or issuers i None) (are i)
    where
      by : (o : Option (Vec ℕ Global)) → IfSome o (λ v. (i < length old) × AreBelow (length old) v.items) → IfSome o (λ v. (i < length new) × AreBelow (length new) v.items)
      by None h = tt
      by (Some v) h = (let a = h.0 in let b = kept.longer in omega arith, AreBelow-kept v.items h.1)

-- what was known is known of more keys, where these are members
pub KnowIssuers-kept : (members : List Text) (pairs : List (Text × Text)) (old new : Numbered) → Keeps old.keys new.keys
    → ((k : Text) → In new.keys k → In old.keys k ⊎ Contains members k) → new.issuers ≡ old.issuers → AreNumbers old.keys old.issuers → KnowIssuers members pairs old
    → KnowIssuers members pairs new
KnowIssuers-kept members pairs old new kept more same are know = record {
  are_members = λ k m. elim (more k m) [ inl before ↦ know.are_members k before | inr in' ↦ in' ];
  are_issuers = λ i.
      subst (λ (l : List (Option (Vec ℕ Global))). IfSome (get_or l i None) (λ v. AreIssuersOf members pairs (name new.keys i) (named new.keys v.items))) (sym same)
      (by i (get_or old.issuers i None) (are i) (know.are_issuers i));
}
  where
    by : (i : ℕ) (o : Option (Vec ℕ Global)) → IfSome o (λ v. (i < length old.keys) × AreBelow (length old.keys) v.items)
        → IfSome o (λ v. AreIssuersOf members pairs (name old.keys i) (named old.keys v.items))
        → IfSome o (λ v. AreIssuersOf members pairs (name new.keys i) (named new.keys v.items))
    by i None h k = tt
    by i (Some v) h k =
        subst (λ b. AreIssuersOf members pairs b (named new.keys v.items)) (sym (name-kept old.keys new.keys kept i h.0))
        (subst (λ ks. AreIssuersOf members pairs (name old.keys i) ks) (sym (named-kept old.keys new.keys kept v.items h.1)) k)

-- the members who certify a key, by the numbers that they got
pub AreIssuersOf-numbered : (members : List Text) (pairs : List (Text × Text)) (old new : List Text) → Keeps old new → (n : ℕ) (to : Text) → slice_get old n ≡ Some to
    → (keys : List Text) (numbers : List ℕ) → named new numbers ≡ keys → AreIssuersOf members pairs to keys → AreIssuersOf members pairs (name new n) (named new numbers)
AreIssuersOf-numbered members pairs old new kept n to at keys numbers is are =
    subst (λ b. AreIssuersOf members pairs b (named new numbers)) (sym (get_or_from_slice_get new n to [] (kept.keeps n to at)))
    (subst (AreIssuersOf members pairs to) (sym is) are)

-- ---- one element is put, and the list has room for more

pub set-each : {X : Type 0} (P : ℕ → X → Type 0) (d x : X) (old mid new : List X) (n : ℕ) → ((i : ℕ) → get_or mid i d ≡ get_or old i d) → n < length mid
    → new ≡ set mid n x → ((i : ℕ) → P i (get_or old i d)) → P n x → (i : ℕ) → P i (get_or new i d)
set-each P d x old mid new n same within is each here i = subst (λ l. P i (get_or l i d)) (sym is) (by (nat_eq i n) refl)
  where
    by : (t : Bool) → nat_eq i n ≡ t → P i (get_or (set mid n x) i d)
    by true e = subst (λ j. P j (get_or (set mid n x) j d)) (sym (nat_same i n e)) (subst (P n) (sym (get_or-set_same mid n x d within)) here)
    by false e = subst (P i) (sym (get_or-set_other mid n i x d (λ s. true≢false (sym (nat_own i) ∙ ap (nat_eq i) s ∙ e)) ∙ same i)) (each i)

-- what stands at a number where something is known
pub known-at : (issuers : List (Option (Vec ℕ Global))) (n : ℕ) (o : Option (Vec ℕ Global)) (v : Vec ℕ Global) → IsSome (get_or issuers n None) → o ≡ get_or issuers n o
    → o ≡ Some v → get_or issuers n None ≡ Some v
known-at issuers n o v some at is =
    elim (cases_lt n (length issuers)) [
      | inl within ↦ sym (get_or_read issuers n o within at None) ∙ is
      | inr past ↦ absurd (not_some (get_or issuers n None) some (get_or_past issuers n None past))
    ]
  where
    not_some : (p : Option (Vec ℕ Global)) → IsSome p → p ≡ None → ⊥
    not_some None h e = true≢false (sym h)
    not_some (Some x) h e = cc

pub get_or-push_default : {X : Type 0} (xs : List X) (d : X) (i : ℕ) → get_or (xs ++ d ∷ []) i d ≡ get_or xs i d
get_or-push_default [] d zero = refl
get_or-push_default [] d (suc i) = refl
get_or-push_default (x ∷ xs) d zero = refl
get_or-push_default (x ∷ xs) d (suc i) = get_or-push_default xs d i

-- ---- names in lists

module _ (keys : List Text) where
  pub named-push : (xs : List ℕ) (n : ℕ) → named keys (xs ++ n ∷ []) ≡ named keys xs ++ name keys n ∷ []
  named-push xs n = map-append (name keys) xs (n ∷ [])

  pub In-named : (xs : List ℕ) (n i : ℕ) → slice_get xs i ≡ Some n → slice_get (named keys xs) i ≡ Some (name keys n)
  In-named xs n i h = slice_get-map (name keys) xs i ∙ ap (option_map (name keys)) h

  pub In-of_named : (xs : List ℕ) (a : Text) (i : ℕ) → slice_get (named keys xs) i ≡ Some a → (n : ℕ) × In xs n × (name keys n ≡ a)
  In-of_named [] a i h = cc
  In-of_named (x ∷ xs) a zero h = (x, (0, refl), same_Some (name keys x) a h)
  In-of_named (x ∷ xs) a (suc i) h = let r = In-of_named xs a i h in (r.0, (suc r.1.0, r.1.1), r.2)

  pub Contains-named : (xs : List ℕ) (i n : ℕ) → i < length xs → n ≡ get_or xs i n → Contains (named keys xs) (name keys n)
  Contains-named xs i n within at =
      (i, omega (arith, within, length-map xs (name keys)), get_or-map (name keys) xs i n (name keys n) within ∙ ap (name keys) (sym at))

  pub Contains-of_named : (xs : List ℕ) (a : Text) → Contains (named keys xs) a → (n : ℕ) × Contains xs n × (name keys n ≡ a)
  Contains-of_named xs a m =
      let within : m.0 < length xs = omega (arith, m.1, length-map xs (name keys)) in
      (get_or xs m.0 0, (m.0, within, get_or_default xs m.0 (get_or xs m.0 0) 0 within), sym (get_or-map (name keys) xs m.0 0 a within) ∙ m.2)

  -- a number more is found, whose key is that of a member who certifies one that has From
  pub Grows-number : (members : List Text) (pairs : List (Text × Text)) (From : Text → Type 0) (xs : List ℕ) (n : ℕ) (b : Text)
      → Contains members (name keys n) → From b → Contains pairs (name keys n, b) → Grows members pairs From (named keys xs) (named keys (insert_key nat_eq xs n))
  Grows-number members pairs From xs n b in' from pair = by (list_any (nat_eq n) xs)
    where
      by : (t : Bool) → Grows members pairs From (named keys xs) (named keys (if t then xs else xs ++ n ∷ []))
      by true = Grows-none members pairs From (named keys xs)
      by false =
          subst (Grows members pairs From (named keys xs)) (sym (named-push xs n))
          (Grows-push members pairs From (named keys xs) (name keys n) b in' from pair)

pub AreBelow-none : (size : ℕ) (xs : List ℕ) → xs ≡ [] → AreBelow size xs
AreBelow-none size xs none n m = absurd (omega (arith, slice_get_within xs m.0 n m.1, ap length none))

pub AreBelow-push : (size : ℕ) (xs : List ℕ) (n : ℕ) → AreBelow size xs → n < size → AreBelow size (xs ++ n ∷ [])
AreBelow-push size xs n below within a m = elim (In-push xs n a m.0 m.1) [ inl old ↦ below a old | inr e ↦ subst (λ z. z < size) (sym e) within ]

pub AreBelow-insert : (size : ℕ) (xs : List ℕ) (n : ℕ) → AreBelow size xs → n < size → AreBelow size (insert_key nat_eq xs n)
AreBelow-insert size xs n below within = by (list_any (nat_eq n) xs)
  where
    by : (t : Bool) → AreBelow size (if t then xs else xs ++ n ∷ [])
    by true = below
    by false = AreBelow-push size xs n below within

-- ---- a key has one number

none_again : (y : Text) (ys : List Text) → AllByRecursion (λ z. same_text y z ≡ false) ys → (n : ℕ) → slice_get ys n ≡ Some y → ⊥
none_again y [] apart n e = cc
none_again y (z ∷ zs) apart zero e = true≢false (sym (text_own y) ∙ ap (same_text y) (sym (same_Some z y e)) ∙ apart.0)
none_again y (z ∷ zs) apart (suc n) e = none_again y zs apart.1 n e

pub one_number : (keys : List Text) → IsDistinct same_text keys → (a : Text) (i j : ℕ) → slice_get keys i ≡ Some a → slice_get keys j ≡ Some a → i ≡ j
one_number [] once a i j h k = cc
one_number (x ∷ xs) once a zero zero h k = refl
one_number (x ∷ xs) once a zero (suc j) h k = absurd (none_again x xs (IsDistinct-head same_text x xs once) j (k ∙ sym h))
one_number (x ∷ xs) once a (suc i) zero h k = absurd (none_again x xs (IsDistinct-head same_text x xs once) i (h ∙ sym k))
one_number (x ∷ xs) once a (suc i) (suc j) h k = ap suc (one_number xs (IsDistinct-tail same_text x xs once) a i j h k)

-- ---- lists of numbers, one more at a time

pub AreBelow-at : (size : ℕ) (xs : List ℕ) (i n : ℕ) → AreBelow size xs → i < length xs → n ≡ get_or xs i n → n < size
AreBelow-at size xs i n below within at = below n (i, slice_get-get_or xs i n within ∙ ap Some (sym at))

-- the members among the keys, with the next key
members_among-next : (members keys : List Text) (i : ℕ) (k : Text) → i < length keys → k ≡ get_or keys i k → (t : Bool) → is_among members k ≡ t
    → members_among members (take (i + 1) keys) ≡ members_among members (take i keys) ++ cond t (k ∷ []) []
members_among-next members keys i k within here t is =
    filter_more (is_among members) keys i k within
    ∙ ap (λ (z : Text). members_among members (take i keys) ++ cond (is_among members z) (z ∷ []) []) (sym here)
    ∙ ap (λ (s : Bool). members_among members (take i keys) ++ cond s (k ∷ []) []) is

-- the number of the next key is put, where it is a member
module _ (old new : List Text) (kept : Keeps old new) (numbers : List ℕ) (below : AreBelow (length old) numbers) (k : Text) where
  pub AreBelow-found : (found : Option ℕ) → IfSome found (λ n. slice_get new n ≡ Some k) → AreBelow (length new) (numbers ++ option_to_list found)
  AreBelow-found (Some n) at = AreBelow-push (length new) numbers n (AreBelow-kept old new kept numbers below) (slice_get_within new n k at)
  AreBelow-found None at = subst (AreBelow (length new)) (sym (append-nil numbers)) (AreBelow-kept old new kept numbers below)

  pub among-found : (found : Option ℕ) → IfSome found (λ n. slice_get new n ≡ Some k) → (members keys : List Text) → (IsSome found ↔ Contains members k)
      → (i : ℕ) → i < length keys → k ≡ get_or keys i k → named old numbers ≡ members_among members (take i keys)
      → named new (numbers ++ option_to_list found) ≡ members_among members (take (i + 1) keys)
  among-found (Some n) at members keys says i within here is =
      named-push new numbers n
      ∙ ap (λ ks. ks ++ name new n ∷ []) (named-kept old new kept numbers below ∙ is)
      ∙ ap (λ z. members_among members (take i keys) ++ z ∷ []) (get_or_from_slice_get new n k [] at)
      ∙ sym (members_among-next members keys i k within here true (among-has members k (says.0 refl)))
  among-found None at members keys says i within here is =
      ap (named new) (append-nil numbers)
      ∙ named-kept old new kept numbers below
      ∙ is
      ∙ sym (append-nil (members_among members (take i keys)))
      ∙ sym (members_among-next members keys i k within here false none)
    where
      none : is_among members k ≡ false
      none = out (is_among members k) refl
        where
          out : (t : Bool) → is_among members k ≡ t → t ≡ false
          out true e = absurd (true≢false (sym (says.1 (has-among members k e))))
          out false e = refl

-- the members who certify the key at one place are found, which may have given numbers to more keys
module _ (members : List Text) (pairs : List (Text × Text)) (old new : List Text) (kept : Keeps old new) (mid found : List ℕ) (below : AreBelow (length old) mid)
    (i to : ℕ) (at : slice_get mid i ≡ Some to) (issuers : List ℕ) (are : AreIssuersOf members pairs (name new to) (named new issuers))
    (more : Grows members pairs (λ b. b ≡ name new to) (named new mid) (named new found)) (all : (n : ℕ) → Contains issuers n → In found n) where
  here : slice_get (named old mid) i ≡ Some (name new to)
  here = In-named old mid to i at ∙ ap Some (sym (name-kept old new kept to (below to (i, at))))

  grown : Grows members pairs (λ b. b ≡ name new to) (named old mid) (named new found)
  grown = subst (λ ks. Grows members pairs (λ b. b ≡ name new to) ks (named new found)) (named-kept old new kept mid below) more

  pub Grows-level : (first : List Text) → i < length first → Grows members pairs (In first) first (named old mid)
      → Grows members pairs (In first) first (named new found)
  Grows-level first within before =
      let stood : In first (name new to) = (i, at-old members pairs (In first) first (named old mid) before i (name new to) within here) in
      Grows-then members pairs (In first) first (named old mid) (named new found) before
      (Grows-weaker members pairs (λ b. b ≡ name new to) (In first) (named old mid) (named new found) (λ b e. subst (In first) (sym e) stood) grown)

  pub Closed-level : Closed members pairs i (named old mid) → Closed members pairs (i + 1) (named new found)
  Closed-level closed = Closed-more members pairs (λ b. b ≡ name new to) i (name new to) (named old mid) (named new found) closed grown here has
    where
      has : (a : Text) → Contains members a → Contains pairs (a, name new to) → In (named new found) a
      has a in' pair =
          let c = Contains-of_named new issuers a ((are a).1 (in', pair)) in
          let m = all c.0 c.1 in
          subst (In (named new found)) c.2 (m.0, In-named new found c.0 m.0 m.1)

-- a search begins at the target
pub Level-target : (members : List Text) (pairs : List (Text × Text)) (target : Text) (keys : List Text) (n : ℕ) → slice_get keys n ≡ Some target → (old new : List ℕ)
    → old ≡ [] → new ≡ insert_key nat_eq old n → Contains members target → Level members pairs target 0 (named keys new)
Level-target members pairs target keys n at old new none put in' =
    subst (Level members pairs target 0)
    (sym (ap (named keys) (put ∙ ap (λ xs. insert_key nat_eq xs n) none) ∙ ap (λ k. k ∷ []) (get_or_from_slice_get keys n target [] at)))
    (Level-first members pairs target in')
