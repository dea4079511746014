-- A walk over the table of members finds them one behind the other, and ends.
use Rattle.std.proofs.Common.{◌≡◌, ℕ, ◌<◌, ◌≤◌, inl, inr, Bool, true, false, cond, List, [], ◌∷◌, ◌++◌, Option, Some, None, Contains, refl, sym, ap, subst, ◌∙◌, true≢false, arith}
use Rattle.std.specs.Prelude.{IsTrue, count_by}
use Rattle.std.specs.List.{AllByRecursion}
use Rattle.std.specs.List.Sorted.{IsStrictlySortedBy}
use Rattle.std.specs.Ordering.{is_lt, is_eq}
use Rattle.std.specs.declared.cmp.Ordering.TheVariants.{Less}
use Rattle.std.specs.declared.ops.Bound.{Bound}
use Rattle.std.specs.declared.ops.Bound.TheVariants.{Included, Excluded, Unbounded}
use Rattle.std.specs.BTreeMap.Range.{IsFromStart}
use Rattle.std.specs.Cmp.{tied_itself}
use Rattle.std.specs.Cmp.Lexicographic.{nat_list_cmp_total}
use Rattle.std.proofs.lemmas.List.{append-nil, append_assoc}
use Rattle.std.proofs.lemmas.List.Sums.{sum_by-cons}
use Rattle.std.proofs.lemmas.Option.{none-some}
use Rattle.dubp_atoms.specs.Same.{Text}
use Rattle.dubp_undo.specs.MovingTable.{get, IsLeast, HasNone, IsAfter}
use Rattle.dubp_iindex.specs.Order.{less, is_above, IsNextMember}
use Rattle.dubp_iindex.specs.Rows.{Rows, texts, members, is_member_at}
use Rattle.dubp_iindex.proofs.Entries.{texts-apart, is_equal}
use Rattle.dubp_iindex.proofs.KeyOrder.{after-above, is_less, next-some, next-none, stands_member, member_stands}
use Rattle.dubp_iindex.proofs.Members.{contains_cases, contains_there, contains_none, members-in_order, member-listed, listed-member}

-- ---- where a walk stands

-- the key behind which it stands, where it has found one
abbrev pub after_of : Bound Text → Option Text
after_of (Included k) = Some k
after_of (Excluded k) = Some k
after_of Unbounded = None

abbrev pub behind : Option Text → Bound Text
behind None = Unbounded
behind (Some k) = Excluded k

-- it begins before all keys, or has gone on behind one
pub behind-key : (k : Text) (from : Bound Text) → from ≡ Excluded k → from ≡ behind (after_of from)
behind-key k from is = is ∙ ap (λ (b : Bound Text). behind (after_of b)) (sym is)

from_behind : {V : Type 0} (m : List (Text × V)) (after : Option Text) (e : Text × V) → IsLeast texts m (IsFromStart texts (behind after)) e → IsLeast texts m (IsAfter texts after) e
from_behind m None e least = least
from_behind m (Some k) e least = least

none_behind : {V : Type 0} (m : List (Text × V)) (after : Option Text) → HasNone texts m (IsFromStart texts (behind after)) → HasNone texts m (IsAfter texts after)
none_behind m None none = none
none_behind m (Some k) none = none

-- ---- the walk ends

abbrev bit : Bool → ℕ
bit b = cond b 1 0

bits : (a b : Bool) → (a ≡ true → b ≡ true) → bit a ≤ bit b
bits true true f = omega arith
bits true false f = absurd (true≢false (sym (f refl)))
bits false b f = omega arith

above-up : (after : Option Text) (k : Text) → is_above after k ≡ true → (a : Text) → less k a ≡ true → is_above after a ≡ true
above-up None k above a further = refl
above-up (Some j) k above a further = ap is_lt (nat_list_cmp_total.trans j k a (is_less _ above) (is_less _ further))

module _ {V : Type 0} where
  -- how many entries stand behind the key
  abbrev pub left : Option Text → List (Text × V) → ℕ
  left after m = count_by (λ (e : Text × V). is_above after e.0) m

  module _ (after : Option Text) (k : Text) (above : is_above after k ≡ true) where
    fewer : (m : List (Text × V)) → left (Some k) m ≤ left after m
    fewer [] = omega arith
    fewer (e ∷ m) =
        omega (
          arith,
          sum_by-cons (λ (x : Text × V). bit (less k x.0)) e m,
          sum_by-cons (λ (x : Text × V). bit (is_above after x.0)) e m,
          bits (less k e.0) (is_above after e.0) (above-up after k above e.0),
          fewer m,
        )

    falls : (v : V) (m : List (Text × V)) → get texts m k ≡ Some v → left (Some k) m < left after m
    falls v [] h = absurd (none-some v h)
    falls v (e ∷ m) h =
        elim (is_eq (texts k e.0)) as (λ b. is_eq (texts k e.0) ≡ b → cond b (Some e.1) (get texts m k) ≡ Some v → left (Some k) (e ∷ m) < left after (e ∷ m)) [
          | true ↦ λ t _.
              let same = texts-apart k e.0 (is_equal _ t) in
              let no_more : bit (less k e.0) ≡ 0 = ap (λ q. bit (less k q)) (sym same) ∙ ap (λ r. bit (is_lt r)) (tied_itself nat_list_cmp_total k) in
              let one : bit (is_above after e.0) ≡ 1 = ap (λ q. bit (is_above after q)) (sym same) ∙ ap bit above in
              omega (arith, sum_by-cons (λ (x : Text × V). bit (less k x.0)) e m, sum_by-cons (λ (x : Text × V). bit (is_above after x.0)) e m, no_more, one, fewer m)
          | false ↦ λ t f.
              omega (
                arith,
                sum_by-cons (λ (x : Text × V). bit (less k x.0)) e m,
                sum_by-cons (λ (x : Text × V). bit (is_above after x.0)) e m,
                bits (less k e.0) (is_above after e.0) (above-up after k above e.0),
                falls v m f,
              )
        ] refl h

-- behind the entry that it finds fewer are left
pub walk-falls : {V : Type 0} (m n : List (Text × V)) (from to : Bound Text) (e : Text × V) → n ≡ m → to ≡ Excluded e.0 → from ≡ behind (after_of from)
    → IsLeast texts m (IsFromStart texts from) e → left (after_of to) n < left (after_of from) m
walk-falls m n from to e same is stands least =
    let here = from_behind m (after_of from) e (subst (λ (b : Bound Text). IsLeast texts m (IsFromStart texts b) e) stands least) in
    rw (same, is) (falls (after_of from) e.0 (after-above (after_of from) e.0 here.passes) e.1 m here.value)

-- ---- what it finds is the next member

module _ (rows : Rows) (m : List (Text × Unit {0})) (is : (q : Text) → get texts m q ≡ cond (is_member_at rows q) (Some tt) None) (from : Bound Text) (stands : from ≡ behind (after_of from)) where
  pub found-next : (e : Text × Unit {0}) → IsLeast texts m (IsFromStart texts from) e → IsNextMember rows (after_of from) (Some e.0)
  found-next e least =
      next-some m (λ a. IsTrue (is_member_at rows a)) (λ q h. member_stands (is_member_at rows q) (get texts m q) (is q) h) (after_of from) e
      (stands_member (is_member_at rows e.0) (get texts m e.0) (is e.0))
      (from_behind m (after_of from) e (subst (λ (b : Bound Text). IsLeast texts m (IsFromStart texts b) e) stands least))

  pub found-none : HasNone texts m (IsFromStart texts from) → IsNextMember rows (after_of from) None
  found-none none =
      next-none m (λ a. IsTrue (is_member_at rows a)) (λ q h. member_stands (is_member_at rows q) (get texts m q) (is q) h) (after_of from)
      (none_behind m (after_of from) (subst (λ (b : Bound Text). HasNone texts m (IsFromStart texts b)) stands none))

-- ---- the members behind a key

-- these are the members behind the key, in order
pub record AreLeft (rows : Rows) (after : Option Text) (keys : List Text) : Type 0 where
  pub rise : IsStrictlySortedBy texts keys
  pub all : (a : Text) → is_member_at rows a ≡ true → is_above after a ≡ true → Contains keys a
  pub only : (a : Text) → Contains keys a → (is_member_at rows a ≡ true) × (is_above after a ≡ true)

head_below : (x : Text) (xs : List Text) → IsStrictlySortedBy texts (x ∷ xs) → AllByRecursion (λ y. texts x y ≡ Less) xs
unfolding IsStrictlySortedBy
head_below x xs rise = rise.0

tail_rises : (x : Text) (xs : List Text) → IsStrictlySortedBy texts (x ∷ xs) → IsStrictlySortedBy texts xs
unfolding IsStrictlySortedBy
tail_rises x xs rise = rise.1

below_each : (x a : Text) (xs : List Text) → AllByRecursion (λ y. texts x y ≡ Less) xs → Contains xs a → less x a ≡ true
below_each x a [] all there = absurd (contains_none a there)
below_each x a (y ∷ ys) all there = elim (contains_cases y a ys there) [
  | inl e ↦ subst (λ z. less x z ≡ true) e (ap is_lt all.0)
  | inr later ↦ below_each x a ys all.1 later
]

not_itself : (k : Text) → less k k ≡ true → ⊥
not_itself k h = true≢false (sym h ∙ ap is_lt (tied_itself nat_list_cmp_total k))

module _ (rows : Rows) where
  -- at first all are left
  pub all_left : AreLeft rows None (members rows)
  all_left = record {
    rise = members-in_order rows;
    all = λ a is _. member-listed rows a is;
    only = λ a there. (listed-member rows a there, refl);
  }

  -- the next of them is the first that is left, and the others are left behind it
  pub one_less : (after : Option Text) (keys : List Text) (k : Text) → AreLeft rows after keys → IsNextMember rows after (Some k) → (rest : List Text) × (keys ≡ k ∷ rest) × AreLeft rows (Some k) rest
  one_less after [] k are next = absurd (contains_none k (are.all k next.0 next.1))
  one_less after (x ∷ xs) k are next =
      let below = head_below x xs are.rise in
      let first = are.only x (0, omega arith, refl) in
      let same : x ≡ k = elim (contains_cases x k xs (are.all k next.0 next.1)) [
        | inl e ↦ e
        | inr later ↦ absurd (true≢false (sym (below_each x k xs below later) ∙ next.2 x first.0 first.1))
      ] in (
        xs,
        ap (λ y. y ∷ xs) same,
        record {
          rise = tail_rises x xs are.rise;
          all = λ a is above. elim (contains_cases x a xs (are.all a is (above-up after k next.1 a above))) [
            | inl e ↦ absurd (not_itself k (subst (λ z. less k z ≡ true) (sym e ∙ same) above))
            | inr later ↦ later
          ];
          only = λ a there. ((are.only a (contains_there x a xs there)).0, subst (λ z. less z a ≡ true) same (below_each x a xs below there));
        },
      )

  -- where none is next, none is left
  pub none_left : (after : Option Text) (keys : List Text) → AreLeft rows after keys → IsNextMember rows after None → keys ≡ []
  none_left after [] are none = refl
  none_left after (x ∷ xs) are none = let first = are.only x (0, omega arith, refl) in absurd (true≢false (sym first.1 ∙ none x first.0))

-- ---- the list

-- what is still to be put, and what was put
module _ (old now : List Text) where
  pub put_one : (all rest new keys : List Text) (k : Text) → old ++ all ≡ now ++ keys → keys ≡ k ∷ rest → new ≡ now ++ k ∷ [] → old ++ all ≡ new ++ rest
  put_one all rest new keys k is first put = is ∙ ap (λ xs. now ++ xs) first ∙ sym (append_assoc now (k ∷ []) rest) ∙ ap (λ xs. xs ++ rest) (sym put)

  pub put_all : (all keys : List Text) → old ++ all ≡ now ++ keys → keys ≡ [] → now ≡ old ++ all
  put_all all keys is none = sym (is ∙ ap (λ xs. now ++ xs) none ∙ append-nil now)

  pub begins-more : (some new : List Text) (k : Text) → now ≡ old ++ some → new ≡ now ++ k ∷ [] → new ≡ old ++ (some ++ k ∷ [])
  begins-more some new k is put = put ∙ ap (λ xs. xs ++ k ∷ []) is ∙ append_assoc old some (k ∷ [])
