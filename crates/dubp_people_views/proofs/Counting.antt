-- The members with a block: those who stay, and those who come.
use Rattle.std.proofs.Common.{◌≡◌, ℕ, ◌+◌, ◌-◌, ◌<◌, ◌^◌, Bool, true, false, cond, not, ◌||◌, ◌&&◌, List, [], ◌∷◌, ◌++◌, filter, length, count_by, refl, ap, sym, ◌∙◌, true≢false, min, arith}
use Rattle.std.specs.List.{AllByRecursion, IsDistinct, list_any}
use Rattle.std.specs.Cmp.Lexicographic.{nat_list_eq_equiv}
use Rattle.std.proofs.lemmas.List.{length-append}
use Rattle.std.proofs.lemmas.List.Sums.{length-filter}
use Rattle.std.proofs.lemmas.List.Folds.{list_any-append}
use Rattle.std.proofs.lemmas.Map.Made.{length-from_same_keys}
use Rattle.std.proofs.lemmas.Map.Views.{any-filter_same}
use Rattle.dubp_atoms.specs.Same.{Text, same_text}
use Rattle.dubp_block.specs.declared.block.Block.{Block}
use Rattle.dubp_chain.specs.Words.{names, each_once}
use Rattle.dubp_chain.specs.Chains.{Chain}
use Rattle.dubp_chain.specs.Members.{is_of, member, members}
use Rattle.dubp_registry.specs.OfValidity.{IsSound}
use Rattle.dubp_registry.proofs.OfLists.{IsIn, and_right, not_true, is_false, in_any, in_filter}
use Rattle.dubp_registry.proofs.OfLists.{same_text_is, same_text_own, members-once}
use Rattle.dubp_registry.proofs.OfLists.{once-filter, once-append}
use Rattle.dubp_registry.proofs.OfSteps.{member_named}
use Rattle.dubp_registry.proofs.OfSteps.{members_are_count}
use Rattle.dubp_people_views.proofs.Few.{distinct_of, members_are_few}
use Rattle.dubp_people_views.specs.Counting.{is_old_member, is_new_member}

-- ---- what one look says

module _ (c : Chain) (x : Text) (answer : Bool) where
  pub old_told : answer ≡ member c x → (t : Bool) → answer ≡ t → is_old_member c x ≡ t
  unfolding is_old_member
  old_told e t is = sym e ∙ is

module _ (c : Chain) (out : Text → Bool) (x : Text) (has : Bool) (has_is : has ≡ out x) where
  pub new_told : has ≡ false → (answer : Bool) → answer ≡ member c x → not answer ≡ is_new_member c out x
  unfolding is_new_member
  new_told stays answer is = ap not is ∙ ap (λ (t : Bool). t && not (member c x)) (ap not (sym stays ∙ has_is))

  pub out_told : has ≡ true → false ≡ is_new_member c out x
  unfolding is_new_member
  out_told goes = ap (λ (t : Bool). t && not (member c x)) (ap not (sym goes ∙ has_is))

-- ---- lists without repeats

none_of : (k : Text) (ks : List Text) → AllByRecursion (λ y. same_text k y ≡ false) ks → list_any (same_text k) ks ≡ false
none_of k [] all = refl
none_of k (x ∷ xs) all = let here = all.0 in rw here (none_of k xs all.1)

once_of : (ks : List Text) → IsDistinct same_text ks → each_once same_text ks ≡ true
unfolding IsDistinct
once_of [] once = refl
once_of (k ∷ ks) once = let none = none_of k ks once.0 in rw none (once_of ks once.1)

names_filter : (p : Text → Bool) (k : Text) (xs : List Text) → names (filter p xs) k ≡ (p k && names xs k)
names_filter p k xs = any-filter_same (same_text k) p (p k) (λ x same. ap p (sym (same_text_is k x same))) xs

split : (p : Text → Bool) (xs : List Text) → length (filter (λ k. not (p k)) xs) + length (filter p xs) ≡ length xs
split p [] = refl
split p (x ∷ xs) =
    let rest = split p xs in
    elim (p x) as (λ t. length (cond (not t) (x ∷ filter (λ k. not (p k)) xs) (filter (λ k. not (p k)) xs)) + length (cond t (x ∷ filter p xs) (filter p xs)) ≡ length (x ∷ xs)) [
      | true ↦ omega (arith, rest)
      | false ↦ omega (arith, rest)
    ]

swap : (a b : Bool) → (a && b) ≡ (b && a)
swap true true = refl
swap true false = refl
swap false true = refl
swap false false = refl

module _ (c : Chain) (b : Block) (out joined : List Text) (out_once : IsDistinct same_text out) (joined_once : IsDistinct same_text joined)
    (outs : (k : Text) → names out k ≡ names b.excluded k) (joins : (k : Text) → names joined k ≡ list_any (is_of k) b.joiners) where
  abbrev comes : Text → Bool
  comes k = not (names out k) && not (member c k)

  abbrev staying : List Text
  staying = filter (λ k. not (names out k)) (members c)

  abbrev coming : List Text
  coming = filter comes joined

  each : (k : Text) → names (staying ++ coming) k ≡ member (b ∷ c) k
  each k =
      list_any-append (same_text k) staying coming
      ∙ (λ i. names_filter (λ q. not (names out q)) k (members c) i || names_filter comes k joined i)
      ∙ (λ i. (not (outs k i) && member_named c k i) || ((not (outs k i) && not (member c k)) && joins k i))
      ∙ by_cases (names b.excluded k) (list_any (is_of k) b.joiners) (member c k)
    where
      by_cases : (o j m : Bool) → ((not o && m) || ((not o && not m) && j)) ≡ cond o false (cond j true m)
      by_cases true j m = refl
      by_cases false true true = refl
      by_cases false true false = refl
      by_cases false false true = refl
      by_cases false false false = refl

  apart : (x y : Text) → IsIn x staying → IsIn y coming → same_text x y ≡ false
  apart x y there there' =
      is_false (same_text x y) (λ same.
      let s = in_filter (λ q. not (names out q)) (members c) x there in
      let n = in_filter comes joined y there' in
      let is : member c x ≡ true = sym (member_named c x) ∙ in_any (same_text x) (members c) x s.0 (same_text_own x) in
      true≢false (sym is ∙ ap (member c) (same_text_is x y same) ∙ not_true (member c y) (and_right (not (names out y)) (not (member c y)) n.1)))

  once : each_once same_text (staying ++ coming) ≡ true
  once =
      once-append same_text same_text_is same_text_own (λ (k : Text). k) staying coming
      (once-filter same_text same_text_is same_text_own (λ (k : Text). k) (λ q. not (names out q)) (members c) (members-once c))
      (once-filter same_text same_text_is same_text_own (λ (k : Text). k) comes joined (once_of joined joined_once)) apart

  all : length (staying ++ coming) ≡ length (members (b ∷ c))
  all = members_are_count (b ∷ c) (staying ++ coming) (distinct_of (staying ++ coming) once) each

  gone : length (filter (names out) (members c)) ≡ count_by (member c) out
  gone =
      length-from_same_keys nat_list_eq_equiv (filter (names out) (members c)) (filter (member c) out)
      (distinct_of _ (once-filter same_text same_text_is same_text_own (λ (k : Text). k) (names out) (members c) (members-once c)))
      (distinct_of _ (once-filter same_text same_text_is same_text_own (λ (k : Text). k) (member c) out (once_of out out_once)))
      (λ k. names_filter (names out) k (members c) ∙ ap (λ t. names out k && t) (member_named c k) ∙ swap (names out k) (member c k) ∙ sym (names_filter (member c) k out))
      ∙ length-filter (member c) out

  counted : (m g n : ℕ) → m ≡ length (members c) → g ≡ count_by (member c) out → n ≡ count_by comes joined → (m - g) + n ≡ length (members (b ∷ c))
  counted m g n m_is g_is n_is =
      omega (arith, m_is, g_is, n_is, gone, all, split (names out) (members c), length-append staying coming, length-filter comes joined)

  pub members_told : (m g n : ℕ) → IsSound c → m ≡ length (members c) → g ≡ count_by (is_old_member c) out → n ≡ count_by (is_new_member c (names out)) joined → n < 2 ^ 63
      → min ((m - g) + n) (2 ^ 64 - 1) ≡ length (members (b ∷ c))
  unfolding is_old_member is_new_member
  members_told m g n sound m_is g_is n_is small =
      let few = members_are_few c sound in
      let is = counted m g n m_is g_is n_is in
      omega (arith, few, is, m_is, small)
