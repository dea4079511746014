-- The counts of a frame, as a block of the chain comes or goes at either end of it.
use Rattle.std.proofs.Common.{◌≡◌, ℕ, zero, suc, ◌+◌, ◌-◌, ◌<◌, ◌≤◌, ◌==◌, Bool, true, false, cond, true≢false, ◌||◌, List, [], ◌∷◌, ◌++◌, map, reverse, length, get_or, set, take, Option, Some, None, IsSome, if◌then◌else◌, inl, inr, refl, ap, sym, subst, ◌∙◌, zero-add, add-one, append-nil, arith}
use Rattle.std.specs.List.{count_by, list_any, sum_by}
use Rattle.std.specs.Set.{unique_keys, distinct_count}
use Rattle.std.specs.Option.{is_some, option_to_list, unwrap_or}
use Rattle.std.specs.Cmp.Lexicographic.{same_text as read_same}
use Rattle.std.proofs.lemmas.Bool.{cases_lt}
use Rattle.std.proofs.lemmas.Bool.Decides.{nat_tests}
use Rattle.std.proofs.lemmas.Cmp.{nat_list_eq_equiv}
use Rattle.std.proofs.lemmas.Grind.{reverse_onto}
use Rattle.std.proofs.Math.Seq.{get_or-append_seam}
use Rattle.std.proofs.Math.ListN.{get_or-append}
use Rattle.std.proofs.lemmas.List.{map-append, length-map, length-reverse, length-append, length-take, get_or-map, get_or-reverse, get_or_push, take_more, same_from_push}
use Rattle.std.proofs.lemmas.List.Folds.{list_any_at}
use Rattle.std.proofs.lemmas.List.Sums.{sum_by-cons, sum_by-append, sum_by_push, sum_by-take-le, count_by-le-length}
use Rattle.std.proofs.lemmas.List.Sorted.{sum_by-IsPermutation, IsPermutation-reverse}
use Rattle.std.proofs.lemmas.Map.Made.{distinct_count-le}
use Rattle.std.proofs.lemmas.Option.{none-some, same_Some}
use Rattle.dubp_atoms.specs.Same.{Text, same_text}
use Rattle.dubp_time.specs.Median.{count_of, SameTimes}
use Rattle.dubp_time.proofs.MedianLaws.{SameTimes_length, stands_at as times_at}
use Rattle.dubp_chain.specs.Heads.{blocks_of, doubled_median}
use Rattle.dubp_head.proofs.Doubling.{doubled_median-same}
use Rattle.dubp_head.proofs.Ranking.{ranked_zero, ranked_unzero}
use Rattle.dubp_head.specs.LastBlocks.{last_place}
use Rattle.dubp_head.specs.Counts.{in_turn, number_of, numbers_of, CountsState, IsRankedOf, AreCounted, IsEntered, IsLeft}

same_is : (x y : Text) → same_text x y ≡ true → x ≡ y
same_is x y e = read_same x y (sym e)

-- the number of blocks of a key, with one block more
blocks_of-cons : (k : Text) (ks : List Text) (j : Text) → blocks_of (k ∷ ks) j ≡ cond (same_text j k) 1 0 + blocks_of ks j
blocks_of-cons k ks j = sum_by-cons (λ x. cond (same_text j x) 1 0) k ks

absorbed : (c m : Bool) → (c ≡ true → m ≡ true) → m ≡ (c || m)
absorbed true m f = f refl
absorbed false m f = refl

apart : (c m : Bool) → (c ≡ true → m ≡ false) → cond {A = ℕ} c 1 0 + cond m 1 0 ≡ cond (c || m) 1 0
apart true m f = ap (λ b. 1 + cond b 1 0) (f refl)
apart false m f = zero-add _

-- a key stands once among the keys of a list where it stands in the list
stands_once : (q : Text) (ks : List Text) → count_by (same_text q) (unique_keys same_text ks) ≡ cond (list_any (same_text q) ks) 1 0
stands_once q [] = refl
stands_once q (x ∷ xs) =
    let moved : ((b : Bool) → list_any (same_text x) xs ≡ b → same_text q x ≡ true → list_any (same_text q) xs ≡ b) =
    λ b e is. ap (λ y. list_any (same_text y) xs) (same_is q x is) ∙ e in
    elim (list_any (same_text x) xs) as (λ b. list_any (same_text x) xs ≡ b → count_by (same_text q) (cond b (unique_keys same_text xs) (x ∷ unique_keys same_text xs)) ≡ cond (same_text q x || list_any (same_text q) xs) 1 0) [
      | true ↦ λ e. stands_once q xs ∙ ap (λ b. cond b 1 0) (absorbed (same_text q x) _ (moved true e))
      | false ↦ λ e.
          sum_by-cons (λ y. cond (same_text q y) 1 0) x (unique_keys same_text xs)
          ∙ ap (λ n. cond (same_text q x) 1 0 + n) (stands_once q xs)
          ∙ apart (same_text q x) _ (moved false e)
    ] refl

stands_once-reverse : (q : Text) (ks : List Text) → count_by (same_text q) (reverse (unique_keys same_text ks)) ≡ cond (list_any (same_text q) ks) 1 0
stands_once-reverse q ks =
    let us = unique_keys same_text ks in
    sum_by-IsPermutation (λ x. cond (same_text q x) 1 0) us (reverse us) (IsPermutation-reverse us) ∙ stands_once q ks

-- Counts by any function of the key, and one of them set.

-- the functions differ at most at k
abbrev SameElsewhere : (Text → ℕ) → (Text → ℕ) → Text → Type 0
SameElsewhere f g k = (j : Text) → same_text k j ≡ false → f j ≡ g j

counts_same : (f g : Text → ℕ) (k : Text) (ks : List Text) → SameElsewhere f g k → count_by (same_text k) ks ≡ 0 → map f ks ≡ map g ks
counts_same f g k [] same none = refl
counts_same f g k (x ∷ xs) same none =
    let more = sum_by-cons (λ y. cond (same_text k y) 1 0) x xs in
    elim (same_text k x) as (λ b. same_text k x ≡ b → map f (x ∷ xs) ≡ map g (x ∷ xs)) [
      | true ↦ λ e. absurd (omega (arith, more, none, ap {B = ℕ} (λ b. cond b 1 0) e))
      | false ↦ λ e.
          let rest : count_by (same_text k) xs ≡ 0 = omega (arith, more, none) in
          ap (λ n. n ∷ map f xs) (same x e) ∙ ap (λ l. g x ∷ l) (counts_same f g k xs same rest)
    ] refl

-- a key that stands somewhere is counted
stands_at : (k : Text) (ks : List Text) (i : ℕ) → i < length ks → get_or ks i [] ≡ k → 0 < count_by (same_text k) ks
stands_at k [] i lt is = absurd (omega (arith, lt))
stands_at k (x ∷ xs) zero lt is =
    omega (arith, sum_by-cons (λ y. cond (same_text k y) 1 0) x xs, ap {B = ℕ} (λ y. cond (same_text k y) 1 0) is, ap {B = ℕ} (λ b. cond b 1 0) (nat_list_eq_equiv.refl k))
stands_at k (x ∷ xs) (suc i) lt is =
    omega (arith, sum_by-cons (λ y. cond (same_text k y) 1 0) x xs, stands_at k xs i (omega (arith, lt)) is)

-- the count of the one key at a place is set
count_again : (f g : Text → ℕ) (k : Text) (ks : List Text) (i : ℕ) → SameElsewhere f g k → count_by (same_text k) ks ≡ 1 → i < length ks → get_or ks i [] ≡ k → set (map f ks) i (g k) ≡ map g ks
count_again f g k [] i same one lt is = absurd (omega (arith, lt))
count_again f g k (x ∷ xs) zero same one lt is =
    let more = sum_by-cons (λ y. cond (same_text k y) 1 0) x xs in
    let own : cond {A = ℕ} (same_text k x) 1 0 ≡ 1 = ap {B = ℕ} (λ y. cond (same_text k y) 1 0) is ∙ ap {B = ℕ} (λ b. cond b 1 0) (nat_list_eq_equiv.refl k) in
    let rest : count_by (same_text k) xs ≡ 0 = omega (arith, more, one, own) in
    ap (λ y. g y ∷ map f xs) (sym is) ∙ ap (λ l. g x ∷ l) (counts_same f g k xs same rest)
count_again f g k (x ∷ xs) (suc i) same one lt is =
    let more = sum_by-cons (λ y. cond (same_text k y) 1 0) x xs in
    let within : i < length xs = omega (arith, lt) in
    let there = stands_at k xs i within is in
    elim (same_text k x) as (λ b. same_text k x ≡ b → f x ∷ set (map f xs) i (g k) ≡ g x ∷ map g xs) [
      | true ↦ λ e. absurd (omega (arith, more, one, there, ap {B = ℕ} (λ b. cond b 1 0) e))
      | false ↦ λ e.
          let rest : count_by (same_text k) xs ≡ 1 = omega (arith, more, one, ap {B = ℕ} (λ b. cond b 1 0) e) in
          ap (λ n. n ∷ set (map f xs) i (g k)) (same x e) ∙ ap (λ l. g x ∷ l) (count_again f g k xs i same rest within is)
    ] refl

-- The numbers of the issuers.

in_turn-known : (k : Text) (ks : List Text) → list_any (same_text k) ks ≡ true → in_turn (k ∷ ks) ≡ in_turn ks
in_turn-known k ks e = ap (λ b. reverse (cond b (unique_keys same_text ks) (k ∷ unique_keys same_text ks))) e

in_turn-new : (k : Text) (ks : List Text) → list_any (same_text k) ks ≡ false → in_turn (k ∷ ks) ≡ in_turn ks ++ k ∷ []
in_turn-new k ks e = ap (λ b. reverse (cond b (unique_keys same_text ks) (k ∷ unique_keys same_text ks))) e ∙ reverse_onto (unique_keys same_text ks) k []

number-known : (i k : Text) (ks : List Text) → list_any (same_text k) ks ≡ true → number_of (i ∷ ks) k ≡ number_of ks k
number-known i k ks e = ap (λ b. if b then number_of ks k else distinct_count same_text ks) e

number-new : (i k : Text) (ks : List Text) → list_any (same_text k) ks ≡ false → number_of (i ∷ ks) k ≡ length (in_turn ks)
number-new i k ks e = ap (λ b. if b then number_of ks k else distinct_count same_text ks) e ∙ sym (length-reverse (unique_keys same_text ks))

-- who issued a block stands at his number
record IsNumber (ks : List Text) (k : Text) : Type 0 where
  within : number_of ks k < length (in_turn ks)
  is : get_or (in_turn ks) (number_of ks k) [] ≡ k

number_is : (k : Text) (ks : List Text) → list_any (same_text k) ks ≡ true → IsNumber ks k
number_is k [] never = absurd (true≢false (sym never))
number_is k (x ∷ xs) among =
    elim (list_any (same_text k) xs) as (λ b. list_any (same_text k) xs ≡ b → (same_text k x || b) ≡ true → IsNumber (x ∷ xs) k) [
      | true ↦ λ e _. elim (list_any (same_text x) xs) as (λ b. list_any (same_text x) xs ≡ b → IsNumber (x ∷ xs) k) [
        | true ↦ λ is. earlier e (number_is k xs e) [] (in_turn-known x xs is ∙ sym (append-nil (in_turn xs)))
        | false ↦ λ is. earlier e (number_is k xs e) (x ∷ []) (in_turn-new x xs is)
      ] refl
      | false ↦ λ e here. last e (same_is k x (own here))
    ] refl among
  where
    earlier : list_any (same_text k) xs ≡ true → IsNumber xs k → (more : List Text) → in_turn (x ∷ xs) ≡ in_turn xs ++ more → IsNumber (x ∷ xs) k
    earlier e was more turn =
        let same = number-known x k xs e in
        record {
          within = omega (arith, was.within, same, ap length turn, length-append (in_turn xs) more);
          is = ap (λ n. get_or (in_turn (x ∷ xs)) n []) same ∙ ap (λ l. get_or l (number_of xs k) []) turn ∙ get_or-append (in_turn xs) more [] (number_of xs k) was.within ∙ was.is;
        }

    own : (same_text k x || false) ≡ true → same_text k x ≡ true
    own here = elim (same_text k x) as (λ b. (b || false) ≡ true → b ≡ true) [ true ↦ λ _. refl | false ↦ λ never. never ] here

    last : list_any (same_text k) xs ≡ false → k ≡ x → IsNumber (x ∷ xs) k
    last e is =
        let turn = in_turn-new x xs (ap (λ y. list_any (same_text y) xs) (sym is) ∙ e) in
        let number = number-new x k xs e in
        record {
          within = omega (arith, number, ap length turn, length-append (in_turn xs) (x ∷ []));
          is = ap (λ n. get_or (in_turn (x ∷ xs)) n []) number ∙ ap (λ l. get_or l (length (in_turn xs)) []) turn ∙ get_or-append_seam (in_turn xs) x [] [] ∙ sym is;
        }

pub length-numbers : (ks : List Text) → length (numbers_of ks) ≡ length ks
length-numbers [] = refl
length-numbers (k ∷ ks) = ap suc (length-numbers ks)

-- who stands in a list is among it
among_at : (ks : List Text) (j : ℕ) → j < length ks → list_any (same_text (get_or ks j [])) ks ≡ true
among_at ks j lt = list_any_at (same_text (get_or ks j [])) ks j [] lt (nat_list_eq_equiv.refl (get_or ks j []))

number_at : (ks : List Text) (j : ℕ) → j < length ks → get_or (numbers_of ks) j 0 ≡ number_of ks (get_or ks j [])
number_at [] j lt = absurd (omega (arith, lt))
number_at (k ∷ ks) zero lt = refl
number_at (k ∷ ks) (suc j) lt =
    let within : j < length ks = omega (arith, lt) in
    number_at ks j within ∙ sym (number-known k (get_or ks j []) ks (among_at ks j within))

-- One count set.

counts_set : (f g : Text → ℕ) (k : Text) (ks : List Text) → SameElsewhere f g k → list_any (same_text k) ks ≡ true → set (map f (in_turn ks)) (number_of ks k) (g k) ≡ map g (in_turn ks)
counts_set f g k ks same among =
    let at = number_is k ks among in
    count_again f g k (in_turn ks) (number_of ks k) same (stands_once-reverse k ks ∙ ap (λ b. cond b 1 0) among) at.within at.is

count_of_key : (f : Text → ℕ) (k : Text) (ks : List Text) → list_any (same_text k) ks ≡ true → get_or (map f (in_turn ks)) (number_of ks k) 0 ≡ f k
count_of_key f k ks among =
    let at = number_is k ks among in
    get_or-map f (in_turn ks) (number_of ks k) [] 0 at.within ∙ ap f at.is

-- Blocks that differ by one of k.

-- the second has one block of k more
record HasOneMore (fr more : List Text) (k : Text) : Type 0 where
  each : (j : Text) → blocks_of more j ≡ blocks_of fr j + cond (same_text j k) 1 0

elsewhere : (fr more : List Text) (k : Text) → HasOneMore fr more k → SameElsewhere (blocks_of fr) (blocks_of more) k
elsewhere fr more k one j e = omega (arith, one.each j, ap {B = ℕ} (λ b. cond {A = ℕ} b 1 0) (nat_list_eq_equiv.symm j k ∙ e))

own_more : (fr more : List Text) (k : Text) → HasOneMore fr more k → blocks_of more k ≡ blocks_of fr k + 1
own_more fr more k one = omega (arith, one.each k, ap {B = ℕ} (λ b. cond {A = ℕ} b 1 0) (nat_list_eq_equiv.refl k))

more_first : (fr : List Text) (k : Text) → HasOneMore fr (k ∷ fr) k
more_first fr k = record { each = λ j. omega (arith, blocks_of-cons k fr j) }

more_last : (fr : List Text) (k : Text) → HasOneMore fr (fr ++ k ∷ []) k
more_last fr k = record { each = λ j. sum_by_push (λ x. cond (same_text j x) 1 0) fr k }

-- the counts of the first, raised at the number of k, are those of the second; and back
module _ (ks fr more : List Text) (k : Text) (one : HasOneMore fr more k) (among : list_any (same_text k) ks ≡ true) where
  raised : set (map (blocks_of fr) (in_turn ks)) (number_of ks k) (get_or (map (blocks_of fr) (in_turn ks)) (number_of ks k) 0 + 1) ≡ map (blocks_of more) (in_turn ks)
  raised =
      ap (λ n. set (map (blocks_of fr) (in_turn ks)) (number_of ks k) (n + 1)) (count_of_key (blocks_of fr) k ks among)
      ∙ ap (set (map (blocks_of fr) (in_turn ks)) (number_of ks k)) (sym (own_more fr more k one))
      ∙ counts_set (blocks_of fr) (blocks_of more) k ks (elsewhere fr more k one) among

  lowered : set (map (blocks_of more) (in_turn ks)) (number_of ks k) (get_or (map (blocks_of more) (in_turn ks)) (number_of ks k) 0 - 1) ≡ map (blocks_of fr) (in_turn ks)
  lowered =
      ap (λ n. set (map (blocks_of more) (in_turn ks)) (number_of ks k) (n - 1)) (count_of_key (blocks_of more) k ks among ∙ own_more fr more k one)
      ∙ ap (set (map (blocks_of more) (in_turn ks)) (number_of ks k)) (omega arith)
      ∙ counts_set (blocks_of more) (blocks_of fr) k ks (λ j e. sym (elsewhere fr more k one j e)) among

  some_more : 0 < get_or (map (blocks_of more) (in_turn ks)) (number_of ks k) 0
  some_more = omega (arith, count_of_key (blocks_of more) k ks among, own_more fr more k one)

-- an issuer has a last block where it has any
has_last : (k : Text) (ks : List Text) → is_some (last_place ks k) ≡ list_any (same_text k) ks
has_last k [] = refl
has_last k (x ∷ xs) =
    elim (same_text k x) as (λ b. is_some (if b then Some (length xs) else last_place xs k) ≡ (b || list_any (same_text k) xs)) [
      | true ↦ refl
      | false ↦ has_last k xs
    ]

pub last_place-below : (k : Text) (ks : List Text) (p : ℕ) → last_place ks k ≡ Some p → p < length ks
last_place-below k [] p found = absurd (none-some p found)
last_place-below k (x ∷ xs) p found =
    elim (same_text k x) as (λ b. (if b then Some (length xs) else last_place xs k) ≡ Some p → p < suc (length xs)) [
      | true ↦ λ is. omega (arith, same_Some _ _ is)
      | false ↦ λ is. omega (arith, last_place-below k xs p is)
    ] found

no_blocks : (k : Text) (ks : List Text) → list_any (same_text k) ks ≡ false → blocks_of ks k ≡ 0
no_blocks k [] e = refl
no_blocks k (x ∷ xs) e =
    elim (same_text k x) as (λ b. same_text k x ≡ b → (b || list_any (same_text k) xs) ≡ false → blocks_of (x ∷ xs) k ≡ 0) [
      | true ↦ λ _ never. absurd (true≢false never)
      | false ↦ λ is rest. blocks_of-cons x xs k ∙ ap (λ b. cond b 1 0 + blocks_of xs k) is ∙ zero-add _ ∙ no_blocks k xs rest
    ] refl e

pub blocks_of-le : (ks : List Text) (k : Text) → blocks_of ks k ≤ length ks
blocks_of-le ks k = count_by-le-length (same_text k) ks

-- The number of the issuer at a last place.

pub number_last : (ks : List Text) (k : Text) (p : ℕ) → last_place ks k ≡ Some p → get_or (reverse (numbers_of ks)) p 0 ≡ number_of ks k
number_last [] k p found = absurd (none-some p found)
number_last (x ∷ xs) k p found =
    rw (reverse_onto (numbers_of xs) (number_of (x ∷ xs) x) []) (elim (same_text k x) as (λ b. same_text k x ≡ b → (if b then Some (length xs) else last_place xs k) ≡ Some p → get_or (reverse (numbers_of xs) ++ number_of (x ∷ xs) x ∷ []) p 0 ≡ number_of (x ∷ xs) k) [
      | true ↦ λ e at.
          let place : length (reverse (numbers_of xs)) ≡ p = length-reverse (numbers_of xs) ∙ length-numbers xs ∙ same_Some _ _ at in
          get_or_push (reverse (numbers_of xs)) (number_of (x ∷ xs) x) 0 p place ∙ ap (number_of (x ∷ xs)) (sym (same_is k x e))
      | false ↦ λ e at.
          let within : p < length (reverse (numbers_of xs)) = omega (arith, last_place-below k xs p at, length-reverse (numbers_of xs), length-numbers xs) in
          get_or-append (reverse (numbers_of xs)) (number_of (x ∷ xs) x ∷ []) 0 p within ∙ number_last xs k p at ∙ sym (number-known x k xs (sym (has_last k xs) ∙ ap is_some at))
    ] refl found)

-- and of the block that stands so many behind the newest
number_behind : (ks : List Text) (j : ℕ) → j < length ks → get_or (reverse (numbers_of ks)) (length ks - 1 - j) 0 ≡ number_of ks (get_or ks j [])
number_behind ks j lt =
    get_or-reverse (numbers_of ks) (length ks - 1 - j) 0 (omega (arith, lt, length-numbers ks))
    ∙ ap (λ n. get_or (numbers_of ks) n 0) (omega (arith, lt, length-numbers ks))
    ∙ number_at ks j lt

-- What is kept.

length-turn : (ks : List Text) → length (in_turn ks) ≤ length ks
length-turn ks = omega (arith, length-reverse (unique_keys same_text ks), distinct_count-le same_text ks)

module _ (s : CountsState) (ks : List Text) (kept : AreCounted s ks) where
  pub length-kept : length s.numbers ≡ length ks
  length-kept = ap length kept.numbers ∙ length-reverse (numbers_of ks) ∙ length-numbers ks

  pub length-counts : length s.counts ≡ length (in_turn ks)
  length-counts = ap length kept.counts ∙ length-map (in_turn ks) (blocks_of (take s.blocks ks))

  pub length-counts-le : length s.counts ≤ length ks
  length-counts-le = omega (arith, length-counts, length-turn ks)

pub AreCounted-none : (s : CountsState) → s.counts ≡ [] → s.numbers ≡ [] → s.ranked ≡ [] → s.blocks ≡ 0 → AreCounted s []
AreCounted-none s counts numbers ranked blocks = record {
  blocks = omega (arith, blocks);
  counts = counts;
  numbers = numbers;
  ranked = rw (ranked, counts) (record { falling = λ i j le lt. absurd (omega (arith, lt)); none = refl; each = λ n more. refl });
  room = omega arith;
}

pub AreCounted-wider : (s new : CountsState) (ks : List Text) → s.counts ≡ new.counts → s.numbers ≡ new.numbers → s.ranked ≡ new.ranked → s.blocks ≡ new.blocks → s.room ≤ new.room → AreCounted s ks → AreCounted new ks
AreCounted-wider s new ks counts numbers ranked blocks room kept = record {
  blocks = omega (arith, kept.blocks, blocks);
  counts = sym counts ∙ kept.counts ∙ ap (λ n. map (blocks_of (take n ks)) (in_turn ks)) blocks;
  numbers = sym numbers ∙ kept.numbers;
  ranked = rw (← ranked, ← counts) kept.ranked;
  room = omega (arith, kept.room, room);
}

-- A block that comes.

pub entered_known : (s : CountsState) (k : Text) (ks : List Text) (p number : ℕ) → AreCounted s ks → last_place ks k ≡ Some p → number ≡ get_or s.numbers p 0 → IsEntered s number ks k
entered_known s k ks p number kept found is =
    let any : list_any (same_text k) ks ≡ true = sym (has_last k ks) ∙ ap is_some found in
    record {
      is = is ∙ ap (λ l. get_or l p 0) kept.numbers ∙ number_last ks k p found ∙ sym (number-known k k ks any);
      counts = kept.counts ∙ ap (map (blocks_of (take s.blocks ks))) (sym (in_turn-known k ks any));
      ranked = kept.ranked;
    }

pub known_within : (s : CountsState) (k : Text) (ks : List Text) (p : ℕ) → AreCounted s ks → last_place ks k ≡ Some p → p < length s.numbers
known_within s k ks p kept found = omega (arith, last_place-below k ks p found, length-kept s ks kept)

none_framed : (n : ℕ) (k : Text) (ks : List Text) → list_any (same_text k) ks ≡ false → blocks_of (take n ks) k ≡ 0
none_framed n k ks e = omega (arith, no_blocks k ks e, sum_by-take-le (λ x. cond {A = ℕ} (same_text k x) 1 0) ks n)

pub entered_new : (s new : CountsState) (k : Text) (ks : List Text) (number : ℕ) → AreCounted s ks → last_place ks k ≡ None
    → new.counts ≡ s.counts ++ 0 ∷ [] → new.ranked ≡ s.ranked → new.blocks ≡ s.blocks → number ≡ length s.counts → IsEntered new number ks k
entered_new s new k ks number kept found counts ranked blocks is =
    let none : list_any (same_text k) ks ≡ false = sym (has_last k ks) ∙ ap is_some found in
    let f : Text → ℕ = blocks_of (take s.blocks ks) in
    record {
      is = is ∙ length-counts s ks kept ∙ sym (number-new k k ks none);
      counts =
          counts
          ∙ ap (λ l. l ++ 0 ∷ []) kept.counts
          ∙ ap (λ n. map f (in_turn ks) ++ n ∷ []) (sym (none_framed s.blocks k ks none))
          ∙ sym (map-append f (in_turn ks) (k ∷ []))
          ∙ ap (map f) (sym (in_turn-new k ks none))
          ∙ ap (λ n. map (blocks_of (take n ks)) (in_turn (k ∷ ks))) (sym blocks);
      ranked = rw (ranked, counts) (ranked_zero s.ranked s.counts kept.ranked);
    }

among_first : (k : Text) (ks : List Text) → list_any (same_text k) (k ∷ ks) ≡ true
among_first k ks = ap (λ b. b || list_any (same_text k) ks) (nat_list_eq_equiv.refl k)

module _ (s : CountsState) (k : Text) (ks : List Text) (number : ℕ) (entered : IsEntered s number ks k) where
  pub entered-within : number < length s.counts
  entered-within =
      omega (arith, entered.is, (number_is k (k ∷ ks) (among_first k ks)).within, ap length entered.counts, length-map (in_turn (k ∷ ks)) (blocks_of (take s.blocks ks)))

  pub entered-few : get_or s.counts number 0 ≤ length ks
  entered-few =
      omega (arith, ap (λ n. get_or s.counts n 0) entered.is, ap (λ l. get_or l (number_of (k ∷ ks) k) 0) entered.counts, count_of_key (blocks_of (take s.blocks ks)) k (k ∷ ks) (among_first k ks), blocks_of-le (take s.blocks ks) k, length-take s.blocks ks)

  pub entered-length : length s.counts ≤ suc (length ks)
  entered-length =
      omega (arith, ap length entered.counts, length-map (in_turn (k ∷ ks)) (blocks_of (take s.blocks ks)), length-turn (k ∷ ks))

  pub AreCounted-push : (old new : CountsState) → AreCounted old ks → length ks < old.room
      → s.numbers ≡ old.numbers → s.blocks ≡ old.blocks → new.room ≡ old.room
      → new.counts ≡ set s.counts number (get_or s.counts number 0 + 1)
      → new.numbers ≡ s.numbers ++ number ∷ []
      → new.blocks ≡ s.blocks + 1
      → IsRankedOf new.ranked new.counts
      → AreCounted new (k ∷ ks)
  AreCounted-push old new kept room numbers blocks same counts longer more ranked = record {
    blocks = omega (arith, kept.blocks, blocks, more);
    counts =
        counts
        ∙ ap (λ n. set s.counts n (get_or s.counts n 0 + 1)) entered.is
        ∙ ap (λ l. set l (number_of (k ∷ ks) k) (get_or l (number_of (k ∷ ks) k) 0 + 1)) entered.counts
        ∙ raised (k ∷ ks) (take s.blocks ks) (k ∷ take s.blocks ks) k (more_first (take s.blocks ks) k) (among_first k ks)
        ∙ ap (λ n. map (blocks_of (take n (k ∷ ks))) (in_turn (k ∷ ks))) (sym (more ∙ add-one s.blocks));
    numbers =
        longer
        ∙ ap (λ l. l ++ number ∷ []) (numbers ∙ kept.numbers)
        ∙ ap (λ n. reverse (numbers_of ks) ++ n ∷ []) entered.is
        ∙ sym (reverse_onto (numbers_of ks) (number_of (k ∷ ks) k) []);
    ranked = ranked;
    room = omega (arith, room, same);
  }

-- A block that goes.

module _ (s : CountsState) (k : Text) (ks : List Text) (kept : AreCounted s (k ∷ ks)) where
  pub popped_number : (rest : List ℕ) (popped : Option ℕ) → s.numbers ≡ rest ++ option_to_list popped → (0 < length s.numbers → IsSome popped)
      → (rest ≡ reverse (numbers_of ks)) × (unwrap_or popped 0 ≡ number_of (k ∷ ks) k)
  popped_number rest None items there =
      absurd (true≢false (sym (there (omega (arith, length-kept s (k ∷ ks) kept)))))
  popped_number rest (Some n) items there =
      same_from_push rest (reverse (numbers_of ks)) n (number_of (k ∷ ks) k) (sym items ∙ kept.numbers ∙ reverse_onto (numbers_of ks) (number_of (k ∷ ks) k) [])

  pub going-within : number_of (k ∷ ks) k < length s.counts
  going-within =
      omega (arith, (number_is k (k ∷ ks) (among_first k ks)).within, length-counts s (k ∷ ks) kept)

  pub going-some : 0 < s.blocks → 0 < get_or s.counts (number_of (k ∷ ks) k) 0
  going-some some =
      let n : s.blocks ≡ suc (s.blocks - 1) = omega (arith, some) in
      let counts = kept.counts ∙ ap (λ m. map (blocks_of (take m (k ∷ ks))) (in_turn (k ∷ ks))) n in
      subst (λ l. 0 < get_or l (number_of (k ∷ ks) k) 0) (sym counts) (some_more (k ∷ ks) (take (s.blocks - 1) ks) (k ∷ take (s.blocks - 1) ks) k (more_first (take (s.blocks - 1) ks) k) (among_first k ks))

  pub IsLeft-behind : (new : CountsState) → ¬ (0 < s.blocks) → new.counts ≡ s.counts → new.numbers ≡ reverse (numbers_of ks) → new.ranked ≡ s.ranked → new.blocks ≡ s.blocks → new.room ≡ s.room → IsLeft new ks k
  IsLeft-behind new none counts numbers ranked blocks room =
      let zero_is : s.blocks ≡ 0 = omega (arith, none) in
      record {
        blocks = omega (arith, zero_is, blocks);
        counts =
            counts
            ∙ kept.counts
            ∙ ap (λ n. map (blocks_of (take n (k ∷ ks))) (in_turn (k ∷ ks))) zero_is
            ∙ ap (λ n. map (blocks_of (take n ks)) (in_turn (k ∷ ks))) (sym (blocks ∙ zero_is));
        numbers = numbers;
        ranked = rw (ranked, counts) kept.ranked;
        room = omega (arith, kept.room, room);
      }

  pub IsLeft-framed : (new : CountsState) → 0 < s.blocks
      → new.counts ≡ set s.counts (number_of (k ∷ ks) k) (get_or s.counts (number_of (k ∷ ks) k) 0 - 1)
      → new.numbers ≡ reverse (numbers_of ks)
      → IsRankedOf new.ranked new.counts
      → new.blocks + 1 ≡ s.blocks
      → new.room ≡ s.room
      → IsLeft new ks k
  IsLeft-framed new some counts numbers ranked blocks room =
      let n : s.blocks ≡ suc new.blocks = omega (arith, blocks) in
      let was = kept.counts ∙ ap (λ m. map (blocks_of (take m (k ∷ ks))) (in_turn (k ∷ ks))) n in
      record {
        blocks = omega (arith, kept.blocks, blocks);
        counts =
            counts
            ∙ ap (λ l. set l (number_of (k ∷ ks) k) (get_or l (number_of (k ∷ ks) k) 0 - 1)) was
            ∙ lowered (k ∷ ks) (take new.blocks ks) (k ∷ take new.blocks ks) k (more_first (take new.blocks ks) k) (among_first k ks);
        numbers = numbers;
        ranked = ranked;
        room = omega (arith, kept.room, room);
      }

module _ (s : CountsState) (k : Text) (ks : List Text) (left : IsLeft s ks k) where
  pub AreCounted-pop_known : (new : CountsState) (p : ℕ) → last_place ks k ≡ Some p → new ≡ s → AreCounted new ks
  AreCounted-pop_known new p found same =
      let any : list_any (same_text k) ks ≡ true = sym (has_last k ks) ∙ ap is_some found in
      subst (λ t. AreCounted t ks) (sym same) (record {
        blocks = left.blocks;
        counts = left.counts ∙ ap (map (blocks_of (take s.blocks ks))) (in_turn-known k ks any);
        numbers = left.numbers;
        ranked = left.ranked;
        room = left.room;
      })

  pub AreCounted-pop_new : (new : CountsState) (popped : Option ℕ) → last_place ks k ≡ None
      → s.counts ≡ new.counts ++ option_to_list popped → (0 < length s.counts → IsSome popped)
      → new.numbers ≡ s.numbers → new.ranked ≡ s.ranked → new.blocks ≡ s.blocks → new.room ≡ s.room
      → AreCounted new ks
  AreCounted-pop_new new popped found items there numbers ranked blocks room =
      let none : list_any (same_text k) ks ≡ false = sym (has_last k ks) ∙ ap is_some found in
      let f : Text → ℕ = blocks_of (take s.blocks ks) in
      let zero_is : f k ≡ 0 = none_framed s.blocks k ks none in
      let was : s.counts ≡ map f (in_turn ks) ++ 0 ∷ [] = left.counts ∙ ap (map f) (in_turn-new k ks none) ∙ map-append f (in_turn ks) (k ∷ []) ∙ ap (λ n. map f (in_turn ks) ++ n ∷ []) zero_is in
      let parts = ended popped items there was in
      record {
        blocks = omega (arith, left.blocks, blocks);
        counts = parts ∙ ap (λ n. map (blocks_of (take n ks)) (in_turn ks)) (sym blocks);
        numbers = numbers ∙ left.numbers;
        ranked =
            rw (ranked, parts) (ranked_unzero s.ranked (map f (in_turn ks)) (subst (IsRankedOf s.ranked) was left.ranked));
        room = omega (arith, left.room, room);
      }
    where
      ended : {l : List ℕ} (o : Option ℕ) → s.counts ≡ new.counts ++ option_to_list o → (0 < length s.counts → IsSome o) → s.counts ≡ l ++ 0 ∷ [] → new.counts ≡ l
      ended {l} None items there was =
          absurd (true≢false (sym (there (omega (arith, ap length was, length-append l (0 ∷ []))))))
      ended {l} (Some v) items there was = (same_from_push new.counts l v 0 (sym items ∙ was)).0

-- A block at the old end of the frame comes or goes: its issuer is k.

module _ (s : CountsState) (ks : List Text) (kept : AreCounted s ks) (j : ℕ) (within : j < length ks) where
  abbrev k : Text
  k = get_or ks j []

  framed : take (j + 1) ks ≡ take j ks ++ k ∷ []
  framed = take_more ks j [] within

  pub end_number : (at : ℕ) → at + (j + 1) ≡ length s.numbers → get_or s.numbers at 0 ≡ number_of ks k
  end_number at is =
      ap (λ l. get_or l at 0) kept.numbers
      ∙ ap (λ n. get_or (reverse (numbers_of ks)) n 0) (omega (arith, is, length-kept s ks kept))
      ∙ number_behind ks j within

  pub end-within : number_of ks k < length s.counts
  end-within =
      omega (arith, (number_is k ks (among_at ks j within)).within, length-counts s ks kept)

  pub end-few : get_or s.counts (number_of ks k) 0 ≤ length ks
  end-few =
      omega (arith, ap (λ l. get_or l (number_of ks k) 0) kept.counts, count_of_key (blocks_of (take s.blocks ks)) k ks (among_at ks j within), blocks_of-le (take s.blocks ks) k, length-take s.blocks ks)

  pub end-some : s.blocks ≡ j + 1 → 0 < get_or s.counts (number_of ks k) 0
  end-some is =
      let counts = kept.counts ∙ ap (λ n. map (blocks_of (take n ks)) (in_turn ks)) is ∙ ap (λ l. map (blocks_of l) (in_turn ks)) framed in
      subst (λ l. 0 < get_or l (number_of ks k) 0) (sym counts) (some_more ks (take j ks) (take j ks ++ k ∷ []) k (more_last (take j ks) k) (among_at ks j within))

  pub AreCounted-grow : (new : CountsState) → s.blocks ≡ j
      → new.counts ≡ set s.counts (number_of ks k) (get_or s.counts (number_of ks k) 0 + 1)
      → new.numbers ≡ s.numbers → IsRankedOf new.ranked new.counts → new.blocks ≡ s.blocks + 1 → new.room ≡ s.room
      → AreCounted new ks
  AreCounted-grow new is counts numbers ranked blocks room = record {
    blocks = omega (arith, within, is, blocks);
    counts =
        counts
        ∙ ap (λ l. set l (number_of ks k) (get_or l (number_of ks k) 0 + 1)) (kept.counts ∙ ap (λ n. map (blocks_of (take n ks)) (in_turn ks)) is)
        ∙ raised ks (take j ks) (take j ks ++ k ∷ []) k (more_last (take j ks) k) (among_at ks j within)
        ∙ ap (λ l. map (blocks_of l) (in_turn ks)) (sym framed)
        ∙ ap (λ n. map (blocks_of (take n ks)) (in_turn ks)) (sym (blocks ∙ ap (λ n. n + 1) is));
    numbers = numbers ∙ kept.numbers;
    ranked = ranked;
    room = omega (arith, kept.room, room);
  }

  pub AreCounted-shrink : (new : CountsState) → s.blocks ≡ j + 1
      → new.counts ≡ set s.counts (number_of ks k) (get_or s.counts (number_of ks k) 0 - 1)
      → new.numbers ≡ s.numbers → IsRankedOf new.ranked new.counts → new.blocks + 1 ≡ s.blocks → new.room ≡ s.room
      → AreCounted new ks
  AreCounted-shrink new is counts numbers ranked blocks room =
      let fewer : new.blocks ≡ j = omega (arith, is, blocks) in
      record {
        blocks = omega (arith, within, fewer);
        counts =
            counts
            ∙ ap (λ l. set l (number_of ks k) (get_or l (number_of ks k) 0 - 1)) (kept.counts ∙ ap (λ n. map (blocks_of (take n ks)) (in_turn ks)) is ∙ ap (λ l. map (blocks_of l) (in_turn ks)) framed)
            ∙ lowered ks (take j ks) (take j ks ++ k ∷ []) k (more_last (take j ks) k) (among_at ks j within)
            ∙ ap (λ n. map (blocks_of (take n ks)) (in_turn ks)) (sym fewer);
        numbers = numbers ∙ kept.numbers;
        ranked = ranked;
        room = omega (arith, kept.room, room);
      }

-- What the counts tell.

-- what stands at the number of an issuer's last block is how many blocks of the frame he has
pub last-within : (s : CountsState) (ks : List Text) (k : Text) (p : ℕ) → AreCounted s ks → last_place ks k ≡ Some p → get_or s.numbers p 0 < length s.counts
last-within s ks k p kept found =
    let any : list_any (same_text k) ks ≡ true = sym (has_last k ks) ∙ ap is_some found in
    omega (arith, ap (λ l. get_or l p 0) kept.numbers, number_last ks k p found, (number_is k ks any).within, length-counts s ks kept)

pub count_at : (s : CountsState) (ks : List Text) (k : Text) (p : ℕ) → AreCounted s ks → last_place ks k ≡ Some p → get_or s.counts (get_or s.numbers p 0) 0 ≡ blocks_of (take s.blocks ks) k
count_at s ks k p kept found =
    let any : list_any (same_text k) ks ≡ true = sym (has_last k ks) ∙ ap is_some found in
    ap (λ l. get_or s.counts (get_or l p 0) 0) kept.numbers
    ∙ ap (λ n. get_or s.counts n 0) (number_last ks k p found)
    ∙ ap (λ l. get_or l (number_of ks k) 0) kept.counts
    ∙ count_of_key (blocks_of (take s.blocks ks)) k ks any

-- who has no last block has none
pub none_counted : (n : ℕ) (ks : List Text) (k : Text) → last_place ks k ≡ None → blocks_of (take n ks) k ≡ 0
none_counted n ks k found = none_framed n k ks (sym (has_last k ks) ∙ ap is_some found)

-- a sum over keys depends only on how often each stands there that weighs anything

parted : (k : Text) (ks : List Text) → 0 < count_by (same_text k) ks → (a : List Text) × ((b : List Text) × (ks ≡ a ++ k ∷ b))
parted k [] some = absurd (omega (arith, some))
parted k (x ∷ xs) some =
    elim (same_text k x) as (λ b. same_text k x ≡ b → (a : List Text) × ((b : List Text) × (x ∷ xs ≡ a ++ k ∷ b))) [
      | true ↦ λ e. ([], (xs, ap (λ y. y ∷ xs) (sym (same_is k x e))))
      | false ↦ λ e.
          let rest = parted k xs (omega (arith, some, sum_by-cons (λ y. cond (same_text k y) 1 0) x xs, ap {B = ℕ} (λ b. cond {A = ℕ} b 1 0) e)) in
          (x ∷ rest.0, (rest.1.0, ap (λ l. x ∷ l) rest.1.1))
    ] refl

weigh-parted : (g : Text → ℕ) (a b : List Text) (k : Text) → sum_by g (a ++ k ∷ b) ≡ g k + sum_by g (a ++ b)
weigh-parted g a b k = omega (arith, sum_by-append g a (k ∷ b), sum_by-append g a b, sum_by-cons g k b)

weigh_none : (g : Text → ℕ) (vs : List Text) → ((k : Text) → 0 < g k → count_by (same_text k) vs ≡ 0) → sum_by g vs ≡ 0
weigh_none g [] none = refl
weigh_none g (v ∷ vs) none =
    let at : (k : Text) → count_by (same_text k) (v ∷ vs) ≡ cond (same_text k v) 1 0 + count_by (same_text k) vs = λ k. sum_by-cons (λ y. cond (same_text k y) 1 0) v vs in
    let first : ¬ (0 < g v) = λ some. omega (arith, none v some, at v, ap {B = ℕ} (λ b. cond {A = ℕ} b 1 0) (nat_list_eq_equiv.refl v)) in
    omega (arith, sum_by-cons g v vs, first, weigh_none g vs (λ k some. omega (arith, none k some, at k)))

weigh_same : (g : Text → ℕ) (us vs : List Text) → ((k : Text) → 0 < g k → count_by (same_text k) us ≡ count_by (same_text k) vs) → sum_by g us ≡ sum_by g vs
weigh_same g [] vs same = sym (weigh_none g vs (λ k some. sym (same k some)))
weigh_same g (u ∷ us) vs same = elim (cases_lt 0 (g u)) [ inl some ↦ counted some (weigh_same g us) | inr none ↦ omega (arith, sum_by-cons g u us, none, weigh_same g us vs (λ k some. skipped (omega (arith, none)) k some)) ]
  where
    at : (k : Text) → count_by (same_text k) (u ∷ us) ≡ cond (same_text k u) 1 0 + count_by (same_text k) us
    at k = sum_by-cons (λ y. cond (same_text k y) 1 0) u us

    skipped : g u ≡ 0 → (k : Text) → 0 < g k → count_by (same_text k) us ≡ count_by (same_text k) vs
    skipped none k some =
        elim (same_text k u) as (λ b. same_text k u ≡ b → count_by (same_text k) us ≡ count_by (same_text k) vs) [
          | true ↦ λ e. absurd (omega (arith, none, some, ap g (same_is k u e)))
          | false ↦ λ e. omega (arith, same k some, at k, ap {B = ℕ} (λ b. cond {A = ℕ} b 1 0) e)
        ] refl

    counted : 0 < g u → ((ws : List Text) → ((k : Text) → 0 < g k → count_by (same_text k) us ≡ count_by (same_text k) ws) → sum_by g us ≡ sum_by g ws) → sum_by g (u ∷ us) ≡ sum_by g vs
    counted some others =
        let parts = parted u vs (omega (arith, same u some, at u, ap {B = ℕ} (λ b. cond {A = ℕ} b 1 0) (nat_list_eq_equiv.refl u))) in
        let a = parts.0 in
        let b = parts.1.0 in
        let is = parts.1.1 in
        let rest = others (a ++ b) (λ k more. omega (arith, same k more, at k, ap (count_by (same_text k)) is, weigh-parted (λ y. cond (same_text k y) 1 0) a b u)) in
        omega (arith, sum_by-cons g u us, rest, ap (sum_by g) is, weigh-parted g a b u)

count_of-map : (n : ℕ) (f : Text → ℕ) (ks : List Text) → count_of n (map f ks) ≡ sum_by (λ k. cond (f k == n) 1 0) ks
count_of-map n f [] = refl
count_of-map n f (x ∷ xs) =
    sum_by-cons (λ t. cond (t == n) 1 0) (f x) (map f xs)
    ∙ ap (λ m. cond (f x == n) 1 0 + m) (count_of-map n f xs)
    ∙ sym (sum_by-cons (λ k. cond (f k == n) 1 0) x xs)

weighs : (m n : ℕ) → 0 < cond {A = ℕ} (m == n) 1 0 → m ≡ n
weighs m n some = grind (arith, nat_tests)

among_some : (k : Text) (ks : List Text) → 0 < blocks_of ks k → list_any (same_text k) ks ≡ true
among_some k ks some =
    elim (list_any (same_text k) ks) as (λ b. list_any (same_text k) ks ≡ b → b ≡ true) [
      | true ↦ λ _. refl
      | false ↦ λ e. absurd (omega (arith, some, no_blocks k ks e))
    ] refl

none_among : (k : Text) (ks : List Text) → blocks_of ks k ≡ 0 → list_any (same_text k) ks ≡ false
none_among k [] none = refl
none_among k (x ∷ xs) none =
    elim (same_text k x) as (λ b. same_text k x ≡ b → (b || list_any (same_text k) xs) ≡ false) [
      | true ↦ λ e. absurd (omega (arith, none, blocks_of-cons x xs k, ap {B = ℕ} (λ b. cond {A = ℕ} b 1 0) e))
      | false ↦ λ e. none_among k xs (omega (arith, none, blocks_of-cons x xs k))
    ] refl

-- the ranked counts are those of the issuers of the frame
module _ (s : CountsState) (ks : List Text) (kept : AreCounted s ks) where
  abbrev fr : List Text
  fr = take s.blocks ks

  abbrev us : List Text
  us = unique_keys same_text fr

  none_zero : count_of 0 (map (blocks_of fr) us) ≡ 0
  none_zero =
      count_of-map 0 (blocks_of fr) us
      ∙ weigh_none (λ k. cond (blocks_of fr k == 0) 1 0) us (λ k some. stands_once k fr ∙ ap (λ b. cond b 1 0) (none_among k fr (weighs (blocks_of fr k) 0 some)))

  once : (n : ℕ) → 0 < n → (k : Text) → 0 < cond {A = ℕ} (blocks_of fr k == n) 1 0 → count_by (same_text k) (in_turn ks) ≡ count_by (same_text k) us
  once n more k some =
      let has : 0 < blocks_of fr k = omega (arith, more, weighs (blocks_of fr k) n some) in
      let in_all : 0 < blocks_of ks k = omega (arith, has, sum_by-take-le (λ x. cond {A = ℕ} (same_text k x) 1 0) ks s.blocks) in
      stands_once-reverse k ks ∙ ap (λ b. cond b 1 0) (among_some k ks in_all ∙ sym (among_some k fr has)) ∙ sym (stands_once k fr)

  each_framed : (n : ℕ) → count_of n s.ranked ≡ count_of n (map (blocks_of fr) us)
  each_framed zero = kept.ranked.none ∙ sym none_zero
  each_framed (suc n) =
      let more : 0 < suc n = omega arith in
      kept.ranked.each (suc n) more
      ∙ ap (count_of (suc n)) kept.counts
      ∙ count_of-map (suc n) (blocks_of fr) (in_turn ks)
      ∙ weigh_same (λ k. cond (blocks_of fr k == suc n) 1 0) (in_turn ks) us (once (suc n) more)
      ∙ sym (count_of-map (suc n) (blocks_of fr) us)

  pub framed_counts : SameTimes s.ranked (map (blocks_of fr) us)
  framed_counts = record { each = each_framed }

pub issuers_counted : (s : CountsState) (ks : List Text) → AreCounted s ks → length s.ranked ≡ distinct_count same_text (take s.blocks ks)
issuers_counted s ks kept =
    let fr = take s.blocks ks in
    SameTimes_length s.ranked (map (blocks_of fr) (unique_keys same_text fr)) (framed_counts s ks kept) ∙ length-map (unique_keys same_text fr) (blocks_of fr)

pub doubled_counts : (s : CountsState) (ks : List Text) → AreCounted s ks → doubled_median s.ranked ≡ doubled_median (map (blocks_of (take s.blocks ks)) (unique_keys same_text (take s.blocks ks)))
doubled_counts s ks kept = doubled_median-same _ _ (framed_counts s ks kept)

-- and each is at most the number of blocks
counts-le : (n : ℕ) (ks js : List Text) → 0 < count_of n (map (blocks_of ks) js) → n ≤ length ks
counts-le n ks [] some = absurd (omega (arith, some))
counts-le n ks (j ∷ js) some =
    elim (cases_lt 0 (cond {A = ℕ} (blocks_of ks j == n) 1 0)) [ inl here ↦ omega (arith, weighs (blocks_of ks j) n here, blocks_of-le ks j) | inr not ↦ counts-le n ks js (omega (arith, some, not, sum_by-cons (λ t. cond (t == n) 1 0) (blocks_of ks j) (map (blocks_of ks) js))) ]

pub ranked-le : (s : CountsState) (ks : List Text) (i : ℕ) → AreCounted s ks → i < length s.ranked → get_or s.ranked i 0 ≤ length ks
ranked-le s ks i kept lt =
    let fr = take s.blocks ks in
    let n = get_or s.ranked i 0 in
    let there : 0 < count_of n (map (blocks_of fr) (unique_keys same_text fr)) = subst (λ m. 0 < m) ((framed_counts s ks kept).each n) (times_at s.ranked i 0 lt) in
    omega (arith, counts-le n fr (unique_keys same_text fr) there, length-take s.blocks ks)

-- From a test of the place before.

pub none_from : (o : Option ℕ) → is_some o ≡ false → o ≡ None
none_from None e = refl
none_from (Some p) e = absurd (true≢false e)

pub some_from : (o : Option ℕ) → is_some o ≡ true → (p : ℕ) × (o ≡ Some p)
some_from None e = absurd (true≢false (sym e))
some_from (Some p) e = (p, refl)
