-- The rows of the index are those of the definition: numbered, with the accounts of their conditions.
use Rattle.std.proofs.Common.{◌≡◌, ℕ, ◌+◌, ◌<◌, Bool, true, false, cond, not, ◌&&◌, ◌==◌, List, [], ◌∷◌, ◌++◌, Some, option_map, map, filter, sum_by, nat_lt, refl, ap, sym, ◌∙◌, subst, inl, inr, arith}
use Rattle.std.specs.Prelude.{find}
use Rattle.std.specs.List.{AllByRecursion, enumerate_from}
use Rattle.std.proofs.lemmas.List.Elements.{filter_agree}
use Rattle.std.proofs.lemmas.List.Folds.{list_any-append}
use Rattle.std.proofs.lemmas.List.Sums.{sum_by-cons}
use Rattle.dubp_atoms.specs.Same.{Text, same_text}
use Rattle.dubp_cond.specs.Conditions.{cond_text}
use Rattle.dubp_cond.specs.declared.source.SourceId.{SourceId}
use Rattle.dubp_block.specs.declared.block.Block.{Block}
use Rattle.dubp_chain.specs.Chains.{Chain}
use Rattle.dubp_chain.specs.Money.{Source, same_source, units_of, used, among, is_left, made_sources, cleared_by, cleared}
use Rattle.dubp_laws.specs.OfValidity.{Clear}
use Rattle.dubp_laws.specs.OfValidity.{input_of}
use Rattle.dubp_chain.specs.Tables.{row_of_source, source_row}
use Rattle.dubp_laws.proofs.OfLists.{IsIn, in_all, filter_on, filter_twice}
use Rattle.dubp_laws.proofs.Sources.{SourcesApart, sources-filter}
use Rattle.dubp_laws.proofs.Spending.{Pays}
use Rattle.dubp_sindex.specs.Rows.{Entry, units_of_entry, is_of, of_account, row_at, Rises, IsBelow}
use Rattle.dubp_money_steps.specs.Steps.{rest, limit_of, is_small, numbered, numbered_rest}
use Rattle.dubp_money_steps.specs.Left.{text_of, entry_of, entries_of, with_account}
use Rattle.dubp_money_steps.specs.Clearing.{has_little, kept, taken, clear_record}
use Rattle.dubp_money_steps.proofs.Names.{same_names}
use Rattle.dubp_money_steps.proofs.ByBalance.{among_passed, split_gone}

-- ---- numbers beside sources

filter-map : {X Y : Type 0} (p : Y → Bool) (f : X → Y) (xs : List X) → filter p (map f xs) ≡ map f (filter (λ x. p (f x)) xs)
filter-map p f [] = refl
filter-map p f (x ∷ xs) =
    let later = filter-map p f xs in
    elim (p (f x)) as (λ r. cond r (f x ∷ filter p (map f xs)) (filter p (map f xs)) ≡ map f (cond r (x ∷ filter (λ x. p (f x)) xs) (filter (λ x. p (f x)) xs))) [ true ↦ ap (λ l. f x ∷ l) later | false ↦ later ]

pub without_numbers : (p : Source → Bool) (n : ℕ) (ss : List Source) → map (λ (q : ℕ × Source). q.1) (filter (λ (q : ℕ × Source). p q.1) (enumerate_from n ss)) ≡ filter p ss
without_numbers p n [] = refl
without_numbers p n (s ∷ ss) =
    let later = without_numbers p (n + 1) ss in
    elim (p s) as (λ r. map (λ (q : ℕ × Source). q.1) (cond r ((n, s) ∷ filter (λ (q : ℕ × Source). p q.1) (enumerate_from (n + 1) ss)) (filter (λ (q : ℕ × Source). p q.1) (enumerate_from (n + 1) ss))) ≡ cond r (s ∷ filter p ss) (filter p ss)) [
      | true ↦ ap (λ l. s ∷ l) later
      | false ↦ later
    ]

pub rest_numbered : (c : Chain) (b : Block) → map (λ (q : ℕ × Source). q.1) (numbered_rest c b) ≡ rest c b
rest_numbered c b = without_numbers (is_left (b ∷ c) (cleared c)) 0 (made_sources (b ∷ c))

pub in_map_of : {X Y : Type 0} (f : X → Y) (xs : List X) (x : X) → IsIn x xs → IsIn (f x) (map f xs)
in_map_of f [] x there = absurd there
in_map_of f (y ∷ ys) x (inl e) = inl (ap f e)
in_map_of f (y ∷ ys) x (inr there) = inr (in_map_of f ys x there)

in_rest : (c : Chain) (b : Block) (q : ℕ × Source) → IsIn q (numbered_rest c b) → IsIn q.1 (rest c b)
in_rest c b q there = subst (IsIn q.1) (rest_numbered c b) (in_map_of (λ (q : ℕ × Source). q.1) (numbered_rest c b) q there)

-- the units of rows are those of their sources
pub sum_rows : (account : Text → ℕ) (xs : List (ℕ × Source)) → sum_by units_of_entry (entries_of account xs) ≡ sum_by units_of (map (λ (q : ℕ × Source). q.1) xs)
sum_rows account [] = refl
sum_rows account (x ∷ xs) =
    sum_by-cons units_of_entry (entry_of account x) (entries_of account xs)
    ∙ ap (λ n. units_of x.1 + n) (sum_rows account xs)
    ∙ sym (sum_by-cons units_of x.1 (map (λ (q : ℕ × Source). q.1) xs))

-- ---- accounts of conditions

-- two of these conditions have one number only where they are one
abbrev pub TellsApart : (Text → ℕ) → List (ℕ × Source) → Type 0
TellsApart account sources = AllByRecursion (λ x. AllByRecursion (λ y. (account (text_of x) == account (text_of y)) ≡ same_text (text_of x) (text_of y)) sources) sources

module _ (account : Text → ℕ) (qs : List (ℕ × Source)) (apart : TellsApart account qs) where
  same_account : (x y : ℕ × Source) → IsIn x qs → IsIn y qs → (account (text_of x) == account (text_of y)) ≡ same_text (text_of x) (text_of y)
  same_account x y in_x in_y = in_all _ qs (in_all _ qs apart x in_x) y in_y

  -- the rows of the account of a source are those of its condition
  of_condition : (x : ℕ × Source) → IsIn x qs → of_account (account (text_of x)) (entries_of account qs) ≡ entries_of account (filter (λ q. same_text (text_of x) (text_of q)) qs)
  of_condition x there =
      filter-map (is_of (account (text_of x))) (entry_of account) qs
      ∙ ap (map (entry_of account)) (filter_on (λ q. account (text_of x) == account (text_of q)) (λ q. same_text (text_of x) (text_of q)) qs (λ q in_q. same_account x q there in_q))

  little_is : (limit : ℕ) (x : ℕ × Source) → IsIn x qs → has_little limit (entries_of account qs) (entry_of account x) ≡ is_small limit (map (λ (q : ℕ × Source). q.1) qs) (text_of x)
  little_is limit x there =
      ap (λ n. nat_lt n limit)
      (ap (sum_by units_of_entry) (of_condition x there)
      ∙ sum_rows account (filter (λ q. same_text (text_of x) (text_of q)) qs)
      ∙ ap (sum_by units_of) (sym (filter-map (λ (s : Source). same_text (text_of x) (cond_text s.cond)) (λ (q : ℕ × Source). q.1) qs)))

  little_rows : (limit : ℕ) → filter (has_little limit (entries_of account qs)) (entries_of account qs) ≡ entries_of account (filter (λ q. is_small limit (map (λ (q : ℕ × Source). q.1) qs) (text_of q)) qs)
  little_rows limit =
      filter-map (has_little limit (entries_of account qs)) (entry_of account) qs
      ∙ ap (map (entry_of account)) (filter_on (λ q. has_little limit (entries_of account qs) (entry_of account q)) (λ q. is_small limit (map (λ (q : ℕ × Source). q.1) qs) (text_of q)) qs (little_is limit))

  rich_rows : (limit : ℕ) → filter (λ e. not (has_little limit (entries_of account qs) e)) (entries_of account qs) ≡ entries_of account (filter (λ q. not (is_small limit (map (λ (q : ℕ × Source). q.1) qs) (text_of q))) qs)
  rich_rows limit =
      filter-map (λ e. not (has_little limit (entries_of account qs) e)) (entry_of account) qs
      ∙ ap (map (entry_of account)) (filter_on (λ q. not (has_little limit (entries_of account qs) (entry_of account q))) (λ q. not (is_small limit (map (λ (q : ℕ × Source). q.1) qs) (text_of q))) qs (λ q there. ap not (little_is limit q there)))

-- ---- in order

from_on : (account : Text → ℕ) (p : Source → Bool) (k n : ℕ) (ss : List Source) → k < n → IsBelow k (entries_of account (filter (λ (q : ℕ × Source). p q.1) (enumerate_from n ss)))
from_on account p k n [] below = tt
from_on account p k n (s ∷ ss) below =
    let later = from_on account p k (n + 1) ss (omega (arith, below)) in
    elim (p s) as (λ r. IsBelow k (entries_of account (cond r ((n, s) ∷ filter (λ (q : ℕ × Source). p q.1) (enumerate_from (n + 1) ss)) (filter (λ (q : ℕ × Source). p q.1) (enumerate_from (n + 1) ss))))) [ true ↦ (below, later) | false ↦ later ]

pub rises_from : (account : Text → ℕ) (p : Source → Bool) (n : ℕ) (ss : List Source) → Rises (entries_of account (filter (λ (q : ℕ × Source). p q.1) (enumerate_from n ss)))
rises_from account p n [] = tt
rises_from account p n (s ∷ ss) =
    let later = rises_from account p (n + 1) ss in
    elim (p s) as (λ r. Rises (entries_of account (cond r ((n, s) ∷ filter (λ (q : ℕ × Source). p q.1) (enumerate_from (n + 1) ss)) (filter (λ (q : ℕ × Source). p q.1) (enumerate_from (n + 1) ss))))) [ true ↦ (from_on account p n (n + 1) ss (omega arith), later) | false ↦ later ]

pub names_of : (account : Text → ℕ) (qs : List (ℕ × Source)) → map (λ (e : Entry). e.0) (entries_of account qs) ≡ map (λ (s : Source). s.id) (map (λ (q : ℕ × Source). q.1) qs)
names_of account [] = refl
names_of account (q ∷ qs) = ap (λ l. q.1.id ∷ l) (names_of account qs)

module _ (account : Text → ℕ) (c : Chain) (b : Block) (p : Pays c b) (apart : TellsApart account (numbered_rest c b)) where
  rest_apart : SourcesApart (rest c b)
  rest_apart = sources-filter (is_left (b ∷ c) (cleared c)) (made_sources (b ∷ c)) p.once

  -- what is left of the numbered
  numbered-step : numbered (b ∷ c) ≡ filter (λ q. not (is_small (limit_of (b ∷ c)) (rest c b) (text_of q))) (numbered_rest c b)
  numbered-step =
      let small = cleared_by c b (cleared c) in
      filter_agree (λ (q : ℕ × Source). is_left (b ∷ c) (cleared c ++ small) q.1) (λ q. is_left (b ∷ c) (cleared c) q.1 && not (among small q.1))
      (λ q. ap (λ x. not (used (b ∷ c) q.1) && not x) (list_any-append (λ other. same_source q.1.id other.id) (cleared c) small)
      ∙ split_gone (used (b ∷ c) q.1) (among (cleared c) q.1) (among small q.1)) (enumerate_from 0 (made_sources (b ∷ c)))
      ∙ sym (filter_twice (λ (q : ℕ × Source). not (among small q.1)) (λ (q : ℕ × Source). is_left (b ∷ c) (cleared c) q.1) (enumerate_from 0 (made_sources (b ∷ c))))
      ∙ filter_on (λ (q : ℕ × Source). not (among small q.1)) (λ q. not (is_small (limit_of (b ∷ c)) (rest c b) (text_of q))) (numbered_rest c b)
      (λ q there. ap not (among_passed (λ s. is_small (limit_of (b ∷ c)) (rest c b) (cond_text s.cond)) (rest c b) rest_apart q.1 (in_rest c b q there)))

  records_of : (qs : List (ℕ × Source)) → map clear_record (entries_of account qs) ≡ map (λ (s : Source). Clear (input_of s)) (map (λ (q : ℕ × Source). q.1) qs)
  records_of [] = refl
  records_of (q ∷ qs) = ap (λ l. Clear (input_of q.1) ∷ l) (records_of qs)

  pub left_is : kept (limit_of (b ∷ c)) (entries_of account (numbered_rest c b)) ≡ entries_of account (numbered (b ∷ c))
  left_is =
      rich_rows account (numbered_rest c b) apart (limit_of (b ∷ c))
      ∙ ap (λ ss. entries_of account (filter (λ q. not (is_small (limit_of (b ∷ c)) ss (text_of q))) (numbered_rest c b))) (rest_numbered c b)
      ∙ ap (entries_of account) (sym numbered-step)

  pub taken_is : map clear_record (taken (limit_of (b ∷ c)) (entries_of account (numbered_rest c b))) ≡ map (λ (s : Source). Clear (input_of s)) (cleared_by c b (cleared c))
  taken_is =
      ap (map clear_record) (little_rows account (numbered_rest c b) apart (limit_of (b ∷ c)))
      ∙ ap (λ ss. map clear_record (entries_of account (filter (λ q. is_small (limit_of (b ∷ c)) ss (text_of q)) (numbered_rest c b)))) (rest_numbered c b)
      ∙ records_of (filter (λ q. is_small (limit_of (b ∷ c)) (rest c b) (text_of q)) (numbered_rest c b))
      ∙ ap (map (λ (s : Source). Clear (input_of s)))
      (sym (filter-map (λ (s : Source). is_small (limit_of (b ∷ c)) (rest c b) (cond_text s.cond)) (λ (q : ℕ × Source). q.1) (numbered_rest c b))
      ∙ ap (filter (λ (s : Source). is_small (limit_of (b ∷ c)) (rest c b) (cond_text s.cond))) (rest_numbered c b))

-- ---- the row at a name

pub rows_are_at : (account : Text → ℕ) (c : Chain) (id : SourceId) → row_at id (entries_of account (numbered c)) ≡ option_map (with_account account) (source_row c id)
rows_are_at account c id = ap (λ same. option_map (λ (e : Entry). e.1) (find (λ (e : Entry). same id e.0) (entries_of account (numbered c)))) same_names ∙ at 0 (made_sources c)
  where
    at : (n : ℕ) (ss : List Source) → option_map (λ (e : Entry). e.1) (find (λ (e : Entry). same_source id e.0) (entries_of account (filter (λ (q : ℕ × Source). is_left c (cleared c) q.1) (enumerate_from n ss))))
        ≡ option_map (with_account account) (option_map row_of_source (find (λ (q : ℕ × Source). same_source id q.1.id && is_left c (cleared c) q.1) (enumerate_from n ss)))
    at n [] = refl
    at n (s ∷ ss) =
        let kept = filter (λ (q : ℕ × Source). is_left c (cleared c) q.1) (enumerate_from (n + 1) ss) in
        let found = find (λ (q : ℕ × Source). same_source id q.1.id && is_left c (cleared c) q.1) (enumerate_from (n + 1) ss) in
        elim (is_left c (cleared c) s) as (λ r. option_map (λ (e : Entry). e.1) (find (λ (e : Entry). same_source id e.0) (entries_of account (cond r ((n, s) ∷ kept) kept))) ≡ option_map (with_account account) (option_map row_of_source (cond (same_source id s.id && r) (Some (n, s)) found))) [
          | true ↦ elim (same_source id s.id) as (λ m. option_map (λ (e : Entry). e.1) (cond m (Some (entry_of account (n, s))) (find (λ (e : Entry). same_source id e.0) (entries_of account kept))) ≡ option_map (with_account account) (option_map row_of_source (cond (m && true) (Some (n, s)) found))) [
            | true ↦ refl
            | false ↦ at (n + 1) ss
          ]
          | false ↦ elim (same_source id s.id) as (λ m. option_map (λ (e : Entry). e.1) (find (λ (e : Entry). same_source id e.0) (entries_of account kept)) ≡ option_map (with_account account) (option_map row_of_source (cond (m && false) (Some (n, s)) found))) [ true ↦ at (n + 1) ss | false ↦ at (n + 1) ss ]
        ]
