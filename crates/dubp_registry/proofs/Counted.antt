-- The numbers that the index of certifications counts in the rows that a chain leaves are those of the chain.
use Rattle.std.proofs.Common.{◌≡◌, ℕ, ◌+◌, ◌≤◌, Bool, true, false, cond, ◌&&◌, ◌||◌, List, [], ◌∷◌, Option, None, Some, refl, sym, ap, subst, ◌∙◌, true≢false, arith}
use Rattle.std.specs.Prelude.{T, map, filter, option_map, count_by}
use Rattle.std.specs.List.{AllByRecursion, list_any}
use Rattle.std.specs.List.Sorted.{IsStrictlySortedBy}
use Rattle.std.specs.Option.{option_map_or, MatchOption, IfSome, IsSomeAnd}
use Rattle.std.specs.Ordering.{eq_by_cmp, is_lt}
use Rattle.std.specs.declared.cmp.Ordering.{Ordering}
use Rattle.std.specs.declared.cmp.Ordering.TheVariants.{Less, Equal, Greater}
use Rattle.std.specs.Map.{lookup, keys_of}
use Rattle.std.specs.BTreeMap.{is_at}
use Rattle.std.specs.FinMap.{get, entries, entries_sorted, get-entries, is_sorted}
use Rattle.std.specs.FinMap as finite
use Rattle.std.specs.FinMap.Entries.{below_all}
use Rattle.std.proofs.lemmas.Map.Made.{lookup-map_values, keys_of-map_values}
use Rattle.std.proofs.lemmas.List.Sums.{sum_by-cons}
use Rattle.dubp_atoms.specs.Same.{Text}
use Rattle.dubp_left.specs.OfChain.{Chain}
use Rattle.dubp_left.specs.OfChain.{received, stock, wrote}
use Rattle.dubp_left.specs.OfChain.{CertificationRow, certification_row}
use Rattle.dubp_left.specs.OfFacts.{IsSound}
use Rattle.dubp_left.specs.OfSteps.{pair_cmp}
use Rattle.dubp_left.specs.OfSteps.counts as steps
use Rattle.dubp_left.specs.OfSteps.{IsTableOf, IsGreatestWritten}
use Rattle.dubp_left.proofs.OfSteps.{received_is_of_table, stock_is_of_table, wrote_is_greatest}
use Rattle.dubp_cindex.specs.declared.row.CertRow.{CertRow}
use Rattle.dubp_cindex.specs.declared.row.IssuerRow.{IssuerRow}
use Rattle.dubp_cindex.specs.Rows.{Rows, Entry, live_to, live_from, is_from, received_in, stock_in, greatest, written_in, issuer_in}
use Rattle.std.proofs.lemmas.Option.{none-some}
use Rattle.std.proofs.Common.{inl, inr}
use Rattle.dubp_cindex.proofs.Texts.{same_text_is, same_text_own}
use Rattle.dubp_cindex.proofs.Walked.{IsIn}
use Rattle.dubp_cindex.proofs.Entries.{got_in, in_got}
use Rattle.dubp_left.specs.Left.{cert_entry, certifications_left}
use Rattle.dubp_left.proofs.Left.{certifications-at}

abbrev Pair : Type 0
Pair = Text × Text

-- the row of the chain of an entry
abbrev told : CertRow → CertificationRow
told row = record { made = row.made; written = row.written; is_live = row.live }

abbrev told_all : List Entry → List (Pair × CertificationRow)
told_all es = map (λ (e : Entry). (e.0, told e.1)) es

told_back : (o : Option CertificationRow) → option_map told (option_map cert_entry o) ≡ o
told_back None = refl
told_back (Some row) = refl

-- ---- the entries are a table of the chain

less : (o : Ordering) → T (is_lt o) → o ≡ Less
less Less h = refl
less Equal h = absurd h
less Greater h = absurd h

both_0 : (a b : Bool) → T (a && b) → T a
both_0 true b h = tt
both_0 false b h = absurd h

both_1 : (a b : Bool) → T (a && b) → T b
both_1 true b h = h
both_1 false b h = absurd h

below : (x : Pair) (es : List Entry) → T (below_all pair_cmp x es) → AllByRecursion (λ y. pair_cmp x y ≡ Less) (keys_of es)
below x [] h = tt
below x (e ∷ es) h = (less (pair_cmp x e.0) (both_0 _ _ h), below x es (both_1 _ _ h))

rising : (es : List Entry) → T (is_sorted pair_cmp es) → IsStrictlySortedBy pair_cmp (keys_of es)
unfolding IsStrictlySortedBy
rising [] h = tt
rising (e ∷ es) h = (below e.0 es (both_0 _ _ h), rising es (both_1 _ _ h))

looked : (q : Pair) (es : List Entry) → lookup (is_at (pair_cmp q)) es ≡ finite.find pair_cmp q es
looked q [] = refl
looked q (e ∷ es) = ap (cond (eq_by_cmp pair_cmp q e.0) (Some e.1)) (looked q es)

is_table : (c : Chain) → IsTableOf c (told_all (entries (certifications_left c)))
is_table c =
    let es = entries (certifications_left c) in
    record {
      sorted = subst (IsStrictlySortedBy pair_cmp) (sym (keys_of-map_values told es)) (rising es (entries_sorted (certifications_left c)));
      is = λ x y.
          lookup-map_values told (is_at (pair_cmp (x, y))) es
          ∙ ap (option_map told) (looked (x, y) es ∙ sym (get-entries (certifications_left c) (x, y)) ∙ certifications-at c (x, y))
          ∙ told_back (certification_row c x y);
    }

-- ---- how many live to a key, and from one

counted : (p : Pair × CertificationRow → Bool) (q : Entry → Bool) → ((e : Entry) → p (e.0, told e.1) ≡ q e) → (es : List Entry) → count_by q es ≡ count_by p (told_all es)
counted p q same [] = refl
counted p q same (e ∷ es) =
    sum_by-cons (λ (x : Entry). cond (q x) 1 0) e es
    ∙ (λ i. cond (sym (same e) i) 1 0 + counted p q same es i)
    ∙ sym (sum_by-cons (λ (x : Pair × CertificationRow). cond (p x) 1 0) (e.0, told e.1) (told_all es))

pub received-counted : (c : Chain) (k : Text) → received_in (certifications_left c) k ≡ received c k
received-counted c k =
    counted (steps.live_to k) (live_to k) (λ e. refl) (entries (certifications_left c)) ∙ received_is_of_table c (told_all (entries (certifications_left c))) (is_table c) k

stock-counted : (c : Chain) (k : Text) → stock_in (certifications_left c) k ≡ stock c k
stock-counted c k =
    counted (steps.live_from k) (live_from k) (λ e. refl) (entries (certifications_left c)) ∙ stock_is_of_table c (told_all (entries (certifications_left c))) (is_table c) k

-- who has no row has issued nothing that lives
none_from : (k : Text) (es : List Entry) → list_any (is_from k) es ≡ false → count_by (live_from k) es ≡ 0
none_from k [] h = refl
none_from k (e ∷ es) h =
    sum_by-cons (λ (x : Entry). cond (live_from k x) 1 0) e es
    ∙ (λ i. cond (ap (λ b. b && e.1.live) (first (is_from k e) (list_any (is_from k) es) h) i) 1 0 + none_from k es (second (is_from k e) (list_any (is_from k) es) h) i)
  where
    first : (a b : Bool) → (a || b) ≡ false → a ≡ false
    first true b h = h
    first false b h = refl

    second : (a b : Bool) → (a || b) ≡ false → b ≡ false
    second true b h = absurd (true≢false h)
    second false b h = h

pub stock-looked : (c : Chain) (k : Text) → option_map_or (λ (row : IssuerRow). row.stock) (issuer_in (certifications_left c) k) 0 ≡ stock c k
stock-looked c k =
    elim (list_any (is_from k) (entries (certifications_left c))) as (λ b. list_any (is_from k) (entries (certifications_left c)) ≡ b
    → option_map_or (λ (row : IssuerRow). row.stock) (cond b (Some (record { stock = stock_in (certifications_left c) k; written = written_in (certifications_left c) k })) None) 0 ≡ stock c k) [
      | true ↦ λ some. stock-counted c k
      | false ↦ λ none. sym (none_from k (entries (certifications_left c)) none) ∙ stock-counted c k
    ] refl

-- ---- the last block of an issuer

-- the greatest of the numbers of the rows from a key, each of which is at most n, and one of which is n
abbrev written_from : Text → List Entry → List ℕ
written_from k es = map (λ (e : Entry). e.1.written) (filter (is_from k) es)

at_most : (k : Text) (n : ℕ) (es : List Entry) → AllByRecursion (λ (e : Entry). is_from k e ≡ true → e.1.written ≤ n) es → greatest (written_from k es) ≤ n
at_most k n [] h = omega arith
at_most k n (e ∷ es) h =
    let rest = at_most k n es h.1 in
    elim (is_from k e) as (λ b. is_from k e ≡ b → greatest (map (λ (x : Entry). x.1.written) (cond b (e ∷ filter (is_from k) es) (filter (is_from k) es))) ≤ n) [
      | true ↦ λ own. let here = h.0 own in omega (arith, rest, here)
      | false ↦ λ other. rest
    ] refl

at_least : (k : Text) (x : Entry) (es : List Entry) → IsIn x es → is_from k x ≡ true → x.1.written ≤ greatest (written_from k es)
at_least k x [] there own = absurd there
at_least k x (e ∷ es) (inl same) own =
    let is : is_from k e ≡ true = subst (λ (y : Entry). is_from k y ≡ true) (sym same) own in
    let number : e.1.written ≡ x.1.written = ap (λ (y : Entry). y.1.written) same in
    rw is (omega (arith, number))
at_least k x (e ∷ es) (inr there) own =
    let rest = at_least k x es there own in
    elim (is_from k e) as (λ b. x.1.written ≤ greatest (map (λ (y : Entry). y.1.written) (cond b (e ∷ filter (is_from k) es) (filter (is_from k) es)))) [
      | true ↦ omega (arith, rest)
      | false ↦ rest
    ]

some_from : (k : Text) (es : List Entry) → list_any (is_from k) es ≡ true → (x : Entry) × IsIn x es × (is_from k x ≡ true)
some_from k [] h = absurd (true≢false (sym h))
some_from k (e ∷ es) h =
    elim (is_from k e) as (λ b. is_from k e ≡ b → (b || list_any (is_from k) es) ≡ true → (x : Entry) × IsIn x (e ∷ es) × (is_from k x ≡ true)) [
      | true ↦ λ own there. (e, inl refl, own)
      | false ↦ λ other there. let rest = some_from k es there in (rest.0, inr rest.1, rest.2)
    ] refl h

from_some : (k : Text) (x : Entry) (es : List Entry) → IsIn x es → is_from k x ≡ true → list_any (is_from k) es ≡ true
from_some k x [] there own = absurd there
from_some k x (e ∷ es) (inl same) own = let is : is_from k e ≡ true = subst (λ (y : Entry). is_from k y ≡ true) (sym same) own in rw is refl
from_some k x (e ∷ es) (inr there) own =
    let rest = from_some k x es there own in
    elim (is_from k e) as (λ b. (b || list_any (is_from k) es) ≡ true) [ true ↦ refl | false ↦ rest ]

module _ (c : Chain) (k : Text) where
  abbrev rows : Rows
  rows = certifications_left c

  -- the row of the chain of an entry from the key
  row_of : (x : Entry) → IsIn x (entries rows) → is_from k x ≡ true → certification_row c k x.0.1 ≡ Some (told x.1)
  row_of x there own =
      let key : x.0 ≡ (k, x.0.1) = λ i. (sym (same_text_is k x.0.0 own) i, x.0.1) in
      sym (told_back (certification_row c k x.0.1))
      ∙ ap (option_map told) (sym (certifications-at c (k, x.0.1)) ∙ ap (get rows) (sym key) ∙ in_got rows x there)

  bounded : (n : ℕ) → ((y : Text) → IfSome (certification_row c k y) (λ row. row.written ≤ n)) → (es : List Entry) → ((x : Entry) → IsIn x es → IsIn x (entries rows))
      → AllByRecursion (λ (e : Entry). is_from k e ≡ true → e.1.written ≤ n) es
  bounded n bound [] all = tt
  bounded n bound (e ∷ es) all = (
    λ own. subst (λ o. IfSome o (λ (row : CertificationRow). row.written ≤ n)) (row_of e (all e (inl refl)) own) (bound e.0.1),
    bounded n bound es (λ x there. all x (inr there)),
  )

  abbrev looked_written : Bool → Option ℕ
  looked_written b = option_map (λ (row : IssuerRow). row.written) (cond b (Some (record { stock = stock_in rows k; written = written_in rows k })) None)

  wrote_looked : (n : Option ℕ) → MatchOption n ((y : Text) → certification_row c k y ≡ None) (IsGreatestWritten c k) → looked_written (list_any (is_from k) (entries rows)) ≡ n
  wrote_looked None none =
      elim (list_any (is_from k) (entries rows)) as (λ b. list_any (is_from k) (entries rows) ≡ b → looked_written b ≡ None) [
        | true ↦ λ some. let x = some_from k (entries rows) some in absurd (none-some (told x.0.1) (sym (none x.0.0.1) ∙ row_of x.0 x.1 x.2))
        | false ↦ λ _. refl
      ] refl
  wrote_looked (Some n) is =
      let y = is.stands.0 in
      of_row y (certification_row c k y) refl is.stands.1
    where
      of_row : (y : Text) (o : Option CertificationRow) → certification_row c k y ≡ o → IsSomeAnd o (λ row. row.written ≡ n) → looked_written (list_any (is_from k) (entries rows)) ≡ Some n
      of_row y None at h = absurd h
      of_row y (Some row) at h =
          let there = got_in rows (k, y) (cert_entry row) (certifications-at c (k, y) ∙ ap (option_map cert_entry) at) in
          let some = from_some k ((k, y), cert_entry row) (entries rows) there (same_text_own k) in
          let least = at_least k ((k, y), cert_entry row) (entries rows) there (same_text_own k) in
          let most = at_most k n (entries rows) (bounded n is.bound (entries rows) (λ x there. there)) in
          let number : row.written ≡ n = h in
          let both : written_in rows k ≡ n = omega (arith, least, most, number) in
          rw (some, both) refl

pub wrote-looked : (c : Chain) → IsSound c → (k : Text) → option_map (λ (row : IssuerRow). row.written) (issuer_in (certifications_left c) k) ≡ wrote c k
wrote-looked c sound k = wrote_looked c k (wrote c k) (wrote_is_greatest c sound k)
