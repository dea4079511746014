-- What is counted in the rows where one row is put: of other keys nothing changes, and of its own keys one.
use Rattle.std.proofs.Common.{◌≡◌, ℕ, ◌+◌, Bool, true, false, cond, ◌&&◌, ◌||◌, List, [], ◌∷◌, Option, Some, None, map, filter, length, refl, ap, sym, ◌∙◌, subst, true≢false, arith}
use Rattle.std.specs.Prelude.{T, count_by}
use Rattle.std.specs.List.{list_any}
use Rattle.std.specs.Option.{option_map_or}
use Rattle.std.specs.declared.cmp.Ordering.TheVariants.{Less, Equal, Greater}
use Rattle.std.specs.FinMap.{entries, get, insert, put, entries-insert}
use Rattle.std.specs.FinMap.Entries.{by_order}
use Rattle.std.proofs.lemmas.List.Sums.{length-filter}
use Rattle.std.proofs.lemmas.Option.{none-some}
use Rattle.dubp_atoms.specs.Same.{Text, same_text}
use Rattle.dubp_undo.proofs.Counted as adds
use Rattle.dubp_undo.proofs.Counted.{bit, count-insert}
use Rattle.dubp_cindex.specs.declared.row.CertRow.{CertRow}
use Rattle.dubp_cindex.specs.declared.row.IssuerRow.{IssuerRow}
use Rattle.dubp_cindex.specs.declared.changing.Change.{Change}
use Rattle.dubp_cindex.specs.declared.changing.Change.TheVariants.{Stays, Becomes}
use Rattle.dubp_cindex.specs.Orders.{pair_cmp}
use Rattle.dubp_cindex.specs.Rows.{Rows, Entry, live_to, live_from, is_from, lives, one_if, number_if, received_in, stock_in, written_in, issuer_in, greatest}
use Rattle.dubp_cindex.specs.Changes.{changed, counted}
use Rattle.dubp_cindex.specs.Putting.{AreChanges}
use Rattle.dubp_cindex.proofs.Texts.{pair_total, pair_exact, same_text_own}
use Rattle.dubp_cindex.proofs.Written.{any_put}

module _ (p : Entry → Bool) (k : Text × Text) (row : CertRow) (none : (r : CertRow) → p (k, r) ≡ false) where
  filter-put : (es : List Entry) → filter p (put pair_cmp k row es) ≡ filter p es
  filter-put [] = ap (λ b. cond b ((k, row) ∷ []) []) (none row)
  filter-put (e ∷ es) =
      elim (pair_cmp k e.0) as (λ r. pair_cmp k e.0 ≡ r → filter p (by_order r ((k, row) ∷ e ∷ es) ((e.0, row) ∷ es) (e ∷ put pair_cmp k row es)) ≡ filter p (e ∷ es)) [
        | Less ↦ λ _. ap (λ b. cond b ((k, row) ∷ filter p (e ∷ es)) (filter p (e ∷ es))) (none row)
        | Equal ↦ λ t.
            let same = pair_exact k e.0 t in
            ap (λ b. cond b ((e.0, row) ∷ filter p es) (filter p es)) (ap (λ q. p (q, row)) (sym same) ∙ none row)
            ∙ sym (ap (λ b. cond b (e ∷ filter p es) (filter p es)) (ap (λ q. p (q, e.1)) (sym same) ∙ none e.1))
        | Greater ↦ λ _. ap (λ l. cond (p e) (e ∷ l) l) (filter-put es)
      ] refl

  pub filter-other : (rows : Rows) → filter p (entries (insert rows k row)) ≡ filter p (entries rows)
  filter-other rows = ap (filter p) (entries-insert pair_total rows k row) ∙ filter-put (entries rows)

  pub count-other : (rows : Rows) → count_by p (entries (insert rows k row)) ≡ count_by p (entries rows)
  count-other rows = sym (length-filter p (entries (insert rows k row))) ∙ ap length (filter-other rows) ∙ length-filter p (entries rows)

some_in : List Entry → Bool
some_in [] = false
some_in (e ∷ es) = true

any_filter : (p : Entry → Bool) (es : List Entry) → list_any p es ≡ some_in (filter p es)
unfolding some_in
any_filter p [] = refl
any_filter p (e ∷ es) = elim (p e) as (λ b. (b || list_any p es) ≡ some_in (cond b (e ∷ filter p es) (filter p es))) [ true ↦ refl | false ↦ any_filter p es ]

any-other : (p : Entry → Bool) (k : Text × Text) (row : CertRow) → ((r : CertRow) → p (k, r) ≡ false) → (rows : Rows) → list_any p (entries (insert rows k row)) ≡ list_any p (entries rows)
any-other p k row none rows = any_filter p (entries (insert rows k row)) ∙ ap some_in (filter-other p k row none rows) ∙ sym (any_filter p (entries rows))

not_live : (a : Bool) (r : CertRow) → a ≡ false → (a && r.live) ≡ false
not_live a r e = ap (λ b. b && r.live) e

-- other keys
pub received-other : (rows : Rows) (from to : Text) (row : CertRow) (k : Text) → same_text k to ≡ false → received_in (insert rows (from, to) row) k ≡ received_in rows k
received-other rows from to row k other = count-other (live_to k) (from, to) row (λ r. not_live (same_text k to) r other) rows

pub issuer-other : (rows : Rows) (from to : Text) (row : CertRow) (k : Text) → same_text k from ≡ false → issuer_in (insert rows (from, to) row) k ≡ issuer_in rows k
issuer-other rows from to row k other =
    let any = any-other (is_from k) (from, to) row (λ r. other) rows in
    let stock = count-other (live_from k) (from, to) row (λ r. not_live (same_text k from) r other) rows in
    let written = ap (λ (es : List Entry). greatest (map (λ (e : Entry). e.1.written) es)) (filter-other (is_from k) (from, to) row (λ r. other) rows) in
    λ i. cond (any i) (Some (record { stock = stock i; written = written i })) None

-- its own keys
live_bit : (f : Entry → Bool) (k : Text × Text) → ((r : CertRow) → f (k, r) ≡ r.live) → (o : Option CertRow) → adds.counted f k o ≡ bit (lives o)
live_bit f k is None = refl
live_bit f k is (Some r) = ap bit (is r)

pub received-own : (rows : Rows) (from to : Text) (row : CertRow) → received_in (insert rows (from, to) row) to + bit (lives (get rows (from, to))) ≡ received_in rows to + bit row.live
received-own rows from to row =
    let is : (r : CertRow) → live_to to ((from, to), r) ≡ r.live = λ r. ap (λ b. b && r.live) (same_text_own to) in
    ap (λ n. received_in (insert rows (from, to) row) to + n) (sym (live_bit (live_to to) (from, to) is (get rows (from, to)))) ∙ count-insert pair_total pair_exact (live_to to) rows (from, to) row ∙ ap (λ b. received_in rows to + bit b) (is row)

pub stock-own : (rows : Rows) (from to : Text) (row : CertRow) → stock_in (insert rows (from, to) row) from + bit (lives (get rows (from, to))) ≡ stock_in rows from + bit row.live
stock-own rows from to row =
    let is : (r : CertRow) → live_from from ((from, to), r) ≡ r.live = λ r. ap (λ b. b && r.live) (same_text_own from) in
    ap (λ n. stock_in (insert rows (from, to) row) from + n) (sym (live_bit (live_from from) (from, to) is (get rows (from, to)))) ∙ count-insert pair_total pair_exact (live_from from) rows (from, to) row ∙ ap (λ b. stock_in rows from + bit b) (is row)

-- the count behind the pair's change
differ : (c : Change (Unit {0})) (v : Option (Unit {0})) → c ≡ Becomes v → c ≡ Stays → ⊥
differ c v e f = subst T (ap is_change (sym e ∙ f)) tt
  where
    is_change : Change (Unit {0}) → Bool
    is_change Stays = false
    is_change (Becomes v) = true

pub counted_is : (pair : Change (Unit {0})) (b r : Bool) (n m : ℕ) → changed pair (one_if b) ≡ one_if r → (b ≡ r → pair ≡ Stays) → m + bit b ≡ n + bit r → counted pair n ≡ m
counted_is Stays true true n m c s e = omega (arith, e)
counted_is Stays true false n m c s e = absurd (none-some tt (sym c))
counted_is Stays false true n m c s e = absurd (none-some tt c)
counted_is Stays false false n m c s e = omega (arith, e)
counted_is (Becomes None) true true n m c s e = absurd (differ (Becomes None) None refl (s refl))
counted_is (Becomes None) true false n m c s e = omega (arith, e)
counted_is (Becomes None) false true n m c s e = absurd (none-some tt c)
counted_is (Becomes None) false false n m c s e = absurd (differ (Becomes None) None refl (s refl))
counted_is (Becomes (Some u)) true true n m c s e = absurd (differ (Becomes (Some u)) (Some u) refl (s refl))
counted_is (Becomes (Some u)) true false n m c s e = absurd (none-some u (sym c))
counted_is (Becomes (Some u)) false true n m c s e = omega (arith, e)
counted_is (Becomes (Some u)) false false n m c s e = absurd (differ (Becomes (Some u)) (Some u) refl (s refl))

-- the issuer's row
none_live : (k : Text) (es : List Entry) → list_any (is_from k) es ≡ false → count_by (live_from k) es ≡ 0
none_live k es h = sym (length-filter (live_from k) es) ∙ ap length (nothing es h)
  where
    nothing : (es : List Entry) → list_any (is_from k) es ≡ false → filter (live_from k) es ≡ []
    nothing [] h = refl
    nothing (e ∷ es) h =
        elim (is_from k e) as (λ b. (b || list_any (is_from k) es) ≡ false → cond (b && e.1.live) (e ∷ filter (live_from k) es) (filter (live_from k) es) ≡ []) [
          | true ↦ λ n. absurd (true≢false n)
          | false ↦ λ n. nothing es n
        ] h

pub stock_told : (rows : Rows) (k : Text) → option_map_or (λ (r : IssuerRow). r.stock) (issuer_in rows k) 0 ≡ stock_in rows k
stock_told rows k =
    elim (list_any (is_from k) (entries rows)) as (λ b. list_any (is_from k) (entries rows) ≡ b → option_map_or (λ (r : IssuerRow). r.stock) (cond b (Some (record { stock = stock_in rows k; written = written_in rows k })) None) 0 ≡ stock_in rows k) [
      | true ↦ λ _. refl
      | false ↦ λ h. sym (none_live k (entries rows) h)
    ] refl

pub issuer_put : (rows : Rows) (from to : Text) (row : CertRow) (pair : Change (Unit {0})) (stock written : ℕ) → stock ≡ counted pair (option_map_or (λ (r : IssuerRow). r.stock) (issuer_in rows from) 0)
    → counted pair (stock_in rows from) ≡ stock_in (insert rows (from, to) row) from → written ≡ written_in (insert rows (from, to) row) from
    → ◌≡◌ {A = Option IssuerRow} (Some (record { stock = stock; written = written })) (issuer_in (insert rows (from, to) row) from)
issuer_put rows from to row pair stock written s is w =
    let stocks : stock ≡ stock_in (insert rows (from, to) row) from = s ∙ ap (counted pair) (stock_told rows from) ∙ is in
    (λ i. Some (record { stock = stocks i; written = w i }))
    ∙ sym (ap (λ b. cond b (Some (record { stock = stock_in (insert rows (from, to) row) from; written = written_in (insert rows (from, to) row) from })) None) (any_put rows from to row))

-- what becomes of all tables
pub are_changes : (rows : Rows) (from to : Text) (row : CertRow) (before : Option CertRow) (pair : Change (Unit {0})) (count : ℕ) (received : Change ℕ) (issuer : Change IssuerRow) → before ≡ get rows (from, to) → count ≡ received_in rows to
    → changed pair (one_if (lives before)) ≡ one_if row.live → (lives before ≡ row.live → pair ≡ Stays)
    → changed received (number_if count) ≡ number_if (counted pair count) → (pair ≡ Stays → received ≡ Stays)
    → (counted pair (stock_in rows from) ≡ stock_in (insert rows (from, to) row) from
    → (changed issuer (issuer_in rows from) ≡ issuer_in (insert rows (from, to) row) from) × (issuer_in (insert rows (from, to) row) from ≡ issuer_in rows from → issuer ≡ Stays))
    → AreChanges rows from to row pair received issuer
are_changes rows from to row before pair count received issuer was is p ps r rs i =
    let q : changed pair (one_if (lives (get rows (from, to)))) ≡ one_if row.live = ap (λ o. changed pair (one_if (lives o))) (sym was) ∙ p in
    let qs : lives (get rows (from, to)) ≡ row.live → pair ≡ Stays = λ e. ps (ap lives was ∙ e) in
    let stocks = counted_is pair (lives (get rows (from, to))) row.live (stock_in rows from) (stock_in (insert rows (from, to) row) from) q qs (stock-own rows from to row) in
    let counts = counted_is pair (lives (get rows (from, to))) row.live (received_in rows to) (received_in (insert rows (from, to) row) to) q qs (received-own rows from to row) in
    record {
      pair_is = q;
      received_is = ap (λ n. changed received (number_if n)) (sym is) ∙ r ∙ ap (λ n. number_if (counted pair n)) is ∙ ap number_if counts;
      issuer_is = (i stocks).0;
      pair_stays = qs;
      received_stays = λ e. rs (qs e);
      issuer_stays = (i stocks).1;
    }
