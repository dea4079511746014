-- Transactions one after the other: what each may make stands behind what the others left, and more texts change nothing of it.
use Rattle.std.proofs.Common.{◌≡◌, ℕ, suc, ◌+◌, ◌<◌, ◌≤◌, Bool, true, false, not, cond, List, [], ◌∷◌, ◌++◌, map, filter, fold, length, take, drop, get_or, refl, ap, sym, ◌∙◌, subst, append_assoc, append-nil, length-append, arith}
use Rattle.std.specs.List.{list_any, AllByRecursion, enumerate_from, flat_map}
use Rattle.std.proofs.lemmas.List.{take_more, length-map, get_or-map}
use Rattle.std.proofs.lemmas.Grind.{flat_map-append}
use Rattle.std.proofs.lemmas.List.Sums.{sum_by-append}
use Rattle.dubp_atoms.specs.Same.{Text, same_text}
use Rattle.dubp_cond.specs.Conditions.{cond_text}
use Rattle.dubp_cond.specs.declared.source.SourceId.{SourceId}
use Rattle.dubp_cond.specs.declared.tx.Tx.{Tx}
use Rattle.dubp_block.specs.declared.block.Block.{Block}
use Rattle.dubp_docs.specs.declared.hashing.TxHashes.{TxHashes}
use Rattle.dubp_chain.specs.Money.{Source, units_of, outputs_made, hashes_in}
use Rattle.dubp_docs.specs.Spelling.{tx_hash}
use Rattle.dubp_validity.specs.declared.record.Record.TheVariants.{Spend}
use Rattle.dubp_validity.specs.Records.{make_record}
use Rattle.dubp_sindex.specs.Rows.{Entry, same_source, each_once, AreRows}
use Rattle.dubp_sindex.proofs.Elements.{and_left, and_right, not_true, or_left, or_right, all_append, all_more, in_all, all_from_in, in_filter}
use Rattle.dubp_money_steps.specs.Left.{account_in, entries_of, HasTexts, IsSmall}
use Rattle.dubp_money.specs.Texts.{Grows}
use Rattle.dubp_money.specs.Writing.{without_inputs}
use Rattle.dubp_money.specs.Making.{CanFollow, with_made}
use Rattle.dubp_money.specs.Transactions.{all_outputs, written, all_written, records_of}
use Rattle.dubp_money.proofs.Rows.{rows-filter}
use Rattle.dubp_money.proofs.Units.{units_filter, units_made}
use Rattle.dubp_money.proofs.Made.{map-both, names-entries, once_first, split_at, with_made-rows, with_made-more, outputs-length}
use Rattle.dubp_money.proofs.Growing.{has_more}

-- ---- what can follow

none_part : (f : SourceId → Bool) (p : Entry → Bool) (rows : List Entry) (zs : List SourceId) → list_any f (map (λ (e : Entry). e.0) rows ++ zs) ≡ false → list_any f (map (λ (e : Entry). e.0) (filter p rows) ++ zs) ≡ false
none_part f p [] zs none = none
none_part f p (r ∷ rows) zs none =
    let later = none_part f p rows zs (or_right (f r.0) _ none) in
    let here = or_left (f r.0) _ none in
    elim (p r) as (λ b. list_any f (map (λ (e : Entry). e.0) (cond b (r ∷ filter p rows) (filter p rows)) ++ zs) ≡ false) [ true ↦ rw here later | false ↦ later ]

once_part : (p : Entry → Bool) (rows : List Entry) (zs : List SourceId) → each_once same_source (map (λ (e : Entry). e.0) rows ++ zs) ≡ true → each_once same_source (map (λ (e : Entry). e.0) (filter p rows) ++ zs) ≡ true
once_part p [] zs once = once
once_part p (r ∷ rows) zs once =
    let names = map (λ (e : Entry). e.0) rows ++ zs in
    let later = once_part p rows zs (and_right (not (list_any (same_source r.0) names)) _ once) in
    let none = none_part (same_source r.0) p rows zs (not_true _ (and_left (not (list_any (same_source r.0) names)) _ once)) in
    elim (p r) as (λ b. each_once same_source (map (λ (e : Entry). e.0) (cond b (r ∷ filter p rows) (filter p rows)) ++ zs) ≡ true) [ true ↦ rw none later | false ↦ later ]

-- behind some of the rows
pub can_filter : (p : Entry → Bool) (rows : List Entry) (n : ℕ) (made : List Source) → CanFollow rows n made → CanFollow (filter p rows) n made
can_filter p rows n made can = record {
  apart = once_part p rows (map (λ (s : Source). s.id) made) can.apart;
  behind = all_from_in (λ (e : Entry). e.1.order < n) (filter p rows) (λ e there. in_all (λ (e : Entry). e.1.order < n) rows can.behind e (in_filter p rows e there).0);
  small = can.small;
  few = can.few;
  fits = omega (arith, can.fits, units_filter p rows);
}

smaller : (P : Source → Type 0) (xs ys : List Source) → AllByRecursion P (xs ++ ys) → AllByRecursion P xs × AllByRecursion P ys
smaller P [] ys all = (tt, all)
smaller P (x ∷ xs) ys all = let later = smaller P xs ys all.1 in ((all.0, later.0), later.1)

-- the first of what can follow
pub can_first : (rows : List Entry) (n : ℕ) (xs ys : List Source) → CanFollow rows n (xs ++ ys) → CanFollow rows n xs
can_first rows n xs ys can = record {
  apart =
      once_first (map (λ (e : Entry). e.0) rows ++ map (λ (s : Source). s.id) xs) (map (λ (s : Source). s.id) ys)
      (ap (each_once same_source) (append_assoc (map (λ (e : Entry). e.0) rows) (map (λ (s : Source). s.id) xs) (map (λ (s : Source). s.id) ys) ∙ ap (λ l. map (λ (e : Entry). e.0) rows ++ l) (sym (map-both (λ (s : Source). s.id) xs ys)))
      ∙ can.apart);
  behind = can.behind;
  small = (smaller IsSmall xs ys can.small).0;
  few = omega (arith, can.few, length-append xs ys);
  fits = omega (arith, can.fits, sum_by-append units_of xs ys);
}

below_made : (account : Text → ℕ) (n : ℕ) (xs : List Source) (k : ℕ) → n + length xs ≤ k → AllByRecursion (λ (e : Entry). e.1.order < k) (entries_of account (enumerate_from n xs))
below_made account n [] k le = tt
below_made account n (x ∷ xs) k le = (omega (arith, le), below_made account (n + 1) xs k (omega (arith, le)))

-- and the others behind the first
pub can_on : (texts : List Text) (rows : List Entry) (n : ℕ) (xs ys : List Source) → CanFollow rows n (xs ++ ys) → CanFollow (with_made texts rows n xs) (n + length xs) ys
can_on texts rows n xs ys can = record {
  apart =
      ap (each_once same_source)
      (ap (λ l. l ++ map (λ (s : Source). s.id) ys) (map-both (λ (e : Entry). e.0) rows (entries_of (account_in texts) (enumerate_from n xs)) ∙ ap (λ l. map (λ (e : Entry). e.0) rows ++ l) (names-entries (account_in texts) n xs))
      ∙ append_assoc (map (λ (e : Entry). e.0) rows) (map (λ (s : Source). s.id) xs) (map (λ (s : Source). s.id) ys)
      ∙ ap (λ l. map (λ (e : Entry). e.0) rows ++ l) (sym (map-both (λ (s : Source). s.id) xs ys)))
      ∙ can.apart;
  behind =
      all_append (λ (e : Entry). e.1.order < n + length xs) rows (entries_of (account_in texts) (enumerate_from n xs))
      (all_more (λ (e : Entry). e.1.order < n) (λ (e : Entry). e.1.order < n + length xs) (λ e below. omega (arith, below)) rows can.behind)
      (below_made (account_in texts) n xs (n + length xs) (omega arith));
  small = (smaller IsSmall xs ys can.small).1;
  few = omega (arith, can.few, length-append xs ys);
  fits = omega (arith, can.fits, units_made texts rows n xs, sum_by-append units_of xs ys);
}

-- ---- the transactions

pub outputs-append : (time : ℕ) (currency : Text) (xs ys : List Tx) → all_outputs time currency (xs ++ ys) ≡ all_outputs time currency xs ++ all_outputs time currency ys
outputs-append time currency [] ys = refl
outputs-append time currency (x ∷ xs) ys =
    ap (λ l. outputs_made time currency x ++ l) (outputs-append time currency xs ys)
    ∙ sym (append_assoc (outputs_made time currency x) (all_outputs time currency xs) (all_outputs time currency ys))

fold-more : {S X : Type 0} (f : S → X → S) (s : S) (xs : List X) (x : X) → fold f s (xs ++ x ∷ []) ≡ f (fold f s xs) x
fold-more f s [] x = refl
fold-more f s (y ∷ ys) x = fold-more f (f s y) ys x

-- how far they have come
pub record IsSoFar (state : ℕ × List Entry) (order : ℕ) (done later : List Source) : Type 0 where
  pub are : AreRows state.1
  pub can : CanFollow state.1 state.0 later
  pub count : state.0 ≡ order + length done

module _ (time : ℕ) (currency : Text) where
  abbrev outputs : List Tx → List Source
  outputs txs = all_outputs time currency txs

  pub so_far : (texts : List Text) (before : List Tx) (later : List Source) (n : ℕ) (rows : List Entry) → AreRows rows → CanFollow rows n (outputs before ++ later)
      → IsSoFar (all_written texts time currency n rows before) n (outputs before) later
  so_far texts [] later n rows are can = record { are = are; can = can; count = omega arith }
  so_far texts (tx ∷ before) later n rows are can =
      let made = outputs_made time currency tx in
      let left = without_inputs tx.inputs rows in
      let can_left : CanFollow left n (made ++ (outputs before ++ later)) = subst (CanFollow left n) (append_assoc made (outputs before) later) (can_filter _ rows n ((made ++ outputs before) ++ later) can) in
      let h = so_far texts before later (n + length made) (with_made texts left n made)
      (with_made-rows texts left n made (rows-filter _ rows are) (can_first left n made (outputs before ++ later) can_left))
      (can_on texts left n made (outputs before ++ later) can_left) in
      record { are = h.are; can = h.can; count = omega (arith, h.count, length-append made (outputs before)) }

  pub written-more : (texts texts' : List Text) → Grows texts texts' → (txs : List Tx) (n : ℕ) (rows : List Entry) → HasTexts texts (outputs txs) → all_written texts' time currency n rows txs ≡ all_written texts time currency n rows txs
  written-more texts texts' g [] n rows has = refl
  written-more texts texts' g (tx ∷ txs) n rows has =
      let made = outputs_made time currency tx in
      let parts = smaller (λ s. list_any (same_text (cond_text s.cond)) texts ≡ true) made (outputs txs) has in
      ap (λ l. all_written texts' time currency (n + length made) l txs) (with_made-more texts texts' g (without_inputs tx.inputs rows) n made parts.0)
      ∙ written-more texts texts' g txs (n + length made) (with_made texts (without_inputs tx.inputs rows) n made) parts.1

  -- one transaction more
  pub written_next : (Has Has' : List Entry → Type 0) (texts texts' : List Text) → Grows texts texts' → (rows : List Entry) (n k : ℕ) (txs : List Tx) (i : ℕ) (tx : Tx)
      → i < length txs → tx ≡ get_or txs i tx → k ≡ n + length (outputs (take i txs))
      → AreRows rows → CanFollow rows n (outputs txs) → HasTexts texts (outputs (take i txs)) → Has (all_written texts time currency n rows (take i txs)).1
      → ((xs : List Entry) → AreRows xs → CanFollow (without_inputs tx.inputs xs) k (outputs_made time currency tx) → Has xs → Has' (with_made texts' (without_inputs tx.inputs xs) k (outputs_made time currency tx)))
      → Has' (all_written texts' time currency n rows (take (i + 1) txs)).1
  written_next Has Has' texts texts' g rows n k txs i tx within is count are can known has make =
      let before = take i txs in
      let made = outputs_made time currency tx in
      let state = all_written texts time currency n rows before in
      let rest = outputs (drop (suc i) txs) in
      let h = so_far texts before (made ++ rest) n rows are (subst (CanFollow rows n) (ap outputs (split_at txs i tx within is) ∙ outputs-append time currency before (tx ∷ drop (suc i) txs)) can) in
      let same : state.0 ≡ k = h.count ∙ sym count in
      let left = without_inputs tx.inputs state.1 in
      let here : CanFollow left k made = subst (λ m. CanFollow left m made) same (can_first left state.0 made rest (can_filter _ state.1 state.0 (made ++ rest) h.can)) in
      let done = make state.1 h.are here has in
      subst Has'
      (ap (λ m. with_made texts' left m made) (sym same)
      ∙ ap (λ s. (written texts' time currency s tx).1) (sym (written-more texts texts' g before n rows known))
      ∙ ap (λ s. s.1) (sym (fold-more (written texts' time currency) (n, rows) before tx))
      ∙ ap (λ l. (all_written texts' time currency n rows l).1) (ap (λ x. before ++ x ∷ []) is ∙ sym (take_more txs i tx within)))
      done

  -- so many more at least
  pub outputs_few : (txs : List Tx) (i : ℕ) (tx : Tx) → i < length txs → tx ≡ get_or txs i tx → length (outputs (take i txs)) + length (outputs_made time currency tx) ≤ length (outputs txs)
  outputs_few txs i tx within is =
      omega (
        arith,
        ap length (ap outputs (split_at txs i tx within is) ∙ outputs-append time currency (take i txs) (tx ∷ drop (suc i) txs)),
        length-append (outputs (take i txs)) (outputs_made time currency tx ++ outputs (drop (suc i) txs)),
        length-append (outputs_made time currency tx) (outputs (drop (suc i) txs)),
      )

-- what is gathered of one more
pub flat_next : {X Y : Type 0} (f : X → List Y) (xs : List X) (i : ℕ) (x : X) → i < length xs → x ≡ get_or xs i x → flat_map f (take (i + 1) xs) ≡ flat_map f (take i xs) ++ f x
flat_next f xs i x within is =
    ap (flat_map f) (take_more xs i x within ∙ ap (λ y. take i xs ++ y ∷ []) (sym is))
    ∙ flat_map-append f (take i xs) (x ∷ [])
    ∙ ap (λ l. flat_map f (take i xs) ++ l) (append-nil (f x))

-- a record for each input and each output
pub records-length : (time : ℕ) (currency : Text) (tx : Tx) → length (records_of time currency tx) ≡ length tx.inputs + length tx.outputs
records-length time currency tx =
    omega (arith, length-append (map Spend tx.inputs) (map make_record (outputs_made time currency tx)), length-map tx.inputs Spend, length-map (outputs_made time currency tx) make_record, outputs-length time (tx_hash currency tx) 0 tx.outputs)

-- the outputs of one transaction more have texts too
pub has_written : (texts texts' : List Text) → Grows texts texts' → (time : ℕ) (currency : Text) (txs : List Tx) (i : ℕ) (tx : Tx) → i < length txs → tx ≡ get_or txs i tx
    → HasTexts texts (all_outputs time currency (take i txs)) → HasTexts texts' (outputs_made time currency tx) → HasTexts texts' (all_outputs time currency (take (i + 1) txs))
has_written texts texts' g time currency txs i tx within is known made =
    subst (HasTexts texts') (sym (flat_next (outputs_made time currency) txs i tx within is))
    (all_append (λ s. list_any (same_text (cond_text s.cond)) texts' ≡ true) (all_outputs time currency (take i txs)) (outputs_made time currency tx) (has_more texts texts' g (all_outputs time currency (take i txs)) known) made)

-- the hash at the place of a transaction is its own
pub hash_is : (b : Block) (hashes : List TxHashes) → map (λ (x : TxHashes). x.whole) hashes ≡ hashes_in b → (i : ℕ) (tx : Tx) (h : TxHashes) → i < length b.transactions → tx ≡ get_or b.transactions i tx
    → (get_or hashes i h).whole ≡ tx_hash b.currency tx
hash_is b hashes are i tx h within is =
    let own = tx_hash b.currency tx in
    let below : i < length hashes = omega (arith, within, ap length are, length-map hashes (λ (x : TxHashes). x.whole), length-map b.transactions (tx_hash b.currency)) in
    sym (get_or-map (λ (x : TxHashes). x.whole) hashes i h own below)
    ∙ ap (λ l. get_or l i own) are
    ∙ get_or-map (tx_hash b.currency) b.transactions i tx own within
    ∙ ap (tx_hash b.currency) (sym is)
