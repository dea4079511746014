-- What records make of the row of a source: those that make sources, of which each is counted, those that take one away, and those of
-- all transactions of a block. Since no source is made twice, and an input names what was made before it, what the transactions name
-- is gone, and what else they make has come.
use Rattle.std.proofs.Common.{◌≡◌, ℕ, ◌+◌, Bool, true, false, cond, ◌||◌, List, [], ◌∷◌, ◌++◌, Option, Some, None, option_map, map, fold, length, refl, ap, sym, ◌∙◌, subst, true≢false, inl, inr, ◌⊎◌, arith, add-zero, append_assoc, length-append}
use Rattle.std.specs.Prelude.{find}
use Rattle.std.specs.Option.{option_or, option_map_or}
use Rattle.std.specs.List.{AllByRecursion, list_any, flat_map, enumerate_from}
use Rattle.std.proofs.lemmas.List.Folds.{list_any-append}
use Rattle.std.proofs.lemmas.List.Sums.{fold-append}
use Rattle.std.proofs.lemmas.Option.{none-some}
use Rattle.dubp_atoms.specs.Same.{Text}
use Rattle.dubp_cond.specs.Conditions.{cond_text}
use Rattle.dubp_cond.specs.declared.source.SourceId.{SourceId}
use Rattle.dubp_cond.specs.declared.source.Input.{Input}
use Rattle.dubp_cond.specs.declared.output.Output.{Output}
use Rattle.dubp_cond.specs.declared.tx.Tx.{Tx}
use Rattle.dubp_chain.specs.OfDocs.{tx_hash}
use Rattle.dubp_chain.specs.declared.head.Head.{Head}
use Rattle.dubp_validity.specs.declared.record.Record.{Record}
use Rattle.dubp_validity.specs.declared.record.Record.TheVariants.{Spend, Dividend}
use Rattle.dubp_chain.specs.Money.{Source, same_source, output_source, outputs_made, dividend_source, dividends_made, dividends_at}
use Rattle.dubp_validity.specs.MoneyRules.{EachMay, is_spent_by}
use Rattle.dubp_validity.specs.Records.{make_record, input_of}
use Rattle.dubp_chain.specs.Tables.{SourceRow, row_of_source}
use Rattle.dubp_validity.specs.Reduced.{source_made, source_change}
use Rattle.dubp_lists.proofs.Elements.{and_left, or_left, or_right, in_all, in_any, any_in}
use Rattle.dubp_laws.proofs.Sources.{same_source_is, SourcesApart, sources_tail, sources_head}
use Rattle.dubp_laws.proofs.Spending.{AreThere, found_any}
use Rattle.dubp_lists.proofs.Folds.{Gives, gives_both}
use Rattle.dubp_laws.proofs.SourceRows.{has_id, names_id, not_in_both, apart_last, apart_first, found, found_none, found-append}

-- ---- records that make sources, and records that take them away

abbrev pub State : Type 0
State = ℕ × Option SourceRow

-- the record is one that makes the source, in a block of this time
pub record MakesAt (time : ℕ) (of : Source → Record) (s : Source) : Type 0 where
  pub now : s.time ≡ time
  pub makes : (id : SourceId) (n : ℕ) (row : Option SourceRow) → source_change time id (n, row) (of s) ≡ source_made time id (n, row) (input_of s) (cond_text s.cond)

module _ (time : ℕ) (id : SourceId) where
  -- sources that stand once each are counted, and one of them may have the name
  makes_at : (of : Source → Record) (ss : List Source) → AllByRecursion (MakesAt time of) ss → SourcesApart ss → (n : ℕ) (row : Option SourceRow)
      → fold (source_change time id) (n, row) (map of ss) ≡ (n + length ss, option_or (found id n ss) row)
  makes_at of [] each apart n row = ap (λ m. (m, row)) (sym (add-zero n))
  makes_at of (s ∷ ss) each apart n row =
      ap (λ state. fold (source_change time id) state (map of ss)) (each.0.makes id n row)
      ∙ makes_at of ss each.1 (sources_tail s ss apart) (n + 1) (cond (same_source id s.id) (Some (row_of_source (n, record s { time = time }))) row)
      ∙ ap (λ at. (n + 1 + length ss, option_or (found id (n + 1) ss) (cond (same_source id s.id) (Some (row_of_source (n, record s { time = at }))) row))) (sym each.0.now)
      ∙ (λ i. (counted i, placed i))
    where
      counted : n + 1 + length ss ≡ n + length (s ∷ ss)
      counted = omega arith

      placed : option_or (found id (n + 1) ss) (cond (same_source id s.id) (Some (row_of_source (n, s))) row) ≡ option_or (found id n (s ∷ ss)) row
      placed =
          elim (same_source id s.id) as (λ r. same_source id s.id ≡ r → option_or (found id (n + 1) ss) (cond r (Some (row_of_source (n, s))) row)
          ≡ option_or (option_map row_of_source (cond r (Some (n, s)) (find (λ p. same_source id p.1.id) (enumerate_from (n + 1) ss)))) row) [
            | true ↦ λ is.
                let none = found_none id (n + 1) ss (subst (λ name. list_any (λ (x : Source). same_source name x.id) ss ≡ false) (sym (same_source_is id s.id is)) (sources_head s ss apart)) in
                ap (λ o. option_or o (Some (row_of_source (n, s)))) none
            | false ↦ λ _. refl
          ] refl

  pub makes : (of : Source → Record) (ss : List Source) → AllByRecursion (MakesAt time of) ss → SourcesApart ss
      → Gives (source_change time id) (map of ss) (λ state. (state.0 + length ss, option_or (found id state.0 ss) state.1))
  makes of ss each apart = record { at = λ state. makes_at of ss each apart state.0 state.1 }

  -- records that each take the source of a name away
  gone_at : {Y : Type 0} (of : Y → Record) (name : Y → SourceId)
      → ((y : Y) (n : ℕ) (row : Option SourceRow) → source_change time id (n, row) (of y) ≡ (n, cond (same_source id (name y)) None row))
      → (ys : List Y) (n : ℕ) (row : Option SourceRow)
      → fold (source_change time id) (n, row) (map of ys) ≡ (n, cond (list_any (λ y. same_source id (name y)) ys) None row)
  gone_at of name each [] n row = refl
  gone_at of name each (y ∷ ys) n row =
      ap (λ state. fold (source_change time id) state (map of ys)) (each y n row)
      ∙ gone_at of name each ys n (cond (same_source id (name y)) None row)
      ∙ ap (λ r. (n, r)) (either (same_source id (name y)) (list_any (λ y. same_source id (name y)) ys))
    where
      either : (a b : Bool) → cond b None (cond a None row) ≡ cond (a || b) None row
      either true true = refl
      either true false = refl
      either false b = refl

  pub takes_away : {Y : Type 0} (of : Y → Record) (name : Y → SourceId)
      → ((y : Y) (n : ℕ) (row : Option SourceRow) → source_change time id (n, row) (of y) ≡ (n, cond (same_source id (name y)) None row))
      → (ys : List Y) → Gives (source_change time id) (map of ys) (λ state. (state.0, cond (list_any (λ y. same_source id (name y)) ys) None state.1))
  takes_away of name each ys = record { at = λ state. gone_at of name each ys state.0 state.1 }

-- ---- the transactions of a block

outputs_make : (time n : ℕ) (hash : Text) (outputs : List Output) → AllByRecursion (MakesAt time make_record) (map (output_source time hash) (enumerate_from n outputs))
outputs_make time n hash [] = tt
outputs_make time n hash (o ∷ outputs) = (record { now = refl; makes = λ id n row. refl }, outputs_make time (n + 1) hash outputs)

shares_make : (time number amount base : ℕ) (keys : List Text)
    → AllByRecursion (MakesAt time (λ s. Dividend (input_of s))) (map (dividend_source time number amount base) keys)
shares_make time number amount base [] = tt
shares_make time number amount base (k ∷ ks) = (record { now = refl; makes = λ id n row. refl }, shares_make time number amount base ks)

paid_make : (time number : ℕ) (paid : Option ℕ) (base : ℕ) (keys : List Text)
    → AllByRecursion (MakesAt time (λ s. Dividend (input_of s))) (dividends_made time number paid base keys)
paid_make time number None base keys = tt
paid_make time number (Some amount) base keys = shares_make time number amount base keys

pub dividends_make : (number : ℕ) (h : Option Head) (keys : List Text)
    → AllByRecursion (MakesAt (option_map_or (λ h. h.median_time) h 0) (λ s. Dividend (input_of s))) (dividends_at number h keys)
dividends_make number None keys = tt
dividends_make number (Some h) keys = paid_make h.median_time number h.ud h.unit_base keys

module _ (id : SourceId) (outputs : Tx → List Source) where
  -- an input of this name is of a source that neither its transaction nor what stands behind that makes
  abbrev pub MadeBefore : List Source → List Tx → Type 0
  MadeBefore more [] = Unit {0}
  MadeBefore more (tx ∷ txs) =
      (list_any (names_id id) tx.inputs ≡ true → list_any (has_id id) (outputs tx ++ (flat_map outputs txs ++ more)) ≡ false) × MadeBefore more txs

  -- since it is one of the sources at hand, and none is made twice
  pub made_before : (sources more : List Source) (txs : List Tx) → SourcesApart (sources ++ (flat_map outputs txs ++ more)) → EachMay AreThere outputs sources txs → MadeBefore more txs
  made_before sources more [] apart there = tt
  made_before sources more (tx ∷ txs) apart there =
      let split : flat_map outputs (tx ∷ txs) ++ more ≡ outputs tx ++ (flat_map outputs txs ++ more) = append_assoc (outputs tx) (flat_map outputs txs) more in
      let apart' : SourcesApart (sources ++ (outputs tx ++ (flat_map outputs txs ++ more))) = subst (λ l. SourcesApart (sources ++ l)) split apart in (
        λ named.
            let input = any_in (names_id id) tx.inputs named in
            let source = any_in (is_spent_by input.0) sources (found_any (is_spent_by input.0) sources (in_all _ tx.inputs there.0 input.0 input.1)) in
            not_in_both id sources (outputs tx ++ (flat_map outputs txs ++ more)) apart'
            (in_any (has_id id) sources source.0 source.1
            (subst (λ name. same_source id name ≡ true)
            (sym (same_source_is source.0.id input.0.source (and_left (same_source source.0.id input.0.source) _ source.2)))
            input.2)),
        made_before (sources ++ outputs tx) more txs
            (subst SourcesApart (sym (append_assoc sources (outputs tx) (flat_map outputs txs ++ more))) apart')
            there.1,
      )

  -- so no input of theirs names what comes behind them
  pub not_behind : (more : List Source) (txs : List Tx) → MadeBefore more txs → list_any (names_id id) (flat_map (λ tx. tx.inputs) txs) ≡ true → list_any (has_id id) more ≡ false
  not_behind more [] before e = absurd (true≢false (sym e))
  not_behind more (tx ∷ txs) before e =
      elim (list_any (names_id id) tx.inputs) as (λ r. list_any (names_id id) tx.inputs ≡ r → (r || list_any (names_id id) (flat_map (λ tx. tx.inputs) txs)) ≡ true → list_any (has_id id) more ≡ false) [
        | true ↦ λ here _.
            or_right (list_any (has_id id) (flat_map outputs txs)) (list_any (has_id id) more)
            (sym (list_any-append (has_id id) (flat_map outputs txs) more)
            ∙ or_right (list_any (has_id id) (outputs tx)) _ (sym (list_any-append (has_id id) (outputs tx) (flat_map outputs txs ++ more)) ∙ before.0 here))
        | false ↦ λ _ later. not_behind more txs before.1 later
      ] refl (sym (list_any-append (names_id id) tx.inputs (flat_map (λ tx. tx.inputs) txs)) ∙ e)

abbrev pub tx_records : ℕ → Text → Tx → List Record
tx_records time currency tx = map Spend tx.inputs ++ map make_record (outputs_made time currency tx)

abbrev pub all_inputs : List Tx → List Input
all_inputs txs = flat_map (λ tx. tx.inputs) txs

-- what the transactions name goes, and what they make and do not name comes
module _ (time : ℕ) (currency : Text) (id : SourceId) where
  abbrev pub all_outputs : List Tx → List Source
  all_outputs txs = flat_map (outputs_made time currency) txs

  pub transactions_at : (more : List Source) (txs : List Tx) → SourcesApart (all_outputs txs) → MadeBefore id (outputs_made time currency) more txs → (n : ℕ) (row : Option SourceRow)
      → fold (source_change time id) (n, row) (flat_map (tx_records time currency) txs)
      ≡ (n + length (all_outputs txs), cond (list_any (names_id id) (all_inputs txs)) None (option_or (found id n (all_outputs txs)) row))
  transactions_at more [] apart before n row = ap (λ m. (m, row)) (sym (add-zero n))
  transactions_at more (tx ∷ txs) apart before n row =
      let made = outputs_made time currency tx in
      let change = source_change time id in
      let one = gives_both change (takes_away time id Spend (λ (input : Input). input.source) (λ input m r. refl) tx.inputs)
      (makes time id make_record made (outputs_make time 0 (tx_hash currency tx) tx.outputs) (apart_first made (all_outputs txs) apart)) in
      fold-append change (n, row) (tx_records time currency tx) (flat_map (tx_records time currency) txs)
      ∙ ap (λ state. fold change state (flat_map (tx_records time currency) txs)) (one.at (n, row))
      ∙ transactions_at more txs (apart_last made (all_outputs txs) apart) before.1 (n + length made)
      (option_or (found id n made) (cond (list_any (names_id id) tx.inputs) None row))
      ∙ (λ i. (counted i, placed i))
    where
      counted : n + length (outputs_made time currency tx) + length (all_outputs txs) ≡ n + length (all_outputs (tx ∷ txs))
      counted = omega (arith, length-append (outputs_made time currency tx) (all_outputs txs))

      by_cases : (i j : Bool) (f g row : Option SourceRow) → (i ≡ true → (f ≡ None) × (g ≡ None)) → (f ≡ None) ⊎ (g ≡ None)
          → cond j None (option_or g (option_or f (cond i None row))) ≡ cond (i || j) None (option_or (option_or f g) row)
      by_cases true j (Some x) g row named apart = absurd (none-some x (sym (named refl).0))
      by_cases true j None (Some y) row named apart = absurd (none-some y (sym (named refl).1))
      by_cases true true None None row named apart = refl
      by_cases true false None None row named apart = refl
      by_cases false true f g row named apart = refl
      by_cases false false None None row named apart = refl
      by_cases false false None (Some y) row named apart = refl
      by_cases false false (Some x) None row named apart = refl
      by_cases false false (Some x) (Some y) row named (inl e) = absurd (none-some x (sym e))
      by_cases false false (Some x) (Some y) row named (inr e) = absurd (none-some y (sym e))

      not_named : list_any (names_id id) tx.inputs ≡ true
          → (found id n (outputs_made time currency tx) ≡ None) × (found id (n + length (outputs_made time currency tx)) (all_outputs txs) ≡ None)
      not_named named =
          let none = sym (list_any-append (has_id id) (outputs_made time currency tx) (all_outputs txs ++ more)) ∙ before.0 named in
          let later = or_right (list_any (has_id id) (outputs_made time currency tx)) _ none in (
            found_none id n (outputs_made time currency tx) (or_left (list_any (has_id id) (outputs_made time currency tx)) _ none),
            found_none id (n + length (outputs_made time currency tx)) (all_outputs txs)
                (or_left (list_any (has_id id) (all_outputs txs)) _ (sym (list_any-append (has_id id) (all_outputs txs) more) ∙ later)),
          )

      one_has : (found id n (outputs_made time currency tx) ≡ None) ⊎ (found id (n + length (outputs_made time currency tx)) (all_outputs txs) ≡ None)
      one_has =
          elim (list_any (has_id id) (outputs_made time currency tx)) as (λ r. list_any (has_id id) (outputs_made time currency tx) ≡ r → (found id n (outputs_made time currency tx) ≡ None) ⊎ (found id (n + length (outputs_made time currency tx)) (all_outputs txs) ≡ None)) [
            | true ↦ λ e. inr (found_none id (n + length (outputs_made time currency tx)) (all_outputs txs) (not_in_both id (outputs_made time currency tx) (all_outputs txs) apart e))
            | false ↦ λ e. inl (found_none id n (outputs_made time currency tx) e)
          ] refl

      placed : cond (list_any (names_id id) (all_inputs txs)) None
          (option_or (found id (n + length (outputs_made time currency tx)) (all_outputs txs))
          (option_or (found id n (outputs_made time currency tx)) (cond (list_any (names_id id) tx.inputs) None row)))
          ≡ cond (list_any (names_id id) (all_inputs (tx ∷ txs))) None (option_or (found id n (all_outputs (tx ∷ txs))) row)
      placed =
          by_cases (list_any (names_id id) tx.inputs) (list_any (names_id id) (all_inputs txs)) (found id n (outputs_made time currency tx)) (found id (n + length (outputs_made time currency tx)) (all_outputs txs)) row not_named one_has
          ∙ (λ i. cond (sym (list_any-append (names_id id) tx.inputs (all_inputs txs)) i) None (option_or (sym (found-append id n (outputs_made time currency tx) (all_outputs txs)) i) row))
