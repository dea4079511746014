-- The unspent source that an input spends, as the index of sources has it.
use Rattle.std.proofs.Common.{◌≡◌, ℕ, Bool, true, false, cond, ◌&&◌, ◌==◌, List, [], ◌∷◌, ◌++◌, Option, Some, None, option_map, map, refl, ap, sym, ◌∙◌, subst}
use Rattle.std.specs.Prelude.{find, if◌then◌else◌}
use Rattle.std.specs.Option.{option_or}
use Rattle.std.proofs.lemmas.Option.{none-some}
use Rattle.std.proofs.lemmas.List.Folds.{find-append}
use Rattle.dubp_atoms.specs.Same.{Text}
use Rattle.dubp_cond.specs.declared.source.SourceId.{SourceId}
use Rattle.dubp_cond.specs.declared.source.Input.{Input}
use Rattle.dubp_chain.specs.Chains.{Chain}
use Rattle.dubp_chain.specs.Money.{Source, same_source, among, is_left, made_sources, cleared, unspent}
use Rattle.dubp_validity.specs.Rules.{IsSound}
use Rattle.dubp_validity.specs.MoneyRules.{is_spent_by, spent}
use Rattle.dubp_lists.proofs.Elements.{or_left, or_right}
use Rattle.dubp_money.proofs.OfLaws.{made_sources-once}
use Rattle.dubp_money.proofs.OfLaws.{same_source_is, same_source_own, SourcesApart, sources_tail, sources_head, sources-filter}
use Rattle.dubp_sindex.specs.declared.rows.SourceRow.{SourceRow}
use Rattle.dubp_sindex.specs.Rows as rows
use Rattle.dubp_sindex.specs.Rows.{Entry, is_named, row_at}
use Rattle.dubp_moving.specs.States.{states}
use Rattle.dubp_sindex.specs.States.{rows_of}
use Rattle.dubp_money.specs.OfMoneySteps.{numbered}
use Rattle.dubp_money.specs.OfMoneySteps.{account_in, entry_of, entries_of, sources_left}
use Rattle.dubp_money.proofs.OfMoneySteps.{same_name}
use Rattle.dubp_money.proofs.OfMoneySteps.{without_numbers}
use Rattle.dubp_money_rules.specs.Spending.{time_in, fitting_row, time_of_row}

pub flip : (a b : SourceId) → same_source a b ≡ same_source b a
flip a b =
    elim (same_source a b) as (λ r. same_source a b ≡ r → r ≡ same_source b a) [
      | true ↦ λ e. sym (subst (λ k. same_source k a ≡ true) (same_source_is a b e) (same_source_own a))
      | false ↦ λ e. elim (same_source b a) as (λ r. same_source b a ≡ r → false ≡ r) [ true ↦ λ h. sym e ∙ subst (λ k. same_source k b ≡ true) (same_source_is b a h) (same_source_own b) | false ↦ λ _. refl ] refl
    ] refl

abbrev fits : Input → Source → Bool
fits input s = s.amount == input.amount && s.base == input.base

-- no other source has the name
none_of_name : (input : Input) (s : Source) (xs : List Source) → s.id ≡ input.source → among xs s ≡ false → find (is_spent_by input) xs ≡ None
none_of_name input s [] is none = refl
none_of_name input s (x ∷ xs) is none =
    let other : same_source x.id input.source ≡ false = ap (same_source x.id) (sym is) ∙ flip x.id s.id ∙ or_left (same_source s.id x.id) (among xs s) none in
    rw other (none_of_name input s xs is (or_right (same_source s.id x.id) (among xs s) none))

abbrev sources_in : List (ℕ × Source) → List Source
sources_in ps = map (λ (q : ℕ × Source). q.1) ps

-- what a row tells of its source
module _ {V : Type 0} (account : Text → ℕ) (of_row : SourceRow → V) (of_source : Source → V) (alike : (p : ℕ × Source) → of_row (entry_of account p).1 ≡ of_source p.1) (input : Input) where
  pick : (f : Bool) (p : ℕ × Source) → option_map of_row (if f then Some (entry_of account p).1 else None) ≡ option_map of_source (cond f (Some p.1) None)
  pick true p = ap Some (alike p)
  pick false p = refl

  abbrev told_row : List (ℕ × Source) → Option V
  told_row ps = option_map of_row (fitting_row input (row_at input.source (entries_of account ps)))

  find_row : (ps : List (ℕ × Source)) → SourcesApart (sources_in ps) → told_row ps ≡ option_map of_source (find (is_spent_by input) (sources_in ps))
  find_row [] apart = refl
  find_row (p ∷ ps) apart =
      let s : Source = p.1 in
      let same : rows.same_source input.source s.id ≡ same_source s.id input.source = same_name input.source s.id ∙ flip input.source s.id in
      let later = find_row ps (sources_tail s (sources_in ps) apart) in
      let told : Bool → Option V = λ f. option_map of_row (if f then Some (entry_of account p).1 else None) in
      elim (rows.same_source input.source s.id) as (λ r. rows.same_source input.source s.id ≡ r →
      option_map of_row (fitting_row input (option_map (λ (e : Entry). e.1) (cond r (Some (entry_of account p)) (find (is_named input.source) (entries_of account ps)))))
      ≡ option_map of_source (cond (same_source s.id input.source && fits input s) (Some s) (find (is_spent_by input) (sources_in ps)))) [
        | true ↦ λ e.
            let named : same_source s.id input.source ≡ true = sym same ∙ e in
            let none = none_of_name input s (sources_in ps) (same_source_is s.id input.source named) (sources_head s (sources_in ps) apart) in
            subst (λ r. told (fits input s) ≡ option_map of_source (cond (r && fits input s) (Some s) (find (is_spent_by input) (sources_in ps)))) (sym named)
            (subst (λ o. told (fits input s) ≡ option_map of_source (cond (fits input s) (Some s) o)) (sym none) (pick (fits input s) p))
        | false ↦ λ e.
            subst (λ r. told_row ps ≡ option_map of_source (cond (r && fits input s) (Some s) (find (is_spent_by input) (sources_in ps)))) (sym (sym same ∙ e)) later
      ] refl

unspent_is : (c : Chain) → sources_in (numbered c) ≡ unspent c
unspent_is c = without_numbers (is_left c (cleared c)) 0 (made_sources c)

-- the rows after a chain are those that it leaves
rows_left : (texts : List Text) (c : Chain) → rows_of (states (sources_left texts) c) ≡ sources_left texts c
rows_left texts [] = refl
rows_left texts (b ∷ c) = refl

pub row_left : {V : Type 0} (texts : List Text) (of_row : SourceRow → V) (of_source : Source → V) → ((p : ℕ × Source) → of_row (entry_of (account_in texts) p).1 ≡ of_source p.1)
    → (c : Chain) → IsSound c → (input : Input)
    → option_map of_row (fitting_row input (row_at input.source (rows_of (states (sources_left texts) c)))) ≡ option_map of_source (spent (unspent c) input)
row_left texts of_row of_source alike c sound input =
    let apart : SourcesApart (unspent c) = sources-filter (is_left c (cleared c)) (made_sources c) (made_sources-once c sound) in
    ap (λ r. option_map of_row (fitting_row input (row_at input.source r))) (rows_left texts c)
    ∙ find_row (account_in texts) of_row of_source alike input (numbered c) (subst SourcesApart (sym (unspent_is c)) apart)
    ∙ ap (λ l. option_map of_source (find (is_spent_by input) l)) (unspent_is c)

pub time_left : (texts : List Text) (c : Chain) → IsSound c → (input : Input) → time_of_row input (row_at input.source (rows_of (states (sources_left texts) c))) ≡ time_in (spent (unspent c) input)
time_left texts c sound input = row_left texts (λ (r : SourceRow). r.made_at) (λ (s : Source). s.time) (λ p. refl) c sound input

-- what is behind other sources is spent where none of these is
module _ {V : Type 0} (told : Source → V) (input : Input) (xs ys : List Source) where
  pub told_first : (v : V) → Some v ≡ option_map told (spent xs input) → Some v ≡ option_map told (spent (xs ++ ys) input)
  told_first v e = first (spent xs input) e ∙ sym (ap (option_map told) (find-append (is_spent_by input) xs ys))
    where
      first : (o : Option Source) → Some v ≡ option_map told o → Some v ≡ option_map told (option_or o (spent ys input))
      first None e = absurd (none-some v (sym e))
      first (Some s) e = e

  pub told_then : (found : Option V) → None ≡ option_map told (spent xs input) → found ≡ option_map told (spent ys input) → found ≡ option_map told (spent (xs ++ ys) input)
  told_then found none e = e ∙ behind (spent xs input) none ∙ sym (ap (option_map told) (find-append (is_spent_by input) xs ys))
    where
      behind : (o : Option Source) → None ≡ option_map told o → option_map told (spent ys input) ≡ option_map told (option_or o (spent ys input))
      behind None e = refl
      behind (Some s) e = absurd (none-some (told s) e)
