-- What is shown of rows, and of the sources whose rows they are.
use Rattle.std.proofs.Common.{◌≡◌, ℕ, List, [], ◌∷◌, Some, None, option_map, slice_get, map, refl, ap, sym, ◌∙◌}
use Rattle.dubp_atoms.specs.Same.{Text}
use Rattle.dubp_chain.specs.Chains.{Chain}
use Rattle.dubp_chain.specs.Money.{Source, made_sources, sources_of}
use Rattle.dubp_moving.specs.States.{states}
use Rattle.dubp_sindex.specs.Numbering.{number_of}
use Rattle.dubp_sindex.specs.Rows.{Entry, of_account}
use Rattle.dubp_sindex.specs.States.{rows_of}
use Rattle.dubp_money.specs.OfMoneySteps.{account_in, entries_of, sources_left, HasTexts}
use Rattle.dubp_answers.specs.SourceLines.{view_of}
use Rattle.dubp_table_answers.specs.MoneyViews.{row_view}
use Rattle.dubp_table_answers.proofs.Accounts.{rows_left, numbered_of, numbered_sources, account_rows, sources_none}

entry_views : (account : Text → ℕ) (qs : List (ℕ × Source)) → map row_view (entries_of account qs) ≡ map view_of (map (λ (q : ℕ × Source). q.1) qs)
entry_views account [] = refl
entry_views account (q ∷ qs) = ap (λ l. view_of q.1 ∷ l) (entry_views account qs)

first_of : {X Y : Type 0} (f : X → Y) (xs : List X) → option_map f (slice_get xs 0) ≡ slice_get (map f xs) 0
first_of f [] = refl
first_of f (x ∷ xs) = refl

module _ (texts : List Text) (c : Chain) (has : HasTexts texts (made_sources c)) where
  pub views_found : (t : Text) (n : ℕ) → number_of texts t ≡ Some n → (rows : List Entry) → rows ≡ of_account n (rows_of (states (sources_left texts) c)) → map row_view rows ≡ map view_of (sources_of c t)
  views_found t n is rows are =
      ap (map row_view) (are ∙ ap (of_account n) (rows_left texts c) ∙ account_rows texts c has t n is)
      ∙ entry_views (account_in texts) (numbered_of texts c has t)
      ∙ ap (map view_of) (numbered_sources texts c has t)

  pub first_found : (t : Text) (n : ℕ) → number_of texts t ≡ Some n → option_map row_view (slice_get (of_account n (rows_of (states (sources_left texts) c))) 0) ≡ option_map view_of (slice_get (sources_of c t) 0)
  first_found t n is =
      first_of row_view (of_account n (rows_of (states (sources_left texts) c)))
      ∙ ap (λ l. slice_get l 0) (views_found t n is (of_account n (rows_of (states (sources_left texts) c))) refl)
      ∙ sym (first_of view_of (sources_of c t))

  pub first_none : (t : Text) → number_of texts t ≡ None → None ≡ option_map view_of (slice_get (sources_of c t) 0)
  first_none t none = ap (λ l. option_map view_of (slice_get l 0)) (sym (sources_none texts c has t none))

  pub views_none : (t : Text) → number_of texts t ≡ None → (rows : List Entry) → rows ≡ [] → map row_view rows ≡ map view_of (sources_of c t)
  views_none t none rows are = ap (map row_view) are ∙ ap (map view_of) (sym (sources_none texts c has t none))
