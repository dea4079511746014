-- The units of rows: of some of them, and with what is made behind them.
use Rattle.std.proofs.Common.{◌≡◌, ℕ, ◌+◌, ◌≤◌, Bool, not, List, filter, sum_by, refl, ap, ◌∙◌, arith}
use Rattle.std.specs.List.{enumerate_from}
use Rattle.std.proofs.lemmas.List.Sums.{sum_by-append}
use Rattle.std.proofs.lemmas.List.Filters.{sum_by-filter_both}
use Rattle.dubp_atoms.specs.Same.{Text}
use Rattle.dubp_chain.specs.Money.{Source, units_of}
use Rattle.dubp_sindex.specs.Rows.{Entry, units_of_entry}
use Rattle.dubp_money_steps.specs.Left.{account_in, entries_of}
use Rattle.dubp_money_steps.proofs.Units.{units_of_entries}
use Rattle.dubp_money.specs.Making.{with_made}

pub units_filter : (p : Entry → Bool) (rows : List Entry) → sum_by units_of_entry (filter p rows) ≤ sum_by units_of_entry rows
units_filter p rows = omega (arith, sum_by-filter_both p (λ e. not (p e)) (λ e. refl) units_of_entry rows)

pub units_made : (texts : List Text) (rows : List Entry) (n : ℕ) (made : List Source) → sum_by units_of_entry (with_made texts rows n made) ≡ sum_by units_of_entry rows + sum_by units_of made
units_made texts rows n made =
    sum_by-append units_of_entry rows (entries_of (account_in texts) (enumerate_from n made)) ∙ ap (λ k. sum_by units_of_entry rows + k) (units_of_entries (account_in texts) n made)
