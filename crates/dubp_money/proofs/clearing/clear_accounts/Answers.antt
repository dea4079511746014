use Rattle.std.proofs.Common.{rules}
use Rattle.std.proofs.lemmas.List.Sorted.{IsNonDecreasingBy-from_sort_by_key}
use Rattle.dubp_sindex.specs.Rows.{Entry}
use Rattle.dubp_money.specs.Index.{HasRows}
use Rattle.dubp_money.proofs.Clears.{left_at_end, taken_at_end}
use Rattle.dubp_money.proofs.clearing.clear_accounts.Goals as goal

pub returns-clause-left : goal.returns-clause-left
returns-clause-left g c = λ rows are has.
    let is = c.in_ok-taken.ensures.cleared rows are has in
    left_at_end (HasRows c.take_little.new.index) c.args.limit rows c.in_ok-taken.taken.items is.cleared is.enough

pub returns-clause-taken : goal.returns-clause-taken
returns-clause-taken g c = λ rows are has.
    let is = c.in_ok-taken.ensures.cleared rows are has in
    taken_at_end (HasRows c.take_little.new.index) c.args.limit rows c.in_ok-taken.taken.items is.cleared is.enough
    are
    c.sort_unstable_by_key.new.self.items c.sort_unstable_by_key.ensures.permutation
    (IsNonDecreasingBy-from_sort_by_key (λ (e : Entry). e.1.order) _ c.sort_unstable_by_key.ensures.sorted (λ a r q k. search rules))
