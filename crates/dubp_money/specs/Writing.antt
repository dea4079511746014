-- What the inputs of transactions leave of rows, and how far clearing has come, account by account. Protocol: money.
use Rattle.std.specs.Prelude.{◌≡◌, ℕ, Bool, true, not, List, filter, nat_lt}
use Rattle.std.specs.List.{list_any}
use Rattle.std.specs.List.Sorted.{IsPermutation}
use Rattle.dubp_cond.specs.declared.source.Input.{Input}
use Rattle.dubp_sindex.specs.Rows.{Entry, is_named, units_in}
use Rattle.dubp_money_steps.specs.Clearing.{HasEnough}

-- the rows that no input names
abbrev pub without_inputs : List Input → List Entry → List Entry
without_inputs inputs rows = filter (λ e. not (list_any (λ (i : Input). is_named i.source e) inputs)) rows

-- Some accounts are gone, each of which had too little: their rows were taken, in some order, and the others are left.
pub record IsCleared (Has : List Entry → Type 0) (limit : ℕ) (rows so_far : List Entry) : Type 0 where
  pub gone : ℕ → Bool
  pub left : Has (filter (λ e. not (gone e.1.account)) rows)
  pub taken : IsPermutation so_far (filter (λ e. gone e.1.account) rows)
  pub little : (account : ℕ) → gone account ≡ true → nat_lt (units_in account rows) limit ≡ true

-- and none that is left has too little
pub record AreCleared (Has : List Entry → Type 0) (limit : ℕ) (rows so_far : List Entry) : Type 0 where
  pub cleared : IsCleared Has limit rows so_far
  pub enough : HasEnough limit (filter (λ e. not (cleared.gone e.1.account)) rows)
