-- The unspent sources as rows in the order of making, each with its name and the number of its account; what an account has, and
-- which account has least. Protocol: money.
use Rattle.std.specs.Prelude.{◌≡◌, ℕ, ◌+◌, ◌*◌, ◌^◌, ◌<◌, ◌≤◌, ◌==◌, ◌&&◌, nat_lt, Bool, true, false, not, List, [], ◌∷◌, ◌++◌, Option, option_map, filter, find, map, sum_by, IsTrue, ◌⊎◌, ⊤}
use Rattle.std.specs.List.{list_any, AllByRecursion}
use Rattle.dubp_atoms.specs.Same.{same_text}
use Rattle.dubp_cond.specs.declared.source.SourceId.{SourceId}
use Rattle.dubp_cond.specs.declared.source.SourceId.TheVariants.{D, T}
use Rattle.dubp_sindex.specs.declared.rows.SourceRow.{SourceRow}

abbrev pub Entry : Type 0
Entry = SourceId × SourceRow

-- an amount is in units of 10 ^ base
abbrev pub units : ℕ → ℕ → ℕ
units amount base = amount * 10 ^ base

abbrev pub units_of_entry : Entry → ℕ
units_of_entry e = units e.1.amount e.1.base

abbrev pub same_source : SourceId → SourceId → Bool
same_source (D key block) (D key' block') = same_text key key' && block == block'
same_source (T tx index) (T tx' index') = same_text tx tx' && index == index'
same_source (D key block) (T tx index) = false
same_source (T tx index) (D key block) = false

abbrev pub is_of : ℕ → Entry → Bool
is_of account e = account == e.1.account

abbrev pub is_named : SourceId → Entry → Bool
is_named id e = same_source id e.0

-- the row of a source, where it is unspent
abbrev pub row_at : SourceId → List Entry → Option SourceRow
row_at id rows = option_map (λ e. e.1) (find (is_named id) rows)

-- the rows of an account, and its units
abbrev pub of_account : ℕ → List Entry → List Entry
of_account account rows = filter (is_of account) rows

abbrev pub units_in : ℕ → List Entry → ℕ
units_in account rows = sum_by units_of_entry (of_account account rows)

-- what is left when a source is spent
abbrev pub without : SourceId → List Entry → List Entry
without id rows = filter (λ e. not (is_named id e)) rows

-- none of the list stands in it twice
abbrev pub each_once : {X : Type 0} → (X → X → Bool) → List X → Bool
each_once same [] = true
each_once same (x ∷ xs) = not (list_any (same x) xs) && each_once same xs

-- a place before those of all rows of the list
abbrev pub IsBelow : ℕ → List Entry → Type 0
IsBelow order rows = AllByRecursion (λ e. order < e.1.order) rows

abbrev pub Rises : List Entry → Type 0
Rises [] = ⊤
Rises (e ∷ rows) = IsBelow e.1.order rows × Rises rows

-- amounts, bases and places have their bounds
abbrev pub IsInRange : Entry → Type 0
IsInRange e = (e.1.amount < 2 ^ 53) × (e.1.base ≤ 15) × (e.1.order < 2 ^ 63)

-- each source once, in the order of making, all in range
pub record AreRows (rows : List Entry) : Type 0 where
  pub once : IsTrue (each_once same_source (map (λ e. e.0) rows))
  pub rises : Rises rows
  pub in_range : AllByRecursion IsInRange rows

-- with the source, the units of all rows are a number of 128 bits
abbrev pub Fits : List Entry → Entry → Type 0
Fits rows e = sum_by units_of_entry rows + units_of_entry e < 2 ^ 128

-- the source is not among the rows, and stands behind all of them in the order of making
pub record IsNewRow (rows : List Entry) (e : Entry) : Type 0 where
  pub unnamed : list_any (is_named e.0) rows ≡ false
  pub behind : AllByRecursion (λ (x : Entry). x.1.order < e.1.order) rows
  pub in_range : IsInRange e
  pub fits : Fits rows e

-- the rows with one more, between those that were made before it and those behind it
abbrev pub is_before : Entry → Entry → Bool
is_before e x = nat_lt x.1.order e.1.order

abbrev pub with_row : Entry → List Entry → List Entry
with_row e rows = filter (is_before e) rows ++ e ∷ filter (λ x. not (is_before e x)) rows

-- the source is not among the rows, and none of them has its place in the order of making
pub record IsFreeRow (rows : List Entry) (e : Entry) : Type 0 where
  pub unnamed : list_any (is_named e.0) rows ≡ false
  pub unplaced : list_any (λ (x : Entry). x.1.order == e.1.order) rows ≡ false
  pub in_range : IsInRange e
  pub fits : Fits rows e

-- A balance is an account with its units, in the order of units, and of numbers where these are the same.
abbrev pub IsAtMost : ℕ × ℕ → ℕ × ℕ → Type 0
IsAtMost x y = (x.0 < y.0) ⊎ ((x.0 ≡ y.0) × (x.1 ≤ y.1))

-- the balance of the account of a row
abbrev pub balance_of_row : List Entry → Entry → ℕ × ℕ
balance_of_row rows e = (units_in e.1.account rows, e.1.account)

-- this account has a row, and has these units
pub record IsBalance (rows : List Entry) (balance : ℕ × ℕ) : Type 0 where
  pub there : IsTrue (list_any (is_of balance.1) rows)
  pub units : balance.0 ≡ units_in balance.1 rows

-- it is the balance of an account, and no account that has a row has less
pub record IsLeastBalance (rows : List Entry) (balance : ℕ × ℕ) : Type 0 where
  pub is : IsBalance rows balance
  pub least : AllByRecursion (λ e. IsAtMost balance (balance_of_row rows e)) rows
