-- The tables that are kept of the sources, as functions of the rows, and of the numbers by which their origins are told. Protocol: money.
use Rattle.std.specs.Prelude.{ℕ, ◌+◌, ◌-◌, ◌*◌, ◌^◌, min, ◌==◌, nat_lt, Bool, List, [], ◌∷◌, sum_by, Option, Some, None, option_map, filter, find, length}
use Rattle.dubp_sindex.specs.declared.origins.Name.{Name}
use Rattle.dubp_sindex.specs.declared.rows.LinkedRow.{LinkedRow}
use Rattle.dubp_sindex.specs.declared.rows.Balance.{Balance}
use Rattle.dubp_sindex.specs.Origins.{OriginTexts, name_of, has_name}
use Rattle.dubp_sindex.specs.Rows.{Entry, of_account, units_of_entry}

abbrev pub place_of : Entry → ℕ
place_of e = e.1.order

-- names: the place of the source of this name
abbrev pub place_at : OriginTexts → Name → List Entry → Option ℕ
place_at o name rows = option_map place_of (find (has_name o name) rows)

-- the place of the first source of a list, and that of the last
abbrev pub first_place : List Entry → Option ℕ
first_place [] = None
first_place (e ∷ es) = Some e.1.order

abbrev pub last_of : Entry → List Entry → ℕ
last_of e [] = e.1.order
last_of e (f ∷ es) = last_of f es

abbrev pub last_place : List Entry → Option ℕ
last_place [] = None
last_place (e ∷ es) = Some (last_of e es)

-- where places rise, the greatest place below p, and the least above it
abbrev pub before : ℕ → List Entry → Option ℕ
before p es = last_place (filter (λ e. nat_lt e.1.order p) es)

abbrev pub after : ℕ → List Entry → Option ℕ
after p es = first_place (filter (λ e. nat_lt p e.1.order) es)

-- rows: the source at a place, with its neighbours among those of its account
abbrev pub linked : OriginTexts → List Entry → Entry → LinkedRow
linked o rows e = record {
  name = name_of o e.0;
  row = e.1;
  before = before e.1.order (of_account e.1.account rows);
  after = after e.1.order (of_account e.1.account rows);
}

abbrev pub is_at : ℕ → Entry → Bool
is_at p e = e.1.order == p

abbrev pub linked_at : OriginTexts → ℕ → List Entry → Option LinkedRow
linked_at o p rows = option_map (linked o rows) (find (is_at p) rows)

-- balances: the units of an account that has a row, how many it has, and the places of the first and the last of them
abbrev pub balance_of : ℕ → List Entry → Option Balance
balance_of account [] = None
balance_of account (e ∷ es) = Some (record {
  account = account;
  units = sum_by units_of_entry (e ∷ es);
  count = length (e ∷ es);
  first = e.1.order;
  last = last_of e es;
})

abbrev pub balance_at : ℕ → List Entry → Option Balance
balance_at account rows = balance_of account (of_account account rows)

-- the place of a balance among all: by its units, and then by the number of its account, which is below 2^64
abbrev pub measure : Balance → ℕ
measure b = b.units * 2 ^ 64 + min b.account (2 ^ 64 - 1)
