-- One source more, or one less: what it makes of the tables. These words mirror the code.
use Rattle.std.specs.Prelude.{◌≡◌, ℕ, ◌+◌, ◌-◌, ◌^◌, ◌<◌, ◌==◌, Bool, false, List, Option, Some, None, option_map, if◌then◌else◌, ⊤}
use Rattle.std.specs.Option.{option_map_or}
use Rattle.dubp_sindex.specs.declared.origins.Name.{Name}
use Rattle.dubp_sindex.specs.declared.rows.LinkedRow.{LinkedRow}
use Rattle.dubp_sindex.specs.declared.rows.Balance.{Balance}
use Rattle.dubp_sindex.specs.declared.change.Change.{Change}
use Rattle.dubp_sindex.specs.Rows.{Entry}
use Rattle.dubp_sindex.specs.Origins.{OriginTexts, same_name}
use Rattle.dubp_sindex.specs.Derived.{place_at, linked_at, balance_at}

abbrev pub is_place : ℕ → Option ℕ → Bool
is_place q o = option_map_or (λ p. q == p) o false

-- a row with another neighbour
abbrev pub with_after : Option ℕ → LinkedRow → LinkedRow
with_after after r = record { name = r.name; row = r.row; before = r.before; after = after }

abbrev pub with_before : Option ℕ → LinkedRow → LinkedRow
with_before before r = record { name = r.name; row = r.row; before = before; after = r.after }

-- the row is changed where it is the one
abbrev pub changed : Bool → (LinkedRow → LinkedRow) → Option LinkedRow → Option LinkedRow
changed here change row = if here then option_map change row else row

-- a balance with one source more of these units at this place, between these neighbours
abbrev pub joined : Option Balance → ℕ → ℕ → ℕ → Option ℕ → Option ℕ → Balance
joined None account units place before after = record { account = account; units = units; count = 1; first = place; last = place }
joined (Some b) account units place before after = record {
  account = account;
  units = b.units + units;
  count = b.count + 1;
  first = option_map_or (λ _. b.first) before place;
  last = option_map_or (λ _. b.last) after place;
}

-- a balance with one source less of these units, which had these neighbours
abbrev pub parted : ℕ → Option ℕ → Option ℕ → Balance → Option Balance
parted units None None b = None
parted units None (Some after) b = Some (record { account = b.account; units = b.units - units; count = b.count - 1; first = after; last = b.last })
parted units (Some before) None b = Some (record { account = b.account; units = b.units - units; count = b.count - 1; first = b.first; last = before })
parted units (Some before) (Some after) b = Some (record { account = b.account; units = b.units - units; count = b.count - 1; first = b.first; last = b.last })

-- the sums of the balance with these units more are numbers of 128 and of 64 bits
abbrev pub JoinFits : Option Balance → ℕ → Type 0
JoinFits None units = ⊤
JoinFits (Some b) units = (b.units + units < 2 ^ 128) × (b.count + 1 < 2 ^ 64)

-- by these numbers of origins, the rows differ by what becomes of the source of this name
pub record IsChanged (o : OriginTexts) (name : Name) (c : Change) (old new : List Entry) : Type 0 where
  pub named : (x : Name) → place_at o x new ≡ (if same_name x name then option_map (λ _. c.place) c.own else place_at o x old)
  pub row : (q : ℕ) → linked_at o q new ≡ (if q == c.place then c.own else changed (is_place q c.after) (with_before c.ahead) (changed (is_place q c.before) (with_after c.behind) (linked_at o q old)))
  pub balance : (a : ℕ) → balance_at a new ≡ (if a == c.account then c.balance else balance_at a old)
