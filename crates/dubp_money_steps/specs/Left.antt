-- The rows that a chain leaves in the index of sources: its unspent sources in the order of making, each with the number that the
-- text of its condition has in a list of texts. Protocol: money, tables.
use Rattle.std.specs.Prelude.{◌≡◌, ℕ, ◌*◌, ◌^◌, ◌<◌, ◌≤◌, IsTrue, List, option_map, unwrap_or, map, length}
use Rattle.std.specs.List.{list_any, AllByRecursion}
use Rattle.dubp_atoms.specs.Same.{Text, same_text}
use Rattle.dubp_cond.specs.Conditions.{cond_text}
use Rattle.dubp_cond.specs.declared.source.SourceId.{SourceId}
use Rattle.dubp_block.specs.declared.block.Block.{Block}
use Rattle.dubp_chain.specs.Chains.{Chain}
use Rattle.dubp_chain.specs.Money.{Source, made_sources}
use Rattle.dubp_chain.specs.Tables as chain
use Rattle.dubp_chain.specs.Tables.{source_row}
use Rattle.dubp_sindex.specs.declared.rows.SourceRow.{SourceRow}
use Rattle.dubp_sindex.specs.Numbering.{number_of}
use Rattle.dubp_sindex.specs.Rows.{Entry, row_at}
use Rattle.dubp_money_steps.specs.Steps.{numbered, numbered_rest}

-- the number of a text in the list, which is 0 where it is not there
abbrev pub account_in : List Text → Text → ℕ
account_in texts text = unwrap_or (number_of texts text) 0

abbrev pub text_of : ℕ × Source → Text
text_of p = cond_text p.1.cond

-- the row of a source at its place, where `account` numbers the conditions
abbrev pub entry_of : (Text → ℕ) → ℕ × Source → Entry
entry_of account p = (p.1.id, record { amount = p.1.amount; base = p.1.base; account = account (text_of p); made_at = p.1.time; order = p.0 })

abbrev pub entries_of : (Text → ℕ) → List (ℕ × Source) → List Entry
entries_of account sources = map (entry_of account) sources

-- the rows of the unspent sources
abbrev pub sources_left : List Text → Chain → List Entry
sources_left texts c = entries_of (account_in texts) (numbered c)

-- the rows when b has spent and made, and has not cleared yet
abbrev pub sources_before_clearing : List Text → Chain → Block → List Entry
sources_before_clearing texts c b = entries_of (account_in texts) (numbered_rest c b)

-- each of these sources has a condition whose text is in the list
abbrev pub HasTexts : List Text → List Source → Type 0
HasTexts texts sources = AllByRecursion (λ s. IsTrue (list_any (same_text (cond_text s.cond)) texts)) sources

-- its amount and its base have their bounds
abbrev pub IsSmall : Source → Type 0
IsSmall s = (s.amount < 2 ^ 53) × (s.base ≤ 15)

-- how many sources a block makes at most, whose text is no longer than that of a block may be
abbrev pub most_made : ℕ
most_made = 2 ^ 22

-- so have all that the chain made, and their number
pub record AreSmall (c : Chain) : Type 0 where
  pub each : AllByRecursion IsSmall (made_sources c)
  pub count : length (made_sources c) ≤ most_made * length c

-- the row of the definition, with the number of the condition in place of its text
abbrev pub with_account : (Text → ℕ) → chain.SourceRow → SourceRow
with_account account row = record { amount = row.amount; base = row.base; account = account row.cond; made_at = row.made_at; order = row.order }

abbrev pub RowsAreAt : List Text → Chain → Type 0
RowsAreAt texts c = (id : SourceId) → row_at id (sources_left texts c) ≡ option_map (with_account (account_in texts)) (source_row c id)
