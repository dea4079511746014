-- How the code reads a block, place after place. An Err has how many lines are left, from the first that is not taken. The
-- laws that join it to the block's text stand in the contract of `read_block`.
use Rattle.std.specs.Prelude.{ℕ, zero, suc, ◌+◌, ◌==◌, Bool, not, List, [], length, codes, Option, Some, None, Result, Ok, Err, if◌then◌else◌}
use Rattle.dubp_atoms.specs.Letters.{is_key, is_hash, is_currency, is_sig}
use Rattle.dubp_atoms.specs.Reading.{number_of, signed_of, stamp_of, text_if}
use Rattle.dubp_lines.specs.Lines.{Place}
use Rattle.dubp_lines.specs.Taking.{line_at, just, named, same_line, begins_with, next_passes}
use Rattle.dubp_lines.specs.Readers.{Reader, ◌>>=◌, gives, optional, rows, entries}
use Rattle.dubp_cond.specs.ReadingLines.{input_of, unlock_line_of, output_of}
use Rattle.dubp_cond.specs.declared.tx.Tx.{Tx}
use Rattle.dubp_params.specs.Reading.{params_of}
use Rattle.dubp_block.specs.ReadingLines.{version_of, base_of, identity_of, member_of, revoked_of, certification_of, head_of, comment_of}
use Rattle.dubp_block.specs.declared.block.Block.{Block}
use Rattle.dubp_block.specs.declared.reading.Opening.{Opening}
use Rattle.dubp_block.specs.declared.reading.Issuing.{Issuing}
use Rattle.dubp_block.specs.declared.reading.Links.{Links}
use Rattle.dubp_block.specs.declared.reading.Closing.{Closing}
use Rattle.dubp_block.specs.declared.sections.FirstSections.{FirstSections}
use Rattle.dubp_block.specs.declared.sections.LastSections.{LastSections}

-- a line of this name and a number
abbrev pub number_at : List ℕ → Reader ℕ
number_at name = line_at (named name number_of)

-- a line of this name and a text that passes the test
abbrev pub text_at : (List ℕ → Bool) → List ℕ → Reader (List ℕ)
text_at test name = line_at (named name (text_if test))

-- from Version to MedianTime
unfoldable pub opening_at : Reader Opening
opening_at = do
  version ← line_at (named (codes "Version: ") version_of)
  type ← line_at (just (codes "Type: Block"))
  currency ← text_at is_currency (codes "Currency: ")
  number ← number_at (codes "Number: ")
  pow_min ← number_at (codes "PoWMin: ")
  time ← number_at (codes "Time: ")
  median_time ← number_at (codes "MedianTime: ")
  gives (record { version = version; currency = currency; number = number; pow_min = pow_min; time = time; median_time = median_time })

-- from UniversalDividend, where there is one, to DifferentIssuersCount
unfoldable pub issuing_at : Reader Issuing
issuing_at = do
  dividend ← optional (codes "UniversalDividend: ") number_of
  unit_base ← line_at (named (codes "UnitBase: ") base_of)
  issuer ← text_at is_key (codes "Issuer: ")
  frame ← number_at (codes "IssuersFrame: ")
  frame_var ← line_at (named (codes "IssuersFrameVar: ") signed_of)
  issuers ← number_at (codes "DifferentIssuersCount: ")
  gives (record { dividend = dividend; unit_base = unit_base; issuer = issuer; frame = frame; frame_var = frame_var; issuers = issuers })

-- Parameters, in block 0
unfoldable pub first_links_at : Reader Links
first_links_at = do
  params ← line_at (named (codes "Parameters: ") params_of)
  gives (record { previous = None; params = Some params })

-- PreviousHash and PreviousIssuer, in another block
unfoldable pub later_links_at : Reader Links
later_links_at = do
  hash ← text_at is_hash (codes "PreviousHash: ")
  issuer ← text_at is_key (codes "PreviousIssuer: ")
  gives (record { previous = Some (hash, issuer); params = None })

abbrev pub links_at : ℕ → Reader Links
links_at number = if number == 0 then first_links_at else later_links_at

-- a heading, and an entry a line up to the next heading
unfoldable pub section_at : {A : Type 0} → List ℕ → List ℕ → (List ℕ → Option A) → Reader (List A)
section_at heading next read = do
  line ← line_at (just heading)
  entries (next_passes (same_line next)) (line_at read)

-- the first four sections
unfoldable pub first_sections_at : Reader FirstSections
first_sections_at = do
  identities ← section_at (codes "Identities:") (codes "Joiners:") identity_of
  joiners ← section_at (codes "Joiners:") (codes "Actives:") member_of
  actives ← section_at (codes "Actives:") (codes "Leavers:") member_of
  leavers ← section_at (codes "Leavers:") (codes "Revoked:") member_of
  gives (record { identities = identities; joiners = joiners; actives = actives; leavers = leavers })

-- the comment's line, where one is announced
abbrev pub comment_at : ℕ → Reader (List ℕ)
comment_at zero = gives []
comment_at (suc n) = line_at comment_of

-- a transaction in compact form
unfoldable pub tx_at : Reader Tx
tx_at = do
  head ← line_at (named (codes "TX:10:") head_of)
  stamp ← line_at stamp_of
  issuers ← rows head.issuers (text_if is_key)
  inputs ← rows head.inputs input_of
  unlocks ← rows head.unlocks unlock_line_of
  outputs ← rows head.outputs output_of
  comment ← comment_at head.comments
  sigs ← rows head.issuers (text_if is_sig)
  gives (record { stamp = stamp; locktime = head.locktime; issuers = issuers; inputs = inputs; unlocks = unlocks; outputs = outputs; comment = comment; sigs = sigs })

-- the heading, and transactions as long as the next line is one's first
unfoldable pub transactions_at : Reader (List Tx)
transactions_at = do
  line ← line_at (just (codes "Transactions:"))
  entries (λ ls. not (next_passes (begins_with (codes "TX:")) ls)) tx_at

-- the last four sections
unfoldable pub last_sections_at : Reader LastSections
last_sections_at = do
  revoked ← section_at (codes "Revoked:") (codes "Excluded:") revoked_of
  excluded ← section_at (codes "Excluded:") (codes "Certifications:") (text_if is_key)
  certifications ← section_at (codes "Certifications:") (codes "Transactions:") certification_of
  transactions ← transactions_at
  gives (record { revoked = revoked; excluded = excluded; certifications = certifications; transactions = transactions })

-- InnerHash, Nonce and the signature
unfoldable pub closing_at : Reader Closing
closing_at = do
  inner_hash ← text_at is_hash (codes "InnerHash: ")
  nonce ← number_at (codes "Nonce: ")
  sig ← line_at (text_if is_sig)
  gives (record { inner_hash = inner_hash; nonce = nonce; sig = sig })

-- the block of these parts
abbrev pub made : Opening → Issuing → Links → ℕ → FirstSections → LastSections → Closing → Block
made opening issuing links members first last closing = record {
  version = opening.version;
  currency = opening.currency;
  number = opening.number;
  pow_min = opening.pow_min;
  time = opening.time;
  median_time = opening.median_time;
  dividend = issuing.dividend;
  unit_base = issuing.unit_base;
  issuer = issuing.issuer;
  frame = issuing.frame;
  frame_var = issuing.frame_var;
  issuers = issuing.issuers;
  previous = links.previous;
  params = links.params;
  members = members;
  identities = first.identities;
  joiners = first.joiners;
  actives = first.actives;
  leavers = first.leavers;
  revoked = last.revoked;
  excluded = last.excluded;
  certifications = last.certifications;
  transactions = last.transactions;
  inner_hash = closing.inner_hash;
  nonce = closing.nonce;
  sig = closing.sig;
}

unfoldable pub block_at : Reader Block
block_at = do
  opening ← opening_at
  issuing ← issuing_at
  links ← links_at opening.number
  members ← number_at (codes "MembersCount: ")
  first ← first_sections_at
  last ← last_sections_at
  closing ← closing_at
  gives (made opening issuing links members first last closing)

-- the value, where nothing is left behind it
abbrev pub if_last : {A : Type 0} → Result (A × Place) ℕ → Result A ℕ
if_last (Ok x) = if length x.1.0 + length x.1.1 == 0 then Ok x.0 else Err (length x.1.0)
if_last (Err left) = Err left

-- all of a text
unfoldable pub block_of : Place → Result Block ℕ
block_of p = if_last (block_at p)
