-- The places of a block's text, the lines that each takes, and the line that is refused by them. Protocol: commands and answers; block text.
use Rattle.std.specs.Prelude.{◌≡◌, ℕ, zero, suc, ◌+◌, ◌==◌, ◌↔◌, List, [], ◌∷◌, ◌++◌, replicate, codes, Option, Some, None, option_map, is_some, if◌then◌else◌}
use Rattle.std.specs.Option.{option_map_or}
use Rattle.dubp_lines.specs.Lines.{split}
use Rattle.dubp_lines.specs.Taking.{just, named, same_line, begins_with}
use Rattle.dubp_atoms.specs.Letters.{is_key, is_hash, is_currency, is_sig}
use Rattle.dubp_atoms.specs.Reading.{number_of, signed_of, stamp_of, text_if}
use Rattle.dubp_cond.specs.ReadingLines.{input_of, unlock_line_of, output_of}
use Rattle.dubp_params.specs.Reading.{params_of}
use Rattle.dubp_block.specs.ReadingLines.{version_of, base_of, identity_of, member_of, revoked_of, certification_of, head_of, comment_of}
use Rattle.dubp_block.specs.declared.kinds.TxHead.{TxHead}
use Rattle.dubp_block.specs.RefusedLine.{IsRefusedLine}

-- the sections, in their order
pub data Section : Type 0 where
  Identities : Section
  Joiners : Section
  Actives : Section
  Leavers : Section
  Revoked : Section
  Excluded : Section
  Certifications : Section
  Transactions : Section

-- the kinds of lines behind the first line of a transaction
pub data Part : Type 0 where
  StampLine : Part
  Issuer : Part
  Input : Part
  Unlock : Part
  Output : Part
  Comment : Part
  Signature : Part

-- A place is named by what comes next. The number of the block is kept until it has decided on PreviousHash or Parameters.
pub data Spot : Type 0 where
  AtVersion : Spot
  AtType : Spot
  AtCurrency : Spot
  AtNumber : Spot
  AtPowMin : ℕ → Spot
  AtTime : ℕ → Spot
  AtMedianTime : ℕ → Spot
  AtDividend : ℕ → Spot
  AtUnitBase : ℕ → Spot
  AtIssuer : ℕ → Spot
  AtFrame : ℕ → Spot
  AtFrameVar : ℕ → Spot
  AtIssuers : ℕ → Spot
  AtLinks : ℕ → Spot
  AtPreviousIssuer : Spot
  AtMembers : Spot
  AtHeading : Section → Spot
  InSection : Section → Spot
  InTransaction : Part → List Part → Spot
  AtInnerHash : Spot
  AtNonce : Spot
  AtSignature : Spot
  AtEnd : Spot

abbrev pub heading : Section → List ℕ
heading Identities = codes "Identities:"
heading Joiners = codes "Joiners:"
heading Actives = codes "Actives:"
heading Leavers = codes "Leavers:"
heading Revoked = codes "Revoked:"
heading Excluded = codes "Excluded:"
heading Certifications = codes "Certifications:"
heading Transactions = codes "Transactions:"

-- what a place takes: the place behind such a line, where it is spelled so
abbrev pub takes : {A : Type 0} → Option A → Spot → Option Spot
takes read spot = option_map (λ a. spot) read

-- UnitBase, which comes where there is no UniversalDividend
abbrev pub unit_base : ℕ → List ℕ → Option Spot
unit_base n line = takes (named (codes "UnitBase: ") base_of line) (AtIssuer n)

-- PreviousHash where the number is not 0, and else Parameters
abbrev pub links : ℕ → List ℕ → Option Spot
links n line =
    if n == 0
    then takes (named (codes "Parameters: ") params_of line) AtMembers
    else takes (named (codes "PreviousHash: ") (text_if is_hash) line) AtPreviousIssuer

-- InnerHash, which comes behind the last transaction
abbrev pub inner_hash : List ℕ → Option Spot
inner_hash line = takes (named (codes "InnerHash: ") (text_if is_hash) line) AtNonce

-- a line of a transaction
abbrev pub part_of : Part → List ℕ → Option Spot → Option Spot
part_of StampLine line next = if is_some (stamp_of line) then next else None
part_of Issuer line next = if is_some (text_if is_key line) then next else None
part_of Input line next = if is_some (input_of line) then next else None
part_of Unlock line next = if is_some (unlock_line_of line) then next else None
part_of Output line next = if is_some (output_of line) then next else None
part_of Comment line next = if is_some (comment_of line) then next else None
part_of Signature line next = if is_some (text_if is_sig line) then next else None

-- where these parts of a transaction are left; behind the last one another transaction may come
abbrev pub within : List Part → Spot
within [] = InSection Transactions
within (part ∷ parts) = InTransaction part parts

-- a comment has a line where one is announced
abbrev pub comment_parts : ℕ → List Part
comment_parts zero = []
comment_parts (suc n) = Comment ∷ []

-- the lines that the first line of a transaction announces
abbrev pub parts_of : TxHead → List Part
parts_of head =
    StampLine
    ∷ (replicate head.issuers Issuer
    ++ (replicate head.inputs Input
    ++ (replicate head.unlocks Unlock
    ++ (replicate head.outputs Output
    ++ (comment_parts head.comments
    ++ replicate head.issuers Signature)))))

-- an entry of a section, or its first line
abbrev pub entry : Section → List ℕ → Option Spot
entry Identities line = takes (identity_of line) (InSection Identities)
entry Joiners line = takes (member_of line) (InSection Joiners)
entry Actives line = takes (member_of line) (InSection Actives)
entry Leavers line = takes (member_of line) (InSection Leavers)
entry Revoked line = takes (revoked_of line) (InSection Revoked)
entry Excluded line = takes (text_if is_key line) (InSection Excluded)
entry Certifications line = takes (certification_of line) (InSection Certifications)
entry Transactions line = option_map (λ head. within (parts_of head)) (named (codes "TX:10:") head_of line)

-- an entry, or the heading of the section behind it
abbrev pub entry_or : Section → Section → List ℕ → Option Spot
entry_or section behind line = if same_line (heading behind) line then Some (InSection behind) else entry section line

abbrev pub in_section : Section → List ℕ → Option Spot
in_section Identities line = entry_or Identities Joiners line
in_section Joiners line = entry_or Joiners Actives line
in_section Actives line = entry_or Actives Leavers line
in_section Leavers line = entry_or Leavers Revoked line
in_section Revoked line = entry_or Revoked Excluded line
in_section Excluded line = entry_or Excluded Certifications line
in_section Certifications line = entry_or Certifications Transactions line
in_section Transactions line = if begins_with (codes "TX:") line then entry Transactions line else inner_hash line

-- The table of places: the place behind a line that is taken at this one.
abbrev pub next : Spot → List ℕ → Option Spot
next AtVersion line = takes (named (codes "Version: ") version_of line) AtType
next AtType line = takes (just (codes "Type: Block") line) AtCurrency
next AtCurrency line = takes (named (codes "Currency: ") (text_if is_currency) line) AtNumber
next AtNumber line = option_map (λ n. AtPowMin n) (named (codes "Number: ") number_of line)
next (AtPowMin n) line = takes (named (codes "PoWMin: ") number_of line) (AtTime n)
next (AtTime n) line = takes (named (codes "Time: ") number_of line) (AtMedianTime n)
next (AtMedianTime n) line = takes (named (codes "MedianTime: ") number_of line) (AtDividend n)
next (AtDividend n) line =
    if begins_with (codes "UniversalDividend: ") line
    then takes (named (codes "UniversalDividend: ") number_of line) (AtUnitBase n)
    else unit_base n line
next (AtUnitBase n) line = unit_base n line
next (AtIssuer n) line = takes (named (codes "Issuer: ") (text_if is_key) line) (AtFrame n)
next (AtFrame n) line = takes (named (codes "IssuersFrame: ") number_of line) (AtFrameVar n)
next (AtFrameVar n) line = takes (named (codes "IssuersFrameVar: ") signed_of line) (AtIssuers n)
next (AtIssuers n) line = takes (named (codes "DifferentIssuersCount: ") number_of line) (AtLinks n)
next (AtLinks n) line = links n line
next AtPreviousIssuer line = takes (named (codes "PreviousIssuer: ") (text_if is_key) line) AtMembers
next AtMembers line = takes (named (codes "MembersCount: ") number_of line) (AtHeading Identities)
next (AtHeading section) line = takes (just (heading section) line) (InSection section)
next (InSection section) line = in_section section line
next (InTransaction part parts) line = part_of part line (Some (within parts))
next AtInnerHash line = inner_hash line
next AtNonce line = takes (named (codes "Nonce: ") number_of line) AtSignature
next AtSignature line = takes (text_if is_sig line) AtEnd
next AtEnd line = None

-- how many lines are taken from a place on, each at its place
abbrev pub taken : Spot → List (List ℕ) → ℕ
taken spot [] = 0
taken spot (line ∷ lines) = option_map_or (λ behind. suc (taken behind lines)) (next spot line) 0

-- the number, from 1, of the first line that is not taken at its place; one more than there are lines where each is
abbrev pub line_by_places : List ℕ → ℕ
line_by_places bytes = taken AtVersion (split bytes).0 + 1

-- both name the same line
abbrev pub PlacesNameTheLine : Type 0
PlacesNameTheLine = (bytes : List ℕ) (line : ℕ) → IsRefusedLine bytes line ↔ (line ≡ line_by_places bytes)
