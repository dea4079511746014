-- A block's text, its hashes, its size, and which blocks have a text. Protocol: block text.
use Rattle.std.specs.Prelude.{◌≡◌, ◌≢◌, ℕ, ℤ, ◌⊎◌, ◌+◌, ◌≤◌, List, [], ◌∷◌, ◌++◌, codes, length, map, All, Option, Some, None, true, ⊤}
use Rattle.std.specs.Fmt.{decimal, signed_decimal}
use Rattle.dubp_atoms.specs.Letters.{is_key, is_hash, is_currency, is_sig}
use Rattle.dubp_atoms.specs.Spelling.{IsNumber, IsSigned}
use Rattle.dubp_atoms.specs.Hashing.{hash_of}
use Rattle.dubp_atoms.specs.declared.stamp.Stamp.{Stamp}
use Rattle.dubp_lines.specs.Lines.{unlines}
use Rattle.dubp_cond.specs.Transactions.{IsTx}
use Rattle.dubp_params.specs.declared.params.Params.{Params}
use Rattle.dubp_params.specs.Spelling.{IsParams, params_text}
use Rattle.dubp_block.specs.Sections.{section, identity_text, member_text, revoked_text, certification_text, transaction_lines, IsIdentity, IsMembership, IsRevocation, IsCertification}
use Rattle.dubp_block.specs.declared.block.Block.{Block}

-- from Version to MedianTime
abbrev pub opening_lines : ℕ → List ℕ → ℕ → ℕ → ℕ → ℕ → List (List ℕ)
opening_lines version currency number pow_min time median_time =
    (codes "Version: " ++ decimal version)
    ∷ codes "Type: Block"
    ∷ (codes "Currency: " ++ currency)
    ∷ (codes "Number: " ++ decimal number)
    ∷ (codes "PoWMin: " ++ decimal pow_min)
    ∷ (codes "Time: " ++ decimal time)
    ∷ (codes "MedianTime: " ++ decimal median_time)
    ∷ []

-- from UnitBase to DifferentIssuersCount
abbrev pub issuer_lines : ℕ → List ℕ → ℕ → ℤ → ℕ → List (List ℕ)
issuer_lines unit_base issuer frame frame_var issuers =
    (codes "UnitBase: " ++ decimal unit_base)
    ∷ (codes "Issuer: " ++ issuer)
    ∷ (codes "IssuersFrame: " ++ decimal frame)
    ∷ (codes "IssuersFrameVar: " ++ signed_decimal frame_var)
    ∷ (codes "DifferentIssuersCount: " ++ decimal issuers)
    ∷ []

-- Parameters, where there are some
abbrev pub params_lines : Option Params → List (List ℕ)
params_lines None = []
params_lines (Some params) = (codes "Parameters: " ++ params_text params) ∷ []

-- UniversalDividend, where there is one
abbrev pub dividend_lines : Option ℕ → List (List ℕ)
dividend_lines None = []
dividend_lines (Some amount) = (codes "UniversalDividend: " ++ decimal amount) ∷ []

-- PreviousHash and PreviousIssuer, where there is a block before
abbrev pub previous_lines : Option (List ℕ × List ℕ) → List (List ℕ)
previous_lines None = []
previous_lines (Some (hash, issuer)) = (codes "PreviousHash: " ++ hash) ∷ (codes "PreviousIssuer: " ++ issuer) ∷ []

-- the eight sections
abbrev pub section_lines : Block → List (List ℕ)
section_lines b =
    section (codes "Identities:") (map identity_text b.identities)
    ++ (section (codes "Joiners:") (map member_text b.joiners)
    ++ (section (codes "Actives:") (map member_text b.actives)
    ++ (section (codes "Leavers:") (map member_text b.leavers)
    ++ (section (codes "Revoked:") (map revoked_text b.revoked)
    ++ (section (codes "Excluded:") b.excluded
    ++ (section (codes "Certifications:") (map certification_text b.certifications)
    ++ section (codes "Transactions:") (transaction_lines b.transactions)))))))

-- the lines before InnerHash
abbrev pub inner_lines : Block → List (List ℕ)
inner_lines b =
    opening_lines b.version b.currency b.number b.pow_min b.time b.median_time
    ++ (dividend_lines b.dividend
    ++ (issuer_lines b.unit_base b.issuer b.frame b.frame_var b.issuers
    ++ (previous_lines b.previous
    ++ (params_lines b.params
    ++ ((codes "MembersCount: " ++ decimal b.members) ∷ section_lines b)))))

-- InnerHash and Nonce: what the issuer signs
abbrev pub signed_lines : Block → List (List ℕ)
signed_lines b = (codes "InnerHash: " ++ b.inner_hash) ∷ (codes "Nonce: " ++ decimal b.nonce) ∷ []

abbrev pub block_lines : Block → List (List ℕ)
block_lines b = inner_lines b ++ (signed_lines b ++ b.sig ∷ [])

-- the text of a block; the text before its InnerHash line; the signed text
unfoldable pub block_text : Block → List ℕ
block_text b = unlines (block_lines b)

unfoldable pub inner_text : Block → List ℕ
inner_text b = unlines (inner_lines b)

unfoldable pub signed_text : Block → List ℕ
signed_text b = unlines (signed_lines b)

-- a block's hash: over its InnerHash, Nonce and signature lines
abbrev pub block_hash_of : Block → List ℕ
block_hash_of b = hash_of (unlines (signed_lines b ++ b.sig ∷ []))

-- a block's stamp: its number and its hash
abbrev pub stamp_of : Block → Stamp
stamp_of b = record { number = b.number; hash = block_hash_of b }

-- how many lines the sections other than Excluded have, their headings aside
abbrev pub size_of : Block → ℕ
size_of b =
    length b.identities + length b.joiners + length b.actives + length b.leavers + length b.revoked + length b.certifications
    + length (transaction_lines b.transactions)

-- the version, of which there are two
abbrev pub IsVersion : ℕ → Type 0
IsVersion version = (version ≡ 10) ⊎ (version ≡ 11)

-- there is no dividend, or it is a number
abbrev pub IsDividend : Option ℕ → Type 0
IsDividend None = ⊤
IsDividend (Some amount) = IsNumber amount

-- the hash and the issuer of the block before: exactly where the number is not 0
abbrev pub IsPrevious : ℕ → Option (List ℕ × List ℕ) → Type 0
IsPrevious number None = number ≡ 0
IsPrevious number (Some (hash, issuer)) = (number ≢ 0) × (is_hash hash ≡ true) × (is_key issuer ≡ true)

-- parameters, each with a text: exactly where the number is 0
abbrev pub IsFirstParams : ℕ → Option Params → Type 0
IsFirstParams number None = number ≢ 0
IsFirstParams number (Some params) = (number ≡ 0) × IsParams params

-- the blocks that have a text
pub record IsBlock (b : Block) : Type 0 where
  pub version : IsVersion b.version
  pub currency : is_currency b.currency ≡ true
  pub number : IsNumber b.number
  pub pow_min : IsNumber b.pow_min
  pub time : IsNumber b.time
  pub median_time : IsNumber b.median_time
  pub dividend : IsDividend b.dividend
  pub unit_base : b.unit_base ≤ 15
  pub issuer : is_key b.issuer ≡ true
  pub frame : IsNumber b.frame
  pub frame_var : IsSigned b.frame_var
  pub issuers : IsNumber b.issuers
  pub previous : IsPrevious b.number b.previous
  pub params : IsFirstParams b.number b.params
  pub members : IsNumber b.members
  pub identities : All IsIdentity b.identities
  pub joiners : All IsMembership b.joiners
  pub actives : All IsMembership b.actives
  pub leavers : All IsMembership b.leavers
  pub revoked : All IsRevocation b.revoked
  pub excluded : All (λ key. is_key key ≡ true) b.excluded
  pub certifications : All IsCertification b.certifications
  pub transactions : All IsTx b.transactions
  pub inner_hash : is_hash b.inner_hash ≡ true
  pub nonce : IsNumber b.nonce
  pub sig : is_sig b.sig ≡ true
