-- The lines of a block's sections, the compact form of a transaction among them, and which lines have a text. Protocol: block
-- text, sections.
use Rattle.std.specs.Prelude.{◌≡◌, ℕ, List, [], ◌∷◌, ◌++◌, codes, decimal, length, map, true}
use Rattle.std.specs.List.{flat_map}
use Rattle.dubp_atoms.specs.Same.{Text}
use Rattle.dubp_atoms.specs.Letters.{COLON, is_key, is_uid, is_sig}
use Rattle.dubp_atoms.specs.Spelling.{IsNumber, stamp_text, IsStamp}
use Rattle.dubp_cond.specs.Sources.{input_text}
use Rattle.dubp_cond.specs.Unlocks.{unlock_line_text}
use Rattle.dubp_cond.specs.Outputs.{output_text}
use Rattle.dubp_cond.specs.declared.tx.Tx.{Tx}
use Rattle.dubp_block.specs.declared.block.IdentityLine.{IdentityLine}
use Rattle.dubp_block.specs.declared.block.MemberLine.{MemberLine}
use Rattle.dubp_block.specs.declared.block.RevokedLine.{RevokedLine}
use Rattle.dubp_block.specs.declared.block.CertLine.{CertLine}

-- KEY:SIG:STAMP:UID
abbrev pub identity_text : IdentityLine → Text
identity_text l = l.key ++ COLON ∷ (l.sig ++ COLON ∷ (stamp_text l.stamp ++ COLON ∷ l.uid))

pub record IsIdentity (l : IdentityLine) : Type 0 where
  pub key : is_key l.key ≡ true
  pub sig : is_sig l.sig ≡ true
  pub stamp : IsStamp l.stamp
  pub uid : is_uid l.uid ≡ true

-- KEY:SIG:MSTAMP:ISTAMP:UID
abbrev pub member_text : MemberLine → Text
member_text l = l.key ++ COLON ∷ (l.sig ++ COLON ∷ (stamp_text l.stamp ++ COLON ∷ (stamp_text l.identity_stamp ++ COLON ∷ l.uid)))

pub record IsMembership (l : MemberLine) : Type 0 where
  pub key : is_key l.key ≡ true
  pub sig : is_sig l.sig ≡ true
  pub stamp : IsStamp l.stamp
  pub identity_stamp : IsStamp l.identity_stamp
  pub uid : is_uid l.uid ≡ true

-- KEY:SIG
abbrev pub revoked_text : RevokedLine → Text
revoked_text l = l.key ++ COLON ∷ l.sig

pub record IsRevocation (l : RevokedLine) : Type 0 where
  pub key : is_key l.key ≡ true
  pub sig : is_sig l.sig ≡ true

-- FROM:TO:NUMBER:SIG
abbrev pub certification_text : CertLine → Text
certification_text l = l.from ++ COLON ∷ (l.to ++ COLON ∷ (decimal l.number ++ COLON ∷ l.sig))

pub record IsCertification (l : CertLine) : Type 0 where
  pub from : is_key l.from ≡ true
  pub to : is_key l.to ≡ true
  pub number : IsNumber l.number
  pub sig : is_sig l.sig ≡ true

-- 0 for the empty comment, 1 for another
abbrev pub has_comment : Text → ℕ
has_comment [] = 0
has_comment (c ∷ cs) = 1

-- an empty comment has no line
abbrev pub comment_lines : Text → List Text
comment_lines [] = []
comment_lines (c ∷ cs) = (c ∷ cs) ∷ []

-- TX:10:NB_ISSUERS:NB_INPUTS:NB_UNLOCKS:NB_OUTPUTS:HAS_COMMENT:LOCKTIME
abbrev pub tx_line : Tx → Text
tx_line tx =
    codes "TX:10:"
    ++ (decimal (length tx.issuers)
    ++ COLON ∷ (decimal (length tx.inputs)
    ++ COLON ∷ (decimal (length tx.unlocks)
    ++ COLON ∷ (decimal (length tx.outputs)
    ++ COLON ∷ (decimal (has_comment tx.comment)
    ++ COLON ∷ decimal tx.locktime)))))

-- a transaction in a block: its first line, its stamp, its four lists, its comment and its signatures
abbrev pub compact_lines : Tx → List Text
compact_lines tx =
    tx_line tx
    ∷ stamp_text tx.stamp
    ∷ (tx.issuers
    ++ (map input_text tx.inputs
    ++ (map unlock_line_text tx.unlocks
    ++ (map output_text tx.outputs
    ++ (comment_lines tx.comment
    ++ tx.sigs)))))

-- a heading and the lines behind it
abbrev pub section : Text → List Text → List Text
section heading lines = heading ∷ lines

abbrev pub transaction_lines : List Tx → List Text
transaction_lines txs = flat_map compact_lines txs
