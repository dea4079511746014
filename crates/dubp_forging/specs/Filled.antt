-- The block that a draft becomes behind a chain that has blocks: it gets its header and its exclusions. Protocol: forging; the generator.
use Rattle.std.specs.Prelude.{◌≡◌, ◌⊎◌, [], ◌∷◌, ◌++◌, codes, length, replicate, Option, Some, None, All}
use Rattle.dubp_atoms.specs.Same.{Text}
use Rattle.dubp_atoms.specs.Spelling.{IsNumber}
use Rattle.dubp_atoms.specs.Hashing.{hash_of}
use Rattle.dubp_cond.specs.Transactions.{IsTx}
use Rattle.dubp_block.specs.Sections.{IsIdentity, IsMembership, IsRevocation, IsCertification}
use Rattle.dubp_block.specs.Text.{inner_text}
use Rattle.dubp_block.specs.declared.block.Block.{Block}
use Rattle.dubp_rules.specs.declared.rule.Rule.TheVariants.{X03, X04, X08}
use Rattle.dubp_chain.specs.declared.head.Head.{Head}
use Rattle.dubp_chain.specs.Chains.{Chain, currency, params}
use Rattle.dubp_chain.specs.Heads.{head_of, heads_of, next_head, unit_base_of}
use Rattle.dubp_chain.specs.Live.{kick}
use Rattle.dubp_chain.specs.Members.{members}
use Rattle.dubp_validity.specs.Rules.{Holds}

-- the time and the lines of a draft are in range; what else it says is not read
pub record IsDraft (d : Block) : Type 0 where
  pub time : IsNumber d.time
  pub identities : All IsIdentity d.identities
  pub joiners : All IsMembership d.joiners
  pub actives : All IsMembership d.actives
  pub leavers : All IsMembership d.leavers
  pub revoked : All IsRevocation d.revoked
  pub certifications : All IsCertification d.certifications
  pub transactions : All IsTx d.transactions

-- 86 `A` and `==`, in place of a signature
abbrev pub blank_sig : Text
blank_sig = replicate 86 65 ++ codes "=="

-- issuer, time and lines of the draft stay, but for Excluded
pub record KeepsDraft (d b : Block) : Type 0 where
  pub issuer : b.issuer ≡ d.issuer
  pub time : b.time ≡ d.time
  pub identities : b.identities ≡ d.identities
  pub joiners : b.joiners ≡ d.joiners
  pub actives : b.actives ≡ d.actives
  pub leavers : b.leavers ≡ d.leavers
  pub revoked : b.revoked ≡ d.revoked
  pub certifications : b.certifications ≡ d.certifications
  pub transactions : b.transactions ≡ d.transactions

-- the block behind the last one, whose head this is
abbrev pub IsBehind : Option Head → Block → Type 0
IsBehind None b = ⊥
IsBehind (Some last) b = (b.version ≡ last.version) × (b.previous ≡ Some (last.hash, last.issuer))

-- the values that the header states, but for the money
pub record States (h : Head) (b : Block) : Type 0 where
  pub pow_min : b.pow_min ≡ h.pow_min
  pub median_time : b.median_time ≡ h.median_time
  pub frame : b.frame ≡ h.frame
  pub frame_var : b.frame_var ≡ h.frame_var
  pub issuers : b.issuers ≡ h.issuers
  pub members : b.members ≡ h.members

-- the head that the block has behind the chain
abbrev pub head_with : Chain → Block → Head
head_with c b = next_head (params (b ∷ c)) (length (members (b ∷ c))) (heads_of c) b

-- the block passes no limit
abbrev pub IsWithinLimits : Chain → Block → Type 0
IsWithinLimits c b = Holds [] c b X03 × (Holds [] c b X04 × Holds [] c b X08)

-- the dividend and the base of its head, where it passes no limit; else no dividend, and the base of the chain
abbrev pub StatesMoney : Chain → Block → Type 0
StatesMoney c b =
    (IsWithinLimits c b × ((b.dividend ≡ (head_with c b).ud) × (b.unit_base ≡ (head_with c b).unit_base)))
    ⊎ ((IsWithinLimits c b → ⊥) × ((b.dividend ≡ None) × (b.unit_base ≡ unit_base_of c)))

-- the draft d becomes b behind the chain c
pub record IsFilled (c : Chain) (d b : Block) : Type 0 where
  pub keeps : KeepsDraft d b
  pub behind : IsBehind (head_of c) b
  pub currency : b.currency ≡ currency c
  pub number : b.number ≡ length c
  pub params : b.params ≡ None
  pub excluded : b.excluded ≡ kick c
  pub states : States (head_with c b) b
  pub money : StatesMoney c b
  pub inner_hash : b.inner_hash ≡ hash_of (inner_text b)
  pub nonce : b.nonce ≡ 0
  pub sig : b.sig ≡ blank_sig
