-- The block that documents make behind a chain before it is signed, and the first rule that it breaks. Protocol: forging.
pub use Rattle.dubp_validity.specs.Drafts.{is_of_sealing, draft_rules, HoldsWritten, FirstBad}
use Rattle.std.specs.Prelude.{ℕ, pos, not, ◌&&◌, List, [], ◌∷◌, None, if◌then◌else◌}
use Rattle.std.specs.List.{flat_map}
use Rattle.dubp_atoms.specs.Same.{Text}
use Rattle.dubp_cond.specs.declared.tx.Tx.{Tx}
use Rattle.dubp_docs.specs.declared.doc.IdentityDoc.{IdentityDoc}
use Rattle.dubp_docs.specs.declared.doc.RevocationDoc.{RevocationDoc}
use Rattle.dubp_docs.specs.declared.doc.CertificationDoc.{CertificationDoc}
use Rattle.dubp_docs.specs.declared.doc.MembershipDoc.{MembershipDoc}
use Rattle.dubp_docs.specs.declared.doc.Doc.{Doc}
use Rattle.dubp_docs.specs.declared.doc.Doc.TheVariants.{Identity, Revocation, Certification, Membership, Transaction}
use Rattle.dubp_block.specs.declared.block.Block.{Block}
use Rattle.dubp_block.specs.declared.block.IdentityLine.{IdentityLine}
use Rattle.dubp_block.specs.declared.block.MemberLine.{MemberLine}
use Rattle.dubp_block.specs.declared.block.RevokedLine.{RevokedLine}
use Rattle.dubp_block.specs.declared.block.CertLine.{CertLine}
use Rattle.dubp_chain.specs.Chains.{Chain}
use Rattle.dubp_chain.specs.Members.{member}
use Rattle.dubp_forging.specs.Filled.{IsFilled}

-- ---- the line of a document

abbrev pub identity_line : IdentityDoc → IdentityLine
identity_line d = record { key = d.issuer; sig = d.sig; stamp = d.timestamp; uid = d.unique_id }

abbrev pub membership_line : MembershipDoc → MemberLine
membership_line d = record { key = d.issuer; sig = d.sig; stamp = d.block; identity_stamp = d.cert_ts; uid = d.user_id }

abbrev pub revoked_line : RevocationDoc → RevokedLine
revoked_line d = record { key = d.issuer; sig = d.sig }

-- with the number of its stamp
abbrev pub certification_line : CertificationDoc → CertLine
certification_line d = record { from = d.issuer; to = d.idty_issuer; number = d.cert_timestamp.number; sig = d.sig }

-- what a document adds to each section; a membership with OUT goes to Leavers, one with IN to Actives where its issuer is a member of the
-- chain, and else to Joiners
abbrev pub identities_of : Doc → List IdentityLine
identities_of (Identity d) = identity_line d ∷ []
identities_of d = []

abbrev pub joiners_of : Chain → Doc → List MemberLine
joiners_of c (Membership d) = if d.membership && not (member c d.issuer) then membership_line d ∷ [] else []
joiners_of c d = []

abbrev pub actives_of : Chain → Doc → List MemberLine
actives_of c (Membership d) = if d.membership && member c d.issuer then membership_line d ∷ [] else []
actives_of c d = []

abbrev pub leavers_of : Doc → List MemberLine
leavers_of (Membership d) = if d.membership then [] else membership_line d ∷ []
leavers_of d = []

abbrev pub revoked_of : Doc → List RevokedLine
revoked_of (Revocation d) = revoked_line d ∷ []
revoked_of d = []

abbrev pub certifications_of : Doc → List CertLine
certifications_of (Certification d) = certification_line d ∷ []
certifications_of d = []

abbrev pub transactions_of : Doc → List Tx
transactions_of (Transaction d) = d.tx ∷ []
transactions_of d = []

-- ---- the draft

-- a block with this issuer, at this time, with the lines of these documents, in the order in which they were added; what else it says is
-- not read
abbrev pub with_lines : Chain → Text → ℕ → List Doc → Block
with_lines c issuer time docs = record {
  version = 10;
  currency = [];
  number = 0;
  pow_min = 0;
  time = time;
  median_time = 0;
  dividend = None;
  unit_base = 0;
  issuer = issuer;
  frame = 0;
  frame_var = pos 0;
  issuers = 0;
  previous = None;
  params = None;
  members = 0;
  identities = flat_map identities_of docs;
  joiners = flat_map (joiners_of c) docs;
  actives = flat_map (actives_of c) docs;
  leavers = flat_map leavers_of docs;
  revoked = flat_map revoked_of docs;
  excluded = [];
  certifications = flat_map certifications_of docs;
  transactions = flat_map transactions_of docs;
  inner_hash = [];
  nonce = 0;
  sig = [];
}

-- the block that it becomes behind the chain, which has a block
abbrev pub IsDraftOf : Chain → Text → ℕ → List Doc → Block → Type 0
IsDraftOf c issuer time docs b = IsFilled c (with_lines c issuer time docs) b
