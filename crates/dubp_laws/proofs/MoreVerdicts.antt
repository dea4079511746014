-- A rule that holds with some verdicts holds with more of them, and so a chain that is valid stays valid. Six rules read verdicts,
-- each for what stands in a list; every other rule says the same whatever the verdicts are.
use Rattle.std.specs.Prelude.{ℕ, List, [], ◌∷◌, ◌++◌, Bool, true, false, Option, Some, None}
use Rattle.std.specs.Option.{IsSomeAnd}
use Rattle.std.specs.List.{AllByRecursion, zip}
use Rattle.dubp_atoms.specs.Same.{Text}
use Rattle.dubp_atoms.specs.declared.stamp.Stamp.{Stamp}
use Rattle.dubp_cond.specs.declared.tx.Tx.{Tx}
use Rattle.dubp_chain.specs.OfDocs.{signed_tx}
use Rattle.dubp_block.specs.Text.{block_text}
use Rattle.dubp_block.specs.declared.block.Block.{Block}
use Rattle.dubp_block.specs.declared.block.IdentityLine.{IdentityLine}
use Rattle.dubp_block.specs.declared.block.MemberLine.{MemberLine}
use Rattle.dubp_block.specs.declared.block.RevokedLine.{RevokedLine}
use Rattle.dubp_block.specs.declared.block.CertLine.{CertLine}
use Rattle.dubp_rules.specs.declared.rule.Rule.{Rule}
use Rattle.dubp_rules.specs.declared.rule.Rule.TheVariants.{X01, P01, L05, L07, L11, L24, G84, G72}
use Rattle.dubp_rules.specs.Table.{table_rules}
use Rattle.dubp_chain.specs.Chains.{Chain}
use Rattle.dubp_chain.specs.People.{Written, identity}
use Rattle.dubp_chain.specs.Made.{certification_stamp}
use Rattle.dubp_verdict.specs.Verdicts.{Verdicts, HasVerdict, IsWithin}
use Rattle.dubp_validity.specs.LocalRules.{identity_document, membership_document, AreSigned, IsSignedByAll}
use Rattle.dubp_validity.specs.PeopleRules.{revocation_document, certification_document, IsCertifiedBy}
use Rattle.dubp_validity.specs.Rules.{Holds, HoldsRaw, IsValid}

-- what holds of each element, where the one fact gives the other
pub all_more : {X : Type 0} (P Q : X → Type 0) → ((x : X) → P x → Q x) → (xs : List X) → AllByRecursion P xs → AllByRecursion Q xs
all_more P Q more [] all = tt
all_more P Q more (x ∷ xs) all = (more x all.0, all_more P Q more xs all.1)

some_more : {X : Type 0} (P Q : X → Type 0) → ((x : X) → P x → Q x) → (x : Option X) → IsSomeAnd x P → IsSomeAnd x Q
some_more P Q more None some = some
some_more P Q more (Some x) some = more x some

module _ (v w : Verdicts) (within : IsWithin v w) where
  verdict_more : (key : Text) (message : List ℕ) (sig : Text) → HasVerdict v key message sig → HasVerdict w key message sig
  verdict_more key message sig has = within _ has

  memberships_more : (currency : Text) (comes_in : Bool) (lines : List MemberLine) → AreSigned v currency comes_in lines → AreSigned w currency comes_in lines
  memberships_more currency comes_in lines all =
      all_more
      (λ (line : MemberLine). HasVerdict v line.key (membership_document currency comes_in line) line.sig)
      (λ (line : MemberLine). HasVerdict w line.key (membership_document currency comes_in line) line.sig)
      (λ line has. verdict_more line.key (membership_document currency comes_in line) line.sig has)
      lines
      all

  transaction_more : (currency : Text) (tx : Tx) → IsSignedByAll v currency tx → IsSignedByAll w currency tx
  transaction_more currency tx all =
      all_more
      (λ (p : Text × Text). HasVerdict v p.0 (signed_tx currency tx) p.1)
      (λ (p : Text × Text). HasVerdict w p.0 (signed_tx currency tx) p.1)
      (λ p has. verdict_more p.0 (signed_tx currency tx) p.1 has)
      (zip tx.issuers tx.sigs)
      all

  certification_more : (c : Chain) (b : Block) (line : CertLine) → IsCertifiedBy v c b line → IsCertifiedBy w c b line
  certification_more c b line some =
      some_more
      (λ (of : Written IdentityLine). IsSomeAnd (certification_stamp c line) (λ stamp. HasVerdict v line.from (certification_document b.currency line of stamp) line.sig))
      (λ (of : Written IdentityLine). IsSomeAnd (certification_stamp c line) (λ stamp. HasVerdict w line.from (certification_document b.currency line of stamp) line.sig))
      (λ of.
      some_more
      (λ (stamp : Stamp). HasVerdict v line.from (certification_document b.currency line of stamp) line.sig)
      (λ (stamp : Stamp). HasVerdict w line.from (certification_document b.currency line of stamp) line.sig)
      (λ stamp has. verdict_more line.from (certification_document b.currency line of stamp) line.sig has)
      (certification_stamp c line))
      (identity (b ∷ c) line.to)
      some

  revocation_more : (c : Chain) (b : Block) (line : RevokedLine) →
      IsSomeAnd (identity c line.key) (λ of. HasVerdict v line.key (revocation_document b.currency line of) line.sig) → IsSomeAnd (identity c line.key) (λ of. HasVerdict w line.key (revocation_document b.currency line of) line.sig)
  revocation_more c b line some =
      some_more
      (λ (of : Written IdentityLine). HasVerdict v line.key (revocation_document b.currency line of) line.sig)
      (λ (of : Written IdentityLine). HasVerdict w line.key (revocation_document b.currency line of) line.sig)
      (λ of has. verdict_more line.key (revocation_document b.currency line of) line.sig has)
      (identity c line.key)
      some

  pub holds_more : (c : Chain) (b : Block) (rule : Rule) → Holds v c b rule → Holds w c b rule
  holds_more c b L05 holds = within _ holds
  holds_more c b L07 holds =
      all_more
      (λ (line : IdentityLine). HasVerdict v line.key (identity_document b.currency line) line.sig)
      (λ (line : IdentityLine). HasVerdict w line.key (identity_document b.currency line) line.sig)
      (λ line has. verdict_more line.key (identity_document b.currency line) line.sig has)
      b.identities
      holds
  holds_more c b L11 holds =
      (memberships_more b.currency true (b.joiners ++ b.actives) holds.0, memberships_more b.currency false b.leavers holds.1)
  holds_more c b L24 holds =
      all_more (IsSignedByAll v b.currency) (IsSignedByAll w b.currency) (transaction_more b.currency) b.transactions holds
  holds_more c b G84 holds =
      all_more
      (λ (line : RevokedLine). IsSomeAnd (identity c line.key) (λ of. HasVerdict v line.key (revocation_document b.currency line of) line.sig))
      (λ (line : RevokedLine). IsSomeAnd (identity c line.key) (λ of. HasVerdict w line.key (revocation_document b.currency line of) line.sig))
      (revocation_more c b)
      b.revoked
      holds
  holds_more c b G72 holds = all_more (IsCertifiedBy v c b) (IsCertifiedBy w c b) (certification_more c b) b.certifications holds
  holds_more c b rule holds = holds

  -- the same of raw bytes, whose rules speak of the block that they are
  raw_more : (c : Chain) (bytes : List ℕ) (rule : Rule) → HoldsRaw v c bytes rule → HoldsRaw w c bytes rule
  raw_more c bytes X01 holds = holds
  raw_more c bytes P01 holds = holds
  raw_more c bytes rule holds = λ b is. holds_more c b rule (holds b is)

  pub valid_more : (c : Chain) → IsValid v c → IsValid w c
  valid_more [] valid = tt
  valid_more (b ∷ c) valid =
      (all_more (HoldsRaw v c (block_text b)) (HoldsRaw w c (block_text b)) (raw_more c (block_text b)) table_rules valid.0, valid.1, valid_more c valid.2)
