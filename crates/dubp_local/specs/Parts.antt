-- What the functions that serve one rule say of a part of the block.
use Rattle.std.specs.Prelude.{◌≡◌, Bool}
use Rattle.std.specs.List.{AllByRecursion, zip}
use Rattle.dubp_atoms.specs.Same.{Text, empty_stamp}
use Rattle.dubp_cond.specs.declared.tx.Tx.{Tx}
use Rattle.dubp_block.specs.declared.block.Block.{Block}
use Rattle.dubp_block.specs.declared.block.IdentityLine.{IdentityLine}
use Rattle.dubp_block.specs.declared.block.MemberLine.{MemberLine}
use Rattle.dubp_verdict.specs.Verdicts.{Verdicts, HasHash, HasVerdict}
use Rattle.dubp_validity.specs.LocalRules.{HaveEmptyStamps, identity_document, membership_document}

abbrev pub HasEmptyStamp : IdentityLine → Type 0
HasEmptyStamp line = line.stamp ≡ empty_stamp

-- section by section, each stamp is that of the empty text
abbrev pub SectionsHaveEmptyStamps : Block → Type 0
SectionsHaveEmptyStamps b =
    AllByRecursion HasEmptyStamp b.identities × AllByRecursion HaveEmptyStamps b.joiners × AllByRecursion HaveEmptyStamps b.actives × AllByRecursion HaveEmptyStamps b.leavers

abbrev pub IsSignedIdentity : Verdicts → Text → IdentityLine → Type 0
IsSignedIdentity v currency line = HasVerdict v line.key (identity_document currency line) line.sig

abbrev pub IsSignedMembership : Verdicts → Text → Bool → MemberLine → Type 0
IsSignedMembership v currency comes_in line = HasVerdict v line.key (membership_document currency comes_in line) line.sig

-- each signature of the transaction has a verdict, by the issuer at its place, over a text of this hash
abbrev pub IsSignedOver : Verdicts → Text → Tx → Type 0
IsSignedOver v hash tx = AllByRecursion (λ p. HasHash v p.0 hash p.1) (zip tx.issuers tx.sigs)
