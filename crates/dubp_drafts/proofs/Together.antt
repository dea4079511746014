-- A draft as the code puts it together from its sections.
use Rattle.std.proofs.Common.{◌≡◌, ℕ, ◌+◌, ◌*◌, ◌%◌, ◌<◌, List, [], ◌++◌, map, ap, sym, ◌∙◌, subst, append_assoc}
use Rattle.std.specs.Prelude.{Option}
use Rattle.std.specs.List.{All}
use Rattle.dubp_atoms.specs.Same.{empty_stamp}
use Rattle.dubp_atoms.specs.declared.stamp.Stamp.{Stamp}
use Rattle.dubp_cond.specs.Transactions.{IsTx}
use Rattle.dubp_cond.specs.declared.source.Input.{Input}
use Rattle.dubp_cond.specs.declared.tx.Tx.{Tx}
use Rattle.dubp_block.specs.Sections.{IsIdentity, IsMembership, IsCertification}
use Rattle.dubp_block.specs.Text.{IsBlock}
use Rattle.dubp_block.specs.declared.block.Block.{Block}
use Rattle.dubp_block.specs.declared.block.IdentityLine.{IdentityLine}
use Rattle.dubp_block.specs.declared.block.MemberLine.{MemberLine}
use Rattle.dubp_block.specs.declared.block.CertLine.{CertLine}
use Rattle.dubp_drafts.specs.Keys.{key_text}
use Rattle.dubp_drafts.specs.Drafting.{blank, Given, identity_line, member_line, certification_line, transactions, newcomers, renewed, certified, draft_of, with_parameters}
use Rattle.dubp_drafts.proofs.InRange.{with_lines_is_block}

abbrev pub with_lines : ℕ → List IdentityLine → List MemberLine → List MemberLine → List CertLine → List Tx → Block
with_lines n identities joiners actives certifications txs =
    record (blank (key_text (n % 8)) (1000000 + 60 * n)) {
      identities = identities;
      joiners = joiners;
      actives = actives;
      certifications = certifications;
      transactions = txs;
    }

pub draft_block_is : (n x : ℕ) (s : Stamp) (source : Option Input) (b : Block) (identities : List IdentityLine) (joiners actives : List MemberLine) (certifications : List CertLine) (txs : List Tx)
    → b ≡ with_lines n identities joiners actives certifications txs
    → identities ≡ map (identity_line s) (newcomers n)
    → joiners ≡ map (member_line s s) (newcomers n)
    → actives ≡ map (member_line s empty_stamp) (renewed n)
    → certifications ≡ map (certification_line n s) (certified n)
    → txs ≡ transactions x s source
    → b ≡ draft_of n x s source
draft_block_is n x s source b identities joiners actives certifications txs e i j a c t =
    e ∙ (λ k. with_lines n (i k) (j k) (a k) (c k) (t k))

pub draft_is_block : (n : ℕ) (b : Block) (identities : List IdentityLine) (joiners actives : List MemberLine) (certifications : List CertLine) (txs : List Tx)
    → b ≡ with_lines n identities joiners actives certifications txs
    → n < 5000
    → All IsIdentity identities
    → All IsMembership joiners
    → All IsMembership actives
    → All IsCertification certifications
    → All IsTx txs
    → IsBlock (with_parameters b)
draft_is_block n b identities joiners actives certifications txs e small i j a c t =
    subst (λ d. IsBlock (with_parameters d)) (sym e) (with_lines_is_block n identities joiners actives certifications txs small i j a c t)

five : (a b c d e : List Given) → ((((a ++ b) ++ c) ++ d) ++ e) ≡ a ++ (b ++ (c ++ (d ++ e)))
five a b c d e = simp append_assoc

grown : (p q o x : List Given) → q ≡ p ++ x → p ≡ o → q ≡ o ++ x
grown p q o x e d = e ∙ ap (λ y. y ++ x) d

pub five_notes : (v0 v1 v2 v3 v4 v5 a b c d e : List Given)
    → v0 ≡ []
    → v1 ≡ v0 ++ a
    → v2 ≡ v1 ++ b
    → v3 ≡ v2 ++ c
    → v4 ≡ v3 ++ d
    → v5 ≡ v4 ++ e
    → v5 ≡ a ++ (b ++ (c ++ (d ++ e)))
five_notes v0 v1 v2 v3 v4 v5 a b c d e e0 e1 e2 e3 e4 e5 =
    grown v4 v5 _ e e5 (grown v3 v4 _ d e4 (grown v2 v3 _ c e3 (grown v1 v2 _ b e2 (grown v0 v1 [] a e1 e0))))
    ∙ five a b c d e
