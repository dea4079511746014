-- What is asked of one line, said in the words of the rules.
use Rattle.std.proofs.Common.{◌≡◌, ◌↔◌, ◌∙◌, ap, sym, Bool, true, false, not, IsTrue, true≢false, subst, Option, None, Some, List, [], ◌∷◌, ◌++◌}
use Rattle.std.specs.List.{AllByRecursion, list_any}
use Rattle.dubp_block.specs.declared.block.Block.{Block}
use Rattle.dubp_atoms.specs.declared.stamp.Stamp.{Stamp}
use Rattle.dubp_block.specs.declared.block.CertLine.{CertLine}
use Rattle.dubp_block.specs.declared.block.IdentityLine.{IdentityLine}
use Rattle.dubp_block.specs.declared.block.MemberLine.{MemberLine}
use Rattle.dubp_registry.proofs.OfLists.{all_append}
use Rattle.std.specs.Prelude.{option_map}
use Rattle.std.specs.Option.{IsSomeAnd}
use Rattle.dubp_chain.specs.Chains.{Chain}
use Rattle.dubp_chain.specs.Members.{member}
use Rattle.dubp_chain.specs.Made.{certification_stamp}
use Rattle.dubp_chain.specs.People.{Written, identity, identity_lines, leaving, membership_lines}
use Rattle.dubp_verdict.specs.Verdicts.{Verdicts}
use Rattle.dubp_people_after.specs.Names.{Certifies, CertifiesOn, name_of}
use Rattle.dubp_people_after.specs.declared.after.Name.{Name}
use Rattle.dubp_registry.specs.OfValidity.{CertificationsAreSigned, MembershipsHaveIdentities, ReceiversAreMembers, ReceiversStay, is_identity_of}
use Rattle.dubp_people_after.specs.Lines.{HasIdentity, HasMember, HasStaying, IsCertified}

same_truth : (a b : Bool) → a ≡ b → IsTrue a ↔ IsTrue b
same_truth a b e = (λ h. sym e ∙ h, λ h. e ∙ h)

pub has_member_told : (c : Chain) (b : Block) (line : CertLine) (answer : Bool) → answer ≡ member (b ∷ c) line.to → IsTrue answer ↔ HasMember c b line
unfolding HasMember
has_member_told c b line answer e = same_truth answer (member (b ∷ c) line.to) e

pub members_told : (c : Chain) (b : Block) (answer : Bool) → (IsTrue answer ↔ AllByRecursion (HasMember c b) b.certifications) → IsTrue answer ↔ ReceiversAreMembers c b
unfolding HasMember
members_told c b answer says = says

pub has_staying_told : (c : Chain) (b : Block) (line : CertLine) (answer : Bool) → answer ≡ leaving (b ∷ c) line.to → IsTrue (not answer) ↔ HasStaying c b line
unfolding HasStaying
has_staying_told c b line answer e = same_truth (not answer) (not (leaving (b ∷ c) line.to)) (ap not e)

pub staying_told : (c : Chain) (b : Block) (answer : Bool) → (IsTrue answer ↔ AllByRecursion (HasStaying c b) b.certifications) → IsTrue answer ↔ ReceiversStay c b
unfolding HasStaying
staying_told c b answer says = says

-- ---- Joiners, Actives and Leavers

pub has_identity_told : (c : Chain) (b : Block) (line : MemberLine) (answer : Bool) → answer ≡ list_any (is_identity_of line) (identity_lines (b ∷ c)) → IsTrue answer ↔ HasIdentity c b line
unfolding HasIdentity
has_identity_told c b line answer e = same_truth answer (list_any (is_identity_of line) (identity_lines (b ∷ c))) e

module _ {X : Type 0} (P : X → Type 0) where
  all_before : (xs ys : List X) → AllByRecursion P (xs ++ ys) → AllByRecursion P xs
  all_before [] ys all = tt
  all_before (x ∷ xs) ys all = (all.0, all_before xs ys all.1)

  all_behind : (xs ys : List X) → AllByRecursion P (xs ++ ys) → AllByRecursion P ys
  all_behind [] ys all = all
  all_behind (x ∷ xs) ys all = all_behind xs ys all.1

module _ (c : Chain) (b : Block) where
  all_told : (answer : Bool) → (IsTrue answer ↔ AllByRecursion (HasIdentity c b) (membership_lines b)) → IsTrue answer ↔ MembershipsHaveIdentities c b
  unfolding HasIdentity
  all_told answer says = says

  none : (x : Bool) → x ≡ false → ¬ IsTrue x
  none x f h = true≢false (sym h ∙ f)

  pub first_fails : (x : Bool) (lines : List MemberLine) → lines ≡ b.joiners → (IsTrue x ↔ AllByRecursion (HasIdentity c b) lines) → x ≡ false → IsTrue false ↔ MembershipsHaveIdentities c b
  first_fails x lines e says f =
      all_told false (
        λ h. absurd (true≢false (sym h)),
        λ all. absurd (none x f (says.1 (subst (AllByRecursion (HasIdentity c b)) (sym e) (all_before (HasIdentity c b) b.joiners (b.actives ++ b.leavers) all)))),
      )

  pub second_fails : (x : Bool) (lines : List MemberLine) → lines ≡ b.actives → (IsTrue x ↔ AllByRecursion (HasIdentity c b) lines) → x ≡ false → IsTrue false ↔ MembershipsHaveIdentities c b
  second_fails x lines e says f =
      all_told false (
        λ h. absurd (true≢false (sym h)),
        λ all. absurd (none x f (says.1 (subst (AllByRecursion (HasIdentity c b)) (sym e) (all_before (HasIdentity c b) b.actives b.leavers (all_behind (HasIdentity c b) b.joiners (b.actives ++ b.leavers) all))))),
      )

  pub third_says : (x y z : Bool) (xs ys zs : List MemberLine) → xs ≡ b.joiners → ys ≡ b.actives → zs ≡ b.leavers
      → (IsTrue x ↔ AllByRecursion (HasIdentity c b) xs) → (IsTrue y ↔ AllByRecursion (HasIdentity c b) ys) → (IsTrue z ↔ AllByRecursion (HasIdentity c b) zs)
      → x ≡ true → y ≡ true → IsTrue z ↔ MembershipsHaveIdentities c b
  third_says x y z xs ys zs d e f first second third is also =
      let P = HasIdentity c b in
      all_told z (
        λ h. all_append P b.joiners (b.actives ++ b.leavers) (subst (AllByRecursion P) d (first.0 is)) (all_append P b.actives b.leavers (subst (AllByRecursion P) e (second.0 also)) (subst (AllByRecursion P) f (third.0 h))),
        λ all. third.1 (subst (AllByRecursion P) (sym f) (all_behind P b.actives b.leavers (all_behind P b.joiners (b.actives ++ b.leavers) all))),
      )

-- ---- signatures

pub certified_told : (v : Verdicts) (c : Chain) (b : Block) (line : CertLine) (name : Option Name) (stamp : Option Stamp) (answer : Bool)
    → name ≡ option_map name_of (identity (b ∷ c) line.to) → stamp ≡ certification_stamp c line
    → (IsTrue answer ↔ Certifies v b.currency line name stamp) → IsTrue answer ↔ IsCertified v c b line
unfolding IsCertified
certified_told v c b line name stamp answer e f says =
    by (identity (b ∷ c) line.to) (subst (λ (s : Option Stamp). IsTrue answer ↔ Certifies v b.currency line (option_map name_of (identity (b ∷ c) line.to)) s) f
    (subst (λ (n : Option Name). IsTrue answer ↔ Certifies v b.currency line n stamp) e says))
  where
    by : (o : Option (Written IdentityLine)) → (IsTrue answer ↔ Certifies v b.currency line (option_map name_of o) (certification_stamp c line))
        → IsTrue answer ↔ IsSomeAnd o (λ of. IsSomeAnd (certification_stamp c line) (λ s. CertifiesOn v b.currency line (name_of of) s))
    by None says = says
    by (Some w) says = says

pub all_certified_told : (v : Verdicts) (c : Chain) (b : Block) (answer : Bool) → (IsTrue answer ↔ AllByRecursion (IsCertified v c b) b.certifications) → IsTrue answer ↔ CertificationsAreSigned v c b
unfolding IsCertified
all_certified_told v c b answer says = says
