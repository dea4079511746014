-- What holds of the lines of Joiners, of Actives and of Leavers holds of all membership lines.
use Rattle.std.proofs.Common.{◌≡◌, ◌↔◌, Bool, true, false, IsTrue, List, [], ◌∷◌, ◌++◌, sym, subst, ◌∙◌, true≢false}
use Rattle.std.specs.List.{AllByRecursion}
use Rattle.dubp_lists.proofs.Elements.{all_append}
use Rattle.dubp_block.specs.declared.block.Block.{Block}
use Rattle.dubp_block.specs.declared.block.MemberLine.{MemberLine}
use Rattle.dubp_chain.specs.People.{membership_lines}
use Rattle.dubp_people_rules.specs.Lines.{InSections}

module _ {X : Type 0} (P : X → Type 0) where
  all_before : (xs ys : List X) → AllByRecursion P (xs ++ ys) → AllByRecursion P xs
  all_before [] ys all = tt
  all_before (x ∷ xs) ys all = (all.0, all_before xs ys all.1)

  all_behind : (xs ys : List X) → AllByRecursion P (xs ++ ys) → AllByRecursion P ys
  all_behind [] ys all = all
  all_behind (x ∷ xs) ys all = all_behind xs ys all.1

-- an answer on some lines, said of the section that they are
pub on_lines : {X : Type 0} (P : X → Type 0) (answer : Bool) {xs ys : List X} → xs ≡ ys → (IsTrue answer ↔ AllByRecursion P xs) → IsTrue answer ↔ AllByRecursion P ys
on_lines P answer e says = subst (λ lines. IsTrue answer ↔ AllByRecursion P lines) e says

-- the answer on three sections is that on the third where those on the first two are true
pub third_tells : {A B C : Type 0} (a b d : Bool) → (IsTrue a ↔ A) → (IsTrue b ↔ B) → (IsTrue d ↔ C) → a ≡ true → b ≡ true → IsTrue d ↔ (A × B × C)
third_tells a b d first second third e f = (λ holds. (first.0 e, second.0 f, third.0 holds), λ each. third.1 each.2)

pub none_tells : {S : Type 0} (answer : Bool) → answer ≡ false → (S → ⊥) → IsTrue answer ↔ S
none_tells answer e fails = (λ holds. absurd (true≢false (sym holds ∙ e)), λ each. absurd (fails each))

pub denies : {A : Type 0} (a : Bool) → (IsTrue a ↔ A) → a ≡ false → A → ⊥
denies a says e holds = true≢false (sym (says.1 holds) ∙ e)

pub of_sections : (P : MemberLine → Type 0) (b : Block) (answer : Bool) → (IsTrue answer ↔ InSections P b) → IsTrue answer ↔ AllByRecursion P (membership_lines b)
of_sections P b answer says =
    let behind = all_behind P b.joiners (b.actives ++ b.leavers) in (
      λ holds. let each = says.0 holds in all_append P b.joiners (b.actives ++ b.leavers) each.0 (all_append P b.actives b.leavers each.1 each.2),
      λ all. says.1 (all_before P b.joiners (b.actives ++ b.leavers) all, all_before P b.actives b.leavers (behind all), all_behind P b.actives b.leavers (behind all)),
    )
