-- The walk to the next member who stays: it passes over those that leave, each of whom is one of the list.
use Rattle.std.proofs.Common.{◌≡◌, ℕ, ◌+◌, ◌≤◌, Bool, true, false, not, ◌&&◌, IsTrue, List, ◌∷◌, Option, Some, None, length, refl, sym, ◌∙◌, true≢false, arith}
use Rattle.dubp_atoms.specs.Same.{Text}
use Rattle.dubp_block.specs.declared.block.Block.{Block}
use Rattle.dubp_chain.specs.Words.{names}
use Rattle.dubp_chain.specs.Chains.{Chain}
use Rattle.dubp_chain.specs.Members.{member}
use Rattle.dubp_iindex.specs.Order.{IsNext}
use Rattle.dubp_lists.proofs.Elements.{and_left}
use Rattle.dubp_people_distance.specs.Moved.{stays, SaysWhoLeaves}
use Rattle.dubp_people_distance.proofs.Nexts.{above, above-le, above_fewer, next_none, next_kept, next_passed}

-- as many were passed over as turns were made, and the next from here is the next from the first place
pub record IsPassing (c : Chain) (b : Block) (left : List Text) (first after : Option Text) (turn : ℕ) : Type 0 where
  pub few : turn + length (above after left) ≤ length left
  pub same : (answer : Option Text) → IsNext (λ k. IsTrue (stays c b k)) after answer → IsNext (λ k. IsTrue (stays c b k)) first answer

apart : (was is : Bool) → (was && not is) ≡ true → (was && is) ≡ true → ⊥
apart true true e f = true≢false (sym e)
apart true false e f = true≢false (sym f)
apart false is e f = true≢false (sym e)

remain : (was is : Bool) → was ≡ true → (was && not is) ≡ false → (was && is) ≡ true
remain true true e f = refl
remain true false e f = absurd (true≢false f)
remain false is e f = e

module _ (c : Chain) (b : Block) (left : List Text) (first : Option Text) where
  pub passing_starts : IsPassing c b left first first 0
  passing_starts = let le = above-le first left in record { few = omega (arith, le); same = λ answer next. next }

  module _ (who : SaysWhoLeaves c b (names left)) (after : Option Text) (turn : ℕ) (walk : IsPassing c b left first after turn) where
    pub passing_goes_on : (k : Text) → IsNext (λ k. IsTrue (member c k)) after (Some k) → names left k ≡ true → IsPassing c b left first (Some k) (turn + 1)
    passing_goes_on k next there =
        let fewer = above_fewer after k left next.1 there in
        let few = walk.few in
        record {
          few = omega (arith, fewer, few);
          same = λ answer later. walk.same answer
              (next_passed (λ k. IsTrue (member c k)) (λ k. IsTrue (stays c b k)) (λ k h. and_left (member c k) _ h) after k next
              (apart (member c k) (member (b ∷ c) k) (sym (who k) ∙ there)) answer later);
        }

    pub passing_finds_none : IsNext (λ k. IsTrue (member c k)) after None → IsNext (λ k. IsTrue (stays c b k)) first None
    passing_finds_none next = walk.same None (next_none (λ k. IsTrue (member c k)) (λ k. IsTrue (stays c b k)) (λ k h. and_left (member c k) _ h) after next)

    pub passing_finds : (k : Text) → IsNext (λ k. IsTrue (member c k)) after (Some k) → names left k ≡ false → IsNext (λ k. IsTrue (stays c b k)) first (Some k)
    passing_finds k next gone =
        walk.same (Some k)
        (next_kept (λ k. IsTrue (member c k)) (λ k. IsTrue (stays c b k)) (λ k h. and_left (member c k) _ h) after k next
        (remain (member c k) (member (b ∷ c) k) next.0 (sym (who k) ∙ gone)))

    pub passing_ends : length left ≤ turn → (answer : Option Text) → IsNext (λ k. IsTrue (member c k)) after answer → IsNext (λ k. IsTrue (stays c b k)) first answer
    passing_ends end None next = passing_finds_none next
    passing_ends end (Some k) next = elim (names left k) as (λ t. names left k ≡ t → IsNext (λ k. IsTrue (stays c b k)) first (Some k)) [
      | true ↦ λ there. let fewer = above_fewer after k left next.1 there in let few = walk.few in absurd (omega (arith, fewer, few, end))
      | false ↦ λ gone. passing_finds k next gone
    ] refl
