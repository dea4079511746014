-- What the web answers, of what is made once a block.
use Rattle.std.proofs.Common.{◌≡◌, ℕ, Bool, true, false, not, ◌||◌, ◌&&◌, ◌↔◌, IsTrue, List, ◌∷◌, Option, Some, None, length, Contains, refl, ap, sym, subst, ◌∙◌}
use Rattle.std.specs.BTreeSet.{IsOrdered, contains}
use Rattle.dubp_atoms.specs.Same.{Text}
use Rattle.dubp_atoms.specs.Walks.{received_of, stock_of}
use Rattle.dubp_block.specs.declared.block.Block.{Block}
use Rattle.dubp_chain.specs.Chains.{Chain}
use Rattle.dubp_chain.specs.Live.{live, received, stock}
use Rattle.dubp_chain.specs.Members.{member}
use Rattle.dubp_iindex.specs.Rows.{texts}
use Rattle.dubp_iindex.specs.Order.{IsNext, AreNext}
use Rattle.dubp_left.proofs.OfSteps.{same_received}
use Rattle.dubp_wot.specs.Order.{IsInOrder, IsNextMember, IsNextIssuer, AreNextIssuers}
use Rattle.dubp_left.proofs.Webs.{member_told, next_member_told, next_issuer_told, issuers_told}
use Rattle.dubp_people_distance.specs.declared.certified.Certified.{Certified}
use Rattle.dubp_people_distance.specs.Moved.{stays}
use Rattle.dubp_people_distance.specs.Webs.{IsMade, IsWebOf}
use Rattle.dubp_people_distance.proofs.Counted.{members_sorted}
use Rattle.dubp_people_distance.proofs.Nexts.{next_same, all_same, all_of_set}
use Rattle.dubp_people_distance.proofs.Same.{same_stock}

module _ (c : Chain) (b : Block) (joined : Text → Bool) (leaving : List Text) (count : ℕ) (known : Text → Option Certified) (made : IsMade c b joined leaving count known)
    (keys : List Text) (pairs : List (Text × Text)) (web : IsWebOf (b ∷ c) keys pairs) where
  pub is_member_made : (k : Text) (answer : Bool) → answer ≡ member (b ∷ c) k → IsTrue answer ↔ Contains keys k
  is_member_made k answer e = member_told (b ∷ c) keys web.keys_are k answer e

  pub count_made : count ≡ length keys
  count_made = made.counted ∙ ap length (sym web.keys_are)

  pub order_made : IsInOrder keys
  order_made = subst IsInOrder (sym web.keys_are) (members_sorted (b ∷ c))

  -- who stays or joins is a member
  to_member : (k : Text) → (stays c b k || joined k) ≡ member (b ∷ c) k
  to_member k = ap (λ (t : Bool). stays c b k || t) (made.joined k) ∙ by (member c k) (member (b ∷ c) k)
    where
      by : (was is : Bool) → ((was && is) || (is && not was)) ≡ is
      by true true = refl
      by true false = refl
      by false true = refl
      by false false = refl

  pub next_member_made : (after answer : Option Text) → IsNext (λ k. IsTrue (stays c b k || joined k)) after answer → IsNextMember keys after answer
  next_member_made after answer next =
      next_member_told (b ∷ c) keys web.keys_are after answer
      (next_same (λ k. IsTrue (stays c b k || joined k)) (λ k. IsTrue (member (b ∷ c) k)) (λ k h. sym (to_member k) ∙ h) (λ k h. to_member k ∙ h) after answer next)

  module _ (k : Text) where
    -- where something is known of the key
    module _ (x : Certified) (e : known k ≡ Some x) where
      pub issuer_known : (after answer : Option Text) → IsNext (λ a. IsTrue (contains texts x.issuers a)) after answer → IsNextIssuer pairs k after answer
      issuer_known after answer next =
          let is = (made.certified k x e).issuers in
          next_issuer_told (b ∷ c) pairs web.pairs_are k after answer
          (next_same (λ a. IsTrue (contains texts x.issuers a)) (λ a. IsTrue (live (b ∷ c) a k)) (λ a h. sym (is a) ∙ h) (λ a h. is a ∙ h) after answer next)

      pub issuers_known : (found : List Text) → found ≡ x.issuers.keys → IsOrdered texts x.issuers → AreNextIssuers pairs k None found
      issuers_known found same order =
          let is = (made.certified k x e).issuers in
          issuers_told (b ∷ c) pairs web.pairs_are k None found
          (all_same (λ a. IsTrue (contains texts x.issuers a)) (λ a. IsTrue (live (b ∷ c) a k)) (λ a h. sym (is a) ∙ h) (λ a h. is a ∙ h) None found
          (subst (AreNext (λ a. IsTrue (contains texts x.issuers a)) None) (sym same) (all_of_set x.issuers.keys order)))

      pub stock_known : x.stock ≡ stock_of pairs k
      stock_known = (made.certified k x e).stock ∙ ap (λ (ps : List (Text × Text)). stock_of ps k) (sym web.pairs_are)

      pub received_known : x.received ≡ received_of pairs k
      received_known = (made.certified k x e).received ∙ ap (λ (ps : List (Text × Text)). received_of ps k) (sym web.pairs_are)

    -- where nothing is, all is as before the block
    module _ (e : known k ≡ None) where
      pub issuer_before : (after answer : Option Text) → IsNext (λ a. IsTrue (live c a k)) after answer → IsNextIssuer pairs k after answer
      issuer_before after answer next =
          let same = (made.kept k e).from in
          next_issuer_told (b ∷ c) pairs web.pairs_are k after answer
          (next_same (λ a. IsTrue (live c a k)) (λ a. IsTrue (live (b ∷ c) a k)) (λ a h. same a ∙ h) (λ a h. sym (same a) ∙ h) after answer next)

      pub issuers_before : (found : List Text) → AreNext (λ a. IsTrue (live c a k)) None found → AreNextIssuers pairs k None found
      issuers_before found next =
          let same = (made.kept k e).from in
          issuers_told (b ∷ c) pairs web.pairs_are k None found
          (all_same (λ a. IsTrue (live c a k)) (λ a. IsTrue (live (b ∷ c) a k)) (λ a h. same a ∙ h) (λ a h. sym (same a) ∙ h) None found next)

      pub stock_before : (answer : ℕ) → answer ≡ stock c k → answer ≡ stock_of pairs k
      stock_before answer is = is ∙ sym (same_stock (b ∷ c) c k (made.kept k e).to) ∙ ap (λ (ps : List (Text × Text)). stock_of ps k) (sym web.pairs_are)

      pub received_before : (answer : ℕ) → answer ≡ received c k → answer ≡ received_of pairs k
      received_before answer is = is ∙ sym (same_received (b ∷ c) c k (made.kept k e).from) ∙ ap (λ (ps : List (Text × Text)). received_of ps k) (sym web.pairs_are)
