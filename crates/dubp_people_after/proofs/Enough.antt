-- The rules on counts of certifications, line by line.
use Rattle.std.proofs.Common.{◌≡◌, ◌↔◌, ℕ, ◌<◌, ◌≤◌, Bool, true, false, IsTrue, List, ◌∷◌, length, get_or, refl, sym, subst, ◌∙◌, true≢false}
use Rattle.std.specs.List.{AllByRecursion}
use Rattle.dubp_params.specs.declared.params.Params.{Params}
use Rattle.dubp_block.specs.declared.block.Block.{Block}
use Rattle.dubp_block.specs.declared.block.CertLine.{CertLine}
use Rattle.dubp_block.specs.declared.block.MemberLine.{MemberLine}
use Rattle.dubp_chain.specs.Chains.{Chain, params}
use Rattle.dubp_chain.specs.Live.{received, stock}
use Rattle.dubp_registry.specs.OfValidity.{JoinersAreCertified, StocksAreKept}
use Rattle.dubp_people_after.specs.Lines.{HasEnough, KeepsStock}
use Rattle.dubp_lists.proofs.Rests.{Rests, rests_fails, rests_all}

module _ (c : Chain) (b : Block) where
  pub enough_told : (line : MemberLine) (p : Params) (n : ℕ) (answer : Bool) → p ≡ params (b ∷ c) → n ≡ received (b ∷ c) line.key → (IsTrue answer ↔ (p.sig_qty ≤ n)) → IsTrue answer ↔ HasEnough c b line
  unfolding HasEnough
  enough_told line p n answer e f says =
      subst (λ (m : ℕ). IsTrue answer ↔ ((params (b ∷ c)).sig_qty ≤ m)) f (subst (λ (q : Params). IsTrue answer ↔ (q.sig_qty ≤ n)) e says)

  pub stock_told : (line : CertLine) (p : Params) (n : ℕ) (answer : Bool) → p ≡ params (b ∷ c) → n ≡ stock (b ∷ c) line.from → (IsTrue answer ↔ (n ≤ p.sig_stock)) → IsTrue answer ↔ KeepsStock c b line
  unfolding KeepsStock
  stock_told line p n answer e f says =
      subst (λ (m : ℕ). IsTrue answer ↔ (m ≤ (params (b ∷ c)).sig_stock)) f (subst (λ (q : Params). IsTrue answer ↔ (n ≤ q.sig_stock)) e says)

  enough_all : (answer : Bool) → (IsTrue answer ↔ AllByRecursion (HasEnough c b) b.joiners) → IsTrue answer ↔ JoinersAreCertified c b
  unfolding HasEnough
  enough_all answer says = says

  stock_all : (answer : Bool) → (IsTrue answer ↔ AllByRecursion (KeepsStock c b) b.certifications) → IsTrue answer ↔ StocksAreKept c b
  unfolding KeepsStock
  stock_all answer says = says

  fails_all : {X : Type 0} (P : X → Type 0) (xs all : List X) (i : ℕ) (x : X) (answer : Bool) → xs ≡ all → i < length xs → x ≡ get_or xs i x → (IsTrue answer ↔ P x) → answer ≡ false
      → Rests P xs i → IsTrue false ↔ AllByRecursion P all
  fails_all P xs all i x answer e lt at says fails rests = (
    λ h. absurd (true≢false (sym h)),
    λ every. absurd (rests_fails P xs i x lt at (λ holds. true≢false (sym (says.1 holds) ∙ fails)) rests (subst (AllByRecursion P) (sym e) every)),
  )

  passes_all : {X : Type 0} (P : X → Type 0) (xs all : List X) (i : ℕ) → xs ≡ all → length xs ≤ i → Rests P xs i → IsTrue true ↔ AllByRecursion P all
  passes_all P xs all i e end rests = (λ h. subst (AllByRecursion P) e (rests_all P xs i end rests), λ every. refl)

  pub joiners_fail : (xs : List MemberLine) (i : ℕ) (x : MemberLine) (answer : Bool) → xs ≡ b.joiners → i < length xs → x ≡ get_or xs i x → (IsTrue answer ↔ HasEnough c b x) → answer ≡ false
      → Rests (HasEnough c b) xs i → IsTrue false ↔ JoinersAreCertified c b
  joiners_fail xs i x answer e lt at says fails rests = enough_all false (fails_all (HasEnough c b) xs b.joiners i x answer e lt at says fails rests)

  pub joiners_pass : (xs : List MemberLine) (i : ℕ) → xs ≡ b.joiners → length xs ≤ i → Rests (HasEnough c b) xs i → IsTrue true ↔ JoinersAreCertified c b
  joiners_pass xs i e end rests = enough_all true (passes_all (HasEnough c b) xs b.joiners i e end rests)

  pub stocks_fail : (xs : List CertLine) (i : ℕ) (x : CertLine) (answer : Bool) → xs ≡ b.certifications → i < length xs → x ≡ get_or xs i x → (IsTrue answer ↔ KeepsStock c b x) → answer ≡ false
      → Rests (KeepsStock c b) xs i → IsTrue false ↔ StocksAreKept c b
  stocks_fail xs i x answer e lt at says fails rests = stock_all false (fails_all (KeepsStock c b) xs b.certifications i x answer e lt at says fails rests)

  pub stocks_pass : (xs : List CertLine) (i : ℕ) → xs ≡ b.certifications → length xs ≤ i → Rests (KeepsStock c b) xs i → IsTrue true ↔ StocksAreKept c b
  stocks_pass xs i e end rests = stock_all true (passes_all (KeepsStock c b) xs b.certifications i e end rests)
