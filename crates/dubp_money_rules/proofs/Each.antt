-- Transactions one after the other, each with the sources that it may spend.
use Rattle.std.proofs.Common.{◌≡◌, ◌↔◌, ℕ, zero, suc, ◌+◌, ◌<◌, ◌≤◌, Bool, true, false, true≢false, IsTrue, List, [], ◌∷◌, ◌++◌, Option, Some, None, take, get_or, length, refl, ap, sym, ◌∙◌, subst, append_assoc, append-nil, arith}
use Rattle.std.specs.Prelude.{is_some, ⊤}
use Rattle.std.specs.Option.{MatchOption, IsSomeAnd}
use Rattle.std.specs.List.{flat_map, enumerate_from, AllByRecursion}
use Rattle.dubp_cond.specs.declared.tx.Tx.{Tx}
use Rattle.dubp_block.specs.declared.block.Block.{Block}
use Rattle.dubp_chain.specs.Chains.{Chain}
use Rattle.dubp_chain.specs.Money.{Source, unspent, outputs_made}
use Rattle.std.proofs.lemmas.List.Elements.{All-from_recursion}
use Rattle.dubp_validity.specs.LocalRules.{InputsAreUnlockedOnce, IsUnlockedOnce}
use Rattle.dubp_validity.specs.MoneyRules.{EachMay}
use Rattle.dubp_money_rules.specs.Spending.{time_in, EachAt, AreUnlockedOnce, at_hand}

module _ (P : Tx → List Source → Type 0) (outputs : Tx → List Source) where
  pub may_at : (sources : List Source) (txs : List Tx) (i : ℕ) (tx : Tx) → i < length txs → tx ≡ get_or txs i tx → EachMay P outputs sources txs → P tx (sources ++ flat_map outputs (take i txs))
  may_at sources [] i tx below is may = absurd (omega (arith, below))
  may_at sources (x ∷ xs) zero tx below is may = subst (P tx) (sym (append-nil sources)) (subst (λ y. P y sources) (sym is) may.0)
  may_at sources (x ∷ xs) (suc i) tx below is may =
      subst (P tx) (append_assoc sources (outputs x) (flat_map outputs (take i xs))) (may_at (sources ++ outputs x) xs i tx (omega (arith, below)) is may.1)

  may_suc : (sources : List Source) (txs : List Tx) (i : ℕ) (tx : Tx) → i < length txs → tx ≡ get_or txs i tx → EachMay P outputs sources (take i txs) → P tx (sources ++ flat_map outputs (take i txs)) → EachMay P outputs sources (take (suc i) txs)
  may_suc sources [] i tx below is may here = absurd (omega (arith, below))
  may_suc sources (x ∷ xs) zero tx below is may here = (subst (λ y. P y sources) is (subst (P tx) (append-nil sources) here), tt)
  may_suc sources (x ∷ xs) (suc i) tx below is may here =
      (may.0, may_suc (sources ++ outputs x) xs i tx (omega (arith, below)) is may.1 (subst (P tx) (sym (append_assoc sources (outputs x) (flat_map outputs (take i xs)))) here))

  pub may_more : (sources : List Source) (txs : List Tx) (i : ℕ) (tx : Tx) → i < length txs → tx ≡ get_or txs i tx → EachMay P outputs sources (take i txs) → P tx (sources ++ flat_map outputs (take i txs)) → EachMay P outputs sources (take (i + 1) txs)
  may_more sources txs i tx below is may here =
      let next : suc i ≡ i + 1 = omega arith in
      subst (λ n. EachMay P outputs sources (take n txs)) next (may_suc sources txs i tx below is may here)

-- the transaction stands at this place of the block, whose transactions these are
pub record StandsAt (b : Block) (txs : List Tx) (i : ℕ) (tx : Tx) : Type 0 where
  pub same : txs ≡ b.transactions
  pub below : i < length txs
  pub is : tx ≡ get_or txs i tx

module _ (P : Tx → List Source → Type 0) (t : ℕ) (c : Chain) (b : Block) (txs : List Tx) (i : ℕ) (tx : Tx) (at : StandsAt b txs i tx) (answer : Bool) (says : IsTrue answer ↔ P tx (at_hand t c b i)) where
  below : i < length b.transactions
  below = subst (λ l. i < length l) at.same at.below

  is : tx ≡ get_or b.transactions i tx
  is = subst (λ l. tx ≡ get_or l i tx) at.same at.is

  pub some_fails : answer ≡ false → IsTrue false ↔ EachAt t c b P b.transactions
  some_fails e = (
    λ h. absurd (true≢false (sym h)),
    λ each. absurd (true≢false (sym (says.1 (may_at P (outputs_made t b.currency) (unspent c) b.transactions i tx below is each)) ∙ e)),
  )

  pub one_more : answer ≡ true → EachAt t c b P (take i b.transactions) → EachAt t c b P (take (i + 1) b.transactions)
  one_more e so_far = may_more P (outputs_made t b.currency) (unspent c) b.transactions i tx below is so_far (says.0 e)

-- what is told by when it was made
pub there_told : (o : Option Source) (time : Option ℕ) (answer : Bool) → answer ≡ is_some time → time ≡ time_in o → IsTrue answer ↔ IsSomeAnd o (λ s. ⊤)
there_told o time answer is e = subst (λ a. IsTrue a ↔ IsSomeAnd o (λ s. ⊤)) (sym (is ∙ ap is_some e)) (each o)
  where
    each : (o : Option Source) → IsTrue (is_some (time_in o)) ↔ IsSomeAnd o (λ s. ⊤)
    each None = (λ h. absurd (cc (h)), λ h. absurd h)
    each (Some s) = (λ h. tt, λ h. refl)

pub ended_told : (t locktime : ℕ) (o : Option Source) (time : Option ℕ) (answer : Bool) → time ≡ time_in o → (IsTrue answer ↔ MatchOption time ⊤ (λ m. m + locktime ≤ t)) → IsTrue answer ↔ MatchOption o ⊤ (λ s. s.time + locktime ≤ t)
ended_told t locktime o time answer e says = each o (subst (λ m. IsTrue answer ↔ MatchOption m ⊤ (λ m. m + locktime ≤ t)) e says)
  where
    each : (o : Option Source) → (IsTrue answer ↔ MatchOption (time_in o) ⊤ (λ m. m + locktime ≤ t)) → IsTrue answer ↔ MatchOption o ⊤ (λ s. s.time + locktime ≤ t)
    each None says = says
    each (Some s) says = says

-- elements with their places
module _ {X : Type 0} (P : ℕ × X → Type 0) where
  all_at : (xs : List X) (n i : ℕ) (x : X) → i < length xs → x ≡ get_or xs i x → AllByRecursion P (enumerate_from n xs) → P (n + i, x)
  all_at [] n i x below is all = absurd (omega (arith, below))
  all_at (y ∷ ys) n zero x below is all = let here : n ≡ n + 0 = omega arith in subst (λ k. P (k, x)) here (subst (λ z. P (n, z)) (sym is) all.0)
  all_at (y ∷ ys) n (suc i) x below is all = let here : (n + 1) + i ≡ n + suc i = omega arith in subst (λ k. P (k, x)) here (all_at ys (n + 1) i x (omega (arith, below)) is all.1)

  more_at : (xs : List X) (n i : ℕ) (x : X) → i < length xs → x ≡ get_or xs i x → AllByRecursion P (enumerate_from n (take i xs)) → P (n + i, x) → AllByRecursion P (enumerate_from n (take (suc i) xs))
  more_at [] n i x below is all here = absurd (omega (arith, below))
  more_at (y ∷ ys) n zero x below is all here = let at : n + 0 ≡ n = omega arith in (subst (λ z. P (n, z)) is (subst (λ k. P (k, x)) at here), tt)
  more_at (y ∷ ys) n (suc i) x below is all here = let at : n + suc i ≡ (n + 1) + i = omega arith in (all.0, more_at ys (n + 1) i x (omega (arith, below)) is all.1 (subst (λ k. P (k, x)) at here))

  pub place_fails : (xs ys : List X) (i : ℕ) (x : X) (answer : Bool) → ys ≡ xs → i < length ys → x ≡ get_or ys i x → (IsTrue answer ↔ P (i, x)) → answer ≡ false → IsTrue false ↔ AllByRecursion P (enumerate_from 0 xs)
  place_fails xs ys i x answer same below is says e = (
    λ h. absurd (true≢false (sym h)),
    λ all. let at : 0 + i ≡ i = omega arith in absurd (true≢false (sym (says.1 (subst (λ k. P (k, x)) at (all_at xs 0 i x (subst (λ l. i < length l) same below) (subst (λ l. x ≡ get_or l i x) same is) all))) ∙ e)),
  )

  pub place_holds : (xs ys : List X) (i : ℕ) (x : X) (answer : Bool) → ys ≡ xs → i < length ys → x ≡ get_or ys i x → (IsTrue answer ↔ P (i, x)) → answer ≡ true
      → AllByRecursion P (enumerate_from 0 (take i xs)) → AllByRecursion P (enumerate_from 0 (take (i + 1) xs))
  place_holds xs ys i x answer same below is says e all =
      let at : i ≡ 0 + i = omega arith in
      let next : suc i ≡ i + 1 = omega arith in
      subst (λ n. AllByRecursion P (enumerate_from 0 (take n xs))) next
      (more_at xs 0 i x (subst (λ l. i < length l) same below) (subst (λ l. x ≡ get_or l i x) same is) all (subst (λ k. P (k, x)) at (says.0 e)))

pub unlocked_at : (b : Block) (txs : List Tx) (i : ℕ) (tx : Tx) → StandsAt b txs i tx → InputsAreUnlockedOnce b → AreUnlockedOnce tx
unlocked_at b txs i tx at once =
    let is : tx ≡ get_or b.transactions i tx = subst (λ l. tx ≡ get_or l i tx) at.same at.is in
    subst AreUnlockedOnce (sym is) (All-from_recursion IsUnlockedOnce b.transactions once i tx (subst (λ l. i < length l) at.same at.below)).each
