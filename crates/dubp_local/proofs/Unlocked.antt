-- What three tests of unlock lines say of the transaction that the lines and numbers are of.
use Rattle.std.proofs.Common.{◌≡◌, ℕ, ◌<◌, ◌==◌, List, count_by, length, sym, subst}
use Rattle.std.specs.List.{AllByRecursion}
use Rattle.dubp_cond.specs.declared.unlock.UnlockLine.{UnlockLine}
use Rattle.dubp_cond.specs.declared.tx.Tx.{Tx}
use Rattle.dubp_validity.specs.LocalRules.{NamesAnIssuer, IsUnlockedOnce}

abbrev pub EachHasOne : List UnlockLine → ℕ → Type 0
EachHasOne unlocks inputs = (i : ℕ) → i < inputs → count_by (λ line. line.input == i) unlocks ≡ 1

abbrev pub AreOfInputs : List UnlockLine → ℕ → Type 0
AreOfInputs unlocks inputs = AllByRecursion (λ line. line.input < inputs) unlocks

abbrev pub NameIssuers : List UnlockLine → ℕ → Type 0
NameIssuers unlocks issuers = AllByRecursion (λ line. AllByRecursion (NamesAnIssuer issuers) line.list) unlocks

module _ (tx : Tx) (unlocks : List UnlockLine) (inputs issuers : ℕ) (are : unlocks ≡ tx.unlocks) (n : inputs ≡ length tx.inputs) (m : issuers ≡ length tx.issuers) where
  -- a fact on the lines and a number, there and back
  there : (P : List UnlockLine → ℕ → Type 0) (k l : ℕ) → k ≡ l → P unlocks k → P tx.unlocks l
  there P k l e h = subst (P tx.unlocks) e (subst (λ u. P u k) are h)

  here : (P : List UnlockLine → ℕ → Type 0) (k l : ℕ) → k ≡ l → P tx.unlocks l → P unlocks k
  here P k l e h = subst (λ u. P u k) (sym are) (subst (P tx.unlocks) (sym e) h)

  pub unlocked_if : EachHasOne unlocks inputs → AreOfInputs unlocks inputs → NameIssuers unlocks issuers → IsUnlockedOnce tx
  unlocked_if each no_other named = record { each = there EachHasOne _ _ n each; no_other = there AreOfInputs _ _ n no_other; issuers = there NameIssuers _ _ m named }

  pub each_if : IsUnlockedOnce tx → EachHasOne unlocks inputs
  each_if once = here EachHasOne _ _ n once.each

  pub no_other_if : IsUnlockedOnce tx → AreOfInputs unlocks inputs
  no_other_if once = here AreOfInputs _ _ n once.no_other

  pub issuers_if : IsUnlockedOnce tx → NameIssuers unlocks issuers
  issuers_if once = here NameIssuers _ _ m once.issuers
