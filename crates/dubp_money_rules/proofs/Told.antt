-- What is said of the time that stands to be judged is said of that of the chain with the block; what is said of hashes at hand, of
-- those of the block.
use Rattle.std.proofs.Common.{◌≡◌, ◌↔◌, ℕ, Bool, false, IsTrue, List, [], ◌∷◌, map, subst, sym, ◌∙◌, true≢false, ◌≤◌, refl, arith}
use Rattle.std.specs.Prelude.{not}
use Rattle.std.specs.List.{AllByRecursion}
use Rattle.dubp_atoms.specs.Same.{Text, same_text}
use Rattle.dubp_block.specs.declared.block.Block.{Block}
use Rattle.dubp_docs.specs.declared.hashing.TxHashes.{TxHashes}
use Rattle.dubp_chain.specs.Words.{names, each_once}
use Rattle.dubp_chain.specs.Chains.{Chain}
use Rattle.dubp_chain.specs.Heads.{time_of}
use Rattle.dubp_chain.specs.Money.{hashes_of, hashes_in}
use Rattle.dubp_validity.specs.MoneyRules.{TransactionsAreNew, ConditionsAreTrue}
use Rattle.dubp_validity.specs.LocalRules.{InputsAreUnlockedOnce}
use Rattle.dubp_rules.specs.declared.rule.Rule.TheVariants.{L20}
use Rattle.dubp_lists.proofs.LastLines.{time_of-rises}
use Rattle.dubp_left.specs.Next.{IsAsked}
use Rattle.dubp_left.specs.declared.next.Next.{Next}
use Rattle.dubp_money_rules.specs.Lines.{IsHashNew, whole_hashes}
use Rattle.dubp_money_rules.specs.Spending.{AreNumbered, AreOpened, EachAt, HaveConditions, IsRead}

pub at_time : (c : Chain) (b : Block) (next : Next) → IsAsked c b next → (P : ℕ → Type 0) → P next.time → P (time_of (b ∷ c))
at_time c b next asked P h = subst P asked.is_next.time h

module _ {X Y : Type 0} (P : Y → Type 0) (f : X → Y) where
  all_mapped : (xs : List X) → AllByRecursion (λ x. P (f x)) xs → AllByRecursion P (map f xs)
  all_mapped [] all = tt
  all_mapped (x ∷ xs) all = (all.0, all_mapped xs all.1)

  all_unmapped : (xs : List X) → AllByRecursion P (map f xs) → AllByRecursion (λ x. P (f x)) xs
  all_unmapped [] all = tt
  all_unmapped (x ∷ xs) all = (all.0, all_unmapped xs all.1)

abbrev IsNew : Chain → Text → Type 0
IsNew c hash = IsTrue (not (names (hashes_of c) hash))

abbrev whole_of : TxHashes → Text
whole_of h = h.whole

module _ (c : Chain) (b : Block) (hashes : List TxHashes) (of_block : whole_hashes hashes ≡ hashes_in b) where
  here : AllByRecursion (IsHashNew c) hashes → AllByRecursion (IsNew c) (hashes_in b)
  here all = subst (AllByRecursion (IsNew c)) of_block (all_mapped (IsNew c) whole_of hashes all)

  there : AllByRecursion (IsNew c) (hashes_in b) → AllByRecursion (IsHashNew c) hashes
  there all = all_unmapped (IsNew c) whole_of hashes (subst (AllByRecursion (IsNew c)) (sym of_block) all)

  pub some_is_old : (answer : Bool) → (IsTrue answer ↔ AllByRecursion (IsHashNew c) hashes) → answer ≡ false → IsTrue false ↔ TransactionsAreNew c b
  some_is_old answer says e = (λ h. absurd (true≢false (sym h)), λ rule. absurd (true≢false (sym (says.1 (there rule.1)) ∙ e)))

  pub all_are_new : (answer once : Bool) → (IsTrue answer ↔ AllByRecursion (IsHashNew c) hashes) → IsTrue answer → once ≡ each_once same_text (whole_hashes hashes)
      → IsTrue once ↔ TransactionsAreNew c b
  all_are_new answer once says holds e =
      let same : once ≡ each_once same_text (hashes_in b) = subst (λ l. once ≡ each_once same_text l) of_block e in
      (λ h. (sym same ∙ h, here (says.0 holds)), λ rule. same ∙ rule.0)

pub judged : (c : Chain) (b : Block) (next : Next) (keys : List Text) → IsAsked c b next → HaveConditions c → AreNumbered keys b → (answer : Bool)
    → (IsRead c b next.time keys → InputsAreUnlockedOnce b → IsTrue answer ↔ EachAt next.time c b (AreOpened next.time) b.transactions) → IsTrue answer ↔ ConditionsAreTrue c b
judged c b next keys asked conditions numbered answer says =
    let read : IsRead c b next.time keys = record {
      sound = asked.sound;
      conditions = conditions;
      numbered = numbered;
      not_before = subst (λ t. time_of c ≤ t) (sym asked.is_next.time) (time_of-rises b c);
    } in
    at_time c b next asked (λ t. IsTrue answer ↔ EachAt t c b (AreOpened t) b.transactions) (says read (asked.before L20 refl (omega arith)))
