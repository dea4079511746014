-- The first rule on money that a block breaks, from whether X05 holds and from the first of the rules behind it; and the hashes by which
-- its transactions are named.
use Rattle.std.proofs.Common.{◌≡◌, false, true≢false, List, [], ◌∷◌, map, Option, Some, None, refl, ap, sym, subst, ◌∙◌, inl, inr}
use Rattle.std.specs.Option.{MatchOption}
use Rattle.dubp_atoms.specs.Same.{Text, same_text}
use Rattle.dubp_cond.specs.declared.tx.Tx.{Tx}
use Rattle.dubp_docs.specs.Hashes.{hashes_of}
use Rattle.dubp_docs.specs.Spelling.{tx_hash}
use Rattle.dubp_block.specs.declared.block.Block.{Block}
use Rattle.dubp_chain.specs.Words.{each_once}
use Rattle.dubp_chain.specs.Chains.{Chain}
use Rattle.dubp_chain.specs.Money.{hashes_in}
use Rattle.dubp_verdict.specs.Verdicts.{Verdicts}
use Rattle.dubp_rules.specs.declared.rule.Rule.{Rule}
use Rattle.dubp_rules.specs.declared.rule.Rule.TheVariants.{X05}
use Rattle.dubp_rules.specs.First.{FirstOf, IsFirst}
use Rattle.dubp_rules.proofs.FirstLaws.{IsFirst_from_FirstOf}
use Rattle.dubp_money_rules.specs.OfValidity.{Holds}
use Rattle.dubp_money_rules.specs.OfValidity.{TransactionsAreNew}
use Rattle.dubp_money_rules.specs.Lines.{whole_hashes}
use Rattle.dubp_money_rules.specs.Judging.{money_rules, rules_behind_hashes}

module _ (v : Verdicts) (c : Chain) (b : Block) where
  pub hashes_break : ¬ TransactionsAreNew c b → IsFirst (Holds v c b) money_rules (Some X05)
  hashes_break fails = IsFirst_from_FirstOf (Holds v c b) money_rules (Some X05) (inl (refl, fails))

  pub hashes_hold : (found : Option Rule) → TransactionsAreNew c b → FirstOf (Holds v c b) rules_behind_hashes found → IsFirst (Holds v c b) money_rules found
  hashes_hold None new f = IsFirst_from_FirstOf (Holds v c b) money_rules None (new, f)
  hashes_hold (Some rule) new f = IsFirst_from_FirstOf (Holds v c b) money_rules (Some rule) (inr (new, f))

  -- one of them stands twice
  pub twice_break : each_once same_text (hashes_in b) ≡ false → IsFirst (Holds v c b) money_rules (Some X05)
  twice_break twice = hashes_break (λ new. true≢false (sym new.0 ∙ twice))

pub told_some : {X : Type 0} (A : Type 0) (B : X → Type 0) (o : Option X) (x : X) → o ≡ Some x → MatchOption o A B → B x
told_some A B o x e m = subst (λ p. MatchOption p A B) e m

pub told_none : {X : Type 0} (A : Type 0) (B : X → Type 0) (o : Option X) → o ≡ None → MatchOption o A B → A
told_none A B o e m = subst (λ p. MatchOption p A B) e m
