-- The answer to DIFF, for a member and for another key.
use Rattle.std.proofs.Common.{◌≡◌, ℕ, List, Bool, true, false, Option, None, Some, if◌then◌else◌, sym, ap, subst, ◌∙◌}
use Rattle.dubp_atoms.specs.Same.{Text}
use Rattle.dubp_chain.specs.Chains.{Chain}
use Rattle.dubp_chain.specs.Members.{member}
use Rattle.dubp_chain.specs.Heads.{difficulty}
use Rattle.dubp_statement.specs.OfLedger.{IsDifficulty}
use Rattle.dubp_replay.specs.Answers.{diff_answer, diff_answer_of, none_answer}

module _ (c : Chain) (k : Text) (line : List ℕ) where
  abbrev Answers : Bool → Type 0
  Answers b = line ≡ (if b then diff_answer_of (difficulty c k) else none_answer)

  pub diff_is : (o : Option ℕ) → line ≡ diff_answer_of o → IsDifficulty c k o → line ≡ diff_answer c k
  diff_is None text is = subst Answers (sym is) text
  diff_is (Some d) text is = subst Answers (sym is.0) (text ∙ ap diff_answer_of (sym is.1))
