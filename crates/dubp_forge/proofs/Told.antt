-- The answer to FORGE, by what was forged.
use Rattle.std.proofs.Common.{◌≡◌, ◌≢◌, ℕ, List, [], ◌∷◌, Some, Result, Ok, Err, inl, inr, refl, subst, sym}
use Rattle.std.specs.Prelude.{IfOk}
use Rattle.dubp_atoms.specs.Same.{Text}
use Rattle.dubp_chain.specs.Chains.{Chain}
use Rattle.dubp_chain.specs.OfBlock.{Block}
use Rattle.dubp_rules.specs.declared.rule.Rule.{Rule}
use Rattle.dubp_rules.specs.Table.{code_text}
use Rattle.dubp_replay.specs.Answers.{forged_answer, none_answer, refused_answer}
use Rattle.dubp_replay.specs.OfForging.{Forging, IsForged, IsTried}
use Rattle.dubp_replay.specs.Turns.{IsForgeAnswer, IsForgedAnswer}
use Rattle.dubp_atoms.specs.OfCosts.{NoMemory}
use Rattle.dubp_forge.specs.Forgings.{IsForging}
use Rattle.dubp_forge.specs.declared.forged.Forged.{Forged}
use Rattle.dubp_forge.specs.declared.forged.ForgeRefusal.{ForgeRefusal}
use Rattle.dubp_forge.specs.declared.forged.ForgeRefusal.TheVariants as refusal
use Rattle.dubp_replay.specs.AnswerBytes.{answer_bytes}
use Rattle.dubp_forge.specs.Telling.{Tells}
use Rattle.dubp_replay.specs.declared.answer.Answer.{Answer}

behind : (f : Forging) (c : Chain) (answer : List ℕ) → c ≢ [] → IsForgedAnswer f answer → IsForgeAnswer f c answer
behind f [] answer some is = absurd (some refl)
behind f (b ∷ c) answer some is = is

module _ (f : Forging) (c : Chain) (answer : List ℕ) where
  answers_block : (b : Block) (left : List (Text × Rule)) → c ≢ [] → IsForged f b left → answer ≡ forged_answer b left → IsForgeAnswer f c answer
  answers_block b left some is text = behind f c answer some (inl (b, left, is, text))

  answers_rule : (rule : Rule) → c ≢ [] → IsTried f [] (Some rule) → answer ≡ refused_answer (code_text rule) → IsForgeAnswer f c answer
  answers_rule rule some is text = behind f c answer some (inr (rule, is, text))

  answers_none : c ≡ [] → answer ≡ none_answer → IsForgeAnswer f c answer
  answers_none empty text = subst (λ (x : Chain). IsForgeAnswer f x answer) (sym empty) text

pub told_refusal : (f : Forging) (why : ForgeRefusal) (r : Result Answer NoMemory) → IsForging f (Err why) → Tells why r → IfOk r (λ a. IsForgeAnswer f f.chain (answer_bytes a))
told_refusal f why (Err e) is told = tt
told_refusal f refusal.NoChain (Ok a) is told = answers_none f f.chain (answer_bytes a) is told
told_refusal f (refusal.Refused rule) (Ok a) is told = answers_rule f f.chain (answer_bytes a) rule is.0 is.1 told
told_refusal f refusal.NoMemory (Ok a) is told = absurd told

pub told_block : (f : Forging) (forged : Forged) (r : Result Answer NoMemory) → IsForging f (Ok forged) → IfOk r (λ a. answer_bytes a ≡ forged_answer forged.block forged.left.items) → IfOk r (λ a. IsForgeAnswer f f.chain (answer_bytes a))
told_block f forged (Err e) is told = tt
told_block f forged (Ok a) is told = answers_block f f.chain (answer_bytes a) forged.block forged.left.items is.0 is.2 told
