-- What private contracts say of the answer to FORGE: the lines of what a block leaves out, and why there is no block. Protocol: forging; commands
-- and answers.
use Rattle.std.specs.Prelude.{◌≡◌, ℕ, List, map, Result, Ok, Err, ⊤}
use Rattle.std.specs.List.{flat_map}
use Rattle.dubp_atoms.specs.Same.{Text}
use Rattle.dubp_rules.specs.declared.rule.Rule.{Rule}
use Rattle.dubp_rules.specs.Table.{code_text}
use Rattle.dubp_atoms.specs.OfCosts.{NoMemory}
use Rattle.dubp_replay.specs.Answers.{left_line, none_answer, refused_answer}
use Rattle.dubp_forge.specs.declared.forged.ForgeRefusal.{ForgeRefusal}
use Rattle.dubp_forge.specs.declared.forged.ForgeRefusal.TheVariants as refusal
use Rattle.dubp_replay.specs.AnswerBytes.{answer_bytes}
use Rattle.dubp_replay.specs.declared.answer.Answer.{Answer}

-- the lines of these, one behind the other
abbrev pub left_lines : List (Text × Rule) → List ℕ
left_lines left = flat_map (λ line. line) (map left_line left)

-- the answer to why no block was forged; for want of memory there is none
abbrev pub Tells : ForgeRefusal → Result Answer NoMemory → Type 0
Tells why (Err e) = ⊤
Tells refusal.NoChain (Ok a) = answer_bytes a ≡ none_answer
Tells (refusal.Refused rule) (Ok a) = answer_bytes a ≡ refused_answer (code_text rule)
Tells refusal.NoMemory (Ok a) = ⊥
