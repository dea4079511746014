-- What the words `gen N START` ask for, and what is written then. Protocol: the generator.
use Rattle.std.specs.Prelude.{◌≡◌, ◌⊎◌, ℕ, ◌≤◌, List, [], ◌∷◌, ◌++◌, map, reverse, codes, decimal}
use Rattle.std.specs.Borrow.{Bor}
use Rattle.std.specs.Io.KnownBytes.{Appends}
use Rattle.dubp_outside.specs.Parts.{AppendsPart}
use Rattle.dubp_atoms.specs.Letters.{SPACE}
use Rattle.dubp_atoms.specs.Spelling.{IsNumber}
use Rattle.dubp_chain.specs.Chains.{Chain}
use Rattle.dubp_chain.specs.Heads.{head_of}
use Rattle.dubp_rules.specs.Table.{code_text}
use Rattle.dubp_replay.specs.Answers.{answer_line, head_answer, money_answer}
use Rattle.dubp_replay.specs.declared.command.Command.{Command}
use Rattle.dubp_replay.specs.Turns.{State}
use Rattle.dubp_turns.specs.Given.{IsGivenAll, block_given, verdict_given}
use Rattle.dubp_gen.specs.Generated.{Ends, IsMade, Made}
use Rattle.dubp_gen.specs.declared.chain.GenRefusal.{GenRefusal}
use Rattle.dubp_gen.specs.declared.chain.GenRefusal.TheVariants.{NoNonce, Invalid, NoMemory}
use Rattle.dubp_entries.specs.Run.{Situation}

-- the words are `gen`, how many blocks, from 1 to 5,000, and the number with which the run of numbers begins
abbrev pub AsksFor : List (Bor (List ℕ)) → ℕ → ℕ → Type 0
AsksFor (word ∷ (count ∷ (number ∷ []))) n start =
    (word.now ≡ codes "gen") × (count.now ≡ decimal n) × (1 ≤ n) × (n ≤ 5000) × (number.now ≡ decimal start) × IsNumber start
AsksFor words n start = ⊥

-- they are so for some numbers
abbrev pub IsGen : List (Bor (List ℕ)) → Type 0
IsGen words = (n : ℕ) × (start : ℕ) × AsksFor words n start

-- ---- what is given to the node of a chain that was made

-- its verdicts in their order, and then its blocks in ascending number
abbrev pub commands_of : Made → List (Command × List ℕ)
commands_of made = map verdict_given made.given ++ map block_given (reverse made.chain)

-- some of them did, from the first on, perhaps none
pub record IsGivenFront (given : List (Command × List ℕ)) (old new : State) : Type 0 where
  pub done : List (Command × List ℕ)
  pub others : List (Command × List ℕ)
  pub given_is : given ≡ done ++ others
  pub all : IsGivenAll done old new

-- ---- what is written

-- three lines: what was asked for, the head, and the money
abbrev pub shown_text : ℕ → ℕ → Chain → List ℕ
shown_text n start c =
    answer_line (codes "GEN " ++ (decimal n ++ (SPACE ∷ decimal start))) ++ (head_answer (head_of c) ++ money_answer c)

-- the chain was given to the node, and its head and its money are shown
pub record IsShown (n start : ℕ) (old : State) (text : List ℕ) (new : State) : Type 0 where
  pub made : Made
  pub is : IsMade start n made
  pub given : IsGivenAll (commands_of made) old new
  pub text_is : text ≡ shown_text n start new.chain

-- the line that names the block at which the making ends; it does not end for want of memory
abbrev pub NamesEnd : GenRefusal → List ℕ → Type 0
NamesEnd (NoNonce block) text = text ≡ answer_line (codes "NO NONCE " ++ decimal block)
NamesEnd (Invalid block rule) text = text ≡ answer_line (codes "NO BLOCK " ++ (decimal block ++ (SPACE ∷ code_text rule)))
NamesEnd NoMemory text = ⊥

-- no chain of that length is made, and the node is as before
pub record IsEnded (n start : ℕ) (old : State) (text : List ℕ) (new : State) : Type 0 where
  pub refusal : GenRefusal
  pub ends : Ends start n refusal
  pub names : NamesEnd refusal text
  pub same : new ≡ old

abbrev pub Generates : ℕ → ℕ → State → List ℕ → State → Type 0
Generates n start old text new = IsShown n start old text new ⊎ IsEnded n start old text new

-- ---- how a run in this form ends: the source is not read

-- the text was written
pub record GeneratedAll (n start : ℕ) (old new : Situation) : Type 0 where
  pub text : List ℕ
  pub generates : Generates n start old.state text new.state
  pub left : new.left ≡ old.left
  pub written : Appends old.held new.held text

-- a part of it was
pub record GeneratedPart (n start : ℕ) (old new : Situation) : Type 0 where
  pub text : List ℕ
  pub generates : Generates n start old.state text new.state
  pub left : new.left ≡ old.left
  pub written : AppendsPart old.held new.held text

-- a chain that was made was given to the node
pub record IsGivenWhole (n start : ℕ) (old new : State) : Type 0 where
  pub made : Made
  pub is : IsMade start n made
  pub given : IsGivenAll (commands_of made) old new

-- of the chain that was made a front was given to the node
pub record IsGivenSome (n start : ℕ) (old new : State) : Type 0 where
  pub made : Made
  pub is : IsMade start n made
  pub given : IsGivenFront (commands_of made) old new

-- memory ran out before anything was written
pub record GeneratedNone (n start : ℕ) (old new : Situation) : Type 0 where
  pub state : (new.state ≡ old.state) ⊎ IsGivenSome n start old.state new.state
  pub left : new.left ≡ old.left
  pub held : new.held ≡ old.held
