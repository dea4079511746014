-- What a query is answered. Protocol: commands and answers.
use Rattle.std.specs.Prelude.{ℕ, List, Result, Ok, Err}
use Rattle.dubp_atoms.specs.OfCosts.{NoMemory}
use Rattle.dubp_chain.specs.Chains.{Chain}
use Rattle.dubp_replay.specs.Answers.{IsAnswered}
use Rattle.dubp_replay.specs.Turns.{AskingTakesMemory}
use Rattle.dubp_replay.specs.declared.query.Query.{Query}
use Rattle.dubp_replay.specs.AnswerBytes.{answer_bytes}
use Rattle.dubp_replay.specs.declared.answer.Answer.{Answer}

-- answered, unless it takes memory and that ran out
abbrev pub IsAnswer : Chain → Query → Result Answer NoMemory → Type 0
IsAnswer c query (Ok a) = IsAnswered c query (answer_bytes a)
IsAnswer c query (Err e) = AskingTakesMemory query

-- the same of an answer that is put into a line
abbrev pub IsTold : Chain → Query → List ℕ → Result Unit NoMemory → Type 0
IsTold c query answer (Ok done) = IsAnswered c query answer
IsTold c query answer (Err e) = AskingTakesMemory query
