-- What private contracts say of the lines of failures, and of the answer to PEND.
use Rattle.std.specs.Prelude.{ℕ, List, map, Result, Ok, Err}
use Rattle.std.specs.List.{flat_map}
use Rattle.dubp_replay.specs.declared.failure.Failure.{Failure}
use Rattle.dubp_replay.specs.Answers.{failed_line, full_answer, known_document_answer, no_document_answer, no_memory_answer, pending_answer}
use Rattle.dubp_atoms.specs.Same.{Text}
use Rattle.dubp_pool.specs.declared.refusal.PendRefusal.{PendRefusal}
use Rattle.dubp_pool.specs.declared.refusal.PendRefusal.TheVariants.{Unread, Known, Full, NoMemory}

abbrev pub failed_lines : List Failure → List ℕ
failed_lines failures = flat_map (λ line. line) (map failed_line failures)

-- the answer to what `add` of the pool said
abbrev pub pend_text : Result Text PendRefusal → List ℕ
pend_text (Ok hash) = pending_answer hash
pend_text (Err Unread) = no_document_answer
pend_text (Err (Known hash)) = known_document_answer hash
pend_text (Err (Full held)) = full_answer
pend_text (Err NoMemory) = no_memory_answer
