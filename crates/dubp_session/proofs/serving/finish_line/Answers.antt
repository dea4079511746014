use Rattle.std.proofs.Common.{◌≡◌, [], subst, arith}
use Rattle.std.proofs.lemmas.List.{nil_from_length}
use Rattle.dubp_entries.specs.Cut.{BeginsNone}
use Rattle.dubp_entries.proofs.Wholes.{heads_len}
use Rattle.dubp_entries.proofs.Serves.{finished_empty, finished_frame, finished_head}
use Rattle.dubp_session.proofs.serving.finish_line.Goals as goal

pub returns-then-is_empty-clause-finished : goal.returns-then-is_empty-clause-finished
returns-then-is_empty-clause-finished g c = λ none.
    let no_bytes : c.args.hand.now ≡ [] = nil_from_length c.args.hand.now (grind arith) in
    rw no_bytes (finished_empty _ _)

pub returns-in-Some-clause-finished : goal.returns-in-Some-clause-finished
returns-in-Some-clause-finished g c = λ none.
    let l = c.in-Some.ensures in
    rw l.2 (finished_frame _ _ _ _ (subst BeginsNone l.2 none))

pub returns-in-None-clause-finished : goal.returns-in-None-clause-finished
returns-in-None-clause-finished g c = λ none.
    finished_head _ _ c.args.hand.now c.in-None.ensures.0 c.in_default.ensures (grind arith) (heads_len c.args.hand.now c.in-None.ensures.0 c.in-None.ensures.1)
