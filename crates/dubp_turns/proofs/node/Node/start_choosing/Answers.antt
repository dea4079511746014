use Rattle.std.proofs.Common.{◌≡◌, ◌∙◌, ℕ, List, inl, subst, true}
use Rattle.dubp_replay.specs.Answers.{auto_on_answer}
use Rattle.dubp_replay.specs.Turns.{AutoTurn, Chooses, State}
use Rattle.dubp_choosing.specs.States.{choosing, state_with}
use Rattle.dubp_choosing.proofs.Waiting.{chooses_waiting}
use Rattle.dubp_turns.proofs.node.Node.start_choosing.Goals as goal

pub returns-in-Ok : goal.returns-in-Ok
returns-in-Ok g c = λ frame bytes handed.
    let s = c.self.inside in
    let fs = s.failures.items in
    let b = c.resolve.new.branches in
    let left = c.resolve.new.failures.items in
    let answer = c.in-Ok.lines.items in
    let first : c.as_slice.result.now ≡ auto_on_answer = c.as_slice.ensures.value ∙ c.put_one.ensures in
    let chosen = subst (λ (t : List ℕ). Chooses t (choosing s.branches fs) answer (choosing b left)) first c.in-Ok.ensures.chosen in
    inl (subst (λ (x : State). AutoTurn x true answer (state_with s.pool b true left)) c.self.view_is
    (chooses_waiting s.pool auto_on_answer answer s.branches b fs left chosen))
