use Rattle.std.proofs.Common.{◌≡◌, ◌-◌, ◌≤◌, ℕ, List, length, drop}
use Rattle.dubp_entries.specs.Gathering.{OwedTo}
use Rattle.dubp_entries.specs.Reading.{Stands, StandsSomewhere}
use Rattle.dubp_entries.specs.Remembered.{AreReplies}
use Rattle.dubp_session.proofs.serving.serve.Given as goal

abbrev pub invariant-commands : goal.invariant-commands
invariant-commands g l = record {
  same : g.K.Sink.faults l.initial.sink ≡ g.K.Sink.faults l.sink;
  is_rest : l.rest ≡ drop (length l.hand - length l.rest) l.hand;
  shorter : length l.rest ≤ length l.hand;
  stands : StandsSomewhere l.phase l.rest;
  replies : AreReplies l.node l.answers.remembered;
  so_far : (bytes : List ℕ) → Stands l.initial.phase l.hand bytes → OwedTo l.initial.node l.node (g.K.Sink.held l.initial.sink) (g.K.Sink.held l.sink) bytes l.phase l.rest l.answers.gathered;
}

abbrev pub decreases-commands : goal.decreases-commands
decreases-commands g l = length l.rest
