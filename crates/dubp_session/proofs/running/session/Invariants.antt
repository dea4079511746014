use Rattle.std.proofs.Common.{◌≡◌, ◌≤◌, ◌-◌, ◌^◌}
use Rattle.dubp_entries.specs.Remembered.{IsSettled}
use Rattle.dubp_entries.specs.Run.{SoFar}
use Rattle.dubp_session.proofs.running.session.Given as goal

abbrev pub invariant-reads : goal.invariant-reads
invariant-reads g l = record {
  read_same : g.S.Source.faults l.initial.source ≡ g.S.Source.faults l.source;
  write_same : g.K.Sink.faults l.initial.sink ≡ g.K.Sink.faults l.sink;
  within : l.taken ≤ 2 ^ 40;
  settled : IsSettled l.node l.answers.gathered l.answers.remembered;
  so_far : SoFar l.initial.node l.node (g.S.Source.left l.initial.source) (g.S.Source.left l.source) (g.K.Sink.held l.initial.sink) (g.K.Sink.held l.sink) l.taken l.phase l.buffer;
}

abbrev pub decreases-reads : goal.decreases-reads
decreases-reads g l = 2 ^ 40 - l.taken
