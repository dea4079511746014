use Rattle.std.proofs.Common.{◌≡◌}
use Rattle.dubp_parts_at_work.proofs.Copies.{IsCopied}
use Rattle.dubp_parts_at_work.proofs.streams.copy_all.Given as goal

abbrev pub invariant-loop : goal.invariant-loop
invariant-loop g l = record {
  copied : IsCopied (g.S.Source.left l.initial.source) (g.S.Source.left l.source) (g.K.Sink.held l.initial.sink) (g.K.Sink.held l.sink);
  source_calm : g.S.Source.faults l.source ≡ g.S.Source.faults l.initial.source;
  sink_calm : g.K.Sink.faults l.sink ≡ g.K.Sink.faults l.initial.sink;
}
