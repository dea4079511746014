use Rattle.std.proofs.Common.{◌≡◌, length}
use Rattle.dubp_outside.proofs.Pieces.{IsWritten}
use Rattle.dubp_outside.proofs.sink.write_whole.Given as goal

abbrev pub invariant-loop-rest : goal.invariant-loop-rest
invariant-loop-rest g l = record {
  same : g.K.Sink.faults l.sink ≡ g.K.Sink.faults l.initial.sink;
  written : IsWritten (g.K.Sink.held l.initial.sink) (g.K.Sink.held l.sink) l.piece l.rest;
}

abbrev pub decreases-loop-rest : goal.decreases-loop-rest
decreases-loop-rest g l = length l.rest
