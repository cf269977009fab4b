use Rattle.std.proofs.Common.{◌≡◌, ℕ, List, false, length}
use Rattle.cy_shell.specs.Streams.{Extends}
use Rattle.cy_shell.specs.internal.Lines.{buffered}
use Rattle.cy_shell.specs.internal.Serving.{serving}
use Rattle.cy_shell.proofs.Progress.{Served}
use Rattle.cy_shell.proofs.session.Session.serve_piece.Given as goal

abbrev pub invariant-loop-end : goal.invariant-loop-end
invariant-loop-end g l = record {
  works : g.W.Sink.has_failed l.sink ≡ false;
  handed : g.W.Sink.handed_on l.initial.sink ≡ g.W.Sink.written l.initial.sink → g.W.Sink.handed_on l.sink ≡ g.W.Sink.written l.sink;
  keeps : Extends (g.W.Sink.handed_on l.initial.sink) (g.W.Sink.handed_on l.sink);
  served : (begun : List ℕ) → l.initial.self.line ≡ buffered begun
      → Served begun l.piece (serving l.initial.self.engine l.initial.self.feed) l.self.line l.rest (serving l.self.engine l.self.feed) (g.W.Sink.written l.initial.sink) (g.W.Sink.written l.sink);
}

abbrev pub decreases-loop-end : goal.decreases-loop-end
decreases-loop-end g l = length l.rest
