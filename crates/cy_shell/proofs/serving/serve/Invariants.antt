use Rattle.std.proofs.Common.{◌-◌, ◌≡◌, ◌≤◌, ℕ, List, Some, false}
use Rattle.cy_shell.specs.internal.Serving.{serving}
use Rattle.cy_shell.specs.Runs.{input_limit}
use Rattle.cy_shell.proofs.Reading.{Reads}
use Rattle.cy_shell.proofs.serving.serve.Given as goal

abbrev pub invariant-loop-total : goal.invariant-loop-total
invariant-loop-total g l = record {
  limited : l.total ≤ input_limit;
  readable : g.R.Source.has_failed l.source ≡ false;
  writable : g.W.Sink.has_failed l.sink ≡ false;
  handed : g.W.Sink.handed_on l.initial.sink ≡ g.W.Sink.written l.initial.sink → g.W.Sink.handed_on l.sink ≡ g.W.Sink.written l.sink;
  reads : (input : List ℕ) → g.R.Source.remaining l.initial.source ≡ Some input
      → Reads input l.total (serving l.initial.session.engine l.initial.session.feed) (g.R.Source.remaining l.source) l.session.line (serving l.session.engine l.session.feed) (g.W.Sink.written l.initial.sink) (g.W.Sink.written l.sink);
}

abbrev pub decreases-loop-total : goal.decreases-loop-total
decreases-loop-total g l = input_limit - l.total
