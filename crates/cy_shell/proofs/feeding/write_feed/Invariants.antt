use Rattle.std.proofs.Common.{◌≡◌, false, drop}
use Rattle.cy_shell.specs.Streams.{Extends}
use Rattle.cy_shell.proofs.Feeds.{FedSoFar}
use Rattle.cy_shell.proofs.feeding.write_feed.Given as goal

abbrev pub invariant-loop-entry : goal.invariant-loop-entry
invariant-loop-entry g l = record {
  works : g.W.Sink.has_failed l.sink ≡ false;
  handed : g.W.Sink.handed_on l.initial.sink ≡ g.W.Sink.written l.initial.sink → g.W.Sink.handed_on l.sink ≡ g.W.Sink.written l.sink;
  keeps : Extends (g.W.Sink.handed_on l.initial.sink) (g.W.Sink.handed_on l.sink);
  entry_texts : FedSoFar l.entries (drop l.entry-index l.entries) (g.W.Sink.written l.initial.sink) (g.W.Sink.written l.sink);
}
