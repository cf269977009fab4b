use Rattle.std.proofs.Common.{◌-◌, ◌≤◌, ◌≡◌, false, length, take}
use Rattle.cy_shell.specs.Streams.{Extends, appended}
use Rattle.cy_shell.proofs.writing.write_all.Given as goal

abbrev pub invariant-loop-at : goal.invariant-loop-at
invariant-loop-at g l = record {
  within : l.at ≤ length l.bytes;
  works : g.W.Sink.has_failed l.sink ≡ false;
  keeps : Extends (g.W.Sink.handed_on l.initial.sink) (g.W.Sink.handed_on l.sink);
  written : g.W.Sink.written l.sink ≡ appended (g.W.Sink.written l.initial.sink) (take l.at l.bytes);
}

abbrev pub decreases-loop-at : goal.decreases-loop-at
decreases-loop-at g l = length l.bytes - l.at
