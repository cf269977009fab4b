use Rattle.std.proofs.Common.{◌≡◌, ◌≤◌, length, take, map, vec_len}
use Rattle.std.specs.Vec.{vec_capacity}
use Rattle.cy_engine.specs.internal.KeptLines.{RunsKept}
use Rattle.cy_engine.proofs.runs.answer_all.Given as goal

-- the lines so far are run, and there is room for the answers to all
abbrev pub invariant-loop-line : goal.invariant-loop-line
invariant-loop-line l = record {
  run : RunsKept l.fn.engine l.engine (take l.line-index (map (λ line. line.now) l.lines)) l.results.items;
  count : vec_len l.results ≡ l.line-index;
  room : length l.lines ≤ vec_capacity l.results;
}
