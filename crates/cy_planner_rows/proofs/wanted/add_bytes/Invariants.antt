-- The bytes so far.
use Rattle.std.proofs.Common.{◌≡◌, ◌++◌, take}
use Rattle.cy_planner_rows.proofs.wanted.add_bytes.Given as goal

abbrev pub invariant-loop-byte : goal.invariant-loop-byte
invariant-loop-byte l = l.words.items ≡ l.initial.words.items ++ take l.byte-index l.text
