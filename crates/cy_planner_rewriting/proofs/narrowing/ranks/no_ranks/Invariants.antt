-- None so far has a rank.
use Rattle.std.proofs.Common.{◌≡◌, ℕ, length}
use Rattle.std.specs.Prelude.{None, slice_index_or}
use Rattle.cy_planner_rewriting.proofs.narrowing.ranks.no_ranks.Given as goal

abbrev pub invariant-loop-column : goal.invariant-loop-column
invariant-loop-column l = record { none : (c : ℕ) → slice_index_or l.ranks.items c None ≡ None; all : length l.ranks.items ≡ l._column }
