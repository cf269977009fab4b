-- The row has the same cells in the columns so far that aren't needed.
use Rattle.std.proofs.Common.{◌≡◌, ◌<◌, ℕ, false}
use Rattle.std.specs.Prelude.{slice_get}
use Rattle.cy_oneshot.specs.internal.Carried.{StillNeeded}
use Rattle.cy_oneshot.specs.Carried.{is_needed}
use Rattle.cy_oneshot.proofs.needed.mark_other.Given as goal

abbrev pub invariant-loop-column : goal.invariant-loop-column
invariant-loop-column l =
    record {
      alike : (column : ℕ) → column < l.column → is_needed l.needed.items column ≡ false → slice_get l.row column ≡ slice_get l.first column;
      still : StillNeeded l.initial.needed.items l.needed.items;
    }
