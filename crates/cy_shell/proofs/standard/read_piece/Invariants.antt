-- A read that was interrupted consumes nothing, and the piece keeps its length.
use Rattle.std.proofs.Common.{◌≡◌, length}
use Rattle.std.specs.Io.KnownBytes.{Keeps}
use Rattle.cy_shell.proofs.standard.read_piece.Given as goal

abbrev pub invariant-loop : goal.invariant-loop
invariant-loop g l = (length l.piece ≡ length l.initial.piece) × Keeps (g.R.Read.remaining l.initial.reader) (g.R.Read.remaining l.reader)
