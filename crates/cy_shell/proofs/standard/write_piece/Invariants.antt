-- A call that was interrupted writes nothing.
use Rattle.std.specs.Io.KnownBytes.{Keeps}
use Rattle.cy_shell.proofs.standard.write_piece.Given as goal

abbrev pub invariant-loop : goal.invariant-loop
invariant-loop g l = Keeps (g.W.Write.contents l.initial.writer) (g.W.Write.contents l.writer)
