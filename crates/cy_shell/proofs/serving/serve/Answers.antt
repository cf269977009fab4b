use Rattle.std.proofs.Common.{refl, subst, inl, inr, arith}
use Rattle.cy_shell.specs.Streams.{TakesFront}
use Rattle.cy_shell.proofs.Reading.{known_input, reads_more, stops_reading, stops_in_piece, ends_well, stops_at_end}
use Rattle.cy_shell.proofs.serving.serve.Goals as goal

pub returns-in_default-clause-read : goal.returns-in_default-clause-read
returns-in_default-clause-read g c = λ _. known_input _ (λ input is.
    stops_reading input c.loop-total.total _ _ _ _ _ _ _ _ (c.loop-total.invariant.reads input is) c.in_default.ensures.moves_nothing c.loop-total.invariant.limited (inl c.in_default.ensures.fails))

pub returns-in_default-clause-handed : goal.returns-in_default-clause-handed
returns-in_default-clause-handed g c = λ _. c.loop-total.invariant.handed

pub returns-then-count-eq0-clause-done : goal.returns-then-count-eq0-clause-done
returns-then-count-eq0-clause-done g c = known_input _ (λ input is.
    ends_well input c.loop-total.total _ _ _ _ _ _ c.loop-total.piece c.read_piece.new.piece _ _ _ (c.loop-total.invariant.reads input is)
    (subst (TakesFront _ _ _ _) c.if-count-eq0.true c.in-Ok.ensures.front) (omega (arith, c.loop-total.auto.piece, c.requires.some_room)) (omega (arith, c.loop-total-test.true)) c.in-Ok-finish.ensures.served)

pub returns-then-count-eq0-clause-handed : goal.returns-then-count-eq0-clause-handed
returns-then-count-eq0-clause-handed g c = λ _ same. c.in-Ok-finish.ensures.handed (c.loop-total.invariant.handed same)

pub returns-in_default-finish-clause-write : goal.returns-in_default-finish-clause-write
returns-in_default-finish-clause-write g c = λ _. known_input _ (λ input is.
    stops_at_end input c.loop-total.total _ _ _ _ _ c.loop-total.piece c.read_piece.new.piece _ _ _ _ _ _ _ (c.loop-total.invariant.reads input is)
    (subst (TakesFront _ _ _ _) c.if-count-eq0.true c.in-Ok.ensures.front) (omega (arith, c.loop-total.auto.piece, c.requires.some_room)) c.loop-total.invariant.limited
    (rw c.if-count-eq0.true at c.in-Ok.ensures.took) c.loop-total.invariant.handed c.in_default-finish.ensures.keeps c.in_default-finish.ensures.broken_off)

pub returns-in_default-serve_piece-clause-write : goal.returns-in_default-serve_piece-clause-write
returns-in_default-serve_piece-clause-write g c = λ _. known_input _ (λ input is.
    stops_in_piece input c.loop-total.total c.in-Ok.count _ _ _ _ _ c.loop-total.piece c.read_piece.new.piece _ _ _ _ _ _ _ _
    (c.loop-total.invariant.reads input is) c.in-Ok.ensures.front c.in-Ok.ensures.limited refl (omega (arith, c.if-count-eq0.false)) c.in-Ok.ensures.took c.loop-total.invariant.handed
    c.in_default-serve_piece.ensures.keeps c.in_default-serve_piece.ensures.broken_off)

pub loop-total-preserved : goal.loop-total-preserved
loop-total-preserved g c = record {
  limited = c.in-Ok.ensures.limited;
  readable = c.in-Ok.ensures.works;
  writable = c.in-Ok-serve_piece.ensures.works;
  handed = λ same. c.in-Ok-serve_piece.ensures.handed (c.loop-total.invariant.handed same);
  reads = λ input is.
      reads_more input c.loop-total.total c.in-Ok.count _ _ _ _ _ _ _ c.loop-total.piece c.read_piece.new.piece _ _ _ _
      (c.loop-total.invariant.reads input is) c.in-Ok.ensures.front refl c.in-Ok-serve_piece.ensures.line c.in-Ok-serve_piece.ensures.served;
}

pub returns-clause-read : goal.returns-clause-read
returns-clause-read g c = λ _. known_input _ (λ input is.
    stops_reading input c.loop-total.total _ _ _ _ _ _ _ _ (c.loop-total.invariant.reads input is) refl c.loop-total.invariant.limited (inr (omega (arith, c.loop-total.invariant.limited, c.loop-total-test.false))))

pub returns-clause-handed : goal.returns-clause-handed
returns-clause-handed g c = λ _. c.loop-total.invariant.handed
