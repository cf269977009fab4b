use Rattle.std.proofs.Common.{arith}
use Rattle.cy_shell.proofs.Reading.{takes_into_front, took_into_front}
use Rattle.cy_shell.proofs.serving.read_piece.Goals as goal

pub returns-clause-front : goal.returns-clause-front
returns-clause-front g c =
    takes_into_front c.read.result _ _ c.args.piece.now c.read.new.piece c.min-most.result (omega arith) (omega arith) c.read.ensures.within c.read.ensures.front

pub returns-clause-took : goal.returns-clause-took
returns-clause-took g c =
    took_into_front c.read.result _ c.args.piece.now c.read.new.piece c.min-most.result (omega arith) (omega arith) c.read.ensures.within c.read.ensures.took
