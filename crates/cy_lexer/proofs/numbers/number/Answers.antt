use Rattle.std.proofs.Common.{arith}
use Rattle.cy_lexer.proofs.PiecesLemmas.{number_piece-number, number_piece-large}
use Rattle.cy_lexer.proofs.numbers.number.Goals.{in_default-via-in-Some+else-number-le-GREATEST_NUMBER, in_default-via-in_default}
use Rattle.cy_lexer.proofs.numbers.number.Goals as goal

pub returns-in-Some-clause-value : goal.returns-in-Some-clause-value
returns-in-Some-clause-value c =
    number_piece-number c.args.at c.args.first c.in-Some.number _ _ _ c.requires.split c.requires.digit c.if-is_bad_number.ensures c.after_run-left.ensures.value c.in-Some.ensures c.if-number-le-GREATEST_NUMBER.true

pub returns-in_default-clause-value : goal.returns-in_default-clause-value
returns-in_default-clause-value c =
    number_piece-large c.args.at c.args.first _ _ _ c.requires.split c.requires.digit c.if-is_bad_number.ensures c.after_run-left.ensures.value
    (elim c.in_default.branch [
      | in_default-via-in-Some+else-number-le-GREATEST_NUMBER w ↦ omega (arith, w.in-Some.ensures, w.if-number-le-GREATEST_NUMBER.false)
      | in_default-via-in_default w ↦ omega (arith, w.in_default.ensures)
    ])
