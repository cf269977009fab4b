use Rattle.cy_shell.proofs.LineTexts.{executed, not_executed}
use Rattle.cy_shell.proofs.answers.print_answer.Goals as goal

pub returns-in-Ok : goal.returns-in-Ok
returns-in-Ok c = λ bytes is. executed _ bytes _ c.in-Ok.text _ (c.in-Ok.ensures bytes is) c.answer_text.ensures

pub returns-in-Err : goal.returns-in-Err
returns-in-Err c = λ bytes is feed. not_executed _ bytes _ c.in-Err.fault (c.in-Err.ensures bytes is) (rw (c.at.ensures, c.code.ensures) at c.print_fault.ensures)
