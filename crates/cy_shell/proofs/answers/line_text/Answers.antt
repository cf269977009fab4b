use Rattle.std.proofs.Common.{sym, ◌∙◌}
use Rattle.cy_shell.proofs.LineTexts.{buffered_past, text_buffered}
use Rattle.cy_shell.proofs.answers.line_text.Goals as goal

pub returns-in-None : goal.returns-in-None
returns-in-None c = λ bytes is. buffered_past bytes (sym (c.in-None.ensures ∙ is))

pub returns-in-Some : goal.returns-in-Some
returns-in-Some c = λ bytes is. text_buffered bytes c.in-Some.bytes.now c.text_of.result (sym (c.in-Some.ensures ∙ is)) c.text_of.ensures
