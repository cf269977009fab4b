use Rattle.std.proofs.lemmas.Result.{on_ok_weaker}
use Rattle.cy_shell.proofs.Appends.{extends_same, extends_then}
use Rattle.cy_shell.proofs.writing.write_text.Goals as goal

pub returns-then-is_empty-clause-keeps : goal.returns-then-is_empty-clause-keeps
returns-then-is_empty-clause-keeps g c = extends_same _

pub returns-clause-handed : goal.returns-clause-handed
returns-clause-handed g c = on_ok_weaker c.flush.result (λ is _. is) c.flush.ensures.hands_on

pub returns-clause-keeps : goal.returns-clause-keeps
returns-clause-keeps g c = extends_then _ _ _ c.in_ok-write_all.ensures.keeps c.flush.ensures.keeps
