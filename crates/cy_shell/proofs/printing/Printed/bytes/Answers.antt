-- The two constant texts are those of the faults 90 and 91.
use Rattle.std.proofs.Common.{◌∙◌, ap, sym}
use Rattle.std.specs.Fmt.{digits}
use Rattle.serde_json.proofs.OnLiterals.{serde_json_on_literals}
use Rattle.cy_shell.specs.internal.Printing.{printed_text}
use Rattle.cy_shell.proofs.printing.Printed.bytes.Goals as goal

pub returns-in-NoMemory : goal.returns-in-NoMemory
unfolding digits serde_json_on_literals
returns-in-NoMemory c = c.as_bytes.ensures.value ∙ sym (ap (λ p. printed_text p c.args.room.now) c.in-NoMemory.is)

pub returns-in-ReplyLost : goal.returns-in-ReplyLost
unfolding digits serde_json_on_literals
returns-in-ReplyLost c = c.as_bytes-in-ReplyLost.ensures.value ∙ sym (ap (λ p. printed_text p c.args.room.now) c.in-ReplyLost.is)
