-- The text that the program has for a line.
use Rattle.std.specs.Prelude.{ℕ, List, []}
use Rattle.cy_shell.specs.Printed.{no_memory_text, reply_lost_text}
use Rattle.cy_shell.specs.declared.printing.Printed.{Printed}
use Rattle.cy_shell.specs.declared.printing.Printed.TheVariants as printed

-- where this text was made last
abbrev pub printed_text : Printed → List ℕ → List ℕ
printed_text printed.Nothing made = []
printed_text printed.Text made = made
printed_text printed.NoMemory made = no_memory_text
printed_text printed.ReplyLost made = reply_lost_text
