-- What is buffered of a line, and the answer to it.
use Rattle.std.proofs.Common.{◌≡◌, ℕ, ◌<◌, ◌≤◌, List, length, Some, None, Result, Ok, Err, true, Bor, sym, subst, arith}
use Rattle.std.proofs.lemmas.Bool.Decides.{nat_tests}
use Rattle.std.proofs.lemmas.Str.{utf8_valid_len-IsValidUpTo}
use Rattle.cy_lexer.specs.Faults.{at_of, code_of}
use Rattle.cy_lexer.specs.Line.{IsTextOf}
use Rattle.cy_lexer.specs.declared.faults.LexFault.{LexFault}
use Rattle.cy_lexer.specs.declared.faults.LexFault.TheVariants as fault
use Rattle.cy_engine_lines.specs.Model.{Machine}
use Rattle.cy_engine_lines.specs.KeptStep.{KeptState}
use Rattle.cy_shell.specs.internal.Feeding.{Answers, IsAnswer}
use Rattle.cy_shell.specs.Lines.{line_limit}
use Rattle.cy_shell.specs.internal.Lines.{buffered}
use Rattle.cy_shell.specs.Printed.{IsFaultText, IsLexFaultText}
use Rattle.cy_shell.specs.Runs.{Serving, Answered, TooLong, NotUtf8}

buffered_whole : (line bytes : List ℕ) → buffered line ≡ Some bytes → (line ≡ bytes) × (length line ≤ line_limit)
buffered_whole line bytes is = (grind (arith, nat_tests), grind (arith, nat_tests))

pub buffered_past : (line : List ℕ) → buffered line ≡ None → line_limit < length line
buffered_past line is = grind (arith, nat_tests)

-- what the buffered bytes are as a text, the line is
pub text_buffered : (line bytes : List ℕ) (result : Result (Bor (List ℕ)) LexFault) → buffered line ≡ Some bytes → IsTextOf bytes result → IsTextOf line result
text_buffered line bytes result is text = subst (λ (l : List ℕ). IsTextOf l result) (sym (buffered_whole line bytes is).0) text

-- a line that is a text is answered as that text
pub executed : (old : KeptState) (line printed : List ℕ) (text : Bor (List ℕ)) (new : Machine) → IsTextOf line (Ok text) → Answers old text.now printed new → IsAnswer old line printed true new
executed old line printed text new is answers = (is.0, is.1, subst (λ (l : List ℕ). Answers old l printed new) is.2 answers)

-- and any other line is not
pub not_executed : (state : Serving) (line printed : List ℕ) (fault : LexFault)
    → IsTextOf line (Err fault) → IsFaultText (at_of fault) (code_of fault) printed → Answered state line printed state
not_executed state line printed fault.LineTooLong is shown = TooLong is shown
not_executed state line printed (fault.NotUtf8 at) is shown =
    NotUtf8 is.0 is.1 (subst (λ n. IsLexFaultText (fault.NotUtf8 n) printed) (sym (utf8_valid_len-IsValidUpTo line at is.2)) shown)
not_executed state line printed _ is shown = absurd is
