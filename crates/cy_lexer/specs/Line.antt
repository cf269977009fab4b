-- The text of a line of bytes (own: this profile's choice, not in any standard).
use Rattle.std.specs.Prelude.{◌≡◌, ℕ, ◌<◌, ◌≤◌, List, length, Result, Ok, Err, IsUtf8}
use Rattle.std.specs.Borrow.{Bor}
use Rattle.std.specs.Str.{IsValidUpTo}
use Rattle.cy_lexer.specs.declared.faults.LexFault.{LexFault}
use Rattle.cy_lexer.specs.declared.faults.LexFault.TheVariants.{LineTooLong, NotUtf8}

-- the length of the longest line, in bytes without its line end (own: this profile's choice, which stands in
-- no standard)
abbrev pub longest_line : ℕ
longest_line = 65536

-- The text of the bytes: they are too many, and then nothing else is reported; or they are UTF-8, and the text is they; or
-- they are not, and the fault has the length of their longest beginning that is.
abbrev pub IsTextOf : List ℕ → Result (Bor (List ℕ)) LexFault → Type 0
IsTextOf bytes (Ok text) = (length bytes ≤ longest_line) × IsUtf8 bytes × (text.now ≡ bytes)
IsTextOf bytes (Err LineTooLong) = longest_line < length bytes
IsTextOf bytes (Err (NotUtf8 at)) = (length bytes ≤ longest_line) × ¬ (IsUtf8 bytes) × IsValidUpTo bytes at
IsTextOf bytes (Err _) = ⊥
