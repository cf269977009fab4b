-- What the proof about the program's arguments needs of their matches.
use Rattle.std.specs.Prelude.{◌≡◌, List, ℕ, Some, codes}
use Rattle.clap.specs.Words.{found_of, one_text}
use Rattle.clap.specs.Values.{IsUnsignedIn}
use Rattle.clap.specs.declared.ArgMatches.{ArgMatches}

-- the text of the history, where there is one, is a number from 1 to 4096
abbrev pub HasHistory : ArgMatches → Type 0
HasHistory matches = (text : List ℕ) → one_text (found_of matches) (codes "history") ≡ Some text → IsUnsignedIn 1 4096 text
