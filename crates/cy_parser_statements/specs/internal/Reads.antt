-- What a function that reads ensures: the reader's outcome, unless memory fails.
use Rattle.std.specs.Prelude.{◌≡◌, ◌≢◌, List, Some, None, Result, Ok, Err}
use Rattle.cy_lexer.specs.declared.tokens.Token.{Token}
use Rattle.cy_parser_grammar.specs.internal.Reader.{Outcome}
use Rattle.cy_parser_statements.specs.declared.refusals.Refusal.{Refusal}
use Rattle.cy_parser_statements.specs.declared.refusals.Refusal.TheVariants.{NoMemory}

abbrev pub Reads : {A V : Type 0} → (A → V) → Outcome V → Result A Refusal → List Token → Type 0
Reads view outcome (Ok a) left = outcome ≡ Some (view a, left)
Reads view outcome (Err e) left = e ≢ NoMemory → outcome ≡ None
