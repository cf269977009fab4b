-- What is refused where a reader answers.
use Rattle.std.proofs.Common.{◌≡◌, ◌≢◌, List, Some, None, refl}
use Rattle.cy_lexer.specs.declared.tokens.Token.{Token}
use Rattle.cy_parser_grammar.specs.internal.Reader.{Outcome}
use Rattle.cy_parser_statements.specs.declared.refusals.Refusal.{Refusal}
use Rattle.cy_parser_statements.specs.declared.refusals.Refusal.TheVariants.{NoMemory}

-- where there is an answer, it is refused only when out of memory
pub memory_alone : {A : Type 0} (refusal : Refusal) (o : Outcome A) (x : A × List Token) → (refusal ≢ NoMemory → o ≡ None) → o ≡ Some x → refusal ≡ NoMemory
memory_alone NoMemory o x refuses there = refl
memory_alone refusal o x refuses there = let gone = refuses (λ e. cc) in cc
