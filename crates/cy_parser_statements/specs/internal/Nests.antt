-- A function value that reads expressions with this many levels open.
use Rattle.std.specs.Prelude.{ℕ, List, Result}
use Rattle.std.specs.Borrow.{Bor}
use Rattle.std.specs.declared.alloc.Global.{Global}
use denote.Ref.{MutBor}
use Rattle.cy_lexer.specs.declared.tokens.Token.{Token}
use Rattle.cy_parser_statements.specs.declared.operands.Operand.{Operand}
use Rattle.cy_parser_statements.specs.declared.refusals.Refusal.{Refusal}
use Rattle.cy_parser_grammar.specs.declared.places.Nested.{Nested}
use Rattle.cy_parser_statements.specs.internal.Operands.{operand_of}
use Rattle.cy_parser_statements.specs.internal.Reads.{Reads}
use Rattle.cy_parser_grammar.specs.internal.Expressions.{nesting}

pub record Nests (levels : ℕ) (pre : Global → Bor (List ℕ) → MutBor (List Token) → ℕ → Nested → Type 0)
    (post : Global → Bor (List ℕ) → MutBor (List Token) → ℕ → Nested → Result Operand Refusal → MutBor (List Token) → Type 0) : Type 0 where
  pub callable : (alloc : Global) (line : Bor (List ℕ)) (old : MutBor (List Token)) (place : Nested) → pre alloc line old levels place
  pub reads : (alloc : Global) (line : Bor (List ℕ)) (old new : MutBor (List Token)) (place : Nested) (r : Result Operand Refusal) →
      post alloc line old levels place r new → Reads operand_of (nesting line.now levels place old.now) r new.now
