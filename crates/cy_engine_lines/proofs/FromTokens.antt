-- From tokens to verdicts.
use Rattle.std.proofs.Common.{◌≡◌, ◌≢◌, ◌⊎◌, ℕ, List, [], ◌∷◌, ◌++◌, cond, Bool, true, false, Some, None, Result, Ok, length, refl, ap, inl, inr}
use Rattle.cy_lexer.specs.declared.symbols.Symbol.{Symbol}
use Rattle.cy_lexer.specs.declared.symbols.Symbol.TheVariants as sign
use Rattle.cy_lexer.specs.declared.tokens.TokenKind.{TokenKind}
use Rattle.cy_lexer.specs.declared.tokens.TokenKind.TheVariants as kind
use Rattle.cy_lexer.specs.declared.tokens.Token.{Token}
use Rattle.cy_lexer.specs.declared.faults.LexFault.{LexFault}
use Rattle.cy_lexer.specs.declared.faults.LexFault.TheVariants as lex
use Rattle.cy_parser.specs.declared.faults.ParseFault.{ParseFault}
use Rattle.cy_parser.specs.declared.faults.ParseFault.TheVariants as parse
use Rattle.cy_parser.specs.Faults.{PointsAtPlace}
use Rattle.cy_parser_grammar.specs.SpellsClauses.{SpellsStatement}
use Rattle.cy_scope_kinds.specs.declared.faults.ScopeFault.{ScopeFault}
use Rattle.cy_scope_kinds.specs.declared.faults.ScopeFault.TheVariants as scope
use Rattle.cy_scope_kinds.specs.declared.faults.ViewFault.{ViewFault}
use Rattle.cy_scope_kinds.specs.declared.faults.ViewFault.TheVariants as view
use Rattle.cy_scope.specs.ClauseFaults.{statement_fault}
use Rattle.cy_scope.specs.Resolved.{resolved_statement}
use Rattle.cy_scope.specs.Views.{view_fault}
use Rattle.cy_trees.specs.Trees.{Statement}
use Rattle.cy_engine_lines.specs.declared.faults.Fault.{Fault}
use Rattle.cy_engine_lines.specs.declared.faults.Fault.TheVariants as fault
use Rattle.cy_engine_lines.specs.Faults.{of_lexer, of_parser, of_scope, of_view}
use Rattle.cy_engine_lines.specs.internal.Stages.{HasTree, Fails}
use Rattle.cy_engine_lines.specs.Requests.{is_semicolon, without_end}
use Rattle.cy_engine_lines.specs.Verdicts.{scope_verdict, query_verdict}

-- ---- the tokens of a command

pub end_taken : (ts : List Token) (t : Token) → is_semicolon t.kind ≡ true → without_end (ts ++ t ∷ []) ≡ ts
end_taken [] t is = rw is refl
end_taken (u ∷ []) t is = ap (λ (b : Bool). u ∷ cond b [] (t ∷ [])) is
end_taken (u ∷ v ∷ ts) t is = ap (λ (us : List Token). u ∷ us) (end_taken (v ∷ ts) t is)

pub end_left : (ts : List Token) (t : Token) → is_semicolon t.kind ≡ false → without_end (ts ++ t ∷ []) ≡ ts ++ t ∷ []
end_left [] t is = rw is refl
end_left (u ∷ []) t is = ap (λ (b : Bool). u ∷ cond b [] (t ∷ [])) is
end_left (u ∷ v ∷ ts) t is = ap (λ (us : List Token). u ∷ us) (end_left (v ∷ ts) t is)

pub semicolon_is : (k : TokenKind) → k ≡ kind.Symbol sign.Semicolon → is_semicolon k ≡ true
semicolon_is k is = ap is_semicolon is

pub semicolon_not : (k : TokenKind) → (k ≡ kind.Symbol sign.Semicolon → ⊥) → is_semicolon k ≡ false
semicolon_not (kind.Symbol sign.Semicolon) other = absurd (other refl)
semicolon_not _ other = refl

-- ---- faults of the layers

pub lexed : (why : LexFault) → ((why ≡ lex.NoMemory) × (of_lexer why ≡ fault.NoMemory)) ⊎ ((why ≢ lex.NoMemory) × (of_lexer why ≡ fault.Lex why))
lexed lex.NoMemory = inl (refl, refl)
lexed _ = inr ((λ e. cc), refl)

parsed : (why : ParseFault) → (of_parser why ≡ fault.NoMemory) ⊎ ((why ≢ parse.NoMemory) × (of_parser why ≡ fault.Parse why))
parsed parse.NoMemory = inl refl
parsed _ = inr ((λ e. cc), refl)

scoped : (why : ScopeFault) → (of_scope why ≡ fault.NoMemory) ⊎ ((why ≢ scope.NoMemory) × (of_scope why ≡ fault.Scope why))
scoped scope.NoMemory = inl refl
scoped _ = inr ((λ e. cc), refl)

viewed : (why : ViewFault) → (of_view why ≡ fault.NoMemory) ⊎ ((why ≢ view.NoMemory) × (of_view why ≡ fault.View why))
viewed view.NoMemory = inl refl
viewed _ = inr ((λ e. cc), refl)

module _ {A : Type 0} (verdict : Statement → Result A Fault) (line : List ℕ) (tokens : List Token) where
  -- the parser refuses the tokens
  pub parse_fails : (why : ParseFault) → PointsAtPlace tokens (length line) why → (tokens ≡ [] → why ≡ parse.Unexpected (length line))
      → ((tree : Statement) → SpellsStatement line tree tokens → why ≡ parse.NoMemory) → Fails verdict line tokens (of_parser why)
  parse_fails why place none unspelt = from (parsed why)
    where
      from : ((of_parser why ≡ fault.NoMemory) ⊎ ((why ≢ parse.NoMemory) × (of_parser why ≡ fault.Parse why))) → Fails verdict line tokens (of_parser why)
      from (inl is) = inl is
      from (inr (is_other, is)) = inr (inl (why, record { unspelt = λ tree spelt. is_other (unspelt tree spelt); place = place; none = none; reason = is_other }, is))

-- scope refuses the tree
pub scope_fails : (line : List ℕ) (tokens : List Token) (tree : Statement) (why : ScopeFault) → SpellsStatement line tree tokens
    → (why ≡ scope.NoMemory) ⊎ (statement_fault tree ≡ Some why) → Fails scope_verdict line tokens (of_scope why)
scope_fails line tokens tree why spelt said = from (scoped why) said
  where
    from : ((of_scope why ≡ fault.NoMemory) ⊎ ((why ≢ scope.NoMemory) × (of_scope why ≡ fault.Scope why))) → (why ≡ scope.NoMemory) ⊎ (statement_fault tree ≡ Some why) → Fails scope_verdict line tokens (of_scope why)
    from (inl is) said = inl is
    from (inr (is_other, is)) (inl wants) = absurd (is_other wants)
    from (inr (is_other, is)) (inr faulty) = inr (inr (record { tree = tree; spelt = spelt; that = rw (faulty, is) refl }))

pub scope_given : (line : List ℕ) (tokens : List Token) (tree resolved : Statement) → SpellsStatement line tree tokens → statement_fault tree ≡ None → resolved ≡ resolved_statement tree
    → HasTree line tokens (λ tree. scope_verdict tree ≡ Ok resolved)
scope_given line tokens tree resolved spelt good is = record { tree = tree; spelt = spelt; that = rw (good, is) refl }

-- ---- the query of a view

module _ (line : List ℕ) (tokens : List Token) where
  -- a statement that isn't checked
  pub query_unchecked : (why : Fault) → Fails scope_verdict line tokens why → Fails query_verdict line tokens why
  query_unchecked why (inl wants) = inl wants
  query_unchecked why (inr (inl unspelt)) = inr (inl unspelt)
  query_unchecked why (inr (inr tree)) = inr (inr (record { tree = tree.tree; spelt = tree.spelt; that = rw tree.that refl }))

  module _ (resolved : Statement) (checked : HasTree line tokens (λ tree. scope_verdict tree ≡ Ok resolved)) where
    pub view_fails : (why : ViewFault) → (why ≡ view.NoMemory) ⊎ (view_fault resolved ≡ Some why) → Fails query_verdict line tokens (of_view why)
    view_fails why said = from (viewed why) said
      where
        from : ((of_view why ≡ fault.NoMemory) ⊎ ((why ≢ view.NoMemory) × (of_view why ≡ fault.View why))) → (why ≡ view.NoMemory) ⊎ (view_fault resolved ≡ Some why) → Fails query_verdict line tokens (of_view why)
        from (inl is) said = inl is
        from (inr (is_other, is)) (inl wants) = absurd (is_other wants)
        from (inr (is_other, is)) (inr faulty) = inr (inr (record { tree = checked.tree; spelt = checked.spelt; that = rw (checked.that, faulty, is) refl }))

    pub query_given : view_fault resolved ≡ None → (query : Statement) → query ≡ resolved → HasTree line tokens (λ tree. query_verdict tree ≡ Ok query)
    query_given good query is = record { tree = checked.tree; spelt = checked.spelt; that = rw (checked.that, good, is) refl }
