-- Paths as conditions: what is read is spelt, and what is spelt is read.
use Rattle.std.proofs.Common.{◌≡◌, ℕ, suc, ◌≤◌, Bool, true, false, not, ◌&&◌, IsTrue, List, [], ◌∷◌, length, Some, refl, sym, ap, ◌∙◌, subst, arith}
use Rattle.cy_values.proofs.Booleans.{and_false}
use Rattle.cy_lexer.specs.declared.keywords.Keyword.TheVariants as word
use Rattle.cy_lexer.specs.declared.symbols.Symbol.TheVariants as sign
use Rattle.cy_lexer.specs.declared.tokens.TokenKind.{TokenKind}
use Rattle.cy_lexer.specs.declared.tokens.TokenKind.TheVariants as kind
use Rattle.cy_lexer.specs.declared.tokens.Token.{Token}
use Rattle.cy_trees.specs.Trees.{Path, PathTest}
use Rattle.cy_parser_grammar.specs.Spells.{IsKeyword, IsSymbol}
use Rattle.cy_parser_grammar.specs.SpellsClauses.{SpellsPath, path, SpellsPathTest, path_there, no_path, no_path_in_brackets, has_step, is_after_part, ends_part}
use Rattle.cy_parser_grammar.specs.internal.Reader.{Reader, and_then, kind_ahead, past, sees_symbol, is_symbol, is_keyword}
use Rattle.cy_parser_grammar.specs.internal.Clauses as read
use Rattle.cy_parser_grammar.specs.internal.Clauses.{two_brackets, sees_two_brackets}
use Rattle.cy_parser_grammar.proofs.Gives.{Gives, bind, answer, refused, symbol_there, ate_keyword, by_test}
use Rattle.cy_parser_grammar.proofs.Takes.{after, symbol_seen, then_branch, else_branch, eats_keyword, leaves_keyword, expects_symbol}
use Rattle.cy_parser_grammar.proofs.Sound.{later}
use Rattle.cy_parser_grammar.proofs.SoundPatterns.{path-sound}
use Rattle.cy_parser_grammar.proofs.PatternsComplete.{at_symbol, node_begins, node_second, path_shortens, path_reads}

-- no relationship begins where a conjunct ends
no_step_at : (k : TokenKind) → is_after_part k ≡ true → read.begins_step (Some k) ≡ false
no_step_at (kind.Symbol sign.Less) e = cc
no_step_at (kind.Symbol sign.Minus) e = cc
no_step_at _ e = refl

pub no_step_after_part : (ts : List Token) → ends_part ts ≡ true → read.begins_step (kind_ahead ts) ≡ false
no_step_after_part [] e = refl
no_step_after_part (t ∷ ts) e = no_step_at t.kind e

-- looking at the next two tokens
bind_look : {B : Type 0} (f : Bool → Reader B) {holds : B → List Token → Type 0} (ts : List Token) →
    Gives (f (sees_two_brackets ts) ts) holds → Gives (and_then (two_brackets ts) f) holds
unfolding and_then
bind_look f ts g = g

module _ (line : List ℕ) where
  abbrev allowed : Path → PathTest
  allowed p = record { denied = false; path = p }

  abbrev denied : Path → PathTest
  denied p = record { denied = true; path = p }

  -- ---- what is read is spelt

  pub record IsStepped (p : Path) (ts rest : List Token) : Type 0 where
    pub spelt : SpellsPath line p ts rest
    pub steps : IsTrue (has_step p)

  stepped-sound : (ts : List Token) → Gives (read.stepped line ts) (λ p rest. IsStepped p ts rest)
  unfolding read.stepped
  stepped-sound ts = bind (path-sound line ts) (λ p mid s. by_test _ _ (has_step p) mid _
      (λ yes. answer _ _ _ (record { spelt = s; steps = yes }))
      (λ none. refused _))

  bracketed-sound : (negation : Token) (ts : List Token) → IsKeyword word.Not negation →
      Gives (read.bracketed_path line ts) (λ p rest. SpellsPathTest line (denied p) (negation ∷ ts) rest)
  unfolding read.bracketed_path
  bracketed-sound negation ts is =
      bind (symbol_there sign.LeftParenthesis ts) (λ _ inside x. bind (stepped-sound inside) (λ p mid s. bind (symbol_there sign.RightParenthesis mid) (λ _ rest y. answer _ _ _ (
      subst (λ z. SpellsPathTest line (denied p) (negation ∷ z) rest) (sym x.1)
      (no_path_in_brackets p negation x.0 y.0 inside rest is x.2 (subst (λ z. SpellsPath line p inside z) y.1 s.spelt) s.steps y.2)))))

  denied-sound : (negation : Token) (ts : List Token) → IsKeyword word.Not negation →
      Gives (read.denied_path line ts) (λ p rest. SpellsPathTest line (denied p) (negation ∷ ts) rest)
  unfolding read.denied_path
  denied-sound negation ts is = bind_look _ ts (by_test _ _ (sees_two_brackets ts) ts _
      (λ yes. bracketed-sound negation ts is)
      (λ none. later _ _ (λ p rest s. no_path p negation ts rest is s.spelt s.steps) (stepped-sound ts)))

  pub path_test-sound : (ts : List Token) → Gives (read.path_test line ts) (λ t rest. SpellsPathTest line t ts rest)
  unfolding read.path_test
  path_test-sound ts =
      bind (ate_keyword word.Not ts) (λ is_denied mid c. by_test _ _ is_denied mid _
      (λ yes. let x = c.there yes in bind (denied-sound x.0 mid x.2) (λ p rest s. answer _ _ _ (
      subst (λ z. SpellsPathTest line (denied p) z rest) (sym x.1) s)))
      (λ none. bind (stepped-sound mid) (λ p rest s. answer _ _ _ (
      subst (λ z. SpellsPathTest line (allowed p) z rest) (c.absent none) (path_there p mid rest s.spelt s.steps)))))

  -- ---- what is spelt is read

  pub path_test_shortens : (t : PathTest) (ts rest : List Token) → SpellsPathTest line t ts rest → suc (length rest) ≤ length ts
  path_test_shortens _ ts rest (path_there p _ _ s steps) = path_shortens line p ts rest s
  path_test_shortens _ _ rest (no_path p negation ts _ is s steps) = let x = path_shortens line p ts rest s in omega (arith, x)
  path_test_shortens _ _ rest (no_path_in_brackets p negation opening closing ts _ is opens s steps closes) =
      let x = path_shortens line p ts (closing ∷ rest) s in omega (arith, x)

  path_begins : (p : Path) (ts rest : List Token) → SpellsPath line p ts rest → is_keyword word.Not (kind_ahead ts) ≡ false
  path_begins _ ts rest (path n more _ mid _ of_node of_steps) = node_begins line (is_keyword word.Not) false refl n ts mid of_node

  path_second : (p : Path) (ts rest : List Token) → SpellsPath line p ts rest → is_symbol sign.LeftParenthesis (kind_ahead (past ts)) ≡ false
  path_second _ ts rest (path n more _ mid _ of_node of_steps) = node_second line n ts mid of_node

  one_bracket : (ts : List Token) → is_symbol sign.LeftParenthesis (kind_ahead (past ts)) ≡ false → sees_two_brackets ts ≡ false
  unfolding sees_two_brackets sees_symbol
  one_bracket ts e = ap (λ b. is_symbol sign.LeftParenthesis (kind_ahead ts) && b) e ∙ and_false (is_symbol sign.LeftParenthesis (kind_ahead ts))

  path_opens : (p : Path) (ts rest : List Token) → SpellsPath line p ts rest → sees_symbol sign.LeftParenthesis ts ≡ true
  unfolding sees_symbol
  path_opens _ ts rest (path n more _ mid _ of_node of_steps) = node_begins line (is_symbol sign.LeftParenthesis) true refl n ts mid of_node

  two_ahead : (p : Path) (opening : Token) (ts rest : List Token) → IsSymbol sign.LeftParenthesis opening → SpellsPath line p ts rest → sees_two_brackets (opening ∷ ts) ≡ true
  unfolding sees_two_brackets
  two_ahead p opening ts rest is s =
      ap (λ b. b && sees_symbol sign.LeftParenthesis ts) (symbol_seen sign.LeftParenthesis opening ts is) ∙ path_opens p ts rest s

  stepped_reads : (p : Path) (ts rest : List Token) → SpellsPath line p ts rest → IsTrue (has_step p) → read.begins_step (kind_ahead rest) ≡ false →
      read.stepped line ts ≡ Some (p, rest)
  unfolding read.stepped
  stepped_reads p ts rest s steps stop = after _ (path_reads line p ts rest s (ap (λ b. not b) stop)) (then_branch _ _ (has_step p) rest steps)

  bracketed_reads : (p : Path) (opening closing : Token) (ts rest : List Token) → IsSymbol sign.LeftParenthesis opening → SpellsPath line p ts (closing ∷ rest) →
      IsTrue (has_step p) → IsSymbol sign.RightParenthesis closing → read.bracketed_path line (opening ∷ ts) ≡ Some (p, rest)
  unfolding read.bracketed_path
  bracketed_reads p opening closing ts rest opens s steps closes =
      after _ (expects_symbol sign.LeftParenthesis opening ts opens)
      (after _ (stepped_reads p ts (closing ∷ rest) s steps (at_symbol read.begins_step sign.RightParenthesis false closing closes refl))
      (after _ (expects_symbol sign.RightParenthesis closing rest closes) refl))

  denied_reads : (p : Path) (ts rest : List Token) → SpellsPath line p ts rest → IsTrue (has_step p) → read.begins_step (kind_ahead rest) ≡ false →
      read.denied_path line ts ≡ Some (p, rest)
  unfolding read.denied_path
  denied_reads p ts rest s steps stop =
      after _ refl (else_branch _ _ (sees_two_brackets ts) ts (one_bracket ts (path_second p ts rest s)) ∙ stepped_reads p ts rest s steps stop)

  denied_bracket_reads : (p : Path) (opening closing : Token) (ts rest : List Token) → IsSymbol sign.LeftParenthesis opening → SpellsPath line p ts (closing ∷ rest) →
      IsTrue (has_step p) → IsSymbol sign.RightParenthesis closing → read.denied_path line (opening ∷ ts) ≡ Some (p, rest)
  unfolding read.denied_path
  denied_bracket_reads p opening closing ts rest opens s steps closes =
      after _ refl (then_branch _ _ (sees_two_brackets (opening ∷ ts)) (opening ∷ ts) (two_ahead p opening ts (closing ∷ rest) opens s)
      ∙ bracketed_reads p opening closing ts rest opens s steps closes)

  pub path_test_reads : (t : PathTest) (ts rest : List Token) → SpellsPathTest line t ts rest → IsTrue (ends_part rest) → read.path_test line ts ≡ Some (t, rest)
  unfolding read.path_test
  path_test_reads _ ts rest (path_there p _ _ s steps) stop =
      after _ (leaves_keyword word.Not ts (path_begins p ts rest s)) (after _ (stepped_reads p ts rest s steps (no_step_after_part rest stop)) refl)
  path_test_reads _ _ rest (no_path p negation ts _ is s steps) stop =
      after _ (eats_keyword word.Not negation ts is) (after _ (denied_reads p ts rest s steps (no_step_after_part rest stop)) refl)
  path_test_reads _ _ rest (no_path_in_brackets p negation opening closing ts _ is opens s steps closes) stop =
      after _ (eats_keyword word.Not negation (opening ∷ ts) is) (after _ (denied_bracket_reads p opening closing ts rest opens s steps closes) refl)
