-- Where no operator goes on after a first operand, that operand is all that is read.
use Rattle.std.proofs.Common.{◌≡◌, ℕ, zero, suc, false, List, [], Option, Some, None, length, refl, ◌∙◌}
use Rattle.cy_lexer.specs.declared.tokens.Token.{Token}
use Rattle.cy_lexer.specs.declared.tokens.TokenKind.{TokenKind}
use Rattle.cy_lexer.specs.declared.tokens.TokenKind.TheVariants as kind
use Rattle.cy_lexer.specs.declared.keywords.Keyword.TheVariants as word
use Rattle.cy_lexer.specs.declared.symbols.Symbol.TheVariants as sign
use Rattle.cy_trees.specs.declared.expressions.Comparator.{Comparator}
use Rattle.cy_trees.specs.Trees.{Expression}
use Rattle.cy_parser_grammar.specs.declared.places.Nested.{Nested}
use Rattle.cy_parser_grammar.specs.Words.{comparator_of, sum_operator, product_operator}
use Rattle.cy_parser_grammar.specs.internal.Chains.{disjunction_operator, exclusion_operator, conjunction_operator}
use Rattle.cy_parser_grammar.specs.internal.Reader.{Reader, and_then, kind_ahead, at_kind, is_symbol}
use Rattle.cy_parser_grammar.specs.internal.Expressions.{begins_predicate, continues_predicate, continues_comparison, continues_whole, continues_owner, properties_from, properties, labelled, attributes, predicates_from, links_read, signed, product, sum, predicate, predicate_from, links, comparisons, negation, conjunction, exclusion, disjunction}
use Rattle.cy_parser_grammar.proofs.Chains.{chain_end}
use Rattle.cy_parser_grammar.proofs.Takes.{after, after_peek, else_branch, none_branch, leaves_symbol}

no_product : (k : Option TokenKind) → continues_predicate k ≡ false → at_kind product_operator k ≡ None
no_product (Some (kind.Symbol sign.Star)) e = cc
no_product (Some (kind.Symbol sign.Slash)) e = cc
no_product (Some (kind.Symbol sign.Percent)) e = cc
no_product _ e = refl

no_sum : (k : Option TokenKind) → continues_predicate k ≡ false → at_kind sum_operator k ≡ None
no_sum (Some (kind.Symbol sign.Plus)) e = cc
no_sum (Some (kind.Symbol sign.Minus)) e = cc
no_sum _ e = refl

no_predicate : (k : Option TokenKind) → continues_predicate k ≡ false → begins_predicate k ≡ false
no_predicate (Some (kind.Keyword word.Is)) e = e
no_predicate (Some (kind.Keyword word.In)) e = e
no_predicate (Some (kind.Keyword word.Contains)) e = e
no_predicate (Some (kind.Keyword word.Starts)) e = e
no_predicate (Some (kind.Keyword word.Ends)) e = e
no_predicate _ e = refl

no_comparator : (k : Option TokenKind) → continues_comparison k ≡ false → at_kind comparator_of k ≡ None
no_comparator (Some (kind.Symbol sign.Equal)) e = cc
no_comparator (Some (kind.Symbol sign.NotEqual)) e = cc
no_comparator (Some (kind.Symbol sign.Less)) e = cc
no_comparator (Some (kind.Symbol sign.LessOrEqual)) e = cc
no_comparator (Some (kind.Symbol sign.Greater)) e = cc
no_comparator (Some (kind.Symbol sign.GreaterOrEqual)) e = cc
no_comparator _ e = refl

no_more : (k : Option TokenKind) → continues_comparison k ≡ false → continues_predicate k ≡ false
no_more (Some (kind.Symbol sign.Equal)) e = refl
no_more (Some (kind.Symbol sign.NotEqual)) e = refl
no_more (Some (kind.Symbol sign.Less)) e = refl
no_more (Some (kind.Symbol sign.LessOrEqual)) e = refl
no_more (Some (kind.Symbol sign.Greater)) e = refl
no_more (Some (kind.Symbol sign.GreaterOrEqual)) e = refl
no_more _ e = e

no_conjunction : (k : Option TokenKind) → continues_whole k ≡ false → at_kind conjunction_operator k ≡ None
no_conjunction (Some (kind.Keyword word.And)) e = cc
no_conjunction _ e = refl

no_exclusion : (k : Option TokenKind) → continues_whole k ≡ false → at_kind exclusion_operator k ≡ None
no_exclusion (Some (kind.Keyword word.Xor)) e = cc
no_exclusion _ e = refl

no_disjunction : (k : Option TokenKind) → continues_whole k ≡ false → at_kind disjunction_operator k ≡ None
no_disjunction (Some (kind.Keyword word.Or)) e = cc
no_disjunction _ e = refl

no_dot : (k : Option TokenKind) → continues_owner k ≡ false → is_symbol sign.Dot k ≡ false
no_dot (Some (kind.Symbol sign.Dot)) e = cc
no_dot _ e = refl

no_colon : (k : Option TokenKind) → continues_owner k ≡ false → is_symbol sign.Colon k ≡ false
no_colon (Some (kind.Symbol sign.Colon)) e = cc
no_colon _ e = refl

module _ (line : List ℕ) where
  properties_end : (k : ℕ) (e : Expression) (ts : List Token) → is_symbol sign.Dot (kind_ahead ts) ≡ false → properties_from line k e ts ≡ Some (e, ts)
  unfolding properties_from
  properties_end zero e ts stop = refl
  properties_end (suc k) e ts stop = after _ (leaves_symbol sign.Dot ts stop) refl

  labels_end : (e : Expression) (ts : List Token) → is_symbol sign.Colon (kind_ahead ts) ≡ false → labelled line e ts ≡ Some (e, ts)
  unfolding labelled
  labels_end e ts stop = after _ (leaves_symbol sign.Colon ts stop) refl

  pub attributes_stop : (e : Expression) (ts : List Token) → continues_owner (kind_ahead ts) ≡ false → attributes line e ts ≡ Some (e, ts)
  unfolding attributes properties
  attributes_stop e ts stop = after _ (properties_end (length ts) e ts (no_dot _ stop)) (labels_end e ts (no_colon _ stop))

module _ (line : List ℕ) (levels : ℕ) (inner : Nested → Reader Expression) where
  pub predicates_end : (k : ℕ) (e : Expression) (ts : List Token) → begins_predicate (kind_ahead ts) ≡ false →
      predicates_from line levels inner k e ts ≡ Some (e, ts)
  unfolding predicates_from
  predicates_end zero e ts stop = refl
  predicates_end (suc k) e ts stop = after_peek _ ts ∙ else_branch _ _ _ ts stop

  pub links_end : (k : ℕ) (found : List (Comparator × Expression)) (ts : List Token) → at_kind comparator_of (kind_ahead ts) ≡ None →
      links_read line levels inner k found ts ≡ Some (found, ts)
  unfolding links_read and_then
  links_end zero found ts stop = refl
  links_end (suc k) found ts stop = none_branch _ _ (at_kind comparator_of (kind_ahead ts)) ts stop

  pub predicate_stops : (e : Expression) (ts : List Token) → continues_predicate (kind_ahead ts) ≡ false →
      predicate_from line levels inner e ts ≡ Some (e, ts)
  unfolding predicate_from
  predicate_stops e ts stop =
      let products = chain_end product_operator (signed line levels inner) (length ts) e ts (no_product _ stop) in
      let sums = chain_end sum_operator (product line levels inner) (length ts) e ts (no_sum _ stop) in
      after _ (after _ products sums) (predicates_end (length ts) e ts (no_predicate _ stop))

  -- the operand that is read first, and the predicate that it begins
  pub predicate_is : (e : Expression) (ts rest : List Token) → signed line levels inner ts ≡ Some (e, rest) →
      predicate line levels inner ts ≡ predicate_from line levels inner e rest
  unfolding predicate sum product predicate_from and_then
  predicate_is e ts rest first = rw first refl

  pub comparison_stops : (e : Expression) (ts rest : List Token) → signed line levels inner ts ≡ Some (e, rest) →
      continues_comparison (kind_ahead rest) ≡ false → comparisons line levels inner ts ≡ Some (e, rest)
  unfolding comparisons links
  comparison_stops e ts rest first stop =
      let alone = predicate_is e ts rest first ∙ predicate_stops e rest (no_more _ stop) in
      after _ alone (after _ (links_end (length rest) [] rest (no_comparator _ stop)) refl)

  pub whole_stops : (e : Expression) (ts rest : List Token) → negation line levels inner ts ≡ Some (e, rest) →
      continues_whole (kind_ahead rest) ≡ false → disjunction line levels inner ts ≡ Some (e, rest)
  unfolding disjunction exclusion conjunction
  whole_stops e ts rest first stop =
      let conjunctions = chain_end conjunction_operator (negation line levels inner) (length rest) e rest (no_conjunction _ stop) in
      let exclusions = chain_end exclusion_operator (conjunction line levels inner) (length rest) e rest (no_exclusion _ stop) in
      let disjunctions = chain_end disjunction_operator (exclusion line levels inner) (length rest) e rest (no_disjunction _ stop) in
      after _ (after _ (after _ first conjunctions) exclusions) disjunctions
