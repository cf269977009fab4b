-- What may stand after the parts of a clause, by the next token's kind: each part may be left out, up to the next clause.
use Rattle.std.proofs.Common.{◌≡◌, Bool, true, false, List, Option, Some, None, refl, ap, ◌∙◌}
use Rattle.cy_lexer.specs.declared.tokens.Token.{Token}
use Rattle.cy_lexer.specs.declared.tokens.TokenKind.{TokenKind}
use Rattle.cy_lexer.specs.declared.tokens.TokenKind.TheVariants as kind
use Rattle.cy_lexer.specs.declared.keywords.Keyword.{Keyword}
use Rattle.cy_lexer.specs.declared.keywords.Keyword.TheVariants as word
use Rattle.cy_lexer.specs.declared.symbols.Symbol.TheVariants as sign
use Rattle.cy_parser_grammar.specs.declared.phases.Opening.{Opening}
use Rattle.cy_parser_grammar.specs.internal.Reader.{at_kind, is_symbol, is_keyword}
use Rattle.cy_parser_grammar.specs.internal.Clauses.{opening_of, begins_step, descends}
use Rattle.cy_parser_grammar.specs.Spells.{IsKeyword}
use Rattle.cy_parser_grammar.specs.SpellsClauses.{is_after_where}
use Rattle.cy_parser_grammar.proofs.Stops.{ends_whole, not_symbol, not_keyword}

-- what holds of a keyword holds of the token that is it
pub at_keyword : (test : Option TokenKind → Bool) (w : Keyword) (b : Bool) (t : Token) → IsKeyword w t → test (Some (kind.Keyword w)) ≡ b → test (Some t.kind) ≡ b
at_keyword test w b t is holds = ap (λ k. test (Some k)) is ∙ holds

-- the token before which a clause, a projection, its SKIP, its ORDER BY, its items and one of its items have ended
abbrev pub ends_clause : Option TokenKind → Bool
ends_clause None = true
ends_clause (Some k) = is_after_where k

abbrev pub ends_projection : Option TokenKind → Bool
ends_projection (Some (kind.Keyword word.Where)) = true
ends_projection k = ends_clause k

abbrev pub ends_skip : Option TokenKind → Bool
ends_skip (Some (kind.Keyword word.Limit)) = true
ends_skip k = ends_projection k

abbrev pub ends_order : Option TokenKind → Bool
ends_order (Some (kind.Keyword word.Skip)) = true
ends_order k = ends_skip k

abbrev pub ends_items : Option TokenKind → Bool
ends_items (Some (kind.Keyword word.Order)) = true
ends_items k = ends_order k

abbrev pub ends_item : Option TokenKind → Bool
ends_item (Some (kind.Symbol sign.Comma)) = true
ends_item k = ends_items k

-- each of them holds wherever the one before does
pub projection_ends : (k : Option TokenKind) → ends_clause k ≡ true → ends_projection k ≡ true
projection_ends (Some (kind.Keyword word.Where)) e = refl
projection_ends _ e = e

pub skip_ends : (k : Option TokenKind) → ends_projection k ≡ true → ends_skip k ≡ true
skip_ends (Some (kind.Keyword word.Limit)) e = refl
skip_ends _ e = e

pub order_ends : (k : Option TokenKind) → ends_skip k ≡ true → ends_order k ≡ true
order_ends (Some (kind.Keyword word.Skip)) e = refl
order_ends _ e = e

pub items_end : (k : Option TokenKind) → ends_order k ≡ true → ends_items k ≡ true
items_end (Some (kind.Keyword word.Order)) e = refl
items_end _ e = e

pub item_ends : (k : Option TokenKind) → ends_items k ≡ true → ends_item k ≡ true
item_ends (Some (kind.Symbol sign.Comma)) e = refl
item_ends _ e = e

pub clause_ends_item : (k : Option TokenKind) → ends_clause k ≡ true → ends_item k ≡ true
clause_ends_item k e = item_ends k (items_end k (order_ends k (skip_ends k (projection_ends k e))))

-- what doesn't come after them
pub no_filter_after : (k : Option TokenKind) → ends_clause k ≡ true → is_keyword word.Where k ≡ false
no_filter_after = not_keyword ends_clause word.Where refl

pub no_limit_after : (k : Option TokenKind) → ends_projection k ≡ true → is_keyword word.Limit k ≡ false
no_limit_after = not_keyword ends_projection word.Limit refl

pub no_skip_after : (k : Option TokenKind) → ends_skip k ≡ true → is_keyword word.Skip k ≡ false
no_skip_after = not_keyword ends_skip word.Skip refl

pub no_order_after : (k : Option TokenKind) → ends_order k ≡ true → is_keyword word.Order k ≡ false
no_order_after = not_keyword ends_order word.Order refl

pub no_comma_after : (k : Option TokenKind) → ends_items k ≡ true → is_symbol sign.Comma k ≡ false
no_comma_after = not_symbol ends_items sign.Comma refl

pub no_column_after : (k : Option TokenKind) → ends_item k ≡ true → is_keyword word.As k ≡ false
no_column_after = not_keyword ends_item word.As refl

pub no_colon_after : (k : Option TokenKind) → ends_item k ≡ true → is_symbol sign.Colon k ≡ false
no_colon_after = not_symbol ends_item sign.Colon refl

pub no_step_after : (k : Option TokenKind) → ends_item k ≡ true → begins_step k ≡ false
no_step_after (Some (kind.Symbol sign.Less)) e = cc
no_step_after (Some (kind.Symbol sign.Minus)) e = cc
no_step_after _ e = refl

pub no_direction_after : (k : Option TokenKind) (ts : List Token) → ends_item k ≡ true → descends k ts ≡ Some (false, ts)
no_direction_after (Some (kind.Keyword word.Asc)) ts e = cc
no_direction_after (Some (kind.Keyword word.Ascending)) ts e = cc
no_direction_after (Some (kind.Keyword word.Desc)) ts e = cc
no_direction_after (Some (kind.Keyword word.Descending)) ts e = cc
no_direction_after _ ts e = refl

-- an expression ends where an item does
pub whole_ends : (k : Option TokenKind) → ends_item k ≡ true → ends_whole k ≡ true
whole_ends (Some (kind.Symbol sign.Comma)) e = refl
whole_ends (Some (kind.Keyword word.Order)) e = refl
whole_ends _ e = cc

-- a clause ends where another begins
pub opening_ends : (k : Option TokenKind) (o : Opening) → at_kind opening_of k ≡ Some o → ends_clause k ≡ true
opening_ends (Some (kind.Keyword word.Match)) o e = refl
opening_ends _ o e = cc
