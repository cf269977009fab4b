-- Patterns that are spelt are read.
use Rattle.std.proofs.Common.{◌≡◌, ℕ, zero, suc, ◌≤◌, Bool, true, false, not, ◌&&◌, List, [], ◌∷◌, ◌++◌, length, Option, Some, None, refl, sym, ap, ◌∙◌, append_assoc, append-nil, arith, nat_lt, nat_le, if◌then◌else◌}
use Rattle.std.proofs.lemmas.Bool.Decides.{nat_tests}
use Rattle.cy_values.proofs.Booleans.{untrue}
use Rattle.cy_lexer.specs.declared.tokens.Token.{Token}
use Rattle.cy_lexer.specs.declared.tokens.TokenKind.{TokenKind}
use Rattle.cy_lexer.specs.declared.tokens.TokenKind.TheVariants as kind
use Rattle.cy_lexer.specs.declared.symbols.Symbol.{Symbol}
use Rattle.cy_lexer.specs.declared.symbols.Symbol.TheVariants as sign
use Rattle.cy_trees.specs.declared.expressions.Variable.{Variable}
use Rattle.cy_trees.specs.declared.clauses.Direction.{Direction}
use Rattle.cy_trees.specs.declared.clauses.Direction.TheVariants as direction
use Rattle.cy_trees.specs.declared.clauses.Length.{Length}
use Rattle.cy_trees.specs.Trees.{Name, Expression, MapEntry, NodePattern, RelationshipPattern, Step, Path}
use Rattle.cy_parser_grammar.specs.Words.{is_word, is_name, denotes}
use Rattle.cy_lexer.specs.Numbers.{greatest_number}
use Rattle.cy_parser_grammar.specs.internal.Reader.{Reader, and_then, kind_ahead, past, is_symbol, eat_symbol, skip, refuse, ◌>>◌, ◌>>=◌, ◌<$>◌, pure}
use Rattle.cy_parser_grammar.specs.internal.Expressions.{expression}
use Rattle.cy_parser_grammar.specs.internal.Clauses as read
use Rattle.cy_parser_grammar.specs.Spells.{IsSymbol, IsNumber}
use Rattle.cy_parser_grammar.specs.SpellsClauses.{SpellsEach, last, next, most_levels, SpellsExpression, SpellsVariable, variable, SpellsVariableIfAny, no_variable, a_variable, SpellsLabelsIfAny, no_labels, labels, SpellsEntry, entry, SpellsMapIfAny, no_map, empty_map, map_of, SpellsNode, node, SpellsTypes, last_type, next_type, next_type_with_colon, SpellsTypesIfAny, no_types, types, SpellsLength, any_length, exactly, unbounded, at_least, at_most, between, SpellsLengthIfAny, no_length, a_length, SpellsArrow, arrow, no_arrow, SpellsDetails, no_details, details, SpellsRelationship, relationship, SpellsSteps, no_steps, a_step, SpellsPath, path, greatest_bound}
use Rattle.cy_parser_grammar.proofs.Takes.{after, takes, eats_symbol, leaves_symbol, expects_symbol}
use Rattle.cy_parser_grammar.proofs.Stops.{ends_whole, begins_negation}
use Rattle.cy_parser_grammar.proofs.Chains.{Reading}
use Rattle.cy_parser_grammar.proofs.Complete.{expression-complete}
use Rattle.cy_parser_grammar.proofs.LabelsComplete.{labels_shorten, labels_read}

-- what holds of a symbol holds of the token that is it
pub at_symbol : (test : Option TokenKind → Bool) (s : Symbol) (b : Bool) (t : Token) → IsSymbol s t → test (Some (kind.Symbol s)) ≡ b → test (Some t.kind) ≡ b
at_symbol test s b t is holds = ap (λ k. test (Some k)) is ∙ holds

-- trees with a comma between, each of which ends at such tokens, the comma among them
module _ {A : Type 0} (item : Reader A) (each : A → List Token → List Token → Type 0) (stops : Option TokenKind → Bool)
    (at_comma : stops (Some (kind.Symbol sign.Comma)) ≡ true)
    (shortens : (a : A) (ts rest : List Token) → each a ts rest → suc (length rest) ≤ length ts)
    (reads : (a : A) (ts rest : List Token) → each a ts rest → stops (kind_ahead rest) ≡ true → item ts ≡ Some (a, rest)) where
  pub each_shortens : (all : List A) (ts rest : List Token) → SpellsEach each all ts rest → suc (length rest) ≤ length ts
  each_shortens _ ts rest (last a _ _ s) = shortens a ts rest s
  each_shortens _ ts rest (next a more comma _ mid _ s is others) =
      let x = shortens a ts (comma ∷ mid) s in
      let y = each_shortens more mid rest others in
      omega (arith, x, y)

  separated_read_from : (k : ℕ) (found all : List A) (ts rest : List Token) → SpellsEach each all ts rest → stops (kind_ahead rest) ≡ true →
      is_symbol sign.Comma (kind_ahead rest) ≡ false → length ts ≤ k → read.separated_from item k found ts ≡ Some (found ++ all, rest)
  unfolding read.separated_from
  separated_read_from zero found all ts rest s stop no_comma few = let x = each_shortens all ts rest s in absurd (omega (arith, x, few))
  separated_read_from (suc k) found _ ts rest (last a _ _ s) stop no_comma few =
      after _ (reads a ts rest s stop) (after _ (leaves_symbol sign.Comma rest no_comma) refl)
  separated_read_from (suc k) found _ ts rest (next a more comma _ mid _ s is others) stop no_comma few =
      let x = shortens a ts (comma ∷ mid) s in
      let fewer : length mid ≤ k = omega (arith, few, x) in
      after _ (reads a ts (comma ∷ mid) s (at_symbol stops sign.Comma true comma is at_comma)) (after _ (eats_symbol sign.Comma comma mid is)
      (separated_read_from k (found ++ a ∷ []) more mid rest others stop no_comma fewer ∙ ap (λ z. Some (z, rest)) (append_assoc found (a ∷ []) more)))

  pub separated_read : (all : List A) (ts rest : List Token) → SpellsEach each all ts rest → stops (kind_ahead rest) ≡ true →
      is_symbol sign.Comma (kind_ahead rest) ≡ false → read.separated item ts ≡ Some (all, rest)
  separated_read all ts rest s stop no_comma = separated_read_from (length ts) [] all ts rest s stop no_comma (omega arith)

pub each_begins : {A : Type 0} (each : A → List Token → List Token → Type 0) (test : Option TokenKind → Bool) (b : Bool) →
    ((a : A) (ts rest : List Token) → each a ts rest → test (kind_ahead ts) ≡ b) →
    (all : List A) (ts rest : List Token) → SpellsEach each all ts rest → test (kind_ahead ts) ≡ b
each_begins each test b begins _ ts rest (last a _ _ s) = begins a ts rest s
each_begins each test b begins _ ts rest (next a more comma _ mid _ s is others) = begins a ts (comma ∷ mid) s

-- a word is no symbol
pub no_word : (s : Symbol) (k : TokenKind) → is_word k ≡ true → is_symbol s (Some k) ≡ false
no_word s (kind.Keyword w) e = refl
no_word s kind.Name e = refl
no_word s kind.QuotedName e = refl
no_word s _ e = cc

abbrev pub begins_name : Option TokenKind → Bool
begins_name None = false
begins_name (Some k) = is_name k

abbrev pub begins_number : Option TokenKind → Bool
begins_number (Some (kind.Number n)) = true
begins_number _ = false

module _ (line : List ℕ) where
  pub variable_shortens : (v : Variable) (ts rest : List Token) → SpellsVariable line v ts rest → suc (length rest) ≤ length ts
  variable_shortens _ _ rest (variable t _ is) = omega arith

  pub variable_reads : (v : Variable) (ts rest : List Token) → SpellsVariable line v ts rest → read.variable_read line ts ≡ Some (v, rest)
  variable_reads _ _ rest (variable t _ is) = after _ (takes is_name line t rest is) refl

  variable_at : (k : TokenKind) (ts : List Token) → is_name k ≡ true → read.variable_by line (Some k) ts ≡ (Some <$> read.variable_read line) ts
  variable_at kind.Name ts e = refl
  variable_at kind.QuotedName ts e = refl
  variable_at _ ts e = cc

  no_variable_at : (k : Option TokenKind) (ts : List Token) → begins_name k ≡ false → read.variable_by line k ts ≡ Some (None, ts)
  no_variable_at (Some kind.Name) ts e = cc
  no_variable_at (Some kind.QuotedName) ts e = cc
  no_variable_at _ ts e = refl

  some_variable : (v : Variable) (ts rest : List Token) → SpellsVariable line v ts rest → read.variable_by line (kind_ahead ts) ts ≡ Some (Some v, rest)
  some_variable _ _ rest (variable t _ is) = variable_at t.kind (t ∷ rest) is ∙ after _ (variable_reads _ _ _ (variable t rest is)) refl

  pub variable_if_any_shortens : (v : Option Variable) (ts rest : List Token) → SpellsVariableIfAny line v ts rest → length rest ≤ length ts
  variable_if_any_shortens _ _ rest (no_variable _) = omega arith
  variable_if_any_shortens _ ts rest (a_variable v _ _ s) = let x = variable_shortens v ts rest s in omega (arith, x)

  pub variable_if_any_reads : (v : Option Variable) (ts rest : List Token) → SpellsVariableIfAny line v ts rest →
      begins_name (kind_ahead rest) ≡ false → read.variable_if_any line ts ≡ Some (v, rest)
  unfolding read.variable_if_any
  variable_if_any_reads _ _ rest (no_variable _) stop = after _ refl (no_variable_at (kind_ahead rest) rest stop)
  variable_if_any_reads _ ts rest (a_variable v _ _ s) stop = after _ refl (some_variable v ts rest s)

  pub labels_begin : (test : Option TokenKind → Bool) (b : Bool) → test (Some (kind.Symbol sign.Colon)) ≡ b →
      (ls : List Name) (ts rest : List Token) → SpellsLabelsIfAny line ls ts rest → test (kind_ahead rest) ≡ b → test (kind_ahead ts) ≡ b
  labels_begin test b at _ _ rest (no_labels _) stop = stop
  labels_begin test b at ls _ rest (labels _ colon ts _ is s) stop = at_symbol test sign.Colon b colon is at

  labels_if_any_shortens : (ls : List Name) (ts rest : List Token) → SpellsLabelsIfAny line ls ts rest → length rest ≤ length ts
  labels_if_any_shortens _ _ rest (no_labels _) = omega arith
  labels_if_any_shortens ls _ rest (labels _ colon ts _ is s) = let x = labels_shorten line ls ts rest s in omega (arith, x)

  labels_if_any_reads : (ls : List Name) (ts rest : List Token) → SpellsLabelsIfAny line ls ts rest →
      is_symbol sign.Colon (kind_ahead rest) ≡ false → read.labels_if_any line ts ≡ Some (ls, rest)
  unfolding read.labels_if_any
  labels_if_any_reads _ _ rest (no_labels _) stop = after _ (leaves_symbol sign.Colon rest stop) refl
  labels_if_any_reads ls _ rest (labels _ colon ts _ is s) stop = after _ (eats_symbol sign.Colon colon ts is) (labels_read line ls ts rest s stop)

  types_shorten : (ns : List Name) (ts rest : List Token) → SpellsTypes line ns ts rest → suc (length rest) ≤ length ts
  types_shorten _ _ rest (last_type t _ is) = omega arith
  types_shorten _ _ rest (next_type ns t bar mid _ is is_bar s) = let x = types_shorten ns mid rest s in omega (arith, x)
  types_shorten _ _ rest (next_type_with_colon ns t bar colon mid _ is is_bar is_colon s) = let x = types_shorten ns mid rest s in omega (arith, x)

  type_begins : (s : Symbol) (ns : List Name) (ts rest : List Token) → SpellsTypes line ns ts rest → is_symbol s (kind_ahead ts) ≡ false
  type_begins s _ _ rest (last_type t _ is) = no_word s t.kind is
  type_begins s _ _ rest (next_type ns t bar mid _ is is_bar _) = no_word s t.kind is
  type_begins s _ _ rest (next_type_with_colon ns t bar colon mid _ is is_bar is_colon _) = no_word s t.kind is

  types_read_from : (k : ℕ) (found ns : List Name) (ts rest : List Token) → SpellsTypes line ns ts rest →
      is_symbol sign.Bar (kind_ahead rest) ≡ false → length ts ≤ k → read.types_from line k found ts ≡ Some (found ++ ns, rest)
  unfolding read.types_from
  types_read_from zero found ns ts rest s stop few = let x = types_shorten ns ts rest s in absurd (omega (arith, x, few))
  types_read_from (suc k) found _ _ rest (last_type t _ is) stop few =
      after _ (takes is_word line t rest is) (after _ (leaves_symbol sign.Bar rest stop) refl)
  types_read_from (suc k) found _ _ rest (next_type ns t bar mid _ is is_bar s) stop few =
      let fewer : length mid ≤ k = omega (arith, few) in
      after _ (takes is_word line t (bar ∷ mid) is) (after _ (eats_symbol sign.Bar bar mid is_bar) (after _ (leaves_symbol sign.Colon mid (type_begins sign.Colon ns mid rest s))
      (types_read_from k (found ++ denotes line t ∷ []) ns mid rest s stop fewer ∙ ap (λ z. Some (z, rest)) (append_assoc found (denotes line t ∷ []) ns))))
  types_read_from (suc k) found _ _ rest (next_type_with_colon ns t bar colon mid _ is is_bar is_colon s) stop few =
      let fewer : length mid ≤ k = omega (arith, few) in
      after _ (takes is_word line t (bar ∷ colon ∷ mid) is) (after _ (eats_symbol sign.Bar bar (colon ∷ mid) is_bar) (after _ (eats_symbol sign.Colon colon mid is_colon)
      (types_read_from k (found ++ denotes line t ∷ []) ns mid rest s stop fewer ∙ ap (λ z. Some (z, rest)) (append_assoc found (denotes line t ∷ []) ns))))

  types_begin : (test : Option TokenKind → Bool) (b : Bool) → test (Some (kind.Symbol sign.Colon)) ≡ b →
      (ns : List Name) (ts rest : List Token) → SpellsTypesIfAny line ns ts rest → test (kind_ahead rest) ≡ b → test (kind_ahead ts) ≡ b
  types_begin test b at _ _ rest (no_types _) stop = stop
  types_begin test b at ns _ rest (types _ colon ts _ is s) stop = at_symbol test sign.Colon b colon is at

  types_if_any_shorten : (ns : List Name) (ts rest : List Token) → SpellsTypesIfAny line ns ts rest → length rest ≤ length ts
  types_if_any_shorten _ _ rest (no_types _) = omega arith
  types_if_any_shorten ns _ rest (types _ colon ts _ is s) = let x = types_shorten ns ts rest s in omega (arith, x)

  types_if_any_read : (ns : List Name) (ts rest : List Token) → SpellsTypesIfAny line ns ts rest →
      is_symbol sign.Colon (kind_ahead rest) ≡ false → is_symbol sign.Bar (kind_ahead rest) ≡ false → read.types_if_any line ts ≡ Some (ns, rest)
  unfolding read.types_if_any read.types
  types_if_any_read _ _ rest (no_types _) no_colon no_bar = after _ (leaves_symbol sign.Colon rest no_colon) refl
  types_if_any_read ns _ rest (types _ colon ts _ is s) no_colon no_bar =
      after _ (eats_symbol sign.Colon colon ts is) (types_read_from (length ts) [] ns ts rest s no_bar (omega arith))

-- ---- lengths

number_taken : (n : ℕ) (t : Token) (rest : List Token) → IsNumber n t → n ≤ greatest_bound → read.number_if_any (t ∷ rest) ≡ Some (Some n, rest)
unfolding read.number_if_any and_then
number_taken n t rest is small =
    let below : nat_lt n greatest_number ≡ true = grind (arith, nat_tests) in
    ap (λ k. read.number_by (Some k) (t ∷ rest)) is ∙ ap (λ b. (if b then skip >> pure (Some n) else refuse) (t ∷ rest)) below

no_number_at : (k : Option TokenKind) (ts : List Token) → begins_number k ≡ false → read.number_by k ts ≡ Some (None, ts)
no_number_at (Some (kind.Number n)) ts e = cc
no_number_at _ ts e = refl

no_number_taken : (ts : List Token) → begins_number (kind_ahead ts) ≡ false → read.number_if_any ts ≡ Some (None, ts)
unfolding read.number_if_any
no_number_taken ts stop = after _ refl (no_number_at (kind_ahead ts) ts stop)

ranges : (least most : ℕ) (ts : List Token) → least ≤ most → most ≤ greatest_bound →
    read.ranging least (Some most) ts ≡ Some (record { least = least; most = Some most }, ts)
ranges least most ts ordered small =
    let is : (nat_le least most && nat_le most greatest_bound) ≡ true = grind (arith, nat_tests) in
    ap (λ b. (if b then pure (record { least = least; most = Some most }) else refuse) ts) is

ranges_on : (least : ℕ) (ts : List Token) → least ≤ greatest_bound → read.ranging least None ts ≡ Some (record { least = least; most = None }, ts)
ranges_on least ts small =
    let is : nat_le least greatest_bound ≡ true = grind (arith, nat_tests) in
    ap (λ b. (if b then pure (record { least = least; most = None }) else refuse) ts) is

bounds_read : (l : Length) (ts rest : List Token) → SpellsLength l ts rest → begins_number (kind_ahead rest) ≡ false →
    is_symbol sign.DotDot (kind_ahead rest) ≡ false → read.bounds ts ≡ Some (l, rest)
unfolding read.bounds
bounds_read _ _ rest (any_length _) no_number no_dots =
    after _ (no_number_taken rest no_number) (after _ (leaves_symbol sign.DotDot rest no_dots) (ranges_on 1 rest (omega arith)))
bounds_read _ _ rest (exactly n t _ is small) no_number no_dots =
    after _ (number_taken n t rest is small) (after _ (leaves_symbol sign.DotDot rest no_dots) (ranges n n rest (omega arith) small))
bounds_read _ _ rest (unbounded dots _ is) no_number no_dots =
    after _ (no_number_taken (dots ∷ rest) (at_symbol begins_number sign.DotDot false dots is refl)) (after _ (eats_symbol sign.DotDot dots rest is)
    (after _ (no_number_taken rest no_number) (ranges_on 1 rest (omega arith))))
bounds_read _ _ rest (at_least m t dots _ is is_dots small) no_number no_dots =
    after _ (number_taken m t (dots ∷ rest) is small) (after _ (eats_symbol sign.DotDot dots rest is_dots)
    (after _ (no_number_taken rest no_number) (ranges_on m rest small)))
bounds_read _ _ rest (at_most n dots t _ is_dots is ordered small) no_number no_dots =
    after _ (no_number_taken (dots ∷ t ∷ rest) (at_symbol begins_number sign.DotDot false dots is_dots refl)) (after _ (eats_symbol sign.DotDot dots (t ∷ rest) is_dots)
    (after _ (number_taken n t rest is small) (ranges 1 n rest ordered small)))
bounds_read _ _ rest (between m n t dots u _ is is_dots is_second ordered small) no_number no_dots =
    let first_small : m ≤ greatest_bound = omega (arith, ordered, small) in
    after _ (number_taken m t (dots ∷ u ∷ rest) is first_small) (after _ (eats_symbol sign.DotDot dots (u ∷ rest) is_dots)
    (after _ (number_taken n u rest is_second small) (ranges m n rest ordered small)))

bounds_shorten : (l : Length) (ts rest : List Token) → SpellsLength l ts rest → length rest ≤ length ts
bounds_shorten _ _ rest (any_length _) = omega arith
bounds_shorten _ _ rest _ = omega arith

length_begins : (test : Option TokenKind → Bool) (b : Bool) → test (Some (kind.Symbol sign.Star)) ≡ b →
    (l : Option Length) (ts rest : List Token) → SpellsLengthIfAny l ts rest → test (kind_ahead rest) ≡ b → test (kind_ahead ts) ≡ b
length_begins test b at _ _ rest (no_length _) stop = stop
length_begins test b at _ _ rest (a_length l star ts _ is s) stop = at_symbol test sign.Star b star is at

length_if_any_shortens : (l : Option Length) (ts rest : List Token) → SpellsLengthIfAny l ts rest → length rest ≤ length ts
length_if_any_shortens _ _ rest (no_length _) = omega arith
length_if_any_shortens _ _ rest (a_length l star ts _ is s) = let x = bounds_shorten l ts rest s in omega (arith, x)

length_if_any_reads : (l : Option Length) (ts rest : List Token) → SpellsLengthIfAny l ts rest → is_symbol sign.Star (kind_ahead rest) ≡ false →
    begins_number (kind_ahead rest) ≡ false → is_symbol sign.DotDot (kind_ahead rest) ≡ false → read.length_if_any ts ≡ Some (l, rest)
unfolding read.length_if_any
length_if_any_reads _ _ rest (no_length _) no_star no_number no_dots = after _ (leaves_symbol sign.Star rest no_star) refl
length_if_any_reads _ _ rest (a_length l star ts _ is s) no_star no_number no_dots =
    after _ (eats_symbol sign.Star star ts is) (after _ (bounds_read l ts rest s no_number no_dots) refl)

-- ---- arrows

arrow_begins : (test : Option TokenKind → Bool) (b : Bool) (s : Symbol) → test (Some (kind.Symbol s)) ≡ b →
    (found : Bool) (ts rest : List Token) → SpellsArrow s found ts rest → test (kind_ahead rest) ≡ b → test (kind_ahead ts) ≡ b
arrow_begins test b s at _ _ rest (arrow t _ is) stop = at_symbol test s b t is at
arrow_begins test b s at _ _ rest (no_arrow _) stop = stop

arrow_shortens : (s : Symbol) (found : Bool) (ts rest : List Token) → SpellsArrow s found ts rest → length rest ≤ length ts
arrow_shortens s _ _ rest (arrow t _ is) = omega arith
arrow_shortens s _ _ rest (no_arrow _) = omega arith

arrow_reads : (s : Symbol) (found : Bool) (ts rest : List Token) → SpellsArrow s found ts rest → is_symbol s (kind_ahead rest) ≡ false →
    eat_symbol s ts ≡ Some (found, rest)
arrow_reads s _ _ rest (arrow t _ is) stop = eats_symbol s t rest is
arrow_reads s _ _ rest (no_arrow _) stop = leaves_symbol s rest stop

-- ---- what has expressions in it
module _ (line : List ℕ) where
  pub whole_reads : (e : Expression) (ts rest : List Token) → SpellsExpression line e ts rest → Reading most_levels begins_negation ends_whole (expression line) e ts rest
  whole_reads e ts rest s = expression-complete line e ts rest s.spells

  pub expression_reads : (e : Expression) (ts rest : List Token) → SpellsExpression line e ts rest → ends_whole (kind_ahead rest) ≡ true →
      expression line ts ≡ Some (e, rest)
  expression_reads e ts rest s stop = (whole_reads e ts rest s).reads s.shallow stop

  entry_shortens : (e : MapEntry) (ts rest : List Token) → SpellsEntry line e ts rest → suc (length rest) ≤ length ts
  entry_shortens _ _ rest (entry e key colon ts _ is is_colon s) = let x = (whole_reads e ts rest s).shortens in omega (arith, x)

  entry_reads : (e : MapEntry) (ts rest : List Token) → SpellsEntry line e ts rest → ends_whole (kind_ahead rest) ≡ true → read.entry line ts ≡ Some (e, rest)
  unfolding read.entry
  entry_reads _ _ rest (entry e key colon ts _ is is_colon s) stop =
      after _ (takes is_word line key (colon ∷ ts) is) (after _ (expects_symbol sign.Colon colon ts is_colon) (after _ (expression_reads e ts rest s stop) refl))

  entry_begins : (e : MapEntry) (ts rest : List Token) → SpellsEntry line e ts rest → is_symbol sign.RightBrace (kind_ahead ts) ≡ false
  entry_begins _ _ rest (entry e key colon ts _ is is_colon s) = no_word sign.RightBrace key.kind is

  entries_shorten : (es : List MapEntry) (ts rest : List Token) → SpellsEach (SpellsEntry line) es ts rest → suc (length rest) ≤ length ts
  entries_shorten es ts rest s = each_shortens (read.entry line) (SpellsEntry line) ends_whole refl entry_shortens entry_reads es ts rest s

  entries_read : (es : List MapEntry) (ts rest : List Token) → SpellsEach (SpellsEntry line) es ts rest → ends_whole (kind_ahead rest) ≡ true →
      is_symbol sign.Comma (kind_ahead rest) ≡ false → read.entries line ts ≡ Some (es, rest)
  unfolding read.entries
  entries_read es ts rest s stop no_comma = separated_read (read.entry line) (SpellsEntry line) ends_whole refl entry_shortens entry_reads es ts rest s stop no_comma

  pub map_begins : (test : Option TokenKind → Bool) (b : Bool) → test (Some (kind.Symbol sign.LeftBrace)) ≡ b →
      (m : Option (List MapEntry)) (ts rest : List Token) → SpellsMapIfAny line m ts rest → test (kind_ahead rest) ≡ b → test (kind_ahead ts) ≡ b
  map_begins test b at _ _ rest (no_map _) stop = stop
  map_begins test b at _ _ rest (empty_map opening closing _ is is_closing) stop = at_symbol test sign.LeftBrace b opening is at
  map_begins test b at _ _ rest (map_of es opening closing ts _ is s is_closing) stop = at_symbol test sign.LeftBrace b opening is at

  map_if_any_shortens : (m : Option (List MapEntry)) (ts rest : List Token) → SpellsMapIfAny line m ts rest → length rest ≤ length ts
  map_if_any_shortens _ _ rest (no_map _) = omega arith
  map_if_any_shortens _ _ rest (empty_map opening closing _ is is_closing) = omega arith
  map_if_any_shortens _ _ rest (map_of es opening closing ts _ is s is_closing) = let x = entries_shorten es ts (closing ∷ rest) s in omega (arith, x)

  map_of_none : (closing : Token) (rest : List Token) → IsSymbol sign.RightBrace closing → read.map_read line (closing ∷ rest) ≡ Some ([], rest)
  unfolding read.map_read
  map_of_none closing rest is = after _ (eats_symbol sign.RightBrace closing rest is) refl

  map_of_some : (es : List MapEntry) (closing : Token) (ts rest : List Token) → SpellsEach (SpellsEntry line) es ts (closing ∷ rest) →
      IsSymbol sign.RightBrace closing → read.map_read line ts ≡ Some (es, rest)
  unfolding read.map_read
  map_of_some es closing ts rest s is =
      after _ (leaves_symbol sign.RightBrace ts (each_begins (SpellsEntry line) (is_symbol sign.RightBrace) false entry_begins es ts (closing ∷ rest) s))
      (after _ (entries_read es ts (closing ∷ rest) s (at_symbol ends_whole sign.RightBrace true closing is refl) (at_symbol (is_symbol sign.Comma) sign.RightBrace false closing is refl))
      (after _ (expects_symbol sign.RightBrace closing rest is) refl))

  map_if_any_reads : (m : Option (List MapEntry)) (ts rest : List Token) → SpellsMapIfAny line m ts rest →
      is_symbol sign.LeftBrace (kind_ahead rest) ≡ false → read.map_if_any line ts ≡ Some (m, rest)
  unfolding read.map_if_any
  map_if_any_reads _ _ rest (no_map _) stop = after _ (leaves_symbol sign.LeftBrace rest stop) refl
  map_if_any_reads _ _ rest (empty_map opening closing _ is is_closing) stop =
      after _ (eats_symbol sign.LeftBrace opening (closing ∷ rest) is) (after _ (map_of_none closing rest is_closing) refl)
  map_if_any_reads _ _ rest (map_of es opening closing ts _ is s is_closing) stop =
      after _ (eats_symbol sign.LeftBrace opening ts is) (after _ (map_of_some es closing ts rest s is_closing) refl)

  node_shortens : (n : NodePattern) (ts rest : List Token) → SpellsNode line n ts rest → suc (length rest) ≤ length ts
  node_shortens _ _ rest (node v ls m opening closing ts from mid _ is of_variable of_labels of_map is_closing) =
      let x = variable_if_any_shortens line v ts from of_variable in
      let y = labels_if_any_shortens line ls from mid of_labels in
      let z = map_if_any_shortens m mid (closing ∷ rest) of_map in
      omega (arith, x, y, z)

  pub node_begins : (test : Option TokenKind → Bool) (b : Bool) → test (Some (kind.Symbol sign.LeftParenthesis)) ≡ b →
      (n : NodePattern) (ts rest : List Token) → SpellsNode line n ts rest → test (kind_ahead ts) ≡ b
  node_begins test b at _ _ rest (node v ls m opening closing ts from mid _ is of_variable of_labels of_map is_closing) =
      at_symbol test sign.LeftParenthesis b opening is at

  -- a second bracket doesn't come after that of a node
  name_no_bracket : (k : TokenKind) → is_name k ≡ true → is_symbol sign.LeftParenthesis (Some k) ≡ false
  name_no_bracket kind.Name e = refl
  name_no_bracket kind.QuotedName e = refl
  name_no_bracket _ e = cc

  variable_no_bracket : (v : Option Variable) (ts rest : List Token) → SpellsVariableIfAny line v ts rest →
      is_symbol sign.LeftParenthesis (kind_ahead rest) ≡ false → is_symbol sign.LeftParenthesis (kind_ahead ts) ≡ false
  variable_no_bracket _ _ rest (no_variable _) stop = stop
  variable_no_bracket _ _ rest (a_variable _ _ _ (variable t _ is)) stop = name_no_bracket t.kind is

  pub node_second : (n : NodePattern) (ts rest : List Token) → SpellsNode line n ts rest → is_symbol sign.LeftParenthesis (kind_ahead (past ts)) ≡ false
  node_second _ _ rest (node v ls m opening closing ts from mid _ is of_variable of_labels of_map is_closing) =
      let at_map : is_symbol sign.LeftParenthesis (kind_ahead mid) ≡ false =
      map_begins (is_symbol sign.LeftParenthesis) false refl m mid (closing ∷ rest) of_map (at_symbol (is_symbol sign.LeftParenthesis) sign.RightParenthesis false closing is_closing refl) in
      let at_labels : is_symbol sign.LeftParenthesis (kind_ahead from) ≡ false = labels_begin line (is_symbol sign.LeftParenthesis) false refl ls from mid of_labels at_map in
      variable_no_bracket v ts from of_variable at_labels

  pub node_reads : (n : NodePattern) (ts rest : List Token) → SpellsNode line n ts rest → read.node line ts ≡ Some (n, rest)
  unfolding read.node
  node_reads _ _ rest (node v ls m opening closing ts from mid _ is of_variable of_labels of_map is_closing) =
      let no_colon : is_symbol sign.Colon (kind_ahead mid) ≡ false =
      map_begins (is_symbol sign.Colon) false refl m mid (closing ∷ rest) of_map (at_symbol (is_symbol sign.Colon) sign.RightParenthesis false closing is_closing refl) in
      let no_name : begins_name (kind_ahead from) ≡ false =
      labels_begin line begins_name false refl ls from mid of_labels
      (map_begins begins_name false refl m mid (closing ∷ rest) of_map (at_symbol begins_name sign.RightParenthesis false closing is_closing refl)) in
      after _ (expects_symbol sign.LeftParenthesis opening ts is)
      (after _ (variable_if_any_reads line v ts from of_variable no_name)
      (after _ (labels_if_any_reads line ls from mid of_labels no_colon)
      (after _ (map_if_any_reads m mid (closing ∷ rest) of_map (at_symbol (is_symbol sign.LeftBrace) sign.RightParenthesis false closing is_closing refl))
      (after _ (expects_symbol sign.RightParenthesis closing rest is_closing) refl))))

  -- ---- relationships

  details_shorten : (r : RelationshipPattern) (ts rest : List Token) → SpellsDetails line r ts rest → length rest ≤ length ts
  details_shorten _ _ rest (no_details towards _) = omega arith
  details_shorten _ _ rest (details v towards ns l m opening closing ts from mid beyond _ is of_variable of_types of_length of_map is_closing) =
      let x = variable_if_any_shortens line v ts from of_variable in
      let y = types_if_any_shorten line ns from mid of_types in
      let z = length_if_any_shortens l mid beyond of_length in
      let w = map_if_any_shortens m beyond (closing ∷ rest) of_map in
      omega (arith, x, y, z, w)

  -- neither a map that begins nor the bracket that closes passes the test
  abbrev IsOutside : (Option TokenKind → Bool) → Type 0
  IsOutside test = (test (Some (kind.Symbol sign.LeftBrace)) ≡ false) × (test (Some (kind.Symbol sign.RightBracket)) ≡ false)

  before_map : (test : Option TokenKind → Bool) → IsOutside test → (m : Option (List MapEntry)) (closing : Token) (ts rest : List Token) →
      SpellsMapIfAny line m ts (closing ∷ rest) → IsSymbol sign.RightBracket closing → test (kind_ahead ts) ≡ false
  before_map test out m closing ts rest of_map is = map_begins test false out.0 m ts (closing ∷ rest) of_map (at_symbol test sign.RightBracket false closing is out.1)

  body_reads : (v : Option Variable) (towards : Direction) (ns : List Name) (l : Option Length) (m : Option (List MapEntry))
      (closing : Token) (ts from mid beyond rest : List Token) →
      SpellsVariableIfAny line v ts from → SpellsTypesIfAny line ns from mid → SpellsLengthIfAny l mid beyond →
      SpellsMapIfAny line m beyond (closing ∷ rest) → IsSymbol sign.RightBracket closing →
      read.relationship_body line towards ts ≡ Some (record { variable = v; direction = towards; types = ns; length = l; properties = m }, rest)
  unfolding read.relationship_body
  body_reads v towards ns l m closing ts from mid beyond rest of_variable of_types of_length of_map is =
      let no_name : begins_name (kind_ahead from) ≡ false =
      types_begin line begins_name false refl ns from mid of_types
      (length_begins begins_name false refl l mid beyond of_length (before_map begins_name (refl, refl) m closing beyond rest of_map is)) in
      let no_colon : is_symbol sign.Colon (kind_ahead mid) ≡ false =
      length_begins (is_symbol sign.Colon) false refl l mid beyond of_length (before_map (is_symbol sign.Colon) (refl, refl) m closing beyond rest of_map is) in
      let no_bar : is_symbol sign.Bar (kind_ahead mid) ≡ false =
      length_begins (is_symbol sign.Bar) false refl l mid beyond of_length (before_map (is_symbol sign.Bar) (refl, refl) m closing beyond rest of_map is) in
      after _ (variable_if_any_reads line v ts from of_variable no_name)
      (after _ (types_if_any_read line ns from mid of_types no_colon no_bar)
      (after _ (length_if_any_reads l mid beyond of_length
      (before_map (is_symbol sign.Star) (refl, refl) m closing beyond rest of_map is)
      (before_map begins_number (refl, refl) m closing beyond rest of_map is)
      (before_map (is_symbol sign.DotDot) (refl, refl) m closing beyond rest of_map is))
      (after _ (map_if_any_reads m beyond (closing ∷ rest) of_map (at_symbol (is_symbol sign.LeftBrace) sign.RightBracket false closing is refl))
      (after _ (expects_symbol sign.RightBracket closing rest is) refl))))

  details_read : (r : RelationshipPattern) (ts rest : List Token) → SpellsDetails line r ts rest → is_symbol sign.LeftBracket (kind_ahead rest) ≡ false →
      read.relationship_if_any line ts ≡ Some (record r { direction = direction.Either }, rest)
  unfolding read.relationship_if_any
  details_read _ _ rest (no_details towards _) stop = after _ (leaves_symbol sign.LeftBracket rest stop) refl
  details_read _ _ rest (details v towards ns l m opening closing ts from mid beyond _ is of_variable of_types of_length of_map is_closing) stop =
      after _ (eats_symbol sign.LeftBracket opening ts is)
      (body_reads v direction.Either ns l m closing ts from mid beyond rest of_variable of_types of_length of_map is_closing)

  relationship_shortens : (r : RelationshipPattern) (ts rest : List Token) → SpellsRelationship line r ts rest → suc (length rest) ≤ length ts
  relationship_shortens _ ts rest (relationship r is_left is_right first second _ from mid _ of_left is_first of_details is_second of_right) =
      let x = arrow_shortens sign.Less is_left ts (first ∷ from) of_left in
      let y = details_shorten r from (second ∷ mid) of_details in
      let z = arrow_shortens sign.Greater is_right mid rest of_right in
      omega (arith, x, y, z)

  pub relationship_begins : (r : RelationshipPattern) (ts rest : List Token) → SpellsRelationship line r ts rest → read.begins_step (kind_ahead ts) ≡ true
  relationship_begins _ ts rest (relationship r is_left is_right first second _ from mid _ of_left is_first of_details is_second of_right) =
      arrow_begins read.begins_step true sign.Less refl is_left ts (first ∷ from) of_left (at_symbol read.begins_step sign.Minus true first is_first refl)

  relationship_reads : (r : RelationshipPattern) (ts rest : List Token) → SpellsRelationship line r ts rest →
      is_symbol sign.Greater (kind_ahead rest) ≡ false → read.relationship line ts ≡ Some (r, rest)
  unfolding read.relationship
  relationship_reads _ ts rest (relationship r is_left is_right first second _ from mid _ of_left is_first of_details is_second of_right) stop =
      after _ (arrow_reads sign.Less is_left ts (first ∷ from) of_left (at_symbol (is_symbol sign.Less) sign.Minus false first is_first refl))
      (after _ (expects_symbol sign.Minus first from is_first)
      (after _ (details_read r from (second ∷ mid) of_details (at_symbol (is_symbol sign.LeftBracket) sign.Minus false second is_second refl))
      (after _ (expects_symbol sign.Minus second mid is_second)
      (after _ (arrow_reads sign.Greater is_right mid rest of_right stop) refl))))

  -- ---- paths

  step_reads : (r : RelationshipPattern) (n : NodePattern) (ts from rest : List Token) → SpellsRelationship line r ts from → SpellsNode line n from rest →
      read.step line ts ≡ Some (record { relationship = r; node = n }, rest)
  unfolding read.step
  step_reads r n ts from rest of_relationship of_node =
      after _ (relationship_reads r ts from of_relationship (node_begins (is_symbol sign.Greater) false refl n from rest of_node))
      (after _ (node_reads n from rest of_node) refl)

  steps_shorten : (all : List Step) (ts rest : List Token) → SpellsSteps line all ts rest → length rest ≤ length ts
  steps_shorten _ _ rest (no_steps _) = omega arith
  steps_shorten _ ts rest (a_step r n more _ from mid _ of_relationship of_node others) =
      let x = relationship_shortens r ts from of_relationship in
      let y = node_shortens n from mid of_node in
      let z = steps_shorten more mid rest others in
      omega (arith, x, y, z)

  steps_read_from : (k : ℕ) (found all : List Step) (ts rest : List Token) → SpellsSteps line all ts rest → read.begins_step (kind_ahead rest) ≡ false →
      length ts ≤ k → read.steps_from line k found ts ≡ Some (found ++ all, rest)
  unfolding read.steps_from
  steps_read_from zero found _ _ rest (no_steps _) stop few = ap (λ z. Some (z, rest)) (sym (append-nil found))
  steps_read_from (suc k) found _ _ rest (no_steps _) stop few =
      after _ refl (ap (λ b. (if b then (read.step line >>= (λ s. read.steps_from line k (found ++ s ∷ []))) else pure found) rest) stop
      ∙ ap (λ z. Some (z, rest)) (sym (append-nil found)))
  steps_read_from zero found _ ts rest (a_step r n more _ from mid _ of_relationship of_node others) stop few =
      let x = relationship_shortens r ts from of_relationship in absurd (omega (arith, x, few))
  steps_read_from (suc k) found _ ts rest (a_step r n more _ from mid _ of_relationship of_node others) stop few =
      let x = relationship_shortens r ts from of_relationship in
      let y = node_shortens n from mid of_node in
      let fewer : length mid ≤ k = omega (arith, few, x, y) in
      after _ refl (ap (λ b. (if b then (read.step line >>= (λ s. read.steps_from line k (found ++ s ∷ []))) else pure found) ts) (relationship_begins r ts from of_relationship)
      ∙ after _ (step_reads r n ts from mid of_relationship of_node)
      (steps_read_from k (found ++ record { relationship = r; node = n } ∷ []) more mid rest others stop fewer
      ∙ ap (λ z. Some (z, rest)) (append_assoc found (record { relationship = r; node = n } ∷ []) more)))

  pub path_shortens : (p : Path) (ts rest : List Token) → SpellsPath line p ts rest → suc (length rest) ≤ length ts
  path_shortens _ ts rest (path n more _ mid _ of_node of_steps) =
      let x = node_shortens n ts mid of_node in
      let y = steps_shorten more mid rest of_steps in
      omega (arith, x, y)

  -- where a path has ended
  abbrev pub ends_path : Option TokenKind → Bool
  ends_path k = not (read.begins_step k)

  pub path_reads : (p : Path) (ts rest : List Token) → SpellsPath line p ts rest → ends_path (kind_ahead rest) ≡ true → read.path line ts ≡ Some (p, rest)
  unfolding read.path read.steps
  path_reads _ ts rest (path n more _ mid _ of_node of_steps) stop =
      after _ (node_reads n ts mid of_node) (after _ (steps_read_from (length mid) [] more mid rest of_steps (untrue _ stop) (omega arith)) refl)

  pub paths_shorten : (ps : List Path) (ts rest : List Token) → SpellsEach (SpellsPath line) ps ts rest → suc (length rest) ≤ length ts
  paths_shorten ps ts rest s = each_shortens (read.path line) (SpellsPath line) ends_path refl path_shortens path_reads ps ts rest s

  pub paths_read : (ps : List Path) (ts rest : List Token) → SpellsEach (SpellsPath line) ps ts rest → ends_path (kind_ahead rest) ≡ true →
      is_symbol sign.Comma (kind_ahead rest) ≡ false → read.paths line ts ≡ Some (ps, rest)
  unfolding read.paths
  paths_read ps ts rest s stop no_comma = separated_read (read.path line) (SpellsPath line) ends_path refl path_shortens path_reads ps ts rest s stop no_comma
