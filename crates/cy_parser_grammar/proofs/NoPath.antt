-- The tokens of an expression that is shown spell no path.
use Rattle.std.proofs.Common.{◌≡◌, ℕ, Bool, true, false, IsTrue, List, [], ◌∷◌, ◌++◌, map, Option, Some, None, refl, sym, ap, ◌∙◌, subst, append_assoc, append-nil, pos, negsuc}
use Rattle.cy_lexer.specs.declared.keywords.Keyword.TheVariants as word
use Rattle.cy_lexer.specs.declared.symbols.Symbol.TheVariants as sign
use Rattle.cy_lexer.specs.declared.tokens.TokenKind.{TokenKind}
use Rattle.cy_lexer.specs.declared.tokens.TokenKind.TheVariants as kind
use Rattle.cy_lexer.specs.declared.tokens.Token.{Token}
use Rattle.cy_lexer.specs.Words.{Word}
use Rattle.cy_lexer.specs.internal.SpacedWords.{kind_of}
use Rattle.cy_trees.specs.declared.expressions.UnaryOperator.TheVariants as one
use Rattle.cy_trees.specs.declared.expressions.BinaryOperator.{BinaryOperator}
use Rattle.cy_trees.specs.declared.expressions.BinaryOperator.TheVariants as two
use Rattle.cy_trees.specs.declared.expressions.Comparator.{Comparator}
use Rattle.cy_trees.specs.declared.expressions.Comparator.TheVariants as comparator
use Rattle.cy_trees.specs.declared.expressions.Variable.{Variable}
use Rattle.cy_trees.specs.Trees.{Name, Expression, boolean, integer, variable, property, has_labels, unary, binary, comparison, no_links, link, NodePattern, Step, Path, PathTest}
use Rattle.cy_trees.specs.Show.{Piece, space, says, mark, named, bracketed, label_pieces, binary_pieces, comparator_symbol, is_literal_or_list, owner_pieces, expression_pieces, links_pieces}
use Rattle.cy_trees.specs.internal.PieceWords.{words_of}
use Rattle.cy_parser_grammar.specs.Words.{is_name}
use Rattle.cy_parser_grammar.specs.Spells.{IsKeyword}
use Rattle.cy_parser_grammar.specs.SpellsClauses.{SpellsVariableIfAny, no_variable, a_variable, variable as variable_spelt, SpellsNode, node, SpellsSteps, no_steps, a_step, SpellsPath, path, SpellsPathTest, path_there, no_path, no_path_in_brackets, any_step, ends_part}
use Rattle.cy_parser_grammar.specs.internal.Reader.{kind_ahead, is_keyword}
use Rattle.cy_parser_grammar.specs.internal.Clauses as read
use Rattle.cy_parser_grammar.specs.internal.WellFormed.{IsWellFormed}
use Rattle.cy_parser_grammar.proofs.Takes.{leaves_one}
use Rattle.cy_parser_grammar.proofs.Follows.{at_keyword}
use Rattle.cy_parser_grammar.proofs.PatternsComplete.{at_symbol, labels_begin, map_begins, node_begins, node_reads, relationship_begins}
use Rattle.cy_parser_grammar.proofs.PathTests.{no_step_after_part}
use Rattle.cy_parser_grammar.proofs.ConditionParts.{NoPath}
use Rattle.cy_parser_grammar.proofs.Stands.{Stands, nothing_stands, word_stands}
use Rattle.cy_parser_grammar.proofs.ShownTokens.{Shown}
use Rattle.cy_parser_grammar.proofs.ShownPatterns.{shown_node}
use Rattle.cy_parser_grammar.proofs.WellSpelt.{some_every}

-- ---- how a path begins, by the kinds of its tokens

-- a node's variable ends
abbrev ends_name : TokenKind → Bool
ends_name (kind.Symbol sign.Colon) = true
ends_name (kind.Symbol sign.LeftBrace) = true
ends_name (kind.Symbol sign.RightParenthesis) = true
ends_name _ = false

abbrev after_name : List TokenKind → Bool
after_name [] = false
after_name (k ∷ ks) = ends_name k

-- after the bracket of a node
abbrev node_opens : List TokenKind → Bool
node_opens [] = false
node_opens (kind.Name ∷ ks) = after_name ks
node_opens (kind.QuotedName ∷ ks) = after_name ks
node_opens (k ∷ ks) = ends_name k

abbrev path_opens : List TokenKind → Bool
path_opens (kind.Symbol sign.LeftParenthesis ∷ ks) = node_opens ks
path_opens (kind.Keyword word.Not ∷ ks) = true
path_opens _ = false

abbrev kinds : List Token → List TokenKind
kinds ts = map (λ t. t.kind) ts

abbrev ends_name_ahead : Option TokenKind → Bool
ends_name_ahead None = false
ends_name_ahead (Some k) = ends_name k

ends_name_of : (us : List Token) → ends_name_ahead (kind_ahead us) ≡ true → after_name (kinds us) ≡ true
ends_name_of [] e = e
ends_name_of (u ∷ us) e = e

no_name_at : (k : TokenKind) (ks : List TokenKind) → ends_name k ≡ true → node_opens (k ∷ ks) ≡ true
no_name_at kind.Name ks e = absurd cc
no_name_at kind.QuotedName ks e = absurd cc
no_name_at _ ks e = e

no_name_of : (us : List Token) → ends_name_ahead (kind_ahead us) ≡ true → node_opens (kinds us) ≡ true
no_name_of [] e = e
no_name_of (u ∷ us) e = no_name_at u.kind (kinds us) e

name_at : (k : TokenKind) (us : List Token) → is_name k ≡ true → ends_name_ahead (kind_ahead us) ≡ true → node_opens (k ∷ kinds us) ≡ true
name_at kind.Name us is e = ends_name_of us e
name_at kind.QuotedName us is e = ends_name_of us e
name_at _ us is e = absurd cc

-- ---- how an expression begins that is shown

-- the kinds of the words of pieces, and those that follow
abbrev tells : List Piece → List TokenKind → List TokenKind
tells ps ks = map kind_of (words_of ps) ++ ks

abbrev is_variable : Expression → Bool
is_variable (variable v) = true
is_variable _ = false

-- a test of a variable's labels, which begins as a node does
abbrev is_labelled : Expression → Bool
is_labelled (has_labels e labels) = is_variable e
is_labelled _ = false

-- no node goes on with an expression, unless this is a variable and what follows may end its name
opened : (e : Expression) (ps : List Piece) (ks : List TokenKind) → (is_variable e ≡ true → after_name (tells ps ks) ≡ false) →
    node_opens (tells (expression_pieces e ++ ps) ks) ≡ false
opened (boolean true) ps ks h = refl
opened (boolean false) ps ks h = refl
opened (integer (pos n)) ps ks h = refl
opened (integer (negsuc n)) ps ks h = refl
opened (variable v) ps ks h = h refl
opened _ ps ks h = refl

-- an expression and pieces in brackets
inside : (e : Expression) (ps qs : List Piece) (ks : List TokenKind) → (is_variable e ≡ true → after_name (tells (ps ++ qs) ks) ≡ false) →
    node_opens (tells ((expression_pieces e ++ ps) ++ qs) ks) ≡ false
inside e ps qs ks h = ap (λ z. node_opens (tells z ks)) (append_assoc (expression_pieces e) ps qs) ∙ opened e (ps ++ qs) ks h

owned : (literal : Bool) (e : Expression) (ps qs : List Piece) (ks : List TokenKind) → (is_variable e ≡ true → after_name (tells (ps ++ qs) ks) ≡ false) →
    node_opens (tells ((owner_pieces literal (expression_pieces e) ++ ps) ++ qs) ks) ≡ false
owned true e ps qs ks h = refl
owned false e ps qs ks h = inside e ps qs ks h

operator_follows : (o : BinaryOperator) (ps qs : List Piece) (ks : List TokenKind) → after_name (tells ((space ∷ (binary_pieces o ++ ps)) ++ qs) ks) ≡ false
operator_follows two.Or ps qs ks = refl
operator_follows _ ps qs ks = refl

comparator_follows : (c : Comparator) (ps qs : List Piece) (ks : List TokenKind) → after_name (tells ((space ∷ mark (comparator_symbol c) ∷ ps) ++ qs) ks) ≡ false
comparator_follows comparator.Equal ps qs ks = refl
comparator_follows _ ps qs ks = refl

opens_none : (e : Expression) → IsWellFormed e → is_labelled e ≡ false → (ks : List TokenKind) → path_opens (tells (expression_pieces e) ks) ≡ false
opens_none (boolean true) w h ks = refl
opens_none (boolean false) w h ks = refl
opens_none (integer (pos n)) w h ks = refl
opens_none (integer (negsuc n)) w h ks = refl
opens_none (property e key) w h ks = owned (is_literal_or_list e) e (mark sign.Dot ∷ named key ∷ []) (mark sign.RightParenthesis ∷ []) ks (λ is. refl)
opens_none (has_labels e labels) w h ks = owned (is_literal_or_list e) e (label_pieces labels) (mark sign.RightParenthesis ∷ []) ks (λ is. (let no : true ≡ false = sym is ∙ h in absurd cc))
opens_none (unary one.Not e) w h ks = refl
opens_none (unary one.Plus e) w h ks = refl
opens_none (unary one.Minus e) w h ks = refl
opens_none (unary one.IsNull e) w h ks = inside e (space ∷ says word.Is ∷ space ∷ says word.Null ∷ []) (mark sign.RightParenthesis ∷ []) ks (λ is. refl)
opens_none (unary one.IsNotNull e) w h ks = inside e (space ∷ says word.Is ∷ space ∷ says word.Not ∷ space ∷ says word.Null ∷ []) (mark sign.RightParenthesis ∷ []) ks (λ is. refl)
opens_none (binary o a b) w h ks =
    inside a (space ∷ (binary_pieces o ++ space ∷ expression_pieces b)) (mark sign.RightParenthesis ∷ []) ks
    (λ is. operator_follows o (space ∷ expression_pieces b) (mark sign.RightParenthesis ∷ []) ks)
opens_none (comparison e no_links) w h ks = absurd w
opens_none (comparison e (link c x ls)) w h ks =
    inside e (links_pieces (link c x ls)) (mark sign.RightParenthesis ∷ []) ks (λ is. comparator_follows c (space ∷ (expression_pieces x ++ links_pieces ls)) (mark sign.RightParenthesis ∷ []) ks)
opens_none _ w h ks = refl

module _ (line : List ℕ) where
  -- ---- tokens

  variable_opens : (v : Option Variable) (us from : List Token) → SpellsVariableIfAny line v us from → ends_name_ahead (kind_ahead from) ≡ true → node_opens (kinds us) ≡ true
  variable_opens _ us _ (no_variable _) e = no_name_of us e
  variable_opens _ _ from (a_variable _ _ _ (variable_spelt t _ is)) e = name_at t.kind from is e

  node_begins_so : (n : NodePattern) (ts rest : List Token) → SpellsNode line n ts rest → path_opens (kinds ts) ≡ true
  node_begins_so _ _ rest (node v ls m opening closing ts from mid _ is of_variable of_labels of_map is_closing) =
      let at_map : ends_name_ahead (kind_ahead mid) ≡ true =
      map_begins line ends_name_ahead true refl m mid (closing ∷ rest) of_map (at_symbol ends_name_ahead sign.RightParenthesis true closing is_closing refl) in
      let at_labels : ends_name_ahead (kind_ahead from) ≡ true = labels_begin line ends_name_ahead true refl ls from mid of_labels at_map in
      ap (λ k. path_opens (k ∷ kinds ts)) is ∙ variable_opens v ts from of_variable at_labels

  path_begins_so : (p : Path) (ts rest : List Token) → SpellsPath line p ts rest → path_opens (kinds ts) ≡ true
  path_begins_so _ ts rest (path n more _ mid _ of_node of_steps) = node_begins_so n ts mid of_node

  test_begins_so : (t : PathTest) (ts rest : List Token) → SpellsPathTest line t ts rest → path_opens (kinds ts) ≡ true
  test_begins_so _ ts rest (path_there p _ _ s steps) = path_begins_so p ts rest s
  test_begins_so _ _ rest (no_path p negation ts _ is s steps) = ap (λ k. path_opens (k ∷ kinds ts)) is
  test_begins_so _ _ rest (no_path_in_brackets p negation opening closing ts _ is opens s steps closes) = ap (λ k. path_opens (k ∷ kinds (opening ∷ ts))) is

  -- tokens that don't begin as a path does
  pub begins_no_path : (ts : List Token) → path_opens (kinds ts) ≡ false → NoPath line ts
  begins_no_path ts other t left spelt ends =
      let begins : path_opens (kinds ts) ≡ true = test_begins_so t ts left spelt in
      let no : true ≡ false = sym begins ∙ other in
      cc

  kinds_of : (ws : List Word) (ts rest : List Token) → Stands line ws ts rest → kinds ts ≡ map kind_of ws ++ kinds rest
  kinds_of _ ts _ (nothing_stands _) = refl
  kinds_of _ _ rest (word_stands w ws t ts _ is within s) = ap (λ k. k ∷ kinds ts) is.0 ∙ ap (λ ks. kind_of w ∷ ks) (kinds_of ws ts rest s)

  -- ---- a test of a variable's labels, which reads as a node that nothing goes on from

  abbrev labelled_node : Variable → List Name → NodePattern
  labelled_node v labels = record { variable = Some v; labels = labels; properties = None }

  shown_labelled : (v : Variable) (labels : List Name) (ts rest : List Token) → IsWellFormed (has_labels (variable v) labels) →
      Shown line (expression_pieces (has_labels (variable v) labels)) ts rest → SpellsNode line (labelled_node v labels) ts rest
  shown_labelled v labels ts rest w s = shown_node line (labelled_node v labels) ts rest (w.0, some_every labels w.1, tt)
      (subst (λ z. Shown line (bracketed (named v.name ∷ z)) ts rest) (sym (append-nil (label_pieces labels))) s)

  steps_begin : (ss : List Step) (ts rest : List Token) → SpellsSteps line ss ts rest → IsTrue (any_step ss) → read.begins_step (kind_ahead ts) ≡ true
  steps_begin _ ts _ (no_steps _) steps = absurd cc
  steps_begin _ ts rest (a_step r n more _ from mid _ of_relationship of_node others) steps = relationship_begins line r ts from of_relationship

  node_alone : (n : NodePattern) (ts rest : List Token) → SpellsNode line n ts rest → IsTrue (ends_part rest) → NoPath line ts
  node_alone n ts rest s ends _ left (path_there _ _ _ (path m more _ mid _ of_node of_steps) steps) stop =
      let same : rest ≡ mid = leaves_one (read.node line ts) n m rest mid (node_reads line n ts rest s) (node_reads line m ts mid of_node) in
      let goes_on : read.begins_step (kind_ahead mid) ≡ true = steps_begin more mid left of_steps steps in
      let ended : read.begins_step (kind_ahead rest) ≡ false = no_step_after_part rest ends in
      let no : true ≡ false = sym goes_on ∙ ap (λ z. read.begins_step (kind_ahead z)) (sym same) ∙ ended in
      cc
  node_alone n _ rest s ends _ left (no_path p negation ts _ is of_path steps) stop = not_negated n negation ts rest s is
    where
      not_negated : (n : NodePattern) (negation : Token) (ts rest : List Token) → SpellsNode line n (negation ∷ ts) rest → IsKeyword word.Not negation → ⊥
      not_negated n negation ts rest s is =
          let no : is_keyword word.Not (Some negation.kind) ≡ false = node_begins line (is_keyword word.Not) false refl n (negation ∷ ts) rest s in
          let there : is_keyword word.Not (Some negation.kind) ≡ true = at_keyword (is_keyword word.Not) word.Not true negation is refl in
          let bad : true ≡ false = sym there ∙ no in
          cc
  node_alone n _ rest s ends _ left (no_path_in_brackets p negation opening closing ts _ is opens of_path steps closes) stop =
      let no : is_keyword word.Not (Some negation.kind) ≡ false = node_begins line (is_keyword word.Not) false refl n (negation ∷ opening ∷ ts) rest s in
      let there : is_keyword word.Not (Some negation.kind) ≡ true = at_keyword (is_keyword word.Not) word.Not true negation is refl in
      let bad : true ≡ false = sym there ∙ no in
      cc

  labelled_alone : (e : Expression) (ts rest : List Token) → is_labelled e ≡ true → IsWellFormed e → Shown line (expression_pieces e) ts rest → IsTrue (ends_part rest) → NoPath line ts
  labelled_alone (has_labels (variable v) labels) ts rest h w s ends = node_alone (labelled_node v labels) ts rest (shown_labelled v labels ts rest w s) ends
  labelled_alone _ ts rest h w s ends = absurd cc

  -- ---- every expression

  plain_alone : (e : Expression) (ts rest : List Token) → is_labelled e ≡ false → IsWellFormed e → Shown line (expression_pieces e) ts rest → NoPath line ts
  plain_alone e ts rest h w s = begins_no_path ts (ap path_opens (kinds_of (words_of (expression_pieces e)) ts rest s) ∙ opens_none e w h (kinds rest))

  either : (b : Bool) (e : Expression) (ts rest : List Token) → is_labelled e ≡ b → IsWellFormed e → Shown line (expression_pieces e) ts rest → IsTrue (ends_part rest) → NoPath line ts
  either true e ts rest h w s ends = labelled_alone e ts rest h w s ends
  either false e ts rest h w s ends = plain_alone e ts rest h w s

  pub expression-no_path : (e : Expression) (ts rest : List Token) → IsWellFormed e → Shown line (expression_pieces e) ts rest → IsTrue (ends_part rest) → NoPath line ts
  expression-no_path e ts rest w s ends = either (is_labelled e) e ts rest refl w s ends
