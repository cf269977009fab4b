-- The tokens of a pattern that is shown spell it.
use Rattle.std.proofs.Common.{ℕ, ◌≤◌, true, false, List, [], ◌∷◌, ◌++◌, map, Option, Some, None, sym, subst, arith}
use Rattle.cy_lexer.specs.declared.tokens.Token.{Token}
use Rattle.cy_lexer.specs.declared.symbols.Symbol.TheVariants as sign
use Rattle.cy_trees.specs.declared.expressions.Variable.{Variable}
use Rattle.cy_trees.specs.declared.clauses.Direction.{Direction}
use Rattle.cy_trees.specs.declared.clauses.Direction.TheVariants as direction
use Rattle.cy_trees.specs.declared.clauses.Length.{Length}
use Rattle.cy_trees.specs.Trees.{Name, Expression, MapEntry, NodePattern, RelationshipPattern, Step, Path}
use Rattle.cy_trees.specs.Depth.{depth}
use Rattle.cy_lexer.specs.Words as words
use Rattle.cy_trees.specs.Show.{Piece, word, space, mark, named, each_after, comma, list_pieces, label_pieces, expression_pieces, entry_pieces, map_pieces, variable_pieces, node_pieces, type_pieces, bound_pieces, length_pieces, relationship_pieces, step_pieces, path_pieces}
use Rattle.cy_parser_grammar.specs.Spells.{IsSymbol}
use Rattle.cy_parser_grammar.specs.SpellsClauses.{SpellsEach, last, next, most_levels, SpellsExpression, SpellsVariable, variable, SpellsVariableIfAny, no_variable, a_variable, SpellsLabelsIfAny, no_labels, labels, SpellsEntry, entry, SpellsMapIfAny, no_map, empty_map, map_of, SpellsNode, node, SpellsTypes, last_type, next_type, SpellsTypesIfAny, no_types, types, SpellsLength, at_least, between, SpellsLengthIfAny, no_length, a_length, arrow, no_arrow, SpellsDetails, details, SpellsRelationship, relationship, SpellsSteps, no_steps, a_step, SpellsPath, path}
use Rattle.cy_parser_grammar.specs.internal.WellFormed.{IsNamed, IsVariable, IsWhole, Every, Several, IfAny, EntryIsWellFormed, NodeIsWellFormed, LengthIsWellFormed, RelationshipIsWellFormed, StepIsWellFormed, PathIsWellFormed}
use Rattle.cy_parser_grammar.proofs.ShownTokens.{Shown, both, at_symbol, at_number, at_name, last_symbol, in_brackets}
use Rattle.cy_parser_grammar.proofs.ShownExpressions.{shown-whole, shown_labels}
use Rattle.cy_parser_grammar.proofs.Stands.{at_end}

module _ (line : List ℕ) where
  pub shown_expression : (e : Expression) (ts rest : List Token) → IsWhole e → Shown line (expression_pieces e) ts rest → SpellsExpression line e ts rest
  shown_expression e ts rest w s =
      let shallow : depth e ≤ 64 = w.1 in
      record { spells = shown-whole line e w.0 most_levels (omega (arith, shallow)) ts rest s; shallow = w.1 }

  -- parts with a comma between
  module _ {A : Type 0} (pieces : A → List Piece) (IsGood : A → Type 0) (each : A → List Token → List Token → Type 0)
      (shown_part : (a : A) (ts rest : List Token) → IsGood a → Shown line (pieces a) ts rest → each a ts rest) where
    shown_each : (a : A) (more : List A) (ts rest : List Token) → IsGood a → Every IsGood more →
        Shown line (list_pieces (map pieces (a ∷ more))) ts rest → SpellsEach each (a ∷ more) ts rest
    shown_each a [] ts rest is others s =
        let x = both line (pieces a) [] ts rest s in
        at_end line (λ us. Shown line (pieces a) ts us → SpellsEach each (a ∷ []) ts rest) x.0 rest x.2 (λ here.
        last a ts rest (shown_part a ts rest is here)) x.1
    shown_each a (b ∷ more) ts rest is others s =
        let x = both line (pieces a) (each_after comma (map pieces (b ∷ more))) ts rest s in
        at_symbol line (λ us. Shown line (pieces a) ts us → SpellsEach each (a ∷ b ∷ more) ts rest) sign.Comma (space ∷ list_pieces (map pieces (b ∷ more))) x.0 rest x.2 (λ t mid between_ after here.
        next a (b ∷ more) t ts mid rest (shown_part a ts (t ∷ mid) is here) between_ (shown_each b more mid rest others.0 others.1 after)) x.1

    pub shown_several : (all : List A) (ts rest : List Token) → Several IsGood all → Shown line (list_pieces (map pieces all)) ts rest → SpellsEach each all ts rest
    shown_several [] ts rest are s = absurd are
    shown_several (a ∷ more) ts rest are s = shown_each a more ts rest are.0 are.1 s

  -- ---- nodes

  pub shown_variable : (v : Variable) (ts rest : List Token) → IsVariable v → Shown line (named v.name ∷ []) ts rest → SpellsVariable line v ts rest
  shown_variable v ts rest w s = at_name line (λ us. SpellsVariable line v us rest) v.name [] ts rest w.0 s (λ t mid names any said after.
      at_end line (λ us. SpellsVariable line v (t ∷ us) rest) mid rest after
      (subst (λ z. SpellsVariable line (record { name = v.name; column = z }) (t ∷ rest) rest) (sym w.1)
      (subst (λ z. SpellsVariable line (record { name = z; column = None }) (t ∷ rest) rest) said (variable t rest names))))

  shown_variable_if_any : (v : Option Variable) (ts rest : List Token) → IfAny IsVariable v → Shown line (variable_pieces v) ts rest → SpellsVariableIfAny line v ts rest
  shown_variable_if_any None ts rest w s = at_end line (λ us. SpellsVariableIfAny line None us rest) ts rest s (no_variable rest)
  shown_variable_if_any (Some v) ts rest w s = a_variable v ts rest (shown_variable v ts rest w s)

  shown_labels_if_any : (ls : List Name) (ts rest : List Token) → Every IsNamed ls → Shown line (label_pieces ls) ts rest → SpellsLabelsIfAny line ls ts rest
  shown_labels_if_any [] ts rest w s = at_end line (λ us. SpellsLabelsIfAny line [] us rest) ts rest s (no_labels rest)
  shown_labels_if_any (l ∷ ls) ts rest w s =
      at_symbol line (λ us. SpellsLabelsIfAny line (l ∷ ls) us rest) sign.Colon (named l ∷ label_pieces ls) ts rest s (λ colon mid is after.
      labels (l ∷ ls) colon mid rest is (shown_labels line l ls mid rest w.0 w.1 after))

  shown_entry : (e : MapEntry) (ts rest : List Token) → EntryIsWellFormed e → Shown line (entry_pieces e) ts rest → SpellsEntry line e ts rest
  shown_entry e ts rest w s =
      at_name line (λ us. SpellsEntry line e us rest) e.key (mark sign.Colon ∷ expression_pieces e.value) ts rest w.0 s (λ t mid names any said after.
      at_symbol line (λ us. SpellsEntry line e (t ∷ us) rest) sign.Colon (expression_pieces e.value) mid rest after (λ colon from is further.
      subst (λ z. SpellsEntry line (record { key = z; value = e.value }) (t ∷ colon ∷ from) rest) said
      (entry e.value t colon from rest any is (shown_expression e.value from rest w.1 further))))

  shown_map : (m : Option (List MapEntry)) (ts rest : List Token) → IfAny (Every EntryIsWellFormed) m → Shown line (map_pieces m) ts rest → SpellsMapIfAny line m ts rest
  shown_map None ts rest w s = at_end line (λ us. SpellsMapIfAny line None us rest) ts rest s (no_map rest)
  shown_map (Some []) ts rest w s =
      at_symbol line (λ us. SpellsMapIfAny line (Some []) us rest) sign.LeftBrace (mark sign.RightBrace ∷ []) ts rest s (λ opening mid opens after.
      last_symbol line (λ us. SpellsMapIfAny line (Some []) (opening ∷ us) rest) sign.RightBrace mid rest after (λ closing closes.
      empty_map opening closing rest opens closes))
  shown_map (Some (e ∷ es)) ts rest w s =
      at_symbol line (λ us. SpellsMapIfAny line (Some (e ∷ es)) us rest) sign.LeftBrace (list_pieces (map entry_pieces (e ∷ es)) ++ mark sign.RightBrace ∷ []) ts rest s (λ opening mid opens after.
      let x = both line (list_pieces (map entry_pieces (e ∷ es))) (mark sign.RightBrace ∷ []) mid rest after in
      last_symbol line (λ us. Shown line (list_pieces (map entry_pieces (e ∷ es))) mid us → SpellsMapIfAny line (Some (e ∷ es)) (opening ∷ mid) rest) sign.RightBrace x.0 rest x.2 (λ closing closes here.
      map_of (e ∷ es) opening closing mid rest opens (shown_several entry_pieces EntryIsWellFormed (SpellsEntry line) shown_entry (e ∷ es) mid (closing ∷ rest) w here) closes) x.1)

  pub shown_node : (n : NodePattern) (ts rest : List Token) → NodeIsWellFormed n → Shown line (node_pieces n) ts rest → SpellsNode line n ts rest
  shown_node n ts rest w s =
      in_brackets line (λ us. SpellsNode line n us rest) (variable_pieces n.variable ++ (label_pieces n.labels ++ map_pieces n.properties)) ts rest s (λ opening closing inside opens closes here.
      let x = both line (variable_pieces n.variable) (label_pieces n.labels ++ map_pieces n.properties) inside (closing ∷ rest) here in
      let y = both line (label_pieces n.labels) (map_pieces n.properties) x.0 (closing ∷ rest) x.2 in
      node n.variable n.labels n.properties opening closing inside x.0 y.0 rest opens (shown_variable_if_any n.variable inside x.0 w.0 x.1)
      (shown_labels_if_any n.labels x.0 y.0 w.1 y.1) (shown_map n.properties y.0 (closing ∷ rest) w.2 y.2) closes)

  -- ---- relationships

  -- types, after the colon
  abbrev after_colon : List Name → List Piece
  after_colon [] = []
  after_colon (n ∷ ns) = named n ∷ each_after (mark sign.Bar ∷ []) (map (λ n. named n ∷ []) ns)

  shown_types : (n : Name) (ns : List Name) (ts rest : List Token) → IsNamed n → Every IsNamed ns → Shown line (after_colon (n ∷ ns)) ts rest → SpellsTypes line (n ∷ ns) ts rest
  shown_types n [] ts rest is others s = at_name line (λ us. SpellsTypes line (n ∷ []) us rest) n [] ts rest is s (λ t mid names any said after.
      at_end line (λ us. SpellsTypes line (n ∷ []) (t ∷ us) rest) mid rest after
      (subst (λ z. SpellsTypes line (z ∷ []) (t ∷ rest) rest) said (last_type t rest any)))
  shown_types n (m ∷ ms) ts rest is others s = at_name line (λ us. SpellsTypes line (n ∷ m ∷ ms) us rest) n (mark sign.Bar ∷ after_colon (m ∷ ms)) ts rest is s (λ t mid names any said after.
      at_symbol line (λ us. SpellsTypes line (n ∷ m ∷ ms) (t ∷ us) rest) sign.Bar (after_colon (m ∷ ms)) mid rest after (λ bar further goes_on last_.
      subst (λ z. SpellsTypes line (z ∷ m ∷ ms) (t ∷ bar ∷ further) rest) said
      (next_type (m ∷ ms) t bar further rest any goes_on (shown_types m ms further rest others.0 others.1 last_))))

  shown_types_if_any : (ns : List Name) (ts rest : List Token) → Every IsNamed ns → Shown line (type_pieces ns) ts rest → SpellsTypesIfAny line ns ts rest
  shown_types_if_any [] ts rest w s = at_end line (λ us. SpellsTypesIfAny line [] us rest) ts rest s (no_types rest)
  shown_types_if_any (n ∷ ns) ts rest w s =
      at_symbol line (λ us. SpellsTypesIfAny line (n ∷ ns) us rest) sign.Colon (after_colon (n ∷ ns)) ts rest s (λ colon mid is after.
      types (n ∷ ns) colon mid rest is (shown_types n ns mid rest w.0 w.1 after))

  abbrev bounds : ℕ → Option ℕ → Length
  bounds m most = record { least = m; most = most }

  shown_bounds : (m : ℕ) (most : Option ℕ) (ts rest : List Token) → LengthIsWellFormed (bounds m most) →
      Shown line (word (words.number m) ∷ mark sign.DotDot ∷ bound_pieces most) ts rest → SpellsLength (bounds m most) ts rest
  shown_bounds m None ts rest w s =
      at_number line (λ us. SpellsLength (bounds m None) us rest) m (mark sign.DotDot ∷ []) ts rest s (λ t mid counts after.
      last_symbol line (λ us. SpellsLength (bounds m None) (t ∷ us) rest) sign.DotDot mid rest after (λ dots is.
      at_least m t dots rest counts is w.0))
  shown_bounds m (Some n) ts rest w s =
      at_number line (λ us. SpellsLength (bounds m (Some n)) us rest) m (mark sign.DotDot ∷ word (words.number n) ∷ []) ts rest s (λ t mid counts after.
      at_symbol line (λ us. SpellsLength (bounds m (Some n)) (t ∷ us) rest) sign.DotDot (word (words.number n) ∷ []) mid rest after (λ dots from is further.
      at_number line (λ us. SpellsLength (bounds m (Some n)) (t ∷ dots ∷ us) rest) n [] from rest further (λ u end ends last_.
      at_end line (λ us. SpellsLength (bounds m (Some n)) (t ∷ dots ∷ u ∷ us) rest) end rest last_
      (between m n t dots u rest counts is ends w.1.0 w.1.1))))

  shown_length : (l : Option Length) (ts rest : List Token) → IfAny LengthIsWellFormed l → Shown line (length_pieces l) ts rest → SpellsLengthIfAny l ts rest
  shown_length None ts rest w s = at_end line (λ us. SpellsLengthIfAny None us rest) ts rest s (no_length rest)
  shown_length (Some l) ts rest w s =
      at_symbol line (λ us. SpellsLengthIfAny (Some l) us rest) sign.Star (word (words.number l.least) ∷ mark sign.DotDot ∷ bound_pieces l.most) ts rest s (λ star mid is after.
      a_length l star mid rest is (shown_bounds l.least l.most mid rest w after))

  -- what stands in the square brackets, and the pieces after
  abbrev bracket_pieces : RelationshipPattern → List Piece → List Piece
  bracket_pieces r ps =
      variable_pieces r.variable ++ (type_pieces r.types ++ (length_pieces r.length ++ (map_pieces r.properties ++ mark sign.RightBracket ∷ ps)))

  -- what stands from the tokens `ts` on spells the details, with a `-` after them, and up to the tokens `rest` it is the pieces
  abbrev DetailsAndMinus : RelationshipPattern → List Piece → List Token → List Token → Type 0
  DetailsAndMinus r ps ts rest =
      (second : Token) × (mid : List Token) × SpellsDetails line r ts (second ∷ mid) × IsSymbol sign.Minus second × Shown line ps mid rest

  -- from the square bracket to the `-` after it
  shown_details : (r : RelationshipPattern) (ps : List Piece) (ts rest : List Token) → RelationshipIsWellFormed r → Shown line (mark sign.LeftBracket ∷ bracket_pieces r (mark sign.Minus ∷ ps)) ts rest →
      DetailsAndMinus r ps ts rest
  shown_details r ps ts rest w s =
      at_symbol line (λ us. DetailsAndMinus r ps us rest) sign.LeftBracket (bracket_pieces r (mark sign.Minus ∷ ps)) ts rest s (λ opening from opens inside.
      let a = both line (variable_pieces r.variable) (type_pieces r.types ++ (length_pieces r.length ++ (map_pieces r.properties ++ mark sign.RightBracket ∷ mark sign.Minus ∷ ps))) from rest inside in
      let b = both line (type_pieces r.types) (length_pieces r.length ++ (map_pieces r.properties ++ mark sign.RightBracket ∷ mark sign.Minus ∷ ps)) a.0 rest a.2 in
      let c = both line (length_pieces r.length) (map_pieces r.properties ++ mark sign.RightBracket ∷ mark sign.Minus ∷ ps) b.0 rest b.2 in
      let d = both line (map_pieces r.properties) (mark sign.RightBracket ∷ mark sign.Minus ∷ ps) c.0 rest c.2 in
      at_symbol line (λ us. Shown line (map_pieces r.properties) c.0 us → DetailsAndMinus r ps (opening ∷ from) rest) sign.RightBracket (mark sign.Minus ∷ ps) d.0 rest d.2 (λ closing next_ closes after.
      at_symbol line (λ us. Shown line (map_pieces r.properties) c.0 (closing ∷ us) → DetailsAndMinus r ps (opening ∷ from) rest) sign.Minus ps next_ rest after (λ second mid is further here. (
        second,
        mid,
        details r.variable r.direction r.types r.length r.properties opening closing from a.0 b.0 c.0 (second ∷ mid) opens
            (shown_variable_if_any r.variable from a.0 w.0 a.1) (shown_types_if_any r.types a.0 b.0 w.1 b.1) (shown_length r.length b.0 c.0 w.2 c.1)
            (shown_map r.properties c.0 (closing ∷ second ∷ mid) w.3 here) closes,
        is,
        further,
      ))) d.1)

  abbrev towards : RelationshipPattern → Direction → RelationshipPattern
  towards r d = record r { direction = d }

  shown_towards : (d : Direction) (r : RelationshipPattern) (ts rest : List Token) → RelationshipIsWellFormed r →
      Shown line (relationship_pieces (towards r d)) ts rest → SpellsRelationship line (towards r d) ts rest
  shown_towards direction.Left r ts rest w s =
      at_symbol line (λ us. SpellsRelationship line (towards r direction.Left) us rest) sign.Less (mark sign.Minus ∷ mark sign.LeftBracket ∷ bracket_pieces r (mark sign.Minus ∷ [])) ts rest s (λ less mid points after.
      at_symbol line (λ us. SpellsRelationship line (towards r direction.Left) (less ∷ us) rest) sign.Minus (mark sign.LeftBracket ∷ bracket_pieces r (mark sign.Minus ∷ [])) mid rest after (λ first from is further.
      let x = shown_details r [] from rest w further in
      at_end line (λ us. SpellsDetails line r from (x.0 ∷ us) → SpellsRelationship line (towards r direction.Left) (less ∷ first ∷ from) rest) x.1 rest x.4 (λ here.
      relationship r true false first x.0 (less ∷ first ∷ from) from rest rest (arrow less (first ∷ from) points) is here x.3 (no_arrow rest)) x.2))
  shown_towards direction.Right r ts rest w s =
      at_symbol line (λ us. SpellsRelationship line (towards r direction.Right) us rest) sign.Minus (mark sign.LeftBracket ∷ bracket_pieces r (mark sign.Minus ∷ mark sign.Greater ∷ [])) ts rest s (λ first from is further.
      let x = shown_details r (mark sign.Greater ∷ []) from rest w further in
      last_symbol line (λ us. SpellsDetails line r from (x.0 ∷ us) → SpellsRelationship line (towards r direction.Right) (first ∷ from) rest) sign.Greater x.1 rest x.4 (λ greater points here.
      relationship r false true first x.0 (first ∷ from) from (greater ∷ rest) rest (no_arrow (first ∷ from)) is here x.3 (arrow greater rest points)) x.2)
  shown_towards direction.Either r ts rest w s =
      at_symbol line (λ us. SpellsRelationship line (towards r direction.Either) us rest) sign.Minus (mark sign.LeftBracket ∷ bracket_pieces r (mark sign.Minus ∷ [])) ts rest s (λ first from is further.
      let x = shown_details r [] from rest w further in
      at_end line (λ us. SpellsDetails line r from (x.0 ∷ us) → SpellsRelationship line (towards r direction.Either) (first ∷ from) rest) x.1 rest x.4 (λ here.
      relationship r false false first x.0 (first ∷ from) from rest rest (no_arrow (first ∷ from)) is here x.3 (no_arrow rest)) x.2)

  -- ---- paths

  shown_steps : (ss : List Step) (ts rest : List Token) → Every StepIsWellFormed ss → Shown line (each_after [] (map step_pieces ss)) ts rest → SpellsSteps line ss ts rest
  shown_steps [] ts rest w s = at_end line (λ us. SpellsSteps line [] us rest) ts rest s (no_steps rest)
  shown_steps (step ∷ ss) ts rest w s =
      let x = both line (step_pieces step) (each_after [] (map step_pieces ss)) ts rest s in
      let y = both line (relationship_pieces step.relationship) (node_pieces step.node) ts x.0 x.1 in
      a_step step.relationship step.node ss ts y.0 x.0 rest (shown_towards step.relationship.direction step.relationship ts y.0 w.0.0 y.1)
      (shown_node step.node y.0 x.0 w.0.1 y.2) (shown_steps ss x.0 rest w.1 x.2)

  pub shown_path : (p : Path) (ts rest : List Token) → PathIsWellFormed p → Shown line (path_pieces p) ts rest → SpellsPath line p ts rest
  shown_path p ts rest w s =
      let x = both line (node_pieces p.start) (each_after [] (map step_pieces p.steps)) ts rest s in
      path p.start p.steps ts x.0 rest (shown_node p.start ts x.0 w.0 x.1) (shown_steps p.steps x.0 rest w.1 x.2)

  pub shown_paths : (ps : List Path) (ts rest : List Token) → Several PathIsWellFormed ps → Shown line (list_pieces (map path_pieces ps)) ts rest → SpellsEach (SpellsPath line) ps ts rest
  shown_paths ps ts rest w s = shown_several path_pieces PathIsWellFormed (SpellsPath line) shown_path ps ts rest w s
