-- The tokens of a clause that is shown spell it, with each column after AS.
use Rattle.std.proofs.Common.{ℕ, true, false, IsTrue, List, [], ◌∷◌, ◌++◌, map, subst}
use Rattle.cy_lexer.specs.declared.tokens.Token.{Token}
use Rattle.cy_lexer.specs.declared.keywords.Keyword.TheVariants as keyword
use Rattle.cy_lexer.specs.declared.symbols.Symbol.TheVariants as sign
use Rattle.cy_trees.specs.declared.expressions.Variable.{Variable}
use Rattle.cy_trees.specs.Trees.{Name, SetItem, set_property, set_labels, RemoveItem, remove_property, remove_labels, Clause, «match», unwind, «with», «return», create, set, remove, delete}
use Rattle.cy_trees.specs.Show.{space, says, mark, named, list_pieces, label_pieces, expression_pieces, paths_pieces, filter_pieces, projection_pieces, set_item_pieces, remove_item_pieces, clause_pieces}
use Rattle.cy_parser_grammar.specs.Spells.{SpellsLabels, IsSymbol}
use Rattle.cy_parser_grammar.specs.Shown.{named_clause}
use Rattle.cy_parser_grammar.specs.SpellsClauses.{SpellsEach, SpellsVariable, SpellsSetItem, set_property_to, set_labels_to, SpellsRemoveItem, remove_property_of, remove_labels_of, SpellsClause, match_, optional_match, unwind_as, with_, return_, create_, set_, remove_, delete_, detach_delete, ends_where}
use Rattle.cy_parser_grammar.specs.internal.WellFormed.{IsNamed, IsVariable, Several, SetItemIsWellFormed, RemoveItemIsWellFormed, ClauseIsWellFormed}
use Rattle.cy_parser_grammar.proofs.ShownTokens.{Shown, both, at_symbol, at_keyword, at_name}
use Rattle.cy_parser_grammar.proofs.ShownExpressions.{shown_labels}
use Rattle.cy_parser_grammar.proofs.ShownPatterns.{shown_expression, shown_several, shown_variable, shown_paths}
use Rattle.cy_parser_grammar.proofs.ShownProjections.{shown_projection}
use Rattle.cy_parser_grammar.proofs.ShownConditions.{shown_where}
use Rattle.cy_parser_grammar.proofs.Stands.{at_end}

module _ (line : List ℕ) where
  -- ---- updates

  -- what stands from the tokens `ts` up to the tokens `rest` spells the variable with the labels after it
  abbrev Labelled : Variable → List Name → List Token → List Token → Type 0
  Labelled v labels ts rest =
      (colon : Token) × (mid : List Token) × SpellsVariable line v ts (colon ∷ mid) × IsSymbol sign.Colon colon × SpellsLabels line labels mid rest

  shown_labelled : (v : Variable) (labels : List Name) (ts rest : List Token) → IsVariable v → Several IsNamed labels → Shown line (named v.name ∷ label_pieces labels) ts rest →
      Labelled v labels ts rest
  shown_labelled v [] ts rest w are s = absurd are
  shown_labelled v (l ∷ ls) ts rest w are s =
      let x = both line (named v.name ∷ []) (label_pieces (l ∷ ls)) ts rest s in
      at_symbol line (λ us. Shown line (named v.name ∷ []) ts us → Labelled v (l ∷ ls) ts rest) sign.Colon (named l ∷ label_pieces ls) x.0 rest x.2 (λ colon mid is after here.
      (colon, mid, shown_variable line v ts (colon ∷ mid) w here, is, shown_labels line l ls mid rest are.0 are.1 after)) x.1

  shown_set_item : (i : SetItem) (ts rest : List Token) → SetItemIsWellFormed i → Shown line (set_item_pieces i) ts rest → SpellsSetItem line i ts rest
  shown_set_item (set_property v key e) ts rest w s =
      let x = both line (named v.name ∷ []) (mark sign.Dot ∷ named key ∷ space ∷ mark sign.Equal ∷ space ∷ expression_pieces e) ts rest s in
      at_symbol line (λ us. Shown line (named v.name ∷ []) ts us → SpellsSetItem line (set_property v key e) ts rest) sign.Dot (named key ∷ space ∷ mark sign.Equal ∷ space ∷ expression_pieces e) x.0 rest x.2 (λ dot mid dots after.
      at_name line (λ us. Shown line (named v.name ∷ []) ts (dot ∷ us) → SpellsSetItem line (set_property v key e) ts rest) key (space ∷ mark sign.Equal ∷ space ∷ expression_pieces e) mid rest w.1 after (λ t from names any said further.
      at_symbol line (λ us. Shown line (named v.name ∷ []) ts (dot ∷ t ∷ us) → SpellsSetItem line (set_property v key e) ts rest) sign.Equal (space ∷ expression_pieces e) from rest further (λ equal value equals last_ here.
      subst (λ z. SpellsSetItem line (set_property v z e) ts rest) said
      (set_property_to v e dot t equal ts value rest (shown_variable line v ts (dot ∷ t ∷ equal ∷ value) w.0 here) dots any equals
      (shown_expression line e value rest w.2 last_))))) x.1
  shown_set_item (set_labels v labels) ts rest w s =
      let x = shown_labelled v labels ts rest w.0 w.1 s in
      set_labels_to v labels x.0 ts x.1 rest x.2 x.3 x.4

  shown_remove_item : (i : RemoveItem) (ts rest : List Token) → RemoveItemIsWellFormed i → Shown line (remove_item_pieces i) ts rest → SpellsRemoveItem line i ts rest
  shown_remove_item (remove_property v key) ts rest w s =
      let x = both line (named v.name ∷ []) (mark sign.Dot ∷ named key ∷ []) ts rest s in
      at_symbol line (λ us. Shown line (named v.name ∷ []) ts us → SpellsRemoveItem line (remove_property v key) ts rest) sign.Dot (named key ∷ []) x.0 rest x.2 (λ dot mid dots after.
      at_name line (λ us. Shown line (named v.name ∷ []) ts (dot ∷ us) → SpellsRemoveItem line (remove_property v key) ts rest) key [] mid rest w.1 after (λ t from names any said last_.
      at_end line (λ us. Shown line (named v.name ∷ []) ts (dot ∷ t ∷ us) → SpellsRemoveItem line (remove_property v key) ts rest) from rest last_ (λ here.
      subst (λ z. SpellsRemoveItem line (remove_property v z) ts rest) said
      (remove_property_of v dot t ts rest (shown_variable line v ts (dot ∷ t ∷ rest) w.0 here) dots any)))) x.1
  shown_remove_item (remove_labels v labels) ts rest w s =
      let x = shown_labelled v labels ts rest w.0 w.1 s in
      remove_labels_of v labels x.0 ts x.1 rest x.2 x.3 x.4

  shown_variables : (vs : List Variable) (ts rest : List Token) → Several IsVariable vs → Shown line (list_pieces (map (λ v. named v.name ∷ []) vs)) ts rest →
      SpellsEach (SpellsVariable line) vs ts rest
  shown_variables vs ts rest w s = shown_several line (λ v. named v.name ∷ []) IsVariable (SpellsVariable line) (shown_variable line) vs ts rest w s

  -- ---- clauses

  pub shown_clause : (c : Clause) (ts rest : List Token) → ClauseIsWellFormed c → IsTrue (ends_where rest) → Shown line (clause_pieces c) ts rest → SpellsClause line (named_clause c) ts rest
  shown_clause («match» false paths f) ts rest w ends s =
      at_keyword line (λ us. SpellsClause line («match» false paths f) us rest) keyword.Match (space ∷ (paths_pieces paths ++ filter_pieces f)) ts rest s (λ t from is after.
      let x = both line (paths_pieces paths) (filter_pieces f) from rest after in
      match_ paths f t from x.0 rest is (shown_paths line paths from x.0 w.0 x.1) (shown_where line f x.0 rest w.1 ends x.2))
  shown_clause («match» true paths f) ts rest w ends s =
      at_keyword line (λ us. SpellsClause line («match» true paths f) us rest) keyword.Optional (space ∷ says keyword.Match ∷ space ∷ (paths_pieces paths ++ filter_pieces f)) ts rest s (λ optional mid may further.
      at_keyword line (λ us. SpellsClause line («match» true paths f) (optional ∷ us) rest) keyword.Match (space ∷ (paths_pieces paths ++ filter_pieces f)) mid rest further (λ t from is after.
      let x = both line (paths_pieces paths) (filter_pieces f) from rest after in
      optional_match paths f optional t from x.0 rest may is (shown_paths line paths from x.0 w.0 x.1) (shown_where line f x.0 rest w.1 ends x.2)))
  shown_clause (unwind e v) ts rest w ends s =
      at_keyword line (λ us. SpellsClause line (unwind e v) us rest) keyword.Unwind (space ∷ (expression_pieces e ++ space ∷ says keyword.As ∷ space ∷ named v.name ∷ [])) ts rest s (λ t from is after.
      let x = both line (expression_pieces e) (space ∷ says keyword.As ∷ space ∷ named v.name ∷ []) from rest after in
      at_keyword line (λ us. Shown line (expression_pieces e) from us → SpellsClause line (unwind e v) (t ∷ from) rest) keyword.As (space ∷ named v.name ∷ []) x.0 rest x.2 (λ as_ mid names last_ here.
      unwind_as e v t as_ from mid rest is (shown_expression line e from (as_ ∷ mid) w.0 here) names (shown_variable line v mid rest w.1 last_)) x.1)
  shown_clause («with» p f) ts rest w ends s =
      at_keyword line (λ us. SpellsClause line (named_clause («with» p f)) us rest) keyword.With (space ∷ (projection_pieces p ++ filter_pieces f)) ts rest s (λ t from is after.
      let x = both line (projection_pieces p) (filter_pieces f) from rest after in
      with_ _ f t from x.0 rest is (shown_projection line p from x.0 w.0 x.1) (shown_where line f x.0 rest w.1 ends x.2))
  shown_clause («return» p) ts rest w ends s =
      at_keyword line (λ us. SpellsClause line (named_clause («return» p)) us rest) keyword.Return (space ∷ projection_pieces p) ts rest s (λ t from is after.
      return_ _ t from rest is (shown_projection line p from rest w after))
  shown_clause (create paths) ts rest w ends s =
      at_keyword line (λ us. SpellsClause line (create paths) us rest) keyword.Create (space ∷ paths_pieces paths) ts rest s (λ t from is after.
      create_ paths t from rest is (shown_paths line paths from rest w after))
  shown_clause (set is) ts rest w ends s =
      at_keyword line (λ us. SpellsClause line (set is) us rest) keyword.Set (space ∷ list_pieces (map set_item_pieces is)) ts rest s (λ t from says_ after.
      set_ is t from rest says_ (shown_several line set_item_pieces SetItemIsWellFormed (SpellsSetItem line) shown_set_item is from rest w after))
  shown_clause (remove is) ts rest w ends s =
      at_keyword line (λ us. SpellsClause line (remove is) us rest) keyword.Remove (space ∷ list_pieces (map remove_item_pieces is)) ts rest s (λ t from says_ after.
      remove_ is t from rest says_ (shown_several line remove_item_pieces RemoveItemIsWellFormed (SpellsRemoveItem line) shown_remove_item is from rest w after))
  shown_clause (delete false vs) ts rest w ends s =
      at_keyword line (λ us. SpellsClause line (delete false vs) us rest) keyword.Delete (space ∷ list_pieces (map (λ v. named v.name ∷ []) vs)) ts rest s (λ t from is after.
      delete_ vs t from rest is (shown_variables vs from rest w after))
  shown_clause (delete true vs) ts rest w ends s =
      at_keyword line (λ us. SpellsClause line (delete true vs) us rest) keyword.Detach (space ∷ says keyword.Delete ∷ space ∷ list_pieces (map (λ v. named v.name ∷ []) vs)) ts rest s (λ detach mid lets further.
      at_keyword line (λ us. SpellsClause line (delete true vs) (detach ∷ us) rest) keyword.Delete (space ∷ list_pieces (map (λ v. named v.name ∷ []) vs)) mid rest further (λ t from is after.
      detach_delete vs detach t from rest lets is (shown_variables vs from rest w after)))
