-- The tokens of a projection that is shown spell it, with each column after AS.
use Rattle.std.proofs.Common.{ℕ, inl, Bool, true, false, List, [], ◌∷◌, ◌++◌, map, Option, Some, None, subst}
use Rattle.cy_lexer.specs.declared.tokens.Token.{Token}
use Rattle.cy_lexer.specs.declared.keywords.Keyword.{Keyword}
use Rattle.cy_lexer.specs.declared.keywords.Keyword.TheVariants as keyword
use Rattle.cy_lexer.specs.Words as words
use Rattle.cy_trees.specs.Trees.{Expression, Item, Key, Projection}
use Rattle.cy_trees.specs.Show.{word, space, says, named, list_pieces, expression_pieces, distinct_pieces, item_pieces, descending_pieces, key_pieces, order_pieces, count_pieces, projection_pieces}
use Rattle.cy_parser_grammar.specs.Shown.{named_item, named_projection}
use Rattle.cy_parser_grammar.specs.SpellsClauses.{SpellsEach, last, next, SpellsItem, item_as, SpellsKey, plain_key, desc, SpellsOrderIfAny, no_order, order_by, SpellsCountIfAny, no_count, a_count, SpellsDistinct, not_distinct, distinct, SpellsProjection, projection}
use Rattle.cy_parser_grammar.specs.internal.WellFormed.{IsWhole, Every, Several, IfAny, ItemIsWellFormed, KeyIsWellFormed, CountIsWellFormed, ProjectionIsWellFormed}
use Rattle.cy_parser_grammar.proofs.ShownTokens.{Shown, both, at_keyword, at_number, at_name, last_keyword}
use Rattle.cy_parser_grammar.proofs.ShownPatterns.{shown_expression, shown_several}
use Rattle.cy_parser_grammar.proofs.Stands.{at_end}

-- trees that others are made of
spelt_of : {A B : Type 0} (f : A → B) (each : B → List Token → List Token → Type 0) (all : List A) (ts rest : List Token) →
    SpellsEach (λ a. each (f a)) all ts rest → SpellsEach each (map f all) ts rest
spelt_of f each _ ts rest (last a _ _ s) = last (f a) ts rest s
spelt_of f each _ ts rest (next a more t _ mid _ s is others) = next (f a) (map f more) t ts mid rest s is (spelt_of f each more mid rest others)

module _ (line : List ℕ) where
  shown_item : (i : Item) (ts rest : List Token) → ItemIsWellFormed i → Shown line (item_pieces i) ts rest → SpellsItem line (named_item i) ts rest
  shown_item i ts rest w s =
      let x = both line (expression_pieces i.expression) (space ∷ says keyword.As ∷ space ∷ named i.column ∷ []) ts rest s in
      at_keyword line (λ us. Shown line (expression_pieces i.expression) ts us → SpellsItem line (named_item i) ts rest) keyword.As (space ∷ named i.column ∷ []) x.0 rest x.2 (λ as_ mid is after.
      at_name line (λ us. Shown line (expression_pieces i.expression) ts (as_ ∷ us) → SpellsItem line (named_item i) ts rest) i.column [] mid rest w.1 after (λ t from names any said last_.
      at_end line (λ us. Shown line (expression_pieces i.expression) ts (as_ ∷ t ∷ us) → SpellsItem line (named_item i) ts rest) from rest last_ (λ here.
      subst (λ z. SpellsItem line (record { expression = i.expression; column = z; named = true }) ts rest) said
      (item_as i.expression as_ t ts rest (shown_expression line i.expression ts (as_ ∷ t ∷ rest) w.0 here) is names)))) x.1

  shown_items : (is : List Item) (ts rest : List Token) → Several ItemIsWellFormed is → Shown line (list_pieces (map item_pieces is)) ts rest →
      SpellsEach (SpellsItem line) (map named_item is) ts rest
  shown_items is ts rest w s = spelt_of named_item (SpellsItem line) is ts rest
      (shown_several line item_pieces ItemIsWellFormed (λ i. SpellsItem line (named_item i)) shown_item is ts rest w s)

  shown_ordered : (e : Expression) (descending : Bool) (ts rest : List Token) → IsWhole e → Shown line (expression_pieces e ++ descending_pieces descending) ts rest →
      SpellsKey line (record { expression = e; descending = descending }) ts rest
  shown_ordered e false ts rest w s =
      let x = both line (expression_pieces e) [] ts rest s in
      at_end line (λ us. Shown line (expression_pieces e) ts us → SpellsKey line (record { expression = e; descending = false }) ts rest) x.0 rest x.2 (λ here.
      plain_key e ts rest (shown_expression line e ts rest w here)) x.1
  shown_ordered e true ts rest w s =
      let x = both line (expression_pieces e) (space ∷ says keyword.Desc ∷ []) ts rest s in
      last_keyword line (λ us. Shown line (expression_pieces e) ts us → SpellsKey line (record { expression = e; descending = true }) ts rest) keyword.Desc x.0 rest x.2 (λ t is here.
      desc e t ts rest (shown_expression line e ts (t ∷ rest) w here) (inl is)) x.1

  shown_key : (k : Key) (ts rest : List Token) → KeyIsWellFormed k → Shown line (key_pieces k) ts rest → SpellsKey line k ts rest
  shown_key k ts rest w s = shown_ordered k.expression k.descending ts rest w s

  shown_order : (ks : List Key) (ts rest : List Token) → Every KeyIsWellFormed ks → Shown line (order_pieces ks) ts rest → SpellsOrderIfAny line ks ts rest
  shown_order [] ts rest w s = at_end line (λ us. SpellsOrderIfAny line [] us rest) ts rest s (no_order rest)
  shown_order (k ∷ ks) ts rest w s =
      at_keyword line (λ us. SpellsOrderIfAny line (k ∷ ks) us rest) keyword.Order (space ∷ says keyword.By ∷ space ∷ list_pieces (map key_pieces (k ∷ ks))) ts rest s (λ order mid is after.
      at_keyword line (λ us. SpellsOrderIfAny line (k ∷ ks) (order ∷ us) rest) keyword.By (space ∷ list_pieces (map key_pieces (k ∷ ks))) mid rest after (λ by from goes_on further.
      order_by (k ∷ ks) order by from rest is goes_on (shown_several line key_pieces KeyIsWellFormed (SpellsKey line) shown_key (k ∷ ks) from rest w further)))

  shown_count : (k : Keyword) (n : Option ℕ) (ts rest : List Token) → IfAny CountIsWellFormed n → Shown line (count_pieces k n) ts rest → SpellsCountIfAny line k n ts rest
  shown_count k None ts rest w s = at_end line (λ us. SpellsCountIfAny line k None us rest) ts rest s (no_count rest)
  shown_count k (Some n) ts rest w s =
      at_keyword line (λ us. SpellsCountIfAny line k (Some n) us rest) k (space ∷ word (words.number n) ∷ []) ts rest s (λ t mid is after.
      at_number line (λ us. SpellsCountIfAny line k (Some n) (t ∷ us) rest) n [] mid rest after (λ number from counts last_.
      at_end line (λ us. SpellsCountIfAny line k (Some n) (t ∷ number ∷ us) rest) from rest last_ (a_count n t number rest is counts w)))

  shown_distinct : (d : Bool) (ts rest : List Token) → Shown line (distinct_pieces d) ts rest → SpellsDistinct line d ts rest
  shown_distinct false ts rest s = at_end line (λ us. SpellsDistinct line false us rest) ts rest s (not_distinct rest)
  shown_distinct true ts rest s = last_keyword line (λ us. SpellsDistinct line true us rest) keyword.Distinct ts rest s (λ t is. distinct t rest is)

  pub shown_projection : (p : Projection) (ts rest : List Token) → ProjectionIsWellFormed p → Shown line (projection_pieces p) ts rest →
      SpellsProjection line (named_projection p) ts rest
  shown_projection p ts rest w s =
      let a = both line (distinct_pieces p.distinct) (list_pieces (map item_pieces p.items) ++ (order_pieces p.order ++ (count_pieces keyword.Skip p.skip ++ count_pieces keyword.Limit p.limit))) ts rest s in
      let b = both line (list_pieces (map item_pieces p.items)) (order_pieces p.order ++ (count_pieces keyword.Skip p.skip ++ count_pieces keyword.Limit p.limit)) a.0 rest a.2 in
      let c = both line (order_pieces p.order) (count_pieces keyword.Skip p.skip ++ count_pieces keyword.Limit p.limit) b.0 rest b.2 in
      let d = both line (count_pieces keyword.Skip p.skip) (count_pieces keyword.Limit p.limit) c.0 rest c.2 in
      projection p.distinct (map named_item p.items) p.order p.skip p.limit ts a.0 b.0 c.0 d.0 rest (shown_distinct p.distinct ts a.0 a.1)
      (shown_items p.items a.0 b.0 w.0 b.1) (shown_order p.order b.0 c.0 w.1 c.1) (shown_count keyword.Skip p.skip c.0 d.0 w.2 d.1)
      (shown_count keyword.Limit p.limit d.0 rest w.3 d.2)
