-- What tokens of a line spell is well formed: patterns, clauses and statements.
use Rattle.std.proofs.Common.{◌≡◌, ℕ, zero, suc, ◌≤◌, ◌-◌, Bool, List, [], ◌∷◌, ◌++◌, length, take, drop, Option, Some, None, Ok, refl, sym, ap, ◌∙◌, subst, append_assoc, if◌then◌else◌, slice_get, slice_range, arith}
use Rattle.std.specs.Prelude.{encode_utf8_all}
use Rattle.std.specs.Str.{IsUtf8}
use Rattle.std.specs.Option.{ForSome}
use Rattle.std.proofs.lemmas.List.{take-append-drop}
use Rattle.std.proofs.lemmas.Str.{encodes-chars}
use Rattle.cy_lexer.specs.declared.symbols.Symbol.{Symbol}
use Rattle.cy_lexer.specs.declared.keywords.Keyword.{Keyword}
use Rattle.cy_lexer.specs.declared.tokens.Token.{Token}
use Rattle.cy_lexer.specs.Spans.{slice_of}
use Rattle.cy_lexer.specs.Tokens.{tokens_of}
use Rattle.cy_lexer.proofs.LexedLemmas.{tokens_of-own, IsStretch}
use Rattle.cy_trees.specs.declared.expressions.Variable.{Variable}
use Rattle.cy_trees.specs.declared.clauses.Length.{Length}
use Rattle.cy_trees.specs.declared.expressions.BinaryOperator.TheVariants as operator
use Rattle.cy_trees.specs.Depth.{depth, greatest_depth}
use Rattle.cy_trees.specs.Trees.{Name, Expression, binary, variable, MapEntry, NodePattern, RelationshipPattern, Step, Path, Item, Key, Projection, SetItem, RemoveItem, PathTest, Where, Clause, Query, Statement}
use Rattle.cy_parser_grammar.specs.Words.{slice_in, spanning, written}
use Rattle.cy_parser_grammar.specs.SpellsClauses as spell
use Rattle.cy_parser_grammar.specs.internal.WellFormed.{IsNamed, IsVariable, Every, Several, IfAny, IsWellFormed, IsWhole, EntryIsWellFormed, NodeIsWellFormed, LengthIsWellFormed, RelationshipIsWellFormed, StepIsWellFormed, PathIsWellFormed, ItemIsWellFormed, KeyIsWellFormed, CountIsWellFormed, ProjectionIsWellFormed, SetItemIsWellFormed, RemoveItemIsWellFormed, PathTestIsWellFormed, WhereIsWellFormed, ClauseIsWellFormed, ClausesAreWellFormed, ReadingIsWellFormed, StatementIsWellFormed}
use Rattle.cy_parser_grammar.proofs.Complete.{expression-complete}
use Rattle.cy_parser_grammar.proofs.WellSpelt.{IsPart, part_next, named_token, labels_well, name_is_word, some_every, well}

some_all : {A : Type 0} (P : A → Type 0) (xs : List A) → Several P xs → Every P xs
some_all P [] are = absurd are
some_all P (x ∷ xs) are = are

-- what conjuncts make
abbrev ConjunctIsWellFormed : spell.Part → Type 0
ConjunctIsWellFormed (spell.condition e) = IsWellFormed e
ConjunctIsWellFormed (spell.path_test t) = PathTestIsWellFormed t

paths_well_among : (cs : List spell.Part) → Every ConjunctIsWellFormed cs → Every PathTestIsWellFormed (spell.paths_among cs)
paths_well_among [] are = tt
paths_well_among (spell.condition e ∷ cs) are = paths_well_among cs are.1
paths_well_among (spell.path_test t ∷ cs) are = (are.0, paths_well_among cs are.1)

test_after_well : (before : Option Expression) (cs : List spell.Part) → IfAny IsWellFormed before → Every ConjunctIsWellFormed cs → IfAny IsWellFormed (spell.test_after before cs)
test_after_well before [] w are = w
test_after_well None (spell.condition e ∷ cs) w are = test_after_well (Some e) cs are.0 are.1
test_after_well (Some b) (spell.condition e ∷ cs) w are = test_after_well (Some (binary operator.And b e)) cs (w, are.0) are.1
test_after_well before (spell.path_test t ∷ cs) w are = test_after_well before cs w are.1

whole_if_any : (o : Option Expression) → IfAny IsWellFormed o → ForSome o (λ e. depth e ≤ greatest_depth) → IfAny IsWhole o
whole_if_any None w s = tt
whole_if_any (Some e) w s = (w, s e refl)

-- the last of some tokens
last_of : (t : Token) (ts : List Token) → (u : Token) × (slice_get (t ∷ ts) (length ts) ≡ Some u)
last_of t [] = (t, refl)
last_of t (u ∷ us) = last_of u us

module _ (line : List ℕ) (utf8 : IsUtf8 line) where
  abbrev Part : List Token → Type 0
  Part ts = IsPart line utf8 ts

  next : (t : Token) (ts : List Token) → Part (t ∷ ts) → Part ts
  next t ts p = part_next line utf8 t ts p

  each_well : {A : Type 0} (each : A → List Token → List Token → Type 0) (P : A → Type 0) →
      ((a : A) (ts rest : List Token) → each a ts rest → Part ts → P a × Part rest) → {xs : List A} {ts rest : List Token} → spell.SpellsEach each xs ts rest → Part ts →
      Several P xs × Part rest
  each_well each P one (spell.last a ts rest s) p = let x = one a ts rest s p in ((x.0, tt), x.1)
  each_well each P one (spell.next a more comma ts mid rest s is others) p =
      let x = one a ts (comma ∷ mid) s p in
      let y = each_well each P one others (next comma mid x.1) in
      ((x.0, some_all P more y.0), y.1)

  whole_well : (e : Expression) (ts rest : List Token) → spell.SpellsExpression line e ts rest → Part ts → IsWhole e × Part rest
  whole_well e ts rest s p = let x = well line utf8 s.spells p in ((x.0, s.shallow), x.1)

  -- ---- patterns

  variable_well : (v : Variable) (ts rest : List Token) → spell.SpellsVariable line v ts rest → Part ts → IsVariable v × Part rest
  variable_well _ _ _ (spell.variable t rest is) p = ((named_token line utf8 t rest p (name_is_word t.kind is), refl), next t rest p)

  variable_if_any_well : {v : Option Variable} {ts rest : List Token} → spell.SpellsVariableIfAny line v ts rest → Part ts → IfAny IsVariable v × Part rest
  variable_if_any_well (spell.no_variable ts) p = (tt, p)
  variable_if_any_well (spell.a_variable v ts rest s) p = variable_well v ts rest s p

  labels_if_any_well : {ls : List Name} {ts rest : List Token} → spell.SpellsLabelsIfAny line ls ts rest → Part ts → Every IsNamed ls × Part rest
  labels_if_any_well (spell.no_labels ts) p = (tt, p)
  labels_if_any_well (spell.labels ls colon ts rest is s) p = let x = labels_well line utf8 s (next colon ts p) in (some_every ls x.0, x.1)

  entry_well : (x : MapEntry) (ts rest : List Token) → spell.SpellsEntry line x ts rest → Part ts → EntryIsWellFormed x × Part rest
  entry_well _ _ rest (spell.entry e key colon ts _ names is s) p =
      let x = whole_well e ts rest s (next colon ts (next key (colon ∷ ts) p)) in
      ((named_token line utf8 key (colon ∷ ts) p names, x.0), x.1)

  map_if_any_well : {m : Option (List MapEntry)} {ts rest : List Token} → spell.SpellsMapIfAny line m ts rest → Part ts → IfAny (Every EntryIsWellFormed) m × Part rest
  map_if_any_well (spell.no_map ts) p = (tt, p)
  map_if_any_well (spell.empty_map opening closing rest is closes) p = (tt, next closing rest (next opening (closing ∷ rest) p))
  map_if_any_well (spell.map_of es opening closing ts rest is s closes) p =
      let x = each_well (spell.SpellsEntry line) EntryIsWellFormed entry_well s (next opening ts p) in
      (some_all EntryIsWellFormed es x.0, next closing rest x.1)

  node_well : (n : NodePattern) (ts rest : List Token) → spell.SpellsNode line n ts rest → Part ts → NodeIsWellFormed n × Part rest
  node_well _ _ rest (spell.node v ls m opening closing ts from mid _ is s u w closes) p =
      let x = variable_if_any_well s (next opening ts p) in
      let y = labels_if_any_well u x.1 in
      let z = map_if_any_well w y.1 in
      ((x.0, y.0, z.0), next closing rest z.1)

  types_well : {ns : List Name} {ts rest : List Token} → spell.SpellsTypes line ns ts rest → Part ts → Several IsNamed ns × Part rest
  types_well (spell.last_type t rest is) p = ((named_token line utf8 t rest p is, tt), next t rest p)
  types_well (spell.next_type ns t bar mid rest is bars s) p =
      let x = types_well s (next bar mid (next t (bar ∷ mid) p)) in
      ((named_token line utf8 t (bar ∷ mid) p is, some_every ns x.0), x.1)
  types_well (spell.next_type_with_colon ns t bar colon mid rest is bars colons s) p =
      let x = types_well s (next colon mid (next bar (colon ∷ mid) (next t (bar ∷ colon ∷ mid) p))) in
      ((named_token line utf8 t (bar ∷ colon ∷ mid) p is, some_every ns x.0), x.1)

  types_if_any_well : {ns : List Name} {ts rest : List Token} → spell.SpellsTypesIfAny line ns ts rest → Part ts → Every IsNamed ns × Part rest
  types_if_any_well (spell.no_types ts) p = (tt, p)
  types_if_any_well (spell.types ns colon ts rest is s) p = let x = types_well s (next colon ts p) in (some_every ns x.0, x.1)

  length_well : {l : Length} {ts rest : List Token} → spell.SpellsLength l ts rest → Part ts → LengthIsWellFormed l × Part rest
  length_well (spell.any_length ts) p = ((omega arith, tt), p)
  length_well (spell.exactly n number rest is small) p = ((small, (omega arith, small)), next number rest p)
  length_well (spell.unbounded dots rest is) p = ((omega arith, tt), next dots rest p)
  length_well (spell.at_least m number dots rest is dotted small) p = ((small, tt), next dots rest (next number (dots ∷ rest) p))
  length_well (spell.at_most n dots number rest is counts some small) p = ((omega arith, (some, small)), next number rest (next dots (number ∷ rest) p))
  length_well (spell.between m n first dots second rest is dotted counts ordered small) p =
      ((omega (arith, ordered, small), (ordered, small)), next second rest (next dots (second ∷ rest) (next first (dots ∷ second ∷ rest) p)))

  length_if_any_well : {l : Option Length} {ts rest : List Token} → spell.SpellsLengthIfAny l ts rest → Part ts → IfAny LengthIsWellFormed l × Part rest
  length_if_any_well (spell.no_length ts) p = (tt, p)
  length_if_any_well (spell.a_length l star ts rest is s) p = length_well s (next star ts p)

  arrow_part : {s : Symbol} {b : Bool} {ts rest : List Token} → spell.SpellsArrow s b ts rest → Part ts → Part rest
  arrow_part (spell.arrow t rest is) p = next t rest p
  arrow_part (spell.no_arrow ts) p = p

  details_well : {r : RelationshipPattern} {ts rest : List Token} → spell.SpellsDetails line r ts rest → Part ts → RelationshipIsWellFormed r × Part rest
  details_well (spell.no_details towards ts) p = ((tt, tt, tt, tt), p)
  details_well (spell.details v towards ns l m opening closing ts from mid following rest is s u w x closes) p =
      let a = variable_if_any_well s (next opening ts p) in
      let b = types_if_any_well u a.1 in
      let c = length_if_any_well w b.1 in
      let d = map_if_any_well x c.1 in
      ((a.0, b.0, c.0, d.0), next closing rest d.1)

  relationship_well : {r : RelationshipPattern} {ts rest : List Token} → spell.SpellsRelationship line r ts rest → Part ts → RelationshipIsWellFormed r × Part rest
  relationship_well (spell.relationship r is_left is_right first second ts from mid rest left is s by right) p =
      let x = details_well s (next first from (arrow_part left p)) in
      (x.0, arrow_part right (next second mid x.1))

  steps_well : {ss : List Step} {ts rest : List Token} → spell.SpellsSteps line ss ts rest → Part ts → Every StepIsWellFormed ss × Part rest
  steps_well (spell.no_steps ts) p = (tt, p)
  steps_well (spell.a_step r n more ts from mid rest s u others) p =
      let x = relationship_well s p in
      let y = node_well n from mid u x.1 in
      let z = steps_well others y.1 in
      (((x.0, y.0), z.0), z.1)

  path_well : (path : Path) (ts rest : List Token) → spell.SpellsPath line path ts rest → Part ts → PathIsWellFormed path × Part rest
  path_well _ _ _ (spell.path n more ts mid rest s u) p =
      let x = node_well n ts mid s p in
      let y = steps_well u x.1 in
      ((x.0, y.0), y.1)

  -- ---- projections

  stretch_named : (from to : ℕ) → IsStretch line from to → IsNamed (slice_range line from to)
  stretch_named from to s =
      let some = s.written in
      (some.0, some.1, sym (encodes-chars (slice_range line from to) s.text) ∙ ap encode_utf8_all some.2, some.3)

  spanning_named : (own : List Token) (t u : Token) → slice_get own 0 ≡ Some t → slice_get own (length own - 1) ≡ Some u → IsStretch line t.start u.end → IsNamed (written line own)
  unfolding slice_in
  spanning_named own t u first last_ s =
      subst IsNamed
      (sym (ap (λ x. spanning line x (slice_get own (length own - 1))) first ∙ ap (λ x. spanning line (Some t) x) last_
      ∙ ap (λ b. if b then slice_of line (record { kind = t.kind; start = t.start; end = u.end }) else []) s.within))
      (stretch_named t.start u.end s)

  written_named : (k : ℕ) (ts : List Token) → Part ts → suc zero ≤ length ts → IsNamed (written line (take (suc k) ts))
  written_named k [] p few = absurd (omega (arith, few))
  written_named k (t ∷ ts) p few =
      let final = last_of t (take k ts) in
      let own = t ∷ take k ts in
      let at : slice_get own (length own - 1) ≡ Some final.0 = ap (slice_get own) (omega arith) ∙ final.1 in
      let all : tokens_of line ≡ Ok (p.0 ++ (own ++ (drop k ts ++ p.1))) =
      p.2 ∙ ap (λ xs. Ok (p.0 ++ (t ∷ xs))) (ap (λ ys. ys ++ p.1) (sym (take-append-drop k ts)) ∙ append_assoc (take k ts) (drop k ts) p.1) in
      spanning_named own t final.0 refl at (tokens_of-own line p.0 own (drop k ts ++ p.1) t final.0 utf8 all refl at)

  by_length : (k : ℕ) (ts : List Token) → Part ts → suc zero ≤ k → suc zero ≤ length ts → IsNamed (written line (take k ts))
  by_length zero ts p some few = absurd (omega (arith, some))
  by_length (suc k) ts p some few = written_named k ts p few

  column_named : (e : Expression) (own : List Token) → IsWhole e → IsNamed (written line own) → IsNamed (spell.column_name line e own)
  column_named (variable v) own w n = w.0.0
  column_named _ own w n = n

  item_well : (i : Item) (ts rest : List Token) → spell.SpellsItem line i ts rest → Part ts → ItemIsWellFormed i × Part rest
  item_well _ _ _ (spell.item_as e as_ column ts rest s is names) p =
      let x = whole_well e ts (as_ ∷ column ∷ rest) s p in
      let q = next as_ (column ∷ rest) x.1 in
      ((x.0, named_token line utf8 column rest q (name_is_word column.kind names)), next column rest q)
  item_well _ _ _ (spell.item e ts rest s) p =
      let x = whole_well e ts rest s p in
      let shorter = (expression-complete line e ts rest s.spells).shortens in
      ((x.0, column_named e (take (length ts - length rest) ts) x.0 (by_length (length ts - length rest) ts p (omega (arith, shorter)) (omega (arith, shorter)))), x.1)

  key_well : (k : Key) (ts rest : List Token) → spell.SpellsKey line k ts rest → Part ts → KeyIsWellFormed k × Part rest
  key_well _ _ _ (spell.plain_key e ts rest s) p = whole_well e ts rest s p
  key_well _ _ _ (spell.asc e t ts rest s is) p = let x = whole_well e ts (t ∷ rest) s p in (x.0, next t rest x.1)
  key_well _ _ _ (spell.desc e t ts rest s is) p = let x = whole_well e ts (t ∷ rest) s p in (x.0, next t rest x.1)

  order_well : {ks : List Key} {ts rest : List Token} → spell.SpellsOrderIfAny line ks ts rest → Part ts → Every KeyIsWellFormed ks × Part rest
  order_well (spell.no_order ts) p = (tt, p)
  order_well (spell.order_by ks order by ts rest is bys s) p =
      let x = each_well (spell.SpellsKey line) KeyIsWellFormed key_well s (next by ts (next order (by ∷ ts) p)) in
      (some_all KeyIsWellFormed ks x.0, x.1)

  count_well : {k : Keyword} {n : Option ℕ} {ts rest : List Token} → spell.SpellsCountIfAny line k n ts rest → Part ts → IfAny CountIsWellFormed n × Part rest
  count_well (spell.no_count ts) p = (tt, p)
  count_well (spell.a_count n t number rest is counts small) p = (small, next number rest (next t (number ∷ rest) p))

  distinct_part : {d : Bool} {ts rest : List Token} → spell.SpellsDistinct line d ts rest → Part ts → Part rest
  distinct_part (spell.not_distinct ts) p = p
  distinct_part (spell.distinct t rest is) p = next t rest p

  projection_well : {q : Projection} {ts rest : List Token} → spell.SpellsProjection line q ts rest → Part ts → ProjectionIsWellFormed q × Part rest
  projection_well (spell.projection d is ks s l ts from mid after last_ rest a b c e f) p =
      let v = each_well (spell.SpellsItem line) ItemIsWellFormed item_well b (distinct_part a p) in
      let w = order_well c v.1 in
      let x = count_well e w.1 in
      let y = count_well f x.1 in
      ((v.0, w.0, x.0, y.0), y.1)

  -- ---- updates

  set_item_well : (i : SetItem) (ts rest : List Token) → spell.SpellsSetItem line i ts rest → Part ts → SetItemIsWellFormed i × Part rest
  set_item_well _ _ _ (spell.set_property_to v e dot key equal ts mid rest s dots names is u) p =
      let x = variable_well v ts (dot ∷ key ∷ equal ∷ mid) s p in
      let q = next dot (key ∷ equal ∷ mid) x.1 in
      let y = whole_well e mid rest u (next equal mid (next key (equal ∷ mid) q)) in
      ((x.0, named_token line utf8 key (equal ∷ mid) q names, y.0), y.1)
  set_item_well _ _ _ (spell.set_labels_to v ls colon ts mid rest s is u) p =
      let x = variable_well v ts (colon ∷ mid) s p in
      let y = labels_well line utf8 u (next colon mid x.1) in
      ((x.0, y.0), y.1)

  remove_item_well : (i : RemoveItem) (ts rest : List Token) → spell.SpellsRemoveItem line i ts rest → Part ts → RemoveItemIsWellFormed i × Part rest
  remove_item_well _ _ _ (spell.remove_property_of v dot key ts rest s dots names) p =
      let x = variable_well v ts (dot ∷ key ∷ rest) s p in
      let q = next dot (key ∷ rest) x.1 in
      ((x.0, named_token line utf8 key rest q names), next key rest q)
  remove_item_well _ _ _ (spell.remove_labels_of v ls colon ts mid rest s is u) p =
      let x = variable_well v ts (colon ∷ mid) s p in
      let y = labels_well line utf8 u (next colon mid x.1) in
      ((x.0, y.0), y.1)

  -- ---- conditions

  path_test_well : (t : PathTest) (ts rest : List Token) → spell.SpellsPathTest line t ts rest → Part ts → PathTestIsWellFormed t × Part rest
  path_test_well _ _ _ (spell.path_there q ts rest s steps) p = let x = path_well q ts rest s p in (record { path = x.0; steps = steps }, x.1)
  path_test_well _ _ _ (spell.no_path q negation ts rest is s steps) p =
      let x = path_well q ts rest s (next negation ts p) in (record { path = x.0; steps = steps }, x.1)
  path_test_well _ _ _ (spell.no_path_in_brackets q negation opening closing ts rest is opens s steps closes) p =
      let x = path_well q ts (closing ∷ rest) s (next opening ts (next negation (opening ∷ ts) p)) in
      (record { path = x.0; steps = steps }, next closing rest x.1)

  conjunct_well : (c : spell.Part) (ts rest : List Token) → spell.SpellsPart line c ts rest → Part ts → ConjunctIsWellFormed c × Part rest
  conjunct_well _ _ _ (spell.path_part t ts rest s ends) p = path_test_well t ts rest s p
  conjunct_well _ _ _ (spell.condition_part e ts rest none s shallow ends) p = well line utf8 s p

  conjuncts_well : {cs : List spell.Part} {ts rest : List Token} → spell.SpellsParts line cs ts rest → Part ts → Every ConjunctIsWellFormed cs × Part rest
  conjuncts_well (spell.last_part c ts rest s) p = let x = conjunct_well c ts rest s p in ((x.0, tt), x.1)
  conjuncts_well (spell.next_part c cs and ts mid rest s is others) p =
      let x = conjunct_well c ts (and ∷ mid) s p in
      let y = conjuncts_well others (next and mid x.1) in
      ((x.0, y.0), y.1)

  where_well : {f : Where} {ts rest : List Token} → spell.SpellsWhereIfAny line f ts rest → Part ts → WhereIsWellFormed f × Part rest
  where_well (spell.no_where ts) p = (record { test = tt; paths = tt }, p)
  where_well (spell.where_parts cs where_ ts rest is chain shallow) p =
      let x = conjuncts_well chain.parts (next where_ ts p) in
      (record { test = whole_if_any (spell.test_of cs) (test_after_well None cs tt x.0) shallow; paths = paths_well_among cs x.0 }, x.1)
  where_well (spell.where_expression e where_ ts rest is none s) p = let x = whole_well e ts rest s (next where_ ts p) in (record { test = x.0; paths = tt }, x.1)

  -- ---- clauses

  paths_well : {ps : List Path} {ts rest : List Token} → spell.SpellsEach (spell.SpellsPath line) ps ts rest → Part ts → Several PathIsWellFormed ps × Part rest
  paths_well s p = each_well (spell.SpellsPath line) PathIsWellFormed path_well s p

  clause_well : {c : Clause} {ts rest : List Token} → spell.SpellsClause line c ts rest → Part ts → ClauseIsWellFormed c × Part rest
  clause_well (spell.match_ ps f t ts mid rest is s u) p = let x = paths_well s (next t ts p) in let y = where_well u x.1 in ((x.0, y.0), y.1)
  clause_well (spell.optional_match ps f optional t ts mid rest o is s u) p =
      let x = paths_well s (next t ts (next optional (t ∷ ts) p)) in let y = where_well u x.1 in ((x.0, y.0), y.1)
  clause_well (spell.unwind_as e v t as_ ts mid rest is s named_ u) p =
      let x = whole_well e ts (as_ ∷ mid) s (next t ts p) in let y = variable_well v mid rest u (next as_ mid x.1) in ((x.0, y.0), y.1)
  clause_well (spell.with_ q f t ts mid rest is s u) p = let x = projection_well s (next t ts p) in let y = where_well u x.1 in ((x.0, y.0), y.1)
  clause_well (spell.return_ q t ts rest is s) p = projection_well s (next t ts p)
  clause_well (spell.create_ ps t ts rest is s) p = paths_well s (next t ts p)
  clause_well (spell.set_ is t ts rest sets s) p = each_well (spell.SpellsSetItem line) SetItemIsWellFormed set_item_well s (next t ts p)
  clause_well (spell.remove_ is t ts rest removes s) p = each_well (spell.SpellsRemoveItem line) RemoveItemIsWellFormed remove_item_well s (next t ts p)
  clause_well (spell.delete_ vs t ts rest is s) p = each_well (spell.SpellsVariable line) IsVariable variable_well s (next t ts p)
  clause_well (spell.detach_delete vs detach t ts rest d is s) p = each_well (spell.SpellsVariable line) IsVariable variable_well s (next t ts (next detach (t ∷ ts) p))

  -- ---- queries and statements

  clauses_well : {s : spell.ClausePhase} {cs : List Clause} {ts rest : List Token} → spell.SpellsQuery line s cs ts rest → Part ts → ClausesAreWellFormed s cs × Part rest
  clauses_well (spell.no_more_clauses s ts may) p = (may, p)
  clauses_well (spell.next_clause s c cs ts mid rest may spelt others) p =
      let x = clause_well spelt p in
      let y = clauses_well others x.1 in
      ((may, x.0, y.0), y.1)

  reading_well : (q : Query) (ts rest : List Token) → spell.SpellsReading line q ts rest → Part ts → ReadingIsWellFormed q × Part rest
  reading_well q ts rest r p = let x = clauses_well r.spelt p in ((x.0, r.reads), x.1)

  union_part : {all : Bool} {ts rest : List Token} → spell.SpellsUnion all ts rest → Part ts → Part rest
  union_part (spell.union t rest is) p = next t rest p
  union_part (spell.union_all t all rest is is_all) p = next all rest (next t (all ∷ rest) p)

  further_well : {all : Bool} {qs : List Query} {ts rest : List Token} → spell.SpellsFurther line all qs ts rest → Part ts → Every ReadingIsWellFormed qs
  further_well (spell.no_further ts) p = tt
  further_well (spell.further q qs ts from mid rest u r others) p =
      let x = reading_well q from mid r (union_part u p) in (x.0, further_well others x.1)

  -- a statement that tokens of the line spell
  pub statement-well : (s : Statement) (ts : List Token) → spell.SpellsStatement line s ts → Part ts → StatementIsWellFormed s
  statement-well _ ts (spell.one_query q _ rest s e) p = ((clauses_well s p).0, refl)
  statement-well _ ts (spell.union_of first second others all _ mid rest r more e) p =
      let x = reading_well first ts mid r p in (x.0, further_well more x.1)
