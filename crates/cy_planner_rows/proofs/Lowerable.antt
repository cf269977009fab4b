-- An expression of a kind can be made one over columns: what it asks stands in columns of the row, and once that is looked up, its form
-- over columns reads these alone, and it is readable on each row that fits its scope.
use Rattle.std.proofs.Common.{◌≡◌, ℕ, ◌+◌, ◌<◌, Bool, true, false, not, ◌&&◌, List, [], ◌∷◌, ◌++◌, length, map, refl, sym, ap, subst, ◌∙◌, arith}
use Rattle.std.specs.Prelude.{Option, Some, nat_lt, option_map, slice_get}
use Rattle.std.specs.List.{AllByRecursion, list_all}
use Rattle.std.specs.Option.{option_map_or}
use Rattle.std.proofs.lemmas.Bool.{and_parts, false≢true, lt-ltb, true≢false, and_from}
use Rattle.std.proofs.lemmas.Option.{slice_get_within}
use Rattle.std.proofs.Math.ListN.{get_or-append}
use Rattle.cy_values.specs.declared.rows.Cell.{Cell}
use Rattle.cy_values.proofs.Lists.{each_append, each_left, each_right}
use Rattle.cy_trees.specs.declared.expressions.Variable.{Variable}
use Rattle.cy_trees.specs.Trees.{Name, Expression, null, boolean, integer, text, variable, property, has_labels, unary, binary, comparison, list, case, call, call_star, Expressions, no_more, more, Links, no_links, link, Arms, no_arms, arm, Otherwise, nothing, otherwise}
use Rattle.cy_scope_kinds.specs.declared.kinds.Kind.{Kind}
use Rattle.cy_scope_kinds.specs.declared.kinds.Kind.TheVariants as kind
use Rattle.cy_scope_kinds.specs.declared.functions.Function.{Function}
use Rattle.cy_scope_kinds.specs.declared.functions.Function.TheVariants as function
use Rattle.cy_scope_kinds.specs.ExpressionKinds.{binary_kind, function_kind, unary_kind}
use Rattle.cy_scope_kinds.specs.Functions.{function_named, has_form, is_property, takes}
use Rattle.cy_scope_kinds.specs.Kinds.{flag_if, is_flag, is_value}
use Rattle.cy_scope_kinds.specs.Kinded.{ArmsHaveKinds, AreComparable, HasKind, HaveKinds, IsColumn, LastHasKind, is_call_of}
use Rattle.cy_scope_kinds.specs.Rows.{row_fits}
use Rattle.cy_scope_kinds.specs.Scopes.{Scope}
use Rattle.cy_graph.specs.Graph.{Content}
use Rattle.cy_expr.specs.Evaluation.{column_value}
use Rattle.cy_expr.specs.Graphs.{lookups}
use Rattle.cy_expr.specs.Reading.{all_read_below, all_read_columns, arms_read_below, arms_read_columns, else_reads_below, else_reads_columns, links_read_below, links_read_columns, reads_below, reads_columns, reads_graph}
use Rattle.cy_planner_algebra.specs.declared.operators.Attribute.{Attribute}
use Rattle.cy_planner_algebra.specs.declared.operators.Attribute.TheVariants.{Property, RelType, Labels}
use Rattle.cy_planner_algebra.specs.Expressions.{cell_at}
use Rattle.cy_planner_algebra.specs.Meaning.{attribute_of}
use Rattle.cy_planner_rows.specs.declared.places.Wanted.{Wanted}
use Rattle.cy_planner_rows.specs.internal.Lowered.{AreArmsReadable, AreLinksReadable, AreReadable, IsCallReadable, IsColumnLookedUp, IsOtherwiseReadable, IsOwnerLookedUp, IsReadable, all_in, looked_up, lowered, lowered_arms, lowered_call, lowered_expressions, lowered_links, lowered_otherwise, lowered_single, missing_arms}
use Rattle.cy_planner_rows.specs.Places.{place}
use Rattle.cy_planner_rows.specs.internal.Asked.{all_asked, asked, asked_by_arms, asked_by_call, asked_by_else, asked_by_links, asked_in, asked_of, asked_of_first}
use Rattle.cy_planner_rows.specs.internal.Lookups.{value_on, with_values}
use Rattle.cy_planner_rows.proofs.Attributes.{binary_value, called_value, cell_gives, chosen_value, fits_cell, fits_long, has_attribute, no_value, unary_value}
use Rattle.cy_planner_rows.proofs.Placed.{IsAmong, place_below, place_reads}

-- a test of labels reads what the list of labels reads
missing_columns : (e : Expression) (labels : List Name) → reads_columns e ≡ true → arms_read_columns (missing_arms e labels) ≡ true
missing_columns e [] h = refl
missing_columns e (l ∷ labels) h = λ i. (h i && true) && missing_columns e labels h i

all_in_columns : (e : Expression) (labels : List Name) → reads_columns e ≡ true → reads_columns (all_in e labels) ≡ true
all_in_columns e [] h = λ i. (h i && true && true) && true
all_in_columns e (l ∷ []) h = h
all_in_columns e (l ∷ m ∷ labels) h = λ i. (h i && true && missing_columns e (l ∷ m ∷ labels) h i) && true

missing_below : (n : ℕ) (e : Expression) (labels : List Name) → reads_below n e ≡ true → arms_read_below n (missing_arms e labels) ≡ true
missing_below n e [] h = refl
missing_below n e (l ∷ labels) h = λ i. (h i && true) && missing_below n e labels h i

all_in_below : (n : ℕ) (e : Expression) (labels : List Name) → reads_below n e ≡ true → reads_below n (all_in e labels) ≡ true
all_in_below n e [] h = λ i. (h i && true && true) && true
all_in_below n e (l ∷ []) h = h
all_in_below n e (l ∷ m ∷ labels) h = λ i. (h i && true && missing_below n e (l ∷ m ∷ labels) h i) && true

module _ (scope : Scope) (wanted : List Wanted) where
  abbrev at : ℕ → Attribute → ℕ
  at = place (length scope) wanted

  abbrev wide : ℕ
  wide = length scope + length wanted

  abbrev Among : List Wanted → Type 0
  Among asks = AllByRecursion (IsAmong wanted) asks

  abbrev pub IsInside : Wanted → Type 0
  IsInside w = w.column < length scope

  abbrev Inside : List Wanted → Type 0
  Inside asks = AllByRecursion IsInside asks

  -- on each row that fits the scope
  abbrev OnRows : (Content → List Cell → Type 0) → Type 0
  OnRows P = (graph : Content) (row : List Cell) → row_fits scope row ≡ true → P graph row

  -- ---- what is asked of a variable

  abbrev Owned : Expression → Attribute → Type 0
  Owned e a =
      (reads_columns (looked_up at e a) ≡ true) × (reads_below wide (looked_up at e a) ≡ true)
      × OnRows (λ graph row. IsOwnerLookedUp at (lookups graph) row (with_values graph wanted row) e a)

  abbrev ColumnOwned : Option ℕ → Attribute → Type 0
  ColumnOwned column a =
      (option_map_or (λ c. nat_lt c wide) (option_map (λ c. at c a) column) true ≡ true)
      × OnRows (λ graph row. IsColumnLookedUp at (lookups graph) row (with_values graph wanted row) column a)

  column_owned : (column : ℕ) (name : Name) (k : Kind) (a : Attribute) → slice_get scope column ≡ Some (name, k) → has_attribute a k ≡ true → Among (asked_in (Some column) a) → ColumnOwned (Some column) a
  column_owned column name k a is has among = (
    lt-ltb (at column a) wide (place_below (length scope) wanted column a among.0),
    λ graph row fit. (
      attribute_of graph a (cell_at row column),
      cell_gives graph a k (cell_at row column) (fits_cell scope row column (name, k) fit is) has,
      place_reads (value_on graph row) column a row wanted (length scope) (fits_long scope row fit) among.0,
    ),
  )

  variable_owned : (v : Variable) (k : Kind) (a : Attribute) → IsColumn scope v k → has_attribute a k ≡ true → Among (asked_in v.column a) → Owned (variable v) a
  variable_owned v k a column has among =
      let owned : ColumnOwned v.column a =
      subst (λ (c : Option ℕ). Among (asked_in c a) → ColumnOwned c a) (sym column.1) (column_owned column.0 v.name k a column.2 has) among in
      (refl, owned.0, owned.1)

  variable_inside : (v : Variable) (k : Kind) (a : Attribute) → IsColumn scope v k → Inside (asked_in v.column a)
  variable_inside v k a column = subst (λ (c : Option ℕ). Inside (asked_in c a)) (sym column.1) (slice_get_within scope column.0 (v.name, k) column.2, tt)

  -- what has an attribute is a variable
  module _ (Q : Expression → Type 0) (k : Kind) (a : Attribute) (has : has_attribute a k ≡ true) where
    no_other : (other : Kind) → is_value other ≡ true → k ≡ other → ⊥
    no_other other is same = no_value a k (ap is_value same ∙ is) has

    variable_alone : ((v : Variable) → IsColumn scope v k → Q (variable v)) → (e : Expression) → HasKind scope e k → Q e
    variable_alone step null h = absurd (no_other kind.Flag refl h)
    variable_alone step (boolean b) h = absurd (no_other kind.Flag refl h)
    variable_alone step (integer n) h = absurd (no_other kind.Value refl h)
    variable_alone step (text t) h = absurd (no_other kind.Value refl h)
    variable_alone step (variable v) h = step v h
    variable_alone step (property e key) h = absurd (no_other kind.Value refl h.0)
    variable_alone step (has_labels e labels) h = absurd (no_other kind.Flag refl h.0)
    variable_alone step (unary operator e) h = absurd (no_other (unary_kind operator) (unary_value operator) h.0)
    variable_alone step (binary operator l r) h = absurd (no_other (binary_kind operator) (binary_value operator) h.0)
    variable_alone step (comparison e links) h = absurd (no_other kind.Flag refl h.0)
    variable_alone step (list es) h = absurd (no_other kind.Value refl h.0)
    variable_alone step (case arms e) h = absurd (no_other (flag_if (list_all is_flag (h.2 ∷ h.1))) (chosen_value (list_all is_flag (h.2 ∷ h.1))) h.7)
    variable_alone step (call name distinct es) h = absurd (no_other (function_kind h.0 (list_all is_flag h.1)) (called_value h.0 (list_all is_flag h.1)) h.6)
    variable_alone step (call_star name) h = absurd h

  owner : (e : Expression) (k : Kind) (a : Attribute) → HasKind scope e k → has_attribute a k ≡ true → Among (asked_of e a) → Owned e a
  owner e k a h has = variable_alone (λ e. Among (asked_of e a) → Owned e a) k a has (λ v column. variable_owned v k a column has) e h

  owner_inside : (e : Expression) (k : Kind) (a : Attribute) → HasKind scope e k → has_attribute a k ≡ true → Inside (asked_of e a)
  owner_inside e k a h has = variable_alone (λ e. Inside (asked_of e a)) k a has (λ v column. variable_inside v k a column) e h

  -- ---- a variable itself

  kept_below : (v : Variable) (k : Kind) → IsColumn scope v k → reads_below wide (variable v) ≡ true
  kept_below v k column =
      subst (λ (c : Option ℕ). option_map_or (λ n. nat_lt n wide) c true ≡ true) (sym column.1)
      (let inside : column.0 < length scope = slice_get_within scope column.0 (v.name, k) column.2 in lt-ltb column.0 wide (omega (arith, inside)))

  kept : (v : Variable) (k : Kind) → IsColumn scope v k → OnRows (λ graph row. column_value v.column (with_values graph wanted row) ≡ column_value v.column row)
  kept v k column graph row fit =
      let inside : column.0 < length scope = slice_get_within scope column.0 (v.name, k) column.2 in
      let long : length row ≡ length scope = fits_long scope row fit in
      subst (λ (c : Option ℕ). column_value c (with_values graph wanted row) ≡ column_value c row) (sym column.1)
      (get_or-append row (map (value_on graph row) wanted) _ column.0 (omega (arith, inside, long)))

  -- ---- the whole

  abbrev Good : Expression → Type 0
  Good e =
      (reads_columns (lowered at e) ≡ true) × (reads_below wide (lowered at e) ≡ true)
      × OnRows (λ graph row. IsReadable at (lookups graph) row (with_values graph wanted row) e)

  abbrev AllGood : Expressions → Type 0
  AllGood es =
      (all_read_columns (lowered_expressions at es) ≡ true) × (all_read_below wide (lowered_expressions at es) ≡ true)
      × OnRows (λ graph row. AreReadable at (lookups graph) row (with_values graph wanted row) es)

  abbrev LinksGood : Links → Type 0
  LinksGood links =
      (links_read_columns (lowered_links at links) ≡ true) × (links_read_below wide (lowered_links at links) ≡ true)
      × OnRows (λ graph row. AreLinksReadable at (lookups graph) row (with_values graph wanted row) links)

  abbrev ArmsGood : Arms → Type 0
  ArmsGood arms =
      (arms_read_columns (lowered_arms at arms) ≡ true) × (arms_read_below wide (lowered_arms at arms) ≡ true)
      × OnRows (λ graph row. AreArmsReadable at (lookups graph) row (with_values graph wanted row) arms)

  abbrev ElseGood : Otherwise → Type 0
  ElseGood e =
      (else_reads_columns (lowered_otherwise at e) ≡ true) × (else_reads_below wide (lowered_otherwise at e) ≡ true)
      × OnRows (λ graph row. IsOtherwiseReadable at (lookups graph) row (with_values graph wanted row) e)

  -- calls, by their functions
  abbrev CallGood : Name → Bool → Expressions → Option Function → Type 0
  CallGood name distinct es f =
      (reads_columns (lowered_call at f es (call name distinct (lowered_expressions at es))) ≡ true)
      × (reads_below wide (lowered_call at f es (call name distinct (lowered_expressions at es))) ≡ true)
      × OnRows (λ graph row. IsCallReadable at (lookups graph) row (with_values graph wanted row) f es (AreReadable at (lookups graph) row (with_values graph wanted row) es))

  single_stays : (f : Function) → reads_graph (Some f) ≡ false → (e asked : Expression) → lowered_single at (Some f) e asked ≡ asked
  single_stays function.Labels h e asked = absurd (true≢false h)
  single_stays function.Type h e asked = absurd (true≢false h)
  single_stays function.Exists h e asked = absurd (true≢false h)
  single_stays f h e asked = refl

  call_stays : (f : Function) → reads_graph (Some f) ≡ false → (es : Expressions) (asked : Expression) → lowered_call at (Some f) es asked ≡ asked
  call_stays f h no_more asked = refl
  call_stays f h (more e no_more) asked = single_stays f h e asked
  call_stays f h (more e (more d es)) asked = refl

  call_readable : (f : Function) → reads_graph (Some f) ≡ false → (graph : Content) (row : List Cell) (es : Expressions) (each : Type 0) → each
      → IsCallReadable at (lookups graph) row (with_values graph wanted row) (Some f) es each
  call_readable function.Labels h graph row es each here = absurd (true≢false h)
  call_readable function.Type h graph row es each here = absurd (true≢false h)
  call_readable function.Exists h graph row es each here = absurd (true≢false h)
  call_readable f h graph row es each here = here

  other_good : (name : Name) (distinct : Bool) (es : Expressions) (f : Function) → function_named name ≡ Some f → reads_graph (Some f) ≡ false → AllGood es → CallGood name distinct es (Some f)
  other_good name distinct es f is unread good =
      let asks : Expression = call name distinct (lowered_expressions at es) in (
        subst (λ (e : Expression). reads_columns e ≡ true) (sym (call_stays f unread es asks))
            (and_from (not (reads_graph (function_named name))) (all_read_columns (lowered_expressions at es)) (ap (λ (o : Option Function). not (reads_graph o)) is ∙ ap not unread) good.0),
        subst (λ (e : Expression). reads_below wide e ≡ true) (sym (call_stays f unread es asks)) good.1,
        λ graph row fit. call_readable f unread graph row es (AreReadable at (lookups graph) row (with_values graph wanted row) es) (good.2 graph row fit),
      )

  -- the kind of a single argument
  single_takes : (f : Function) (distinct : Bool) (es : Expressions) (kinds others : List Kind) (k : Kind) → is_call_of f distinct es kinds ≡ true → kinds ≡ k ∷ others → takes f k ≡ true
  single_takes f distinct es kinds others k is same =
      (and_parts (takes f k) (list_all (takes f) others) (ap (list_all (takes f)) (sym same) ∙ (and_parts (has_form f distinct es) (list_all (takes f) kinds) is).1)).0

  labels_good : (name : Name) (distinct : Bool) (es : Expressions) (kinds : List Kind) → HaveKinds scope es kinds → is_call_of function.Labels distinct es kinds ≡ true
      → Among (asked_of_first es Labels) → CallGood name distinct es (Some function.Labels)
  labels_good name distinct no_more kinds h is among = absurd (false≢true is)
  labels_good name distinct (more e no_more) kinds h is among =
      owner e h.0 Labels h.3 (single_takes function.Labels distinct (more e no_more) kinds h.1 h.0 is h.2) among
  labels_good name distinct (more e (more d es)) kinds h is among = absurd (false≢true is)

  labels_inside : (distinct : Bool) (es : Expressions) (kinds : List Kind) → HaveKinds scope es kinds → is_call_of function.Labels distinct es kinds ≡ true → Inside (asked_of_first es Labels)
  labels_inside distinct no_more kinds h is = tt
  labels_inside distinct (more e es) kinds h is =
      owner_inside e h.0 Labels h.3 (single_takes function.Labels distinct (more e es) kinds h.1 h.0 is h.2)

  type_good : (name : Name) (distinct : Bool) (es : Expressions) (kinds : List Kind) → HaveKinds scope es kinds → is_call_of function.Type distinct es kinds ≡ true
      → Among (asked_of_first es RelType) → CallGood name distinct es (Some function.Type)
  type_good name distinct no_more kinds h is among = absurd (false≢true is)
  type_good name distinct (more e no_more) kinds h is among =
      owner e h.0 RelType h.3 (single_takes function.Type distinct (more e no_more) kinds h.1 h.0 is h.2) among
  type_good name distinct (more e (more d es)) kinds h is among = absurd (false≢true is)

  type_inside : (distinct : Bool) (es : Expressions) (kinds : List Kind) → HaveKinds scope es kinds → is_call_of function.Type distinct es kinds ≡ true → Inside (asked_of_first es RelType)
  type_inside distinct no_more kinds h is = tt
  type_inside distinct (more e es) kinds h is =
      owner_inside e h.0 RelType h.3 (single_takes function.Type distinct (more e es) kinds h.1 h.0 is h.2)

  -- exists asks for a property of a variable
  abbrev ExistsGood : Name → Bool → Name → Expression → Type 0
  ExistsGood name distinct key e = Among (asked_of e (Property key)) → CallGood name distinct (more (property e key) no_more) (Some function.Exists)

  variable_exists : (name : Name) (distinct : Bool) (key : Name) (k : Kind) → has_attribute (Property key) k ≡ true → (v : Variable) → IsColumn scope v k
      → ExistsGood name distinct key (variable v)
  variable_exists name distinct key k has v column among =
      let owned : Owned (variable v) (Property key) = variable_owned v k (Property key) column has among in
      let below : reads_below wide (variable v) ≡ true = kept_below v k column in
      (refl, (λ i. (below i && true && true) && owned.1 i), λ graph row fit. (kept v k column graph row fit, owned.2 graph row fit))

  exists_one : (name : Name) (distinct : Bool) (e : Expression) (k : Kind) → is_property (more e no_more) ≡ true → HasKind scope e k → Among (asked e)
      → CallGood name distinct (more e no_more) (Some function.Exists)
  exists_one name distinct (property e key) k is h among =
      variable_alone (ExistsGood name distinct key) h.1 (Property key) h.3 (variable_exists name distinct key h.1 h.3) e h.2 among
  exists_one name distinct _ k is h among = absurd (false≢true is)

  not_two : (e d : Expression) (es : Expressions) → is_property (more e (more d es)) ≡ true → ⊥
  not_two (property e key) d es is = false≢true is
  not_two _ d es is = false≢true is

  -- the form of a call of exists
  exists_form : (distinct : Bool) (es : Expressions) (kinds : List Kind) → is_call_of function.Exists distinct es kinds ≡ true → is_property es ≡ true
  exists_form distinct es kinds is = (and_parts (is_property es) _ (and_parts (has_form function.Exists distinct es) (list_all (takes function.Exists) kinds) is).0).0

  exists_good : (name : Name) (distinct : Bool) (es : Expressions) (kinds : List Kind) → HaveKinds scope es kinds → is_property es ≡ true → Among (all_asked es)
      → CallGood name distinct es (Some function.Exists)
  exists_good name distinct no_more kinds h is among = absurd (false≢true is)
  exists_good name distinct (more e no_more) kinds h is among = exists_one name distinct e h.0 is h.3 (each_left (IsAmong wanted) (asked e) [] among)
  exists_good name distinct (more e (more d es)) kinds h is among = absurd (not_two e d es is)

  call_good : (name : Name) (distinct : Bool) (es : Expressions) (f : Function) (kinds : List Kind) → function_named name ≡ Some f → HaveKinds scope es kinds → is_call_of f distinct es kinds ≡ true
      → (Among (all_asked es) → AllGood es) → Among (asked_by_call (Some f) es (all_asked es)) → CallGood name distinct es (Some f)
  call_good name distinct es function.Labels kinds is h form good among = labels_good name distinct es kinds h form among
  call_good name distinct es function.Type kinds is h form good among = type_good name distinct es kinds h form among
  call_good name distinct es function.Exists kinds is h form good among = exists_good name distinct es kinds h (exists_form distinct es kinds form) among
  call_good name distinct es f kinds is h form good among = other_good name distinct es (f) is refl (good among)

  call_inside : (distinct : Bool) (es : Expressions) (f : Function) (kinds : List Kind) → HaveKinds scope es kinds → is_call_of f distinct es kinds ≡ true
      → Inside (all_asked es) → Inside (asked_by_call (Some f) es (all_asked es))
  call_inside distinct es function.Labels kinds h form inside = labels_inside distinct es kinds h form
  call_inside distinct es function.Type kinds h form inside = type_inside distinct es kinds h form
  call_inside distinct es f kinds h form inside = inside

  mutual
    -- what an expression asks stands in columns of the row
    pub inside : (e : Expression) (k : Kind) → HasKind scope e k → Inside (asked e)
    inside (property e key) k h = owner_inside e h.1 (Property key) h.2 h.3
    inside (has_labels e labels) k h = owner_inside e h.1 Labels h.2 h.3
    inside (unary operator e) k h = inside e h.1 h.2
    inside (binary operator l r) k h = each_append IsInside (asked l) (asked r) (inside l h.1 h.3) (inside r h.2 h.4)
    inside (comparison e links) k h = each_append IsInside (asked e) (asked_by_links links) (inside e h.1 h.2) (links_inside links h.1 h.3)
    inside (list es) k h = all_inside es h.1 h.2
    inside (case arms e) k h = each_append IsInside (asked_by_arms arms) (asked_by_else e) (arms_inside arms h.0 h.1 h.3) (else_inside e h.2 h.4)
    inside (call name distinct es) k h =
        subst (λ (f : Option Function). Inside (asked_by_call f es (all_asked es))) (sym h.2) (call_inside distinct es h.0 h.1 h.4 h.5 (all_inside es h.1 h.4))
    inside (call_star name) k h = absurd h
    inside _ k h = tt

    all_inside : (es : Expressions) (kinds : List Kind) → HaveKinds scope es kinds → Inside (all_asked es)
    all_inside no_more kinds h = tt
    all_inside (more e es) kinds h = each_append IsInside (asked e) (all_asked es) (inside e h.0 h.3) (all_inside es h.1 h.4)

    links_inside : (links : Links) (k : Kind) → AreComparable scope k links → Inside (asked_by_links links)
    links_inside no_links k h = tt
    links_inside (link by e links) k h = each_append IsInside (asked e) (asked_by_links links) (inside e h.0 h.1) (links_inside links h.0 h.3)

    arms_inside : (arms : Arms) (conditions outcomes : List Kind) → ArmsHaveKinds scope arms conditions outcomes → Inside (asked_by_arms arms)
    arms_inside no_arms conditions outcomes h = tt
    arms_inside (arm condition outcome arms) conditions outcomes h =
        each_append IsInside (asked condition ++ asked outcome) (asked_by_arms arms)
        (each_append IsInside (asked condition) (asked outcome) (inside condition h.0 h.6) (inside outcome h.2 h.7)) (arms_inside arms h.1 h.3 h.8)

    else_inside : (e : Otherwise) (k : Kind) → LastHasKind scope e k → Inside (asked_by_else e)
    else_inside nothing k h = tt
    else_inside (otherwise e) k h = inside e k h

  mutual
    -- and where all of it is wanted, the form over columns is as it should be
    pub good : (e : Expression) (k : Kind) → HasKind scope e k → Among (asked e) → Good e
    good (variable v) k h among = (refl, kept_below v k h, kept v k h)
    good (property e key) k h among = owner e h.1 (Property key) h.2 h.3 among
    good (has_labels e labels) k h among =
        let owned : Owned e Labels = owner e h.1 Labels h.2 h.3 among in
        (all_in_columns (looked_up at e Labels) labels owned.0, all_in_below wide (looked_up at e Labels) labels owned.1, owned.2)
    good (unary operator e) k h among = good e h.1 h.2 among
    good (binary operator l r) k h among =
        let left : Good l = good l h.1 h.3 (each_left (IsAmong wanted) (asked l) (asked r) among) in
        let right : Good r = good r h.2 h.4 (each_right (IsAmong wanted) (asked l) (asked r) among) in
        ((λ i. left.0 i && right.0 i), (λ i. left.1 i && right.1 i), λ graph row fit. (left.2 graph row fit, right.2 graph row fit))
    good (comparison e links) k h among =
        let first : Good e = good e h.1 h.2 (each_left (IsAmong wanted) (asked e) (asked_by_links links) among) in
        let rest : LinksGood links = links_good links h.1 h.3 (each_right (IsAmong wanted) (asked e) (asked_by_links links) among) in
        ((λ i. first.0 i && rest.0 i), (λ i. first.1 i && rest.1 i), λ graph row fit. (first.2 graph row fit, rest.2 graph row fit))
    good (list es) k h among = all_good es h.1 h.2 among
    good (case arms e) k h among =
        let first : ArmsGood arms = arms_good arms h.0 h.1 h.3 (each_left (IsAmong wanted) (asked_by_arms arms) (asked_by_else e) among) in
        let rest : ElseGood e = else_good e h.2 h.4 (each_right (IsAmong wanted) (asked_by_arms arms) (asked_by_else e) among) in
        ((λ i. first.0 i && rest.0 i), (λ i. first.1 i && rest.1 i), λ graph row fit. (first.2 graph row fit, rest.2 graph row fit))
    good (call name distinct es) k h among =
        subst (λ (f : Option Function). Among (asked_by_call f es (all_asked es)) → CallGood name distinct es f) (sym h.2)
        (call_good name distinct es h.0 h.1 h.2 h.4 h.5 (all_good es h.1 h.4)) among
    good (call_star name) k h among = absurd h
    good _ k h among = (refl, refl, λ graph row fit. tt)

    all_good : (es : Expressions) (kinds : List Kind) → HaveKinds scope es kinds → Among (all_asked es) → AllGood es
    all_good no_more kinds h among = (refl, refl, λ graph row fit. tt)
    all_good (more e es) kinds h among =
        let first : Good e = good e h.0 h.3 (each_left (IsAmong wanted) (asked e) (all_asked es) among) in
        let rest : AllGood es = all_good es h.1 h.4 (each_right (IsAmong wanted) (asked e) (all_asked es) among) in
        ((λ i. first.0 i && rest.0 i), (λ i. first.1 i && rest.1 i), λ graph row fit. (first.2 graph row fit, rest.2 graph row fit))

    links_good : (links : Links) (k : Kind) → AreComparable scope k links → Among (asked_by_links links) → LinksGood links
    links_good no_links k h among = (refl, refl, λ graph row fit. tt)
    links_good (link by e links) k h among =
        let first : Good e = good e h.0 h.1 (each_left (IsAmong wanted) (asked e) (asked_by_links links) among) in
        let rest : LinksGood links = links_good links h.0 h.3 (each_right (IsAmong wanted) (asked e) (asked_by_links links) among) in
        ((λ i. first.0 i && rest.0 i), (λ i. first.1 i && rest.1 i), λ graph row fit. (first.2 graph row fit, rest.2 graph row fit))

    arms_good : (arms : Arms) (conditions outcomes : List Kind) → ArmsHaveKinds scope arms conditions outcomes → Among (asked_by_arms arms) → ArmsGood arms
    arms_good no_arms conditions outcomes h among = (refl, refl, λ graph row fit. tt)
    arms_good (arm condition outcome arms) conditions outcomes h among =
        let two : Among (asked condition ++ asked outcome) = each_left (IsAmong wanted) (asked condition ++ asked outcome) (asked_by_arms arms) among in
        let first : Good condition = good condition h.0 h.6 (each_left (IsAmong wanted) (asked condition) (asked outcome) two) in
        let second : Good outcome = good outcome h.2 h.7 (each_right (IsAmong wanted) (asked condition) (asked outcome) two) in
        let rest : ArmsGood arms = arms_good arms h.1 h.3 h.8 (each_right (IsAmong wanted) (asked condition ++ asked outcome) (asked_by_arms arms) among) in (
          (λ i. first.0 i && second.0 i && rest.0 i),
          (λ i. first.1 i && second.1 i && rest.1 i),
          λ graph row fit. (first.2 graph row fit, second.2 graph row fit, rest.2 graph row fit),
        )

    else_good : (e : Otherwise) (k : Kind) → LastHasKind scope e k → Among (asked_by_else e) → ElseGood e
    else_good nothing k h among = (refl, refl, λ graph row fit. tt)
    else_good (otherwise e) k h among = good e k h among
