-- Clauses that update do the same on rows in which the cells that they don't read are null.
use Rattle.std.proofs.Common.{◌≡◌, ℕ, zero, suc, ◌+◌, ◌<◌, ◌≤◌, Bool, true, false, cond, List, [], ◌∷◌, ◌++◌, length, map, Option, None, Some, refl, sym, ap, subst, ◌∙◌, arith}
use Rattle.std.specs.Prelude.{IfSome, Result, Ok, Err, filter, flat_map, fold, option_to_list, slice_get}
use Rattle.std.specs.List.{AllByRecursion}
use Rattle.std.specs.Cmp.{IsTotalOrder}
use Rattle.std.specs.Cmp.Lexicographic.{slice_cmp}
use Rattle.std.specs.Option.{option_and_then, option_map_or}
use Rattle.std.specs.Ordering.{is_gt, ordering_then}
use Rattle.std.proofs.lemmas.Bool.{false≢true}
use Rattle.std.proofs.lemmas.Cmp.{tied_itself}
use Rattle.std.proofs.lemmas.List.{length-append, map-append}
use Rattle.cy_values.specs.declared.numbers.NodeId.{NodeId}
use Rattle.cy_values.specs.declared.scalars.Value.TheVariants as value
use Rattle.cy_values.specs.declared.rows.Cell.{Cell}
use Rattle.cy_values.specs.declared.rows.Cell.TheVariants as cell
use Rattle.cy_values.specs.Order.{cell_order, row_cmp}
use Rattle.cy_values.proofs.Lists.{each_append}
use Rattle.cy_trees.specs.declared.clauses.Length.{Length}
use Rattle.cy_trees.specs.declared.expressions.Variable.{Variable}
use Rattle.cy_trees.specs.Trees.{Expression, MapEntry, NodePattern, RelationshipPattern, Step, Path, Clause, create, set, remove, delete, SetItem, set_property, set_labels, RemoveItem, remove_property, remove_labels}
use Rattle.cy_scope.specs.Views.{is_update}
use Rattle.cy_graph.specs.Graph.{State, with_label, with_node, with_rel, without_label}
use Rattle.cy_oneshot_outcomes.specs.Columns.{column_list, columns_read}
use Rattle.cy_expr.specs.Evaluation.{column_value}
use Rattle.cy_expr.specs.Faults.{on_one}
use Rattle.cy_expr.specs.Operators.{value_in_cell}
use Rattle.cy_oneshot_patterns.specs.Places.{Place, column_at, entries_at, entries_if, link_place, node, path_places, places, step_places}
use Rattle.cy_oneshot_meaning.specs.Order.{in_order, placed}
use Rattle.cy_oneshot_meaning.proofs.Each.{each_in_order}
use Rattle.cy_oneshot_meaning.proofs.KeyOrders.{cells_total}
use Rattle.cy_oneshot.specs.Carried.{AreEntriesRead, AreNeeded, ArePlacesRead, IsClauseRead, IsRemoveRead, IsSetRead, IsVariableRead, carried_from, is_needed}
use Rattle.cy_oneshot.proofs.Carried.{column_carried, from_long, get_from, less_last}
use Rattle.cy_oneshot.proofs.CarriedMatch.{cell_less}
use Rattle.cy_oneshot.proofs.Marked.{known_column}
use Rattle.cy_updates_meaning.specs.declared.faults.UpdateFault.{UpdateFault}
use Rattle.cy_updates_meaning.specs.Creating.{Creation, bound_to, created, ends_of, new_relationship, next_node, next_relationship, node_at_place, node_in_cell, source_of, target_of, type_of, unless_full, with_column, with_new_node, with_node_if, with_node_place, with_path, with_relationship, with_relationship_column, with_step}
use Rattle.cy_updates_meaning.specs.Deleting.{deleted, is_left_over, named, unless_left_over, without_set}
use Rattle.cy_updates_meaning.specs.Faults.{◌>>=◌, each_in_turn, evaluated}
use Rattle.cy_updates_meaning.specs.Setting.{removed_item, set_item, with_labels_changed, with_property, without_property}
use Rattle.cy_updates_meaning.specs.Statements.{GraphTable, create_row, remove_row, rows_taken, set_row, updated}
use Rattle.cy_updates_meaning.specs.Values.{entity_in, entry_values, label_set, map_properties, named_by, set_all, settable, value_on}

-- ---- results that are alike: the one is what a function makes of the other, or they are one fault

abbrev pub Seen : {A B : Type 0} → (B → A) → (B → Type 0) → Result A UpdateFault → Result B UpdateFault → Type 0
Seen view P (Ok x) (Ok y) = (x ≡ view y) × P y
Seen view P (Err fault) (Err other) = fault ≡ other
Seen view P _ _ = ⊥

pub seen_then : {A B C D : Type 0} (view : B → A) (P : B → Type 0) (later : D → C) (Q : D → Type 0) (f : A → Result C UpdateFault) (g : B → Result D UpdateFault)
    → ((y : B) → P y → Seen later Q (f (view y)) (g y)) → (r : Result A UpdateFault) (s : Result B UpdateFault) → Seen view P r s → Seen later Q (r >>= f) (s >>= g)
seen_then view P later Q f g step (Ok x) (Ok y) same = subst (λ z. Seen later Q (f z) (g y)) (sym same.0) (step y same.1)
seen_then view P later Q f g step (Err fault) (Err other) same = same
seen_then view P later Q f g step (Ok x) (Err other) same = absurd same
seen_then view P later Q f g step (Err fault) (Ok y) same = absurd same

-- of one result
pub seen_any : {A C D : Type 0} (later : D → C) (Q : D → Type 0) (f : A → Result C UpdateFault) (g : A → Result D UpdateFault) → ((x : A) → Seen later Q (f x) (g x)) → (r : Result A UpdateFault) → Seen later Q (r >>= f) (r >>= g)
seen_any later Q f g step (Ok x) = step x
seen_any later Q f g step (Err fault) = refl

module _ (needed : List Bool) where
  abbrev less : List Cell → List Cell
  less row = carried_from needed 0 row

  -- ---- what clauses read of a row

  get_option : (row : List Cell) (o : Option ℕ) → IfSome o (λ n. is_needed needed n ≡ true) → option_and_then (slice_get (less row)) o ≡ option_and_then (slice_get row) o
  get_option row None is = refl
  get_option row (Some n) is = get_from needed 0 row n (ap (is_needed needed) (let e : 0 + n ≡ n = omega arith in e) ∙ is)

  value_less : (graph : State) (e : Expression) (row : List Cell) → AreNeeded needed (columns_read e) → value_on graph (less row) e ≡ value_on graph row e
  value_less graph e row read = ap (λ c. evaluated (on_one value_in_cell c)) (cell_less graph.content needed e row read)

  column_less : (row : List Cell) (o : Option ℕ) → AreNeeded needed (column_list o) → column_value o (less row) ≡ column_value o row
  column_less row None read = refl
  column_less row (Some n) read = sym (column_carried needed 0 row n (ap (is_needed needed) (let e : 0 + n ≡ n = omega arith in e) ∙ read.0))

  named_less : (v : Variable) (row : List Cell) → IsVariableRead needed v → named_by v (less row) ≡ named_by v row
  named_less v row read = ap entity_in (column_less row v.column read)

  entries_less : (graph : State) (row : List Cell) (es : List MapEntry) → AreEntriesRead needed es → entry_values graph (less row) es ≡ entry_values graph row es
  entries_less graph row [] read = refl
  entries_less graph row (e ∷ es) read =
      λ j. value_less graph e.value row read.0 j >>= λ v. settable v >>= λ w. entries_less graph row es read.1 j >>= λ others. Ok ((e.key, w) ∷ others)

  properties_less : (graph : State) (row : List Cell) (o : Option (List MapEntry)) → AreEntriesRead needed (entries_if o) → map_properties graph (less row) o ≡ map_properties graph row o
  properties_less graph row o read = ap (λ r. r >>= λ values. Ok (set_all [] values)) (entries_less graph row (entries_if o) read)

-- ---- rows that go over the columns that may not be needed, and, if they are alike, have the cells of one row in those that aren't

abbrev pub IsOver : List Bool → Bool → List Cell → List Cell → Type 0
IsOver needed alike base row = (length needed ≤ length row) × (alike ≡ true → (column : ℕ) → is_needed needed column ≡ false → slice_get row column ≡ slice_get base column)

get_append : (row : List Cell) (c : Cell) (column : ℕ) → column < length row → slice_get (row ++ c ∷ []) column ≡ slice_get row column
get_append [] c column within = absurd (omega arith)
get_append (d ∷ row) c zero within = refl
get_append (d ∷ row) c (suc column) within = get_append row c column (omega arith)

module _ (needed : List Bool) (alike : Bool) (base : List Cell) where
  abbrev Over : List Cell → Type 0
  Over row = IsOver needed alike base row

  pub over_more : (row : List Cell) (c : Cell) → Over row → Over (row ++ c ∷ [])
  over_more row c over =
      let long : length needed ≤ length row = over.0 in
      let more : length (row ++ c ∷ []) ≡ length row + 1 = length-append row (c ∷ []) in
      (omega (arith, long, more), λ are column not. get_append row c column (let within : column < length needed = known_column needed column not in omega (arith, within, long)) ∙ over.1 are column not)

  abbrev small : List Cell → List Cell
  small row = carried_from needed 0 row

  -- ---- the order of rows

  module _ (total : IsTotalOrder row_cmp) (are : alike ≡ true) where
    order_from : (place : ℕ) (row other : List Cell) → ((column : ℕ) → is_needed needed (place + column) ≡ false → slice_get row column ≡ slice_get other column)
        → slice_cmp cell_order (carried_from needed place row) (carried_from needed place other) ≡ slice_cmp cell_order row other
    order_from place [] [] same = refl
    order_from place [] (d ∷ other) same = refl
    order_from place (c ∷ row) [] same = refl
    order_from place (c ∷ row) (d ∷ other) same =
        let rest : slice_cmp cell_order (carried_from needed (place + 1) row) (carried_from needed (place + 1) other) ≡ slice_cmp cell_order row other =
        order_from (place + 1) row other (λ column not. same (suc column) (ap (is_needed needed) (let e : place + suc column ≡ place + 1 + column = omega arith in e) ∙ not)) in
        elim (is_needed needed place) as (λ b. is_needed needed place ≡ b
        → ordering_then (cell_order (cond b c (cell.Value value.Null)) (cond b d (cell.Value value.Null))) (slice_cmp cell_order (carried_from needed (place + 1) row) (carried_from needed (place + 1) other))
        ≡ ordering_then (cell_order c d) (slice_cmp cell_order row other)) [
          | true ↦ λ h. ap (ordering_then (cell_order c d)) rest
          | false ↦ λ h.
              let heads : Some c ≡ Some d = same zero (ap (is_needed needed) (let e : place + zero ≡ place = omega arith in e) ∙ h) in
              let one : c ≡ d = cc heads in
              rest ∙ ap (λ o. ordering_then o (slice_cmp cell_order row other)) (sym (ap (cell_order c) (sym one) ∙ tied_itself (cells_total total) c))
        ] refl

    order_less : (row other : List Cell) → Over row → Over other → row_cmp (small row) (small other) ≡ row_cmp row other
    order_less row other over also =
        order_from 0 row other (λ column not.
        let same : is_needed needed column ≡ false = ap (is_needed needed) (let e : column ≡ 0 + column = omega arith in e) ∙ not in
        over.1 are column same ∙ sym (also.1 are column same))

    placed_less : (row : List Cell) (rows : List (List Cell)) → Over row → AllByRecursion Over rows → placed row_cmp (small row) (map small rows) ≡ map small (placed row_cmp row rows)
    placed_less row [] over all = refl
    placed_less row (other ∷ rows) over all =
        ap (λ o. cond (is_gt o) (small other ∷ placed row_cmp (small row) (map small rows)) (small row ∷ small other ∷ map small rows)) (order_less row other over all.0)
        ∙ elim (is_gt (row_cmp row other)) as (λ b. cond b (small other ∷ placed row_cmp (small row) (map small rows)) (small row ∷ small other ∷ map small rows)
        ≡ map small (cond b (other ∷ placed row_cmp row rows) (row ∷ other ∷ rows))) [
          | true ↦ ap (λ rs. small other ∷ rs) (placed_less row rows over all.1)
          | false ↦ refl
        ]

    in_order_less : (rows : List (List Cell)) → AllByRecursion Over rows → in_order row_cmp (map small rows) ≡ map small (in_order row_cmp rows)
    in_order_less [] all = refl
    in_order_less (row ∷ rows) all =
        ap (placed row_cmp (small row)) (in_order_less rows all.1) ∙ placed_less row (in_order row_cmp rows) all.0 (each_in_order Over row_cmp rows all.1)

  -- ---- CREATE

  abbrev lessened : Creation → Creation
  lessened d = record d { row = small d.row }

  abbrev OverRow : Creation → Type 0
  OverRow d = Over d.row

  abbrev Goes : Result Creation UpdateFault → Result Creation UpdateFault → Type 0
  Goes r s = Seen lessened OverRow r s

  with_column_less : (v : Option Variable) (c : Cell) (row : List Cell) → Over row → with_column v c (small row) ≡ small (with_column v c row)
  with_column_less None c row over = refl
  with_column_less (Some v) c row over = sym (less_last needed row c (from_long needed row over.0))

  with_column_over : (v : Option Variable) (c : Cell) (row : List Cell) → Over row → Over (with_column v c row)
  with_column_over None c row over = over
  with_column_over (Some v) c row over = over_more row c over

  module _ (before : List Cell) where
    bound_less : (n : NodePattern) (row : List Cell) → IfSome (column_at (node n)) (λ column. is_needed needed column ≡ true) → bound_to n (small row) ≡ bound_to n row
    bound_less n row is = get_option needed row (column_at (node n)) is

    abbrev IsNodeRead : NodePattern → Type 0
    IsNodeRead n = IfSome (column_at (node n)) (λ column. is_needed needed column ≡ true) × AreEntriesRead needed (entries_if n.properties)

    new_node_goes : (n : NodePattern) (d : Creation) → IsNodeRead n → Over d.row → Goes (with_new_node (small before) n (lessened d)) (with_new_node before n d)
    new_node_goes n d read over =
        let cell_made : Cell = cell.Node (next_node d.graph) in
        subst (λ r. Goes (r >>= λ props. unless_full d.graph.next_node >>= λ _. Ok (record {
          graph = with_node (record { labels = label_set n.labels; props = props }) d.graph;
          row = with_column n.variable cell_made (small d.row);
          last = Some (next_node d.graph);
        })) (with_new_node before n d)) (sym (properties_less needed d.graph before n.properties read.1))
        (seen_any lessened OverRow (λ props. unless_full d.graph.next_node >>= λ _. Ok (record {
          graph = with_node (record { labels = label_set n.labels; props = props }) d.graph;
          row = with_column n.variable cell_made (small d.row);
          last = Some (next_node d.graph);
        })) (λ props. unless_full d.graph.next_node >>= λ _. Ok (record {
          graph = with_node (record { labels = label_set n.labels; props = props }) d.graph;
          row = with_column n.variable cell_made d.row;
          last = Some (next_node d.graph);
        })) (λ props. seen_any lessened OverRow (λ _. Ok (record {
          graph = with_node (record { labels = label_set n.labels; props = props }) d.graph;
          row = with_column n.variable cell_made (small d.row);
          last = Some (next_node d.graph);
        })) (λ _. Ok (record {
          graph = with_node (record { labels = label_set n.labels; props = props }) d.graph;
          row = with_column n.variable cell_made d.row;
          last = Some (next_node d.graph);
        })) (λ _. (
          (λ j. record {
            graph = with_node (record { labels = label_set n.labels; props = props }) d.graph;
            row = with_column_less n.variable cell_made d.row over j;
            last = Some (next_node d.graph);
          }),
          with_column_over n.variable cell_made d.row over,
        )) (unless_full d.graph.next_node)) (map_properties d.graph before n.properties))

    node_if_goes : (n : NodePattern) (o : Option Cell) (d : Creation) → IsNodeRead n → Over d.row → Goes (with_node_if (small before) n o (lessened d)) (with_node_if before n o d)
    node_if_goes n (Some c) d read over = (refl, over)
    node_if_goes n None d read over = new_node_goes n d read over

    node_goes : (n : NodePattern) (d : Creation) → IsNodeRead n → Over d.row → Goes (with_node_place (small before) n (lessened d)) (with_node_place before n d)
    node_goes n d read over =
        subst (λ o. Goes (with_node_if (small before) n o (lessened d)) (with_node_place before n d)) (sym (bound_less n d.row read.0)) (node_if_goes n (bound_to n d.row) d read over)

    node_at_less : (n : NodePattern) (d : Creation) → IsNodeRead n → node_at_place n (lessened d) ≡ node_at_place n d
    node_at_less n d read = ap (λ o. option_map_or node_in_cell o (Some (next_node d.graph))) (bound_less n d.row read.0)

    relationship_less : (r : RelationshipPattern) (right : Option NodeId) (d : Creation) → AreEntriesRead needed (entries_if r.properties) → new_relationship (small before) r right (lessened d) ≡ new_relationship before r right d
    relationship_less r right d read =
        ap (λ o. o >>= λ props. ends_of d.last right >>= λ ends. unless_full d.graph.next_rel >>= λ _. Ok (record {
          source = source_of r.direction ends.0 ends.1;
          target = target_of r.direction ends.0 ends.1;
          kind = type_of r.types;
          props = props;
        })) (properties_less needed d.graph before r.properties read)

    abbrev IsStepRead : Step → Type 0
    IsStepRead s = AreEntriesRead needed (entries_if s.relationship.properties) × IsNodeRead s.node

    relationship_goes : (s : Step) (d : Creation) → IsStepRead s → Over d.row → Goes (with_relationship (small before) s (lessened d)) (with_relationship before s d)
    relationship_goes s d read over =
        subst (λ r. Goes (r >>= λ made. with_node_place (small before) s.node (lessened d) >>= λ next. Ok (record next { graph = with_rel made next.graph })) (with_relationship before s d))
        (sym (ap (λ o. new_relationship (small before) s.relationship o (lessened d)) (node_at_less s.node d read.1) ∙ relationship_less s.relationship (node_at_place s.node d) d read.0))
        (seen_any lessened OverRow (λ made. with_node_place (small before) s.node (lessened d) >>= λ next. Ok (record next { graph = with_rel made next.graph }))
        (λ made. with_node_place before s.node d >>= λ next. Ok (record next { graph = with_rel made next.graph }))
        (λ made. seen_then lessened OverRow lessened OverRow (λ (next : Creation). Ok (record next { graph = with_rel made next.graph })) (λ (next : Creation). Ok (record next { graph = with_rel made next.graph }))
        (λ next here. (refl, here)) (with_node_place (small before) s.node (lessened d)) (with_node_place before s.node d) (node_goes s.node d read.1 over))
        (new_relationship before s.relationship (node_at_place s.node d) d))

    step_goes : (s : Step) (d : Creation) → IsStepRead s → Over d.row → Goes (with_step (small before) s (lessened d)) (with_step before s d)
    step_goes s d read over =
        let made : Cell = cell.Rel (next_relationship d.graph) in
        subst (λ row. Goes (with_relationship (small before) s (record d { row = row })) (with_step before s d)) (sym (with_column_less s.relationship.variable made d.row over))
        (relationship_goes s (with_relationship_column s.relationship d) read (with_column_over s.relationship.variable made d.row over))

    link_entries : (r : RelationshipPattern) (l : Option Length) → entries_at (link_place r l) ≡ entries_if r.properties
    link_entries r None = refl
    link_entries r (Some l) = refl

    read_first : (ps qs : List Place) → ArePlacesRead needed (ps ++ qs) → ArePlacesRead needed ps
    read_first [] qs read = tt
    read_first (p ∷ ps) qs read = (read.0, read_first ps qs read.1)

    read_second : (ps qs : List Place) → ArePlacesRead needed (ps ++ qs) → ArePlacesRead needed qs
    read_second [] qs read = read
    read_second (p ∷ ps) qs read = read_second ps qs read.1

    step_read : (s : Step) → ArePlacesRead needed (step_places s) → IsStepRead s
    step_read s read = (subst (λ es. AreEntriesRead needed es) (link_entries s.relationship s.relationship.length) read.0.1, read.1.0)

    steps_go : (steps : List Step) (d : Creation) → ArePlacesRead needed (flat_map step_places steps) → Over d.row → Goes (each_in_turn (with_step (small before)) steps (lessened d)) (each_in_turn (with_step before) steps d)
    steps_go [] d read over = (refl, over)
    steps_go (s ∷ steps) d read over =
        seen_then lessened OverRow lessened OverRow (λ next. each_in_turn (with_step (small before)) steps next) (λ next. each_in_turn (with_step before) steps next)
        (λ next here. steps_go steps next (read_second (step_places s) (flat_map step_places steps) read) here) (with_step (small before) s (lessened d)) (with_step before s d)
        (step_goes s d (step_read s (read_first (step_places s) (flat_map step_places steps) read)) over)

    path_goes : (p : Path) (d : Creation) → ArePlacesRead needed (path_places p) → Over d.row → Goes (with_path (small before) p (lessened d)) (with_path before p d)
    path_goes p d read over =
        seen_then lessened OverRow lessened OverRow (λ next. each_in_turn (with_step (small before)) p.steps next) (λ next. each_in_turn (with_step before) p.steps next)
        (λ next here. steps_go p.steps next read.1 here) (with_node_place (small before) p.start (lessened d)) (with_node_place before p.start d) (node_goes p.start d read.0 over)

    paths_go : (paths : List Path) (d : Creation) → ArePlacesRead needed (places paths) → Over d.row → Goes (each_in_turn (with_path (small before)) paths (lessened d)) (each_in_turn (with_path before) paths d)
    paths_go [] d read over = (refl, over)
    paths_go (p ∷ paths) d read over =
        seen_then lessened OverRow lessened OverRow (λ next. each_in_turn (with_path (small before)) paths next) (λ next. each_in_turn (with_path before) paths next)
        (λ next here. paths_go paths next (read_second (path_places p) (places paths) read) here) (with_path (small before) p (lessened d)) (with_path before p d)
        (path_goes p d (read_first (path_places p) (places paths) read) over)

  -- ---- tables

  abbrev pub small_table : GraphTable → GraphTable
  small_table t = record t { rows = map small t.rows }

  abbrev pub OverTable : GraphTable → Type 0
  OverTable t = AllByRecursion Over t.rows

  row_created : (paths : List Path) → ArePlacesRead needed (places paths) → (row : List Cell) (t : GraphTable) → Over row → OverTable t
      → Seen small_table OverTable (create_row paths (small row) (small_table t)) (create_row paths row t)
  row_created paths read row t over all =
      seen_then lessened OverRow small_table OverTable (λ (made : Creation). Ok (record { graph = made.graph; rows = map small t.rows ++ made.row ∷ [] })) (λ (made : Creation). Ok (record { graph = made.graph; rows = t.rows ++ made.row ∷ [] }))
      (λ made here. ((λ j. record { graph = made.graph; rows = sym (map-append small t.rows (made.row ∷ [])) j }), each_append Over t.rows (made.row ∷ []) all (here, tt)))
      (created t.graph paths (small row)) (created t.graph paths row) (paths_go row paths (record { graph = t.graph; row = row; last = None }) read over)

  rows_created : (paths : List Path) → ArePlacesRead needed (places paths) → (rows : List (List Cell)) (t : GraphTable) → AllByRecursion Over rows → OverTable t
      → Seen small_table OverTable (each_in_turn (create_row paths) (map small rows) (small_table t)) (each_in_turn (create_row paths) rows t)
  rows_created paths read [] t over all = (refl, all)
  rows_created paths read (row ∷ rows) t over all =
      seen_then small_table OverTable small_table OverTable (λ next. each_in_turn (create_row paths) (map small rows) next) (λ next. each_in_turn (create_row paths) rows next)
      (λ next here. rows_created paths read rows next over.1 here) (create_row paths (small row) (small_table t)) (create_row paths row t) (row_created paths read row t over.0 all)

  -- ---- SET

  set_item_less : (i : SetItem) → IsSetRead needed i → (row : List Cell) (graph : State) → set_item (small row) i graph ≡ set_item row i graph
  set_item_less (set_property v key e) read row graph = λ j. value_less needed graph e row read.1 j >>= λ v_set. with_property (named_less needed v row read.0 j) key v_set graph
  set_item_less (set_labels v labels) read row graph = ap (λ x. Ok (with_labels_changed with_label labels x graph)) (named_less needed v row read)

  set_row_less : (items : List SetItem) → AllByRecursion (IsSetRead needed) items → (row : List Cell) (graph : State) → set_row items (small row) graph ≡ set_row items row graph
  set_row_less [] read row graph = refl
  set_row_less (i ∷ items) read row graph = λ j. set_item_less i read.0 row graph j >>= λ next. set_row_less items read.1 row next j

  rows_set : (items : List SetItem) → AllByRecursion (IsSetRead needed) items → (rows : List (List Cell)) (graph : State) → each_in_turn (set_row items) (map small rows) graph ≡ each_in_turn (set_row items) rows graph
  rows_set items read [] graph = refl
  rows_set items read (row ∷ rows) graph = λ j. set_row_less items read row graph j >>= λ next. rows_set items read rows next j

  -- ---- REMOVE

  removed_less : (i : RemoveItem) → IsRemoveRead needed i → (row : List Cell) (graph : State) → removed_item (small row) graph i ≡ removed_item row graph i
  removed_less (remove_property v key) read row graph = ap (λ x. without_property x key graph) (named_less needed v row read)
  removed_less (remove_labels v labels) read row graph = ap (λ x. with_labels_changed without_label labels x graph) (named_less needed v row read)

  remove_row_less : (items : List RemoveItem) → AllByRecursion (IsRemoveRead needed) items → (row : List Cell) (graph : State) → remove_row items graph (small row) ≡ remove_row items graph row
  remove_row_less [] read row graph = refl
  remove_row_less (i ∷ items) read row graph = ap (λ g. remove_row items g (small row)) (removed_less i read.0 row graph) ∙ remove_row_less items read.1 row (removed_item row graph i)

  rows_removed : (items : List RemoveItem) → AllByRecursion (IsRemoveRead needed) items → (rows : List (List Cell)) (graph : State) → fold (remove_row items) graph (map small rows) ≡ fold (remove_row items) graph rows
  rows_removed items read [] graph = refl
  rows_removed items read (row ∷ rows) graph = ap (λ g. fold (remove_row items) g (map small rows)) (remove_row_less items read row graph) ∙ rows_removed items read rows (remove_row items graph row)

  -- ---- DELETE

  names_less : (variables : List Variable) → AllByRecursion (IsVariableRead needed) variables → (row : List Cell)
      → flat_map (λ v. option_to_list (named_by v (small row))) variables ≡ flat_map (λ v. option_to_list (named_by v row)) variables
  names_less [] read row = refl
  names_less (v ∷ variables) read row = λ j. option_to_list (named_less needed v row read.0 j) ++ names_less variables read.1 row j

  all_names_less : (variables : List Variable) → AllByRecursion (IsVariableRead needed) variables → (rows : List (List Cell)) → named variables (map small rows) ≡ named variables rows
  all_names_less variables read [] = refl
  all_names_less variables read (row ∷ rows) = λ j. names_less variables read row j ++ all_names_less variables read rows j

  -- ---- a clause

  taken_less : (c : Clause) → is_update c ≡ true → IsClauseRead needed c → (graph : State) (rows : List (List Cell)) → AllByRecursion Over rows
      → Seen small_table OverTable (rows_taken graph c (map small rows)) (rows_taken graph c rows)
  taken_less (create paths) updates read graph rows over = rows_created paths read rows (record { graph = graph; rows = [] }) over tt
  taken_less (set items) updates read graph rows over =
      subst (λ r. Seen small_table OverTable (r >>= λ after. Ok (record { graph = after; rows = map small rows })) (rows_taken graph (set items) rows)) (sym (rows_set items read rows graph))
      (seen_any small_table OverTable (λ (after : State). Ok (record { graph = after; rows = map small rows })) (λ (after : State). Ok (record { graph = after; rows = rows })) (λ after. (refl, over)) (each_in_turn (set_row items) rows graph))
  taken_less (remove items) updates read graph rows over = ((λ j. record { graph = rows_removed items read rows graph j; rows = map small rows }), over)
  taken_less (delete detach variables) updates read graph rows over =
      subst (λ r. Seen small_table OverTable (r >>= λ after. Ok (record { graph = after; rows = [] })) (rows_taken graph (delete detach variables) rows))
      (sym (ap (λ set. unless_left_over (filter (is_left_over detach set) graph.content.rels) (without_set detach set graph)) (all_names_less variables read rows)))
      (seen_any small_table OverTable (λ (after : State). Ok (record { graph = after; rows = [] })) (λ (after : State). Ok (record { graph = after; rows = [] })) (λ after. (refl, tt)) (deleted graph detach variables rows))
  taken_less _ updates read graph rows over = absurd (false≢true updates)

  pub updated_less : IsTotalOrder row_cmp → alike ≡ true → (c : Clause) → is_update c ≡ true → IsClauseRead needed c → (graph : State) (rows : List (List Cell)) → AllByRecursion Over rows
      → Seen small_table OverTable (updated graph c (map small rows)) (updated graph c rows)
  updated_less total are c updates read graph rows over =
      subst (λ rs. Seen small_table OverTable (rows_taken graph c rs) (updated graph c rows)) (sym (in_order_less total are rows over))
      (taken_less c updates read graph (in_order row_cmp rows) (each_in_order Over row_cmp rows over))
