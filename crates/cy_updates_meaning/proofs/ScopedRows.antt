-- The rows after an updating clause fit the scope after it.
use Rattle.std.proofs.Common.{◌≡◌, ℕ, zero, suc, ◌<◌, ◌≤◌, true, false, cond, ◌&&◌, List, [], ◌∷◌, ◌++◌, map, length, append_assoc, Option, Some, None, is_some, refl, sym, ap, subst, ◌∙◌, arith}
use Rattle.std.specs.Prelude.{Result, Ok, Err, IfOk, is_none, slice_get}
use Rattle.std.specs.List.{AllByRecursion}
use Rattle.std.specs.Option.{option_and_then}
use Rattle.std.proofs.lemmas.Bool.{and_parts, false≢true}
use Rattle.std.proofs.lemmas.List.{append-nil}
use Rattle.cy_values.specs.declared.rows.Cell.{Cell}
use Rattle.cy_values.specs.declared.rows.Cell.TheVariants as cell
use Rattle.cy_values.specs.Order.{row_cmp}
use Rattle.cy_values.proofs.Lists.{each_append}
use Rattle.cy_trees.specs.declared.clauses.Length.{Length}
use Rattle.cy_trees.specs.declared.expressions.Variable.{Variable}
use Rattle.cy_trees.specs.Trees.{Name, MapEntry, NodePattern, RelationshipPattern, Step, Path, Clause, create, set, remove, delete}
use Rattle.cy_scope_kinds.specs.declared.faults.ScopeFault.TheVariants.{AlreadyBound, BadCreate}
use Rattle.cy_scope_kinds.specs.declared.kinds.Kind.{Kind}
use Rattle.cy_scope_kinds.specs.declared.kinds.Kind.TheVariants as kind
use Rattle.cy_scope.specs.ClauseFaults.{clause_fault}
use Rattle.cy_scope.specs.ClauseScopes.{scope_after}
use Rattle.cy_scope_kinds.specs.Faults.{first, unless}
use Rattle.cy_scope.specs.PatternFaults.{can_be_made, has_steps, is_directed, is_one_type, map_fault, node_fault, path_fault, paths_fault, relationship_fault, relationship_name_fault, step_fault, steps_fault}
use Rattle.cy_scope.specs.Resolved.{resolved_clause, resolved_map, resolved_name, resolved_node, resolved_path, resolved_step, resolved_variable}
use Rattle.cy_scope_kinds.specs.Rows.{is_cell_of, row_fits}
use Rattle.cy_scope_kinds.specs.Scopes.{Scope, added, find_column, find_kind, is_bound, relationship_kind, with_path, with_paths, with_step, with_steps}
use Rattle.cy_scope.specs.Views.{is_update}
use Rattle.cy_scope.proofs.KindedExpressions.{first_none, unless_none}
use Rattle.cy_graph.specs.Graph.{State, with_node, with_rel}
use Rattle.cy_oneshot_meaning.specs.Order.{in_order}
use Rattle.cy_oneshot_meaning.proofs.Each.{each_in_order}
use Rattle.cy_oneshot_meaning.proofs.ScopePlaces.{GoesOn, added_on, bound_column, fits_more, new_column, old_column, same_length}
use Rattle.cy_updates_meaning.specs.declared.faults.UpdateFault.{UpdateFault}
use Rattle.cy_updates_meaning.specs.Creating.{Creation, bound_to, created, new_relationship, next_node, next_relationship, node_at_place, unless_full, with_column, with_new_node, with_node_if, with_node_place, with_path as with_created_path, with_relationship_column, with_step as with_created_step}
use Rattle.cy_updates_meaning.specs.Deleting.{deleted}
use Rattle.cy_updates_meaning.specs.Faults.{◌>>=◌, each_in_turn}
use Rattle.cy_updates_meaning.specs.Statements.{GraphTable, create_row, rows_taken, updated}
use Rattle.cy_updates_meaning.specs.Values.{label_set, map_properties}
use Rattle.cy_updates_meaning.proofs.Created.{each_leads}
use Rattle.cy_updates_meaning.proofs.StoredValues.{and_any, and_then}

-- ---- scopes that go on

goes_then : (a b c : Scope) → GoesOn a b → GoesOn b c → GoesOn a c
goes_then a b c first second = (first.0 ++ second.0, second.1 ∙ ap (λ (s : Scope). s ++ second.0) first.1 ∙ append_assoc a first.0 second.0)

step_on : (scope : Scope) (s : Step) → GoesOn scope (with_step scope s)
step_on scope s =
    let between : Scope = added scope (relationship_kind s.relationship.length) s.relationship.variable in
    goes_then scope between (with_step scope s) (added_on scope (relationship_kind s.relationship.length) s.relationship.variable) (added_on between kind.Node s.node.variable)

steps_on : (scope : Scope) (steps : List Step) → GoesOn scope (with_steps scope steps)
steps_on scope [] = ([], sym (append-nil scope))
steps_on scope (s ∷ steps) = goes_then scope (with_step scope s) (with_steps (with_step scope s) steps) (step_on scope s) (steps_on (with_step scope s) steps)

paths_on : (scope : Scope) (paths : List Path) → GoesOn scope (with_paths scope paths)
paths_on scope [] = ([], sym (append-nil scope))
paths_on scope (p ∷ paths) =
    let start : Scope = added scope kind.Node p.start.variable in
    goes_then scope (with_path scope p) (with_paths (with_path scope p) paths)
    (goes_then scope start (with_path scope p) (added_on scope kind.Node p.start.variable) (steps_on start p.steps)) (paths_on (with_path scope p) paths)

-- ---- rows

there : (row : List Cell) (i : ℕ) → i < length row → is_some (slice_get row i) ≡ true
there [] i lt = absurd (omega arith)
there (c ∷ row) zero lt = refl
there (c ∷ row) (suc i) lt = there row i (omega arith)

not_there : (row : List Cell) (i : ℕ) → length row ≤ i → slice_get row i ≡ None
not_there [] i le = refl
not_there (c ∷ row) zero le = absurd (omega arith)
not_there (c ∷ row) (suc i) le = not_there row i (omega arith)

-- a variable that isn't bound, if there is one
abbrev IfNew : Scope → Option Variable → Type 0
IfNew scope None = Unit {0}
IfNew scope (Some v) = is_bound scope v.name ≡ false

-- a new variable gets a column of its kind
column_fits : (after scope : Scope) (v : Option Variable) (k : Kind) (c : Cell) (row : List Cell) → IfNew scope v → is_cell_of k c ≡ true → row_fits scope row ≡ true
    → row_fits (added scope k v) (with_column (resolved_name after v) c row) ≡ true
column_fits after scope None k c row new here fit = fit
column_fits after scope (Some v) k c row new here fit =
    subst (λ b. row_fits (cond b scope (scope ++ (v.name, k) ∷ [])) (row ++ c ∷ []) ≡ true) (sym new) (fits_more scope row v.name k c fit here)

module _ (after : Scope) (before : List Cell) where
  abbrev FitsIn : Scope → Creation → Type 0
  FitsIn scope c = row_fits scope c.row ≡ true

  -- ---- node places

  module _ (scope : Scope) (v : Option Variable) (labels : List Name) (properties : Option (List MapEntry)) (c : Creation) (fit : FitsIn scope c) where
    abbrev place : NodePattern
    place = record { variable = resolved_name after v; labels = labels; properties = resolved_map after properties }

    new_fits : IfNew scope v → IfOk (with_new_node before place c) (FitsIn (added scope kind.Node v))
    new_fits new =
        and_any (FitsIn (added scope kind.Node v)) (λ props. unless_full c.graph.next_node >>= λ _. Ok (record {
          graph = with_node (record { labels = label_set labels; props = props }) c.graph;
          row = with_column (resolved_name after v) (cell.Node (next_node c.graph)) c.row;
          last = Some (next_node c.graph);
        }))
        (λ props. and_any (FitsIn (added scope kind.Node v)) (λ _. Ok (record {
          graph = with_node (record { labels = label_set labels; props = props }) c.graph;
          row = with_column (resolved_name after v) (cell.Node (next_node c.graph)) c.row;
          last = Some (next_node c.graph);
        })) (λ _. column_fits after scope v kind.Node (cell.Node (next_node c.graph)) c.row new refl fit) (unless_full c.graph.next_node))
        (map_properties c.graph before (resolved_map after properties))

    -- what isn't bound is new
    free_fits : bound_to place c.row ≡ None → IfNew scope v → IfOk (with_node_place before place c) (FitsIn (added scope kind.Node v))
    free_fits free new = subst (λ o. IfOk (with_node_if before place o c) (FitsIn (added scope kind.Node v))) (sym free) (new_fits new)

    -- what is bound leaves the row
    bound_fits : is_some (bound_to place c.row) ≡ true → added scope kind.Node v ≡ scope → IfOk (with_node_place before place c) (FitsIn (added scope kind.Node v))
    bound_fits bound same =
        subst (λ (s : Scope). IfOk (with_node_place before place c) (FitsIn s)) (sym same) (kept (bound_to place c.row) bound)
      where
        kept : (o : Option Cell) → is_some o ≡ true → IfOk (with_node_if before place o c) (FitsIn scope)
        kept None bound = absurd (false≢true bound)
        kept (Some d) bound = fit

  place_fits_by : (scope : Scope) (v : Option Variable) (labels : List Name) (properties : Option (List MapEntry)) (c : Creation) → GoesOn (added scope kind.Node v) after → FitsIn scope c
      → IfOk (with_node_place before (record { variable = resolved_name after v; labels = labels; properties = resolved_map after properties }) c) (FitsIn (added scope kind.Node v))
  place_fits_by scope None labels properties c goes fit = free_fits scope None labels properties c fit refl tt
  place_fits_by scope (Some v) labels properties c goes fit =
      let long : length c.row ≡ length scope = same_length scope c.row fit in
      elim (is_bound scope v.name) as (λ b. is_bound scope v.name ≡ b → IfOk (with_node_place before (record { variable = resolved_name after (Some v); labels = labels; properties = resolved_map after properties }) c)
      (FitsIn (added scope kind.Node (Some v)))) [
        | true ↦ λ bound.
            let old = bound_column scope v.name bound in
            let same : added scope kind.Node (Some v) ≡ scope = ap (λ b. cond b scope (scope ++ (v.name, kind.Node) ∷ [])) bound in
            let column : find_column after v.name ≡ Some old.0 =
            ap (λ (s : Scope). find_column s v.name) (goes.1 ∙ ap (λ (s : Scope). s ++ goes.0) same) ∙ old_column scope goes.0 v.name old.0 old.1 in
            let below : old.0 < length scope = old.2 in
            bound_fits scope (Some v) labels properties c fit (ap (λ o. is_some (option_and_then (slice_get c.row) o)) column ∙ there c.row old.0 (omega (arith, below, long))) same
        | false ↦ λ unbound.
            let same : added scope kind.Node (Some v) ≡ scope ++ (v.name, kind.Node) ∷ [] = ap (λ b. cond b scope (scope ++ (v.name, kind.Node) ∷ [])) unbound in
            let column : find_column after v.name ≡ Some (length scope) =
            ap (λ (s : Scope). find_column s v.name) (goes.1 ∙ ap (λ (s : Scope). s ++ goes.0) same)
            ∙ old_column (scope ++ (v.name, kind.Node) ∷ []) goes.0 v.name (length scope) (new_column scope v.name kind.Node unbound) in
            free_fits scope (Some v) labels properties c fit (ap (option_and_then (slice_get c.row)) column ∙ not_there c.row (length scope) (omega (arith, long))) unbound
      ] refl

  place_fits : (scope : Scope) (n : NodePattern) (c : Creation) → GoesOn (added scope kind.Node n.variable) after → FitsIn scope c
      → IfOk (with_node_place before (resolved_node after n) c) (FitsIn (added scope kind.Node n.variable))
  place_fits scope n c goes fit = place_fits_by scope n.variable n.labels n.properties c goes fit

  -- ---- steps

  not_bound : (o : Option Kind) → is_none o ≡ true → is_some o ≡ false
  not_bound None h = refl
  not_bound (Some k) h = absurd (false≢true h)

  new_name : (first_scope now : Scope) (v : Option Variable) → relationship_name_fault true first_scope now v ≡ None → IfNew now v
  new_name first_scope now None good = tt
  new_name first_scope now (Some v) good = not_bound (find_kind now v.name) (unless_none (is_none (find_kind now v.name)) AlreadyBound good)

  one_relationship : (o : Option Length) → is_none o ≡ true → relationship_kind o ≡ kind.Relationship
  one_relationship None h = refl
  one_relationship (Some l) h = absurd (false≢true h)

  -- what CREATE can make has no length
  no_length : (r : RelationshipPattern) → can_be_made r ≡ true → is_none r.length ≡ true
  no_length r h = (and_parts (is_directed r.direction && is_one_type r.types) (is_none r.length) h).1

  module _ (first_scope : Scope) where
    step_fits : (scope : Scope) (s : Step) (c : Creation) → step_fault true first_scope scope s ≡ None → GoesOn (with_step scope s) after → FitsIn scope c
        → IfOk (with_created_step before (resolved_step after s) c) (FitsIn (with_step scope s))
    step_fits scope s c good goes fit =
        let r : RelationshipPattern = s.relationship in
        let k : Kind = relationship_kind r.length in
        let between : Scope = added scope k r.variable in
        let place_good = first_none (relationship_fault true first_scope scope r) (node_fault true first_scope between true s.node) good in
        let outer = first_none (relationship_name_fault true first_scope scope r.variable) (first (unless (can_be_made r) BadCreate) (map_fault first_scope r.properties)) place_good.0 in
        let made : can_be_made r ≡ true = unless_none (can_be_made r) BadCreate (first_none (unless (can_be_made r) BadCreate) (map_fault first_scope r.properties) outer.1).0 in
        let is_rel : is_cell_of k (cell.Rel (next_relationship c.graph)) ≡ true =
        ap (λ j. is_cell_of j (cell.Rel (next_relationship c.graph))) (one_relationship r.length (no_length r made)) in
        let named : Creation = with_relationship_column (resolved_step after s).relationship c in
        let named_fits : FitsIn between named = column_fits after scope r.variable k (cell.Rel (next_relationship c.graph)) c.row (new_name first_scope scope r.variable outer.0) is_rel fit in
        and_any (FitsIn (with_step scope s)) (λ rel. with_node_place before (resolved_node after s.node) named >>= λ next. Ok (record next { graph = with_rel rel next.graph }))
        (λ rel. and_then (FitsIn (with_step scope s)) (FitsIn (with_step scope s)) (λ next. Ok (record next { graph = with_rel rel next.graph })) (λ next here. here)
        (with_node_place before (resolved_node after s.node) named) (place_fits between s.node named goes named_fits))
        (new_relationship before (resolved_step after s).relationship (node_at_place (resolved_node after s.node) named) named)

    steps_fit : (scope : Scope) (steps : List Step) (c : Creation) → steps_fault true first_scope scope steps ≡ None → GoesOn (with_steps scope steps) after → FitsIn scope c
        → IfOk (each_in_turn (with_created_step before) (map (resolved_step after) steps) c) (FitsIn (with_steps scope steps))
    steps_fit scope [] c good goes fit = fit
    steps_fit scope (s ∷ steps) c good goes fit =
        let next_scope : Scope = with_step scope s in
        let parts = first_none (step_fault true first_scope scope s) (steps_fault true first_scope next_scope steps) good in
        and_then (FitsIn next_scope) (FitsIn (with_steps next_scope steps)) (λ next. each_in_turn (with_created_step before) (map (resolved_step after) steps) next)
        (λ next here. steps_fit next_scope steps next parts.1 goes here) (with_created_step before (resolved_step after s) c)
        (step_fits scope s c parts.0 (goes_then next_scope (with_steps next_scope steps) after (steps_on next_scope steps) goes) fit)

    path_fits : (scope : Scope) (p : Path) (c : Creation) → path_fault true first_scope scope p ≡ None → GoesOn (with_path scope p) after → FitsIn scope c
        → IfOk (with_created_path before (resolved_path after p) c) (FitsIn (with_path scope p))
    path_fits scope p c good goes fit =
        let start : Scope = added scope kind.Node p.start.variable in
        let parts = first_none (node_fault true first_scope scope (has_steps p.steps) p.start) (steps_fault true first_scope start p.steps) good in
        and_then (FitsIn start) (FitsIn (with_path scope p)) (λ next. each_in_turn (with_created_step before) (map (resolved_step after) p.steps) next)
        (λ next here. steps_fit start p.steps next parts.1 goes here) (with_node_place before (resolved_node after p.start) c)
        (place_fits scope p.start c (goes_then start (with_path scope p) after (steps_on start p.steps) goes) fit)

    paths_fit : (scope : Scope) (paths : List Path) (c : Creation) → paths_fault true first_scope scope paths ≡ None → GoesOn (with_paths scope paths) after → FitsIn scope c
        → IfOk (each_in_turn (with_created_path before) (map (resolved_path after) paths) c) (FitsIn (with_paths scope paths))
    paths_fit scope [] c good goes fit = fit
    paths_fit scope (p ∷ paths) c good goes fit =
        let next_scope : Scope = with_path scope p in
        let parts = first_none (path_fault true first_scope scope p) (paths_fault true first_scope next_scope paths) good in
        and_then (FitsIn next_scope) (FitsIn (with_paths next_scope paths)) (λ next. each_in_turn (with_created_path before) (map (resolved_path after) paths) next)
        (λ next here. paths_fit next_scope paths next parts.1 goes here) (with_created_path before (resolved_path after p) c)
        (path_fits scope p c parts.0 (goes_then next_scope (with_paths next_scope paths) after (paths_on next_scope paths) goes) fit)

-- ---- clauses

abbrev RowsFit : Scope → List (List Cell) → Type 0
RowsFit scope rows = AllByRecursion (λ row. row_fits scope row ≡ true) rows

module _ (scope : Scope) (paths : List Path) (good : paths_fault true scope scope paths ≡ None) where
  abbrev later : Scope
  later = with_paths scope paths

  row_created : (row : List Cell) (so_far : GraphTable) → row_fits scope row ≡ true → RowsFit later so_far.rows
      → IfOk (create_row (map (resolved_path later) paths) row so_far) (λ t. RowsFit later t.rows)
  row_created row so_far fit before =
      and_then (λ (c : Creation). row_fits later c.row ≡ true) (λ (t : GraphTable). RowsFit later t.rows) (λ made. Ok (record { graph = made.graph; rows = so_far.rows ++ made.row ∷ [] }))
      (λ made here. each_append (λ r. row_fits later r ≡ true) so_far.rows (made.row ∷ []) before (here, tt))
      (created so_far.graph (map (resolved_path later) paths) row)
      (paths_fit later row scope scope paths (record { graph = so_far.graph; row = row; last = None }) good ([], sym (append-nil later)) fit)

module _ (graph : State) (scope : Scope) (rows : List (List Cell)) (fit : RowsFit scope rows) where
  same_rows : (r : Result State UpdateFault) → IfOk (r >>= λ after. Ok (record { graph = after; rows = rows })) (λ (t : GraphTable). RowsFit scope t.rows)
  same_rows (Ok after) = fit
  same_rows (Err fault) = tt

  taken_fit : (clause : Clause) → clause_fault scope clause ≡ None → is_update clause ≡ true
      → IfOk (rows_taken graph (resolved_clause scope (scope_after scope clause) clause) rows) (λ t. RowsFit (scope_after scope clause) t.rows)
  taken_fit (create paths) good updates =
      each_leads (λ row. row_fits scope row ≡ true) (λ (t : GraphTable). RowsFit (with_paths scope paths) t.rows) (create_row (map (resolved_path (with_paths scope paths)) paths))
      (row_created scope paths good) rows fit (record { graph = graph; rows = [] }) tt
  taken_fit (set items) good updates = same_rows _
  taken_fit (remove items) good updates = fit
  taken_fit (delete detach variables) good updates =
      and_any (λ (t : GraphTable). RowsFit scope t.rows) (λ after. Ok (record { graph = after; rows = [] })) (λ after. tt) (deleted graph detach (map (resolved_variable (scope_after scope (delete detach variables))) variables) rows)
  taken_fit _ good updates = absurd (false≢true updates)

pub clause_fits : (graph : State) (scope : Scope) (clause : Clause) (rows : List (List Cell)) → clause_fault scope clause ≡ None → is_update clause ≡ true → RowsFit scope rows
    → IfOk (updated graph (resolved_clause scope (scope_after scope clause) clause) rows) (λ t. RowsFit (scope_after scope clause) t.rows)
clause_fits graph scope clause rows good updates fit =
    taken_fit graph scope (in_order row_cmp rows) (each_in_order (λ row. row_fits scope row ≡ true) row_cmp rows fit) clause good updates
