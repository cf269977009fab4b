-- Groups and aggregates are the same where the rows come in another order.
use Rattle.std.proofs.Common.{◌≡◌, ℕ, Bool, true, false, not, cond, List, [], ◌∷◌, map, refl, sym, ap, subst, ◌∙◌}
use Rattle.std.specs.Prelude.{pos, Result, Ok, Err}
use Rattle.std.specs.Cmp.{IsTotalOrder}
use Rattle.std.specs.Ordering.{eq_by_cmp}
use Rattle.std.proofs.lemmas.List.{map-id}
use Rattle.cy_values.specs.declared.scalars.Value.TheVariants as value
use Rattle.cy_values.specs.declared.rows.Cell.{Cell}
use Rattle.cy_values.specs.Order.{cell_order, row_cmp}
use Rattle.cy_values.proofs.Identity.{same_cells}
use Rattle.cy_trees.specs.Trees.{Expression, call, call_star, no_more, more, Item}
use Rattle.cy_graph.specs.Graph.{Content}
use Rattle.cy_scope_kinds.specs.Aggregates.{is_aggregate_call}
use Rattle.cy_scope_kinds.specs.Functions.{function_named}
use Rattle.cy_expr.specs.declared.faults.EvalFault.{EvalFault}
use Rattle.cy_expr.specs.Comparison.{is_null_cell}
use Rattle.cy_expr.specs.Evaluation.{as_cell, cell_of}
use Rattle.cy_expr.specs.Faults.{on_one}
use Rattle.cy_oneshot_meaning.specs.Groups.{taken, aggregate_if, over_rows, grouping, Grouped, grouped, group_keys, rows_of_group, group_cells, group_rows, values_among, aggregated}
use Rattle.cy_oneshot_meaning.specs.Order.{in_order}
use Rattle.cy_oneshot_patterns.specs.Outcomes.{and_also, smaller, gathered}
use Rattle.cy_expr.specs.Graphs.{lookups}
use Rattle.cy_oneshot_meaning.proofs.BagLemmas.{identity, same_cell}
use Rattle.cy_oneshot_meaning.proofs.InOrder.{same_in_order}
use Rattle.cy_oneshot_meaning.proofs.Joined.{Alike, gathered_each}
use Rattle.cy_oneshot_meaning.proofs.KeyOrders.{cells_total}
use Rattle.cy_oneshot_meaning.proofs.Once.{permuted_filter, permuted_once, same_length, tied_either_way}
use Rattle.cy_oneshot_meaning.proofs.Permuted as permuted
use Rattle.cy_oneshot_meaning.proofs.Permuted.{Permuted, permuted_itself, permuted_map}

-- what is done with lists that are the same but for the order, and gives the same
pub same_after : {A B : Type 0} (f : List A → Result B EvalFault) → ((xs ys : List A) → Permuted xs ys → f xs ≡ f ys)
    → (r s : Result (List A) EvalFault) → Alike r s → on_one f r ≡ on_one f s
same_after f same (Ok xs) (Ok ys) p = same xs ys p
same_after f same (Err fault) (Err other) p = ap Err p
same_after f same (Ok xs) (Err other) p = absurd p
same_after f same (Err fault) (Ok ys) p = absurd p

-- those that are values
values_two : {A : Type 0} (o q : Result A EvalFault) (os : List (Result A EvalFault)) → Permuted (values_among (o ∷ q ∷ os)) (values_among (q ∷ o ∷ os))
values_two (Ok x) (Ok y) os = permuted.exchanged x y (values_among os)
values_two (Ok x) (Err f) os = permuted_itself (x ∷ values_among os)
values_two (Err f) (Ok y) os = permuted_itself (y ∷ values_among os)
values_two (Err f) (Err g) os = permuted_itself (values_among os)

values_more : {A : Type 0} (o : Result A EvalFault) (os qs : List (Result A EvalFault)) → Permuted (values_among os) (values_among qs)
    → Permuted (values_among (o ∷ os)) (values_among (o ∷ qs))
values_more (Ok x) os qs p = permuted.more x p
values_more (Err f) os qs p = p

permuted_values : {A : Type 0} {os qs : List (Result A EvalFault)} → Permuted os qs → Permuted (values_among os) (values_among qs)
permuted_values permuted.nothing = permuted.nothing
permuted_values (permuted.more o {xs = os} {ys = qs} p) = values_more o os qs (permuted_values p)
permuted_values (permuted.exchanged o q os) = values_two o q os
permuted_values (permuted.and_then p q) = permuted.and_then (permuted_values p) (permuted_values q)

module _ (total : IsTotalOrder row_cmp) where
  -- what an aggregate takes
  same_order : {cs ds : List Cell} → Permuted cs ds → in_order cell_order cs ≡ in_order cell_order ds
  same_order {cs} {ds} p =
      sym (map-id (in_order cell_order cs))
      ∙ same_in_order cell_order (cells_total total) (λ (c : Cell). c) same_cells p
      ∙ map-id (in_order cell_order ds)

  same_taken : (distinct : Bool) (cs ds : List Cell) → Permuted cs ds → taken distinct cs ≡ taken distinct ds
  same_taken true cs ds p = same_order (permuted_once cell_order same_cell (tied_either_way cell_order (cells_total total)) (permuted_filter (λ c. not (is_null_cell c)) p))
  same_taken false cs ds p = same_order (permuted_filter (λ c. not (is_null_cell c)) p)

  -- an aggregate over the rows of a group
  over_call : (graph : Content) (f : List ℕ) (distinct : Bool) (e : Expression) {rows others : List (List Cell)} → Permuted rows others
      → over_rows graph (call f distinct (more e no_more)) rows ≡ over_rows graph (call f distinct (more e no_more)) others
  over_call graph f distinct e p =
      same_after (λ cells. aggregate_if (function_named f) (taken distinct cells)) (λ cs ds q. ap (aggregate_if (function_named f)) (same_taken distinct cs ds q)) _ _
      (gathered_each (λ row. cell_of (lookups graph) row e) p)

  same_over : (graph : Content) (e : Expression) {rows others : List (List Cell)} → Permuted rows others → over_rows graph e rows ≡ over_rows graph e others
  same_over graph (call f distinct (more e no_more)) p = over_call graph f distinct e p
  same_over graph (call f distinct (more e (more e' es))) p = refl
  same_over graph (call f distinct no_more) p = refl
  same_over graph (call_star f) p = ap (λ n. Ok (value.Int (pos n))) (same_length p)
  same_over graph _ p = refl

  -- the cells that a group makes
  same_cells_of_group : (graph : Content) (items : List Item) (key : List Cell) {rows others : List (List Cell)} → Permuted rows others
      → group_cells graph items key rows ≡ group_cells graph items key others
  same_cells_of_group graph [] key p = refl
  same_cells_of_group graph (i ∷ items) [] p = λ j. as_cell (same_over graph i.expression p j) ∷ same_cells_of_group graph items [] p j
  same_cells_of_group graph (i ∷ items) (c ∷ key) p = λ j.
      cond (is_aggregate_call i.expression)
      (as_cell (same_over graph i.expression p j) ∷ same_cells_of_group graph items (c ∷ key) p j)
      (Ok c ∷ same_cells_of_group graph items key p j)

  permuted_keys : (items : List Item) {gs hs : List Grouped} → Permuted gs hs → Permuted (group_keys items gs) (group_keys items hs)
  permuted_keys [] p = permuted_itself _
  permuted_keys (i ∷ items) p = permuted_once row_cmp identity (tied_either_way row_cmp total) (permuted_map (λ (g : Grouped). g.key) p)

  -- the row of a group
  abbrev row_of_group : Content → List Item → List Grouped → List Cell → Result (List Cell) EvalFault
  row_of_group graph items gs key = gathered (group_cells graph items key (rows_of_group key gs))

  same_row_of_group : (graph : Content) (items : List Item) {gs hs : List Grouped} → Permuted gs hs → (key : List Cell)
      → row_of_group graph items gs key ≡ row_of_group graph items hs key
  same_row_of_group graph items p key =
      ap gathered (same_cells_of_group graph items key (permuted_map (λ (g : Grouped). g.row) (permuted_filter (λ (g : Grouped). eq_by_cmp row_cmp key g.key) p)))

  pub alike_groups : (graph : Content) (items : List Item) {gs hs : List Grouped} → Permuted gs hs → Alike (group_rows graph items gs) (group_rows graph items hs)
  alike_groups graph items {gs} {hs} p =
      subst (λ l. Alike (gathered (map (row_of_group graph items gs) (group_keys (grouping items) gs))) (gathered l))
      (λ i. map (λ key. same_row_of_group graph items p key i) (group_keys (grouping items) hs))
      (gathered_each (row_of_group graph items gs) (permuted_keys (grouping items) p))

  alike_and_also : {A B : Type 0} (r s : Result (List A) EvalFault) (t u : Result (List B) EvalFault) → Alike r s → Alike t u → Alike (and_also r t) (and_also s u)
  alike_and_also (Ok xs) (Ok ys) t u p q = q
  alike_and_also (Err f) (Err g) (Ok xs) (Ok ys) p q = p
  alike_and_also (Err f) (Err g) (Err h) (Err k) p q = λ i. smaller (p i) (q i)
  alike_and_also (Err f) (Err g) (Ok xs) (Err k) p q = absurd q
  alike_and_also (Err f) (Err g) (Err h) (Ok ys) p q = absurd q
  alike_and_also (Ok xs) (Err g) t u p q = absurd p
  alike_and_also (Err f) (Ok ys) t u p q = absurd p

  pub alike_aggregated : (graph : Content) (items : List Item) {rows others : List (List Cell)} → Permuted rows others
      → Alike (aggregated graph items rows) (aggregated graph items others)
  alike_aggregated graph items {rows} {others} p =
      alike_and_also (gathered (map (grouped graph items) rows)) (gathered (map (grouped graph items) others)) _ _
      (gathered_each (grouped graph items) p)
      (alike_groups graph items (permuted_values (permuted_map (grouped graph items) p)))
