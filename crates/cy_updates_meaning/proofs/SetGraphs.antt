-- SET and REMOVE leave a graph with the same numbers.
use Rattle.std.proofs.Common.{List, [], ◌∷◌, Option, Some, None}
use Rattle.std.specs.Prelude.{fold, Result, Ok, IfOk}
use Rattle.cy_values.specs.declared.numbers.NodeId.{NodeId}
use Rattle.cy_values.specs.declared.numbers.Entity.{Entity}
use Rattle.cy_values.specs.declared.numbers.Entity.TheVariants as entity
use Rattle.cy_values.specs.declared.scalars.Value.{Value}
use Rattle.cy_values.specs.declared.rows.Cell.{Cell}
use Rattle.cy_trees.specs.Trees.{Name, SetItem, set_property, set_labels, RemoveItem, remove_property, remove_labels}
use Rattle.cy_graph.specs.Graph.{State, IsGraph, with_label, with_node_changed, with_prop, without_label}
use Rattle.cy_graph.specs.declared.nodes.Node.{Node}
use Rattle.cy_updates_meaning.specs.declared.faults.UpdateFault.{UpdateFault}
use Rattle.cy_updates_meaning.specs.Faults.{each_in_turn}
use Rattle.cy_updates_meaning.specs.Setting.{removed_item, set_item, with_labels_changed, with_property, without_property}
use Rattle.cy_updates_meaning.specs.Statements.{remove_row, set_row}
use Rattle.cy_updates_meaning.specs.Values.{named_by, settable, unless_null, value_on}
use Rattle.cy_updates_meaning.proofs.Graphs.{Kept, kept_then, label_kept, no_label_kept, prop_kept, same_numbers}
use Rattle.cy_updates_meaning.proofs.StoredValues.{IsSettable, and_any, and_then, if_ok_weaker, settable_is, storable_if}

pub kept_itself : (graph : State) → IsGraph graph → Kept graph graph
kept_itself graph is = record { is = is; same = same_numbers graph }

-- ---- one thing after another

pub each_kept : {A : Type 0} (f : A → State → Result State UpdateFault) → ((x : A) (graph : State) → IsGraph graph → IfOk (f x graph) (Kept graph))
    → (xs : List A) (graph : State) → IsGraph graph → IfOk (each_in_turn f xs graph) (Kept graph)
each_kept f step [] graph is = kept_itself graph is
each_kept f step (x ∷ xs) graph is =
    and_then (Kept graph) (Kept graph) (λ next. each_in_turn f xs next)
    (λ next here. if_ok_weaker (Kept next) (Kept graph) (λ last rest. kept_then graph next last here rest) (each_in_turn f xs next) (each_kept f step xs next here.is))
    (f x graph) (step x graph is)

pub fold_kept : {A : Type 0} (f : State → A → State) → ((x : A) (graph : State) → IsGraph graph → Kept graph (f graph x))
    → (xs : List A) (graph : State) → IsGraph graph → Kept graph (fold f graph xs)
fold_kept f step [] graph is = kept_itself graph is
fold_kept f step (x ∷ xs) graph is =
    let here = step x graph is in kept_then graph (f graph x) (fold f (f graph x) xs) here (fold_kept f step xs (f graph x) here.is)

-- ---- items

pub property_kept : (named : Option Entity) (key : Name) (v : Value) (graph : State) → IsGraph graph → IfOk (with_property named key v graph) (Kept graph)
property_kept None key v graph is = kept_itself graph is
property_kept (Some x) key v graph is =
    and_then IsSettable (Kept graph) (λ w. Ok (with_prop x key (unless_null w) graph)) (λ w can. prop_kept graph is x key (unless_null w) (storable_if w can)) (settable v) (settable_is v)

no_property_kept : (named : Option Entity) (key : Name) (graph : State) → IsGraph graph → Kept graph (without_property named key graph)
no_property_kept None key graph is = kept_itself graph is
no_property_kept (Some x) key graph is = prop_kept graph is x key None tt

module _ (change : Name → Node → Node) (kept : (id : NodeId) (label : Name) (graph : State) → IsGraph graph → Kept graph (with_node_changed id (change label) graph)) where
  labels_kept : (labels : List Name) (named : Option Entity) (graph : State) → IsGraph graph → Kept graph (with_labels_changed change labels named graph)
  labels_kept labels (Some (entity.Node id)) graph is = fold_kept (λ so_far label. with_node_changed id (change label) so_far) (kept id) labels graph is
  labels_kept labels (Some (entity.Rel id)) graph is = kept_itself graph is
  labels_kept labels None graph is = kept_itself graph is

pub set_item_kept : (row : List Cell) (item : SetItem) (graph : State) → IsGraph graph → IfOk (set_item row item graph) (Kept graph)
set_item_kept row (set_property v key e) graph is =
    and_any (Kept graph) (λ value. with_property (named_by v row) key value graph) (λ value. property_kept (named_by v row) key value graph is) (value_on graph row e)
set_item_kept row (set_labels v labels) graph is = labels_kept with_label (λ id label g here. label_kept g here id label) labels (named_by v row) graph is

pub removed_item_kept : (row : List Cell) (item : RemoveItem) (graph : State) → IsGraph graph → Kept graph (removed_item row graph item)
removed_item_kept row (remove_property v key) graph is = no_property_kept (named_by v row) key graph is
removed_item_kept row (remove_labels v labels) graph is = labels_kept without_label (λ id label g here. no_label_kept g here id label) labels (named_by v row) graph is

-- ---- rows

pub set_row_kept : (items : List SetItem) (row : List Cell) (graph : State) → IsGraph graph → IfOk (set_row items row graph) (Kept graph)
set_row_kept items row graph is = each_kept (set_item row) (set_item_kept row) items graph is

pub remove_row_kept : (items : List RemoveItem) (row : List Cell) (graph : State) → IsGraph graph → Kept graph (remove_row items graph row)
remove_row_kept items row graph is = fold_kept (removed_item row) (λ item g here. removed_item_kept row item g here) items graph is

-- ---- clauses

pub set_kept : (items : List SetItem) (rows : List (List Cell)) (graph : State) → IsGraph graph → IfOk (each_in_turn (set_row items) rows graph) (Kept graph)
set_kept items = each_kept (set_row items) (set_row_kept items)

pub remove_kept : (items : List RemoveItem) (rows : List (List Cell)) (graph : State) → IsGraph graph → Kept graph (fold (remove_row items) graph rows)
remove_kept items = fold_kept (remove_row items) (remove_row_kept items)
