-- what the entities so far make, with what is still to be made; each is read once, and the memory is as it was
use Rattle.std.proofs.Common.{◌≡◌, ◌≤◌, ◌+◌, true, ◌++◌, ◌∷◌, [], List, ℕ, Option, length}
use Rattle.std.specs.Prelude.{flat_map, sum_by}
use Rattle.cy_values.specs.declared.rows.Cell.{Cell}
use Rattle.cy_values.specs.declared.rows.Cell.TheVariants as cell
use Rattle.cy_graph.specs.declared.nodes.Rel.{Rel}
use Rattle.cy_graph.specs.Graph.{State}
use Rattle.cy_network_operators.specs.Deltas.{deltas_of}
use Rattle.cy_network_operators.specs.internal.Reading.{IsRead}
use Rattle.cy_network_sources.specs.Changes.{IsChange}
use Rattle.cy_network_sources.specs.internal.Attributes.{still}
use Rattle.cy_network_sources.specs.internal.Named.{AreAmong, with_key}
use Rattle.cy_network_sources.proofs.lookups.add_at_rels.Given as goal

abbrev pub invariant-loop-number : goal.invariant-loop-number
invariant-loop-number g l = record {
  made : (before : State) (column : ℕ) → IsChange before l.initial.sight.graph.now l.changing.change.now → g.M.Memory.key_columns l.initial.memory ≡ column ∷ [] → (row : List Cell)
      → deltas_of row l.made.items
      ++ flat_map (λ (e : ℕ × Option Rel). still before.content l.initial.sight.graph.now.content column l.changing.attribute.now (g.M.Memory.was l.initial.memory) (g.M.Memory.staged l.initial.memory) (cell.Rel (record { 0 = e.0 })) row) l.number-iterator
      ≡ deltas_of row l.initial.made.items
      ++ flat_map (λ (e : ℕ × Option Rel). still before.content l.initial.sight.graph.now.content column l.changing.attribute.now (g.M.Memory.was l.initial.memory) (g.M.Memory.staged l.initial.memory) (cell.Rel (record { 0 = e.0 })) row) l.changing.change.now.rels;
  read : IsRead g.M.Memory.key_columns g.M.Memory.was g.M.Memory.staged g.M.Memory.step_count l.initial.memory l.memory;
  graph : l.sight.graph ≡ l.initial.sight.graph;
  reads : l.sight.reads + length l.number-iterator ≤ l.initial.sight.reads + length l.changing.change.now.rels;
  steps : (column : ℕ) (rows : List (List Cell)) → g.M.Memory.key_columns l.initial.memory ≡ column ∷ [] → AreAmong (g.M.Memory.was l.initial.memory) (g.M.Memory.staged l.initial.memory) rows → g.M.Memory.EXACT ≡ true
      → g.M.Memory.step_count l.memory
      + (length l.number-iterator + sum_by (λ (e : ℕ × Option Rel). with_key (column ∷ []) (cell.Rel (record { 0 = e.0 }) ∷ []) rows) l.number-iterator)
      ≤ g.M.Memory.step_count l.initial.memory + (length l.changing.change.now.rels + sum_by (λ (e : ℕ × Option Rel). with_key (column ∷ []) (cell.Rel (record { 0 = e.0 }) ∷ []) rows) l.changing.change.now.rels);
}
