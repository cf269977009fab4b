-- The trees of the worked rows that update, and what a statement gives, its variables being given their columns first.
use Rattle.std.proofs.Common.{ℕ, false, List, [], ◌∷◌, ◌+◌, Some, None}
use Rattle.std.specs.Prelude.{length, Result}
use Rattle.cy_trees.specs.declared.clauses.Direction.{Direction}
use Rattle.cy_trees.specs.Trees.{Name, Expression, list, null, MapEntry, NodePattern, RelationshipPattern, Clause}
use Rattle.cy_scope.specs.Resolved.{resolved_statement}
use Rattle.cy_graph.specs.Graph.{Content, State}
use Rattle.cy_oneshot_meaning.proofs.ExampleTrees.{one, link}
use Rattle.cy_updates_meaning.specs.declared.faults.UpdateFault.{UpdateFault}
use Rattle.cy_updates_meaning.specs.Counts.{Counts}
use Rattle.cy_updates_meaning.specs.Statements.{Outcome, statement_outcome}

-- a graph from which nothing was removed
abbrev pub whole : Content → State
whole content = record { content = content; next_node = length content.nodes + 1; next_rel = length content.rels + 1 }

-- what a statement of these clauses leaves and answers
abbrev pub outcome_on : State → List Clause → Result Outcome UpdateFault
outcome_on graph clauses = statement_outcome graph (resolved_statement (record { queries = record { clauses = clauses } ∷ []; all = false }))

-- made and removed nodes, made and removed relationships
abbrev pub counted : ℕ → ℕ → ℕ → ℕ → Counts
counted made_nodes gone_nodes made_rels gone_rels = record { made_nodes = made_nodes; gone_nodes = gone_nodes; made_rels = made_rels; gone_rels = gone_rels }

-- what a statement without RETURN leaves
abbrev pub leaves : State → Counts → Outcome
leaves graph counts = record { graph = graph; counts = counts; columns = []; rows = [] }

-- a node with these labels and entries, and a relationship with one type and these entries
abbrev pub entry : Name → Expression → MapEntry
entry key e = record { key = key; value = e }

abbrev pub new_node : List Name → List MapEntry → NodePattern
new_node labels entries = record { variable = None; labels = labels; properties = Some entries }

abbrev pub link_with : Direction → Name → List MapEntry → RelationshipPattern
link_with direction kind entries = record (link None direction (kind ∷ []) None) { properties = Some entries }

-- `[null]`
abbrev pub list_with_null : Expression
list_with_null = list (one null)
