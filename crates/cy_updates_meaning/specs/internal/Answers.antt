-- What the parts of a statement answer.
use Rattle.std.specs.Prelude.{◌≡◌, ◌⊎◌, List, Result, Ok, Err, MatchResult}
use Rattle.cy_values.specs.declared.rows.Cell.{Cell}
use Rattle.cy_graph.specs.Graph.{State}
use Rattle.cy_updates_meaning.specs.declared.faults.UpdateFault.{UpdateFault}
use Rattle.cy_updates_meaning.specs.declared.faults.UpdateFault.TheVariants.{NoMemory}
use Rattle.cy_updates_meaning.specs.Statements.{GraphTable}

-- a call answers what is meant, or its fault, or it is out of memory
abbrev pub IsAnswer : {A B : Type 0} → Result A UpdateFault → (A → B) → Result B UpdateFault → Type 0
IsAnswer result view meant = MatchResult result (λ x. meant ≡ Ok (view x)) (λ why. (why ≡ NoMemory) ⊎ (meant ≡ Err why))

-- a graph and a table
abbrev pub graph_table : State → List (List Cell) → GraphTable
graph_table graph rows = record { graph = graph; rows = rows }
