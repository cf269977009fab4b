-- The properties that a map makes.
use Rattle.std.specs.Prelude.{List, Some, Result}
use Rattle.cy_values.specs.declared.rows.Cell.{Cell}
use Rattle.cy_values.specs.declared.scalars.Value.{Value}
use Rattle.cy_trees.specs.Trees.{MapEntry, Name}
use Rattle.cy_graph.specs.Graph.{State}
use Rattle.cy_updates_meaning.specs.declared.faults.UpdateFault.{UpdateFault}
use Rattle.cy_updates_meaning.specs.Values.{map_properties}
use Rattle.cy_updates_meaning.specs.internal.Answers.{IsAnswer}

-- a call answers those that these entries make on a row
abbrev pub ArePropertiesOf : Result (List (Name × Value)) UpdateFault → State → List Cell → List MapEntry → Type 0
ArePropertiesOf result graph row entries = IsAnswer result (λ props. props) (map_properties graph row (Some entries))
