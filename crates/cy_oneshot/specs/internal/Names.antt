-- The names of columns, with those that a pattern adds.
use Rattle.std.specs.Prelude.{◌==◌, false, List, [], ◌∷◌, ◌++◌, length, Option, if◌then◌else◌}
use Rattle.std.specs.Option.{option_and_then, option_map_or}
use Rattle.cy_trees.specs.declared.expressions.Variable.{Variable}
use Rattle.cy_trees.specs.Trees.{Name, Step}
use Rattle.cy_oneshot_meaning.specs.Queries.{name_of}

-- with the name of a variable whose column is the next one
abbrev pub with_name : List Name → Option Variable → List Name
with_name columns v =
    if option_map_or (λ column. column == length columns) (option_and_then (λ w. w.column) v) false then columns ++ name_of v else columns

-- with those of a step, and of several
abbrev pub with_step_names : List Name → Step → List Name
with_step_names columns s = with_name (with_name columns s.relationship.variable) s.node.variable

abbrev pub with_steps_names : List Name → List Step → List Name
with_steps_names columns [] = columns
with_steps_names columns (s ∷ steps) = with_steps_names (with_step_names columns s) steps
