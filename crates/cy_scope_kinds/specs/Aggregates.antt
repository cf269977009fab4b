-- Aggregates: calls that take all rows of a group together (openCypher 9, Aggregation).
use Rattle.std.specs.Prelude.{Bool, false, Option, Some, None}
use Rattle.std.specs.List.{list_any}
use Rattle.cy_trees.specs.Trees.{Name, Expression, call, call_star, Projection}
use Rattle.cy_scope_kinds.specs.declared.functions.Function.{Function}
use Rattle.cy_scope_kinds.specs.Functions.{function_named, is_aggregate}

abbrev pub is_aggregate_if : Option Function → Bool
is_aggregate_if None = false
is_aggregate_if (Some function) = is_aggregate function

abbrev pub names_aggregate : Name → Bool
names_aggregate name = is_aggregate_if (function_named name)

abbrev pub is_aggregate_call : Expression → Bool
is_aggregate_call (call name distinct es) = names_aggregate name
is_aggregate_call (call_star name) = names_aggregate name
is_aggregate_call _ = false

abbrev pub has_aggregates : Projection → Bool
has_aggregates p = list_any (λ i. is_aggregate_call i.expression) p.items
