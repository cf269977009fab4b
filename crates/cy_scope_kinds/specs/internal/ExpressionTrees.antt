-- What parts of the code's expressions stand for.
use Rattle.std.specs.Prelude.{Option, Some, None}
use Rattle.std.specs.declared.alloc.Global.{Global}
use Rattle.std.specs.declared.boxed.Box.{Box}
use Rattle.cy_trees.specs.declared.expressions.Expr.{Expr}
use Rattle.cy_trees.specs.declared.expressions.Comparator.{Comparator}
use Rattle.cy_scope_kinds.specs.Scopes.{Scope}
use Rattle.cy_scope_kinds.specs.ResolvedExpressions.{resolved}
use Rattle.cy_trees.specs.Trees.{Expression, Otherwise, nothing, otherwise}
use Rattle.cy_trees.specs.TreeModels.{expression_of}

abbrev pub otherwise_of : Option (Box Expr Global) → Otherwise
otherwise_of None = nothing
otherwise_of (Some e) = otherwise (expression_of e.value)

-- a link and an arm with the columns of their variables
abbrev pub resolved_link : Scope → Comparator × Expression → Comparator × Expression
resolved_link scope l = (l.0, resolved scope l.1)

abbrev pub resolved_arm : Scope → Expression × Expression → Expression × Expression
resolved_arm scope a = (resolved scope a.0, resolved scope a.1)
