use Rattle.std.proofs.Common.{sym, subst}
use Rattle.std.specs.Prelude.{IfSome}
use Rattle.cy_planner_pushdown.specs.declared.columns.Source.{Source}
use Rattle.cy_planner_pushdown.specs.internal.Sources.{stands}
use Rattle.cy_planner_pushdown.proofs.columns.column_in.Goals as goal

pub returns-in-Left : goal.returns-in-Left
returns-in-Left c = subst (λ (s : Source). IfSome c.column_on_left.result (stands s c.args.column)) (sym c.in-Left.is) c.column_on_left.ensures

pub returns-in-Right : goal.returns-in-Right
returns-in-Right c = subst (λ (s : Source). IfSome c.column_on_right.result (stands s c.args.column)) (sym c.in-Right.is) c.column_on_right.ensures
