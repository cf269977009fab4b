-- Each so far is one.
use Rattle.std.specs.List.{AllByRecursion}
use Rattle.cy_planner_algebra.specs.Plans.{width}
use Rattle.cy_planner_algebra.specs.PlanModels.{plan_of}
use Rattle.cy_planner_rewriting.specs.internal.Redirected.{IsRedirect}
use Rattle.cy_planner_rewriting.proofs.redirects.redirects.Given as goal

abbrev pub invariant-loop-key : goal.invariant-loop-key
invariant-loop-key l = AllByRecursion (IsRedirect l.keys (width (plan_of l.left))) l.made.items
