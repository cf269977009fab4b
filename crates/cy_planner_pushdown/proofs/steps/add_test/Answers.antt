use Rattle.std.proofs.Common.{ℕ, List, refl, sym, subst}
use Rattle.std.specs.Prelude.{OnOk, Result, Ok, Err}
use Rattle.cy_trees.specs.Trees.{Expression}
use Rattle.cy_trees.specs.TreeModels.{expression_of}
use Rattle.cy_planner_algebra.specs.Plans.{Plan}
use Rattle.cy_planner_algebra.specs.PlanModels.{plan_of}
use Rattle.cy_planner_pushdown.specs.declared.sides.Way.{Way}
use Rattle.cy_planner_pushdown.specs.internal.Splits.{IsSplit, Tests, tests_in}
use Rattle.cy_planner_pushdown.specs.internal.Ways.{IsWay}
use Rattle.cy_planner_pushdown.proofs.Splitting.{split_next}
use Rattle.cy_planner_pushdown.proofs.steps.add_test.Goals as goal
use Rattle.cy_planner_pushdown.proofs.steps.add_test.Goals.{then-is_asked, else-is_asked+in_ok-way}

on_ok : {A E P Q : Type 0} (r : Result A E) → (P → Q) → OnOk r P → OnOk r Q
on_ok (Ok a) f is = f is
on_ok (Err e) f is = is

pub returns : goal.returns
returns c =
    let p : Plan = plan_of c.args.measured.now.part.now in
    let columns : List ℕ = c.args.test.columns.items in
    let test : Expression = expression_of c.args.test.test in
    let way : IsWay c.if-is_asked.way' p columns = elim c.if-is_asked.branch [
      | then-is_asked w ↦ subst (λ (v : Way). IsWay v p columns) (sym w.way'-is) refl
      | else-is_asked+in_ok-way w ↦ subst (λ (v : Way). IsWay v p columns) (sym w.way'-is) w.in_ok-way.ensures
    ] in
    on_ok c.add.result (λ is all rest split. subst (λ (ts : Tests). IsSplit p all rest ts) (sym is) (split_next p all rest (tests_in c.args.split.now) columns test split c.if-is_asked.way' way)) c.add.ensures
