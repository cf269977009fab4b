use Rattle.std.proofs.Common.{subst}
use Rattle.cy_trees.specs.TreeModels.{expression_of}
use Rattle.cy_planner_algebra.specs.Plans as plan
use Rattle.cy_planner_algebra.specs.Plans.{Plan}
use Rattle.cy_planner_algebra.specs.PlanModels.{plan_of}
use Rattle.cy_planner_algebra.specs.WellFormed.{IsWellFormed}
use Rattle.cy_planner_rewriting.specs.internal.Splits.{together}
use Rattle.cy_planner_rewriting.proofs.Layering.{well_below}
use Rattle.cy_planner_rewriting.proofs.Passing.{well_looked_up}
use Rattle.cy_planner_rewriting.proofs.Splitting.{well_joined}
use Rattle.cy_planner_rewriting.proofs.splits.put_together.Goals as goal

pub join-requires-clause-keys : goal.join-requires-clause-keys
join-requires-clause-keys c =
    let p : Plan = plan_of c.args.left in
    let q : Plan = plan_of c.args.right in
    (well_joined c.in-Join.outputs (plan.join p q c.in-Join.keys.items) (subst (λ j. IsWellFormed (together j p q)) c.in-Join.is (well_below c.args.layers.items (together c.args.joint p q) c.requires))).2

pub join-requires-clause-room : goal.join-requires-clause-room
join-requires-clause-room c =
    let p : Plan = plan_of c.args.left in
    let q : Plan = plan_of c.args.right in
    (well_joined c.in-Join.outputs (plan.join p q c.in-Join.keys.items) (subst (λ j. IsWellFormed (together j p q)) c.in-Join.is (well_below c.args.layers.items (together c.args.joint p q) c.requires))).3

pub outer-requires-clause-keys : goal.outer-requires-clause-keys
outer-requires-clause-keys c =
    let p : Plan = plan_of c.args.left in
    let q : Plan = plan_of c.args.right in
    (well_joined c.in-Outer.outputs (plan.outer p q c.in-Outer.keys.items (expression_of c.in-Outer.test)) (subst (λ j. IsWellFormed (together j p q)) c.in-Outer.is (well_below c.args.layers.items (together c.args.joint p q) c.requires))).2

pub outer-requires-clause-room : goal.outer-requires-clause-room
outer-requires-clause-room c =
    let p : Plan = plan_of c.args.left in
    let q : Plan = plan_of c.args.right in
    (well_joined c.in-Outer.outputs (plan.outer p q c.in-Outer.keys.items (expression_of c.in-Outer.test)) (subst (λ j. IsWellFormed (together j p q)) c.in-Outer.is (well_below c.args.layers.items (together c.args.joint p q) c.requires))).3

pub outer-requires-clause-test : goal.outer-requires-clause-test
outer-requires-clause-test c =
    let p : Plan = plan_of c.args.left in
    let q : Plan = plan_of c.args.right in
    (well_joined c.in-Outer.outputs (plan.outer p q c.in-Outer.keys.items (expression_of c.in-Outer.test)) (subst (λ j. IsWellFormed (together j p q)) c.in-Outer.is (well_below c.args.layers.items (together c.args.joint p q) c.requires))).4

pub semi-requires : goal.semi-requires
semi-requires c =
    let p : Plan = plan_of c.args.left in
    let q : Plan = plan_of c.args.right in
    (subst (λ j. IsWellFormed (together j p q)) c.in-Semi.is (well_below c.args.layers.items (together c.args.joint p q) c.requires)).2

pub union-requires : goal.union-requires
union-requires c =
    let p : Plan = plan_of c.args.left in
    let q : Plan = plan_of c.args.right in
    (well_looked_up c.in-Union.lookups.items (plan.union p q) (subst (λ j. IsWellFormed (together j p q)) c.in-Union.is (well_below c.args.layers.items (together c.args.joint p q) c.requires))).2
