use Rattle.std.proofs.Common.{◌<◌, ℕ, List, sym, subst, arith}
use Rattle.cy_trees.specs.Trees.{Expression}
use Rattle.cy_planner_algebra.specs.declared.operators.Operator.{size-Operator}
use Rattle.cy_planner_algebra.specs.Plans.{Plan}
use Rattle.cy_planner_algebra.specs.PlanModels.{plan_of}
use Rattle.cy_planner_pushdown.specs.declared.ways.Frame.{Frame}
use Rattle.cy_planner_pushdown.specs.internal.Above.{placed}
use Rattle.cy_planner_pushdown.specs.internal.Pairs.{paired}
use Rattle.cy_planner_pushdown.specs.internal.Steps.{LeadThrough, LeadsTo, LeadsToBoth}
use Rattle.cy_planner_pushdown.specs.internal.Tests.{tests_of}
use Rattle.cy_planner_pushdown.proofs.Placing.{lowest, one_more}
use Rattle.cy_planner_pushdown.proofs.Stepping.{leads_left}
use Rattle.cy_planner_pushdown.proofs.pushing.+push.Goals as goal

pub loop-frames-preserved-in-Below : goal.loop-frames-preserved-in-Below
loop-frames-preserved-in-Below t c =
    let whole : Plan = plan_of c.args.place.part in
    let tests : List (List ℕ × Expression) = tests_of c.args.place.tests.items in
    let part : Plan = plan_of c.loop-frames.place.part in
    let others : List (List ℕ × Expression) = tests_of c.loop-frames.place.tests.items in
    let below : Plan = plan_of c.in-Below.below.part in
    let lower : List (List ℕ × Expression) = tests_of c.in-Below.below.tests.items in
    let next : LeadsTo part others below lower (tests_of c.in-Below.frame.here.items) (placed c.in-Below.frame.above) = rw c.in-Below.is at c.in_ok-part.ensures.is in
    let less : size-Operator c.in-Below.below.part < size-Operator c.loop-frames.place.part = rw c.in-Below.is at c.in_ok-part.ensures.less in
    let before = c.loop-frames.invariant.3 in (
      subst (λ (fs : List Frame). LeadThrough whole tests fs below lower) (sym c.in_ok-push-in-Below.ensures.items)
          (one_more whole tests c.loop-frames.frames.items part others c.loop-frames.invariant.0 c.in-Below.frame below lower next),
      next.good,
      next.can,
      omega (arith, less, before),
    )

pub loop-frames-preserved : goal.loop-frames-preserved
loop-frames-preserved t c =
    let whole : Plan = plan_of c.args.place.part in
    let tests : List (List ℕ × Expression) = tests_of c.args.place.tests.items in
    let part : Plan = plan_of c.loop-frames.place.part in
    let others : List (List ℕ × Expression) = tests_of c.loop-frames.place.tests.items in
    let left : Plan = plan_of c.in-Both.left.part in
    let right : Plan = plan_of c.in-Both.right.part in
    let lefts : List (List ℕ × Expression) = tests_of c.in-Both.left.tests.items in
    let rights : List (List ℕ × Expression) = tests_of c.in-Both.right.tests.items in
    let here : List (List ℕ × Expression) = tests_of c.in-Both.here.items in
    let both : LeadsToBoth part others left lefts right rights here (paired c.in-Both.pair) = rw c.in-Both.is at c.in_ok-part.ensures.is in
    let less = rw c.in-Both.is at c.in_ok-part.ensures.less in
    let first : size-Operator c.in-Both.left.part < size-Operator c.loop-frames.place.part = less.0 in
    let before = c.loop-frames.invariant.3 in
    let next : LeadsTo part others left lefts here (placed c.above_left.result) =
    leads_left part others left right lefts rights here (paired c.in-Both.pair) (placed c.above_left.result) (plan_of c.in_ok-right-in-Both.right) both c.in_ok-right-in-Both.ensures c.meant.ensures c.above_left.ensures in
    let frame : Frame = record { above = c.above_left.result; here = c.in-Both.here } in (
      subst (λ (fs : List Frame). LeadThrough whole tests fs left lefts) (sym c.in_ok-push-in-Both.ensures.items)
          (one_more whole tests c.loop-frames.frames.items part others c.loop-frames.invariant.0 frame left lefts next),
      next.good,
      next.can,
      omega (arith, first, before),
    )

pub put_back-requires-clause-good : goal.put_back-requires-clause-good
put_back-requires-clause-good t c =
    let inv = c.loop-frame.invariant in
    let low = lowest (plan_of c.args.place.part) (tests_of c.args.place.tests.items) c.loop-frame.frames.items c.pop.new.self.items c.in-Some.frame inv.0 inv.1 c.in-Some.ensures.items inv.2 in
    low.leads.fits (plan_of c.loop-frame.plan) inv.3 inv.4

pub put_back-requires-clause-can : goal.put_back-requires-clause-can
put_back-requires-clause-can t c =
    let inv = c.loop-frame.invariant in
    let low = lowest (plan_of c.args.place.part) (tests_of c.args.place.tests.items) c.loop-frame.frames.items c.pop.new.self.items c.in-Some.frame inv.0 inv.1 c.in-Some.ensures.items inv.2 in
    low.leads.can_here (plan_of c.loop-frame.plan) inv.3

pub loop-frame-preserved : goal.loop-frame-preserved
loop-frame-preserved t c =
    let inv = c.loop-frame.invariant in
    let low = lowest (plan_of c.args.place.part) (tests_of c.args.place.tests.items) c.loop-frame.frames.items c.pop.new.self.items c.in-Some.frame inv.0 inv.1 c.in-Some.ensures.items inv.2 in
    (low.middle, low.between, low.through, low.leads.sifted (plan_of c.loop-frame.plan) (plan_of c.in_ok-plan.plan) inv.3 c.in_ok-plan.ensures, c.meant-in-Some.ensures)
