use Rattle.std.proofs.Common.{◌≡◌, List, [], ◌∷◌, ◌++◌, map, sym, ap, subst, ◌∙◌, rules, arith}
use Rattle.std.specs.Prelude.{reverse}
use Rattle.std.proofs.lemmas.Grind.{common_steps}
use Rattle.std.proofs.lemmas.List.{map-append}
use Rattle.cy_trees.specs.Trees.{Expression}
use Rattle.cy_trees.specs.TreeModels.{expression_of}
use Rattle.cy_planner_algebra.specs.Plans.{Plan}
use Rattle.cy_planner_algebra.specs.PlanModels.{plan_of}
use Rattle.cy_planner_rows.specs.Rows.{AreReadOver, IsFiltered}
use Rattle.cy_planner_pushdown.specs.internal.Finding.{AreFilteredSoFar}
use Rattle.cy_planner_pushdown.proofs.Finding.{asked_next, read_last, read_others, read_reversed, so_far_reversed}
use Rattle.cy_planner_pushdown.proofs.Splitting.{map_reversed}
use Rattle.cy_planner_pushdown.proofs.filters.filter_rest.Goals as goal

pub loop-test-init : goal.loop-test-init
loop-test-init c =
    let p : Plan = plan_of c.args.kept.plan in
    let rest : List Expression = map expression_of c.args.kept.rest.items in
    let waiting : map expression_of c.reverse.new.self.items ≡ reverse rest = ap (map expression_of) c.reverse.ensures.items ∙ map_reversed expression_of c.args.kept.rest.items in (
      λ below all so_far. subst (λ (ws : List Expression). AreFilteredSoFar below all ws p) (sym waiting) (so_far_reversed below all rest p so_far),
      subst (λ (ws : List Expression). AreReadOver p ws) (sym waiting) (read_reversed p rest c.requires),
    )

pub filter_one-requires : goal.filter_one-requires
filter_one-requires c =
    let p : Plan = plan_of c.loop-test.plan in
    let e : Expression = expression_of c.in-Some.test in
    let waiting : List Expression = map expression_of c.pop.new.self.items in
    let last : map expression_of c.loop-test.rest.items ≡ waiting ++ e ∷ [] = ap (map expression_of) c.in-Some.ensures.items ∙ map-append expression_of c.pop.new.self.items (c.in-Some.test ∷ []) in
    read_last p waiting e (subst (λ (ws : List Expression). AreReadOver p ws) last c.loop-test.invariant.1)

pub loop-test-preserved : goal.loop-test-preserved
loop-test-preserved c =
    let p : Plan = plan_of c.loop-test.plan in
    let q : Plan = plan_of c.in_ok-plan.plan in
    let e : Expression = expression_of c.in-Some.test in
    let waiting : List Expression = map expression_of c.pop.new.self.items in
    let last : map expression_of c.loop-test.rest.items ≡ waiting ++ e ∷ [] = ap (map expression_of) c.in-Some.ensures.items ∙ map-append expression_of c.pop.new.self.items (c.in-Some.test ∷ []) in
    let filtered : IsFiltered p e q = c.in_ok-plan.ensures in (
      λ below all so_far. asked_next below all waiting e p (subst (λ (ws : List Expression). AreFilteredSoFar below all ws p) last (c.loop-test.invariant.0 below all so_far)) q filtered,
      read_others p q waiting e filtered.as_wide (subst (λ (ws : List Expression). AreReadOver p ws) last c.loop-test.invariant.1),
    )

pub returns : goal.returns
returns c below all so_far =
    let none : c.loop-test.rest.items ≡ [] = first_of (search rules, grind (arith, common_steps)) in
    subst (λ (ws : List Expression). AreFilteredSoFar below all ws (plan_of c.loop-test.plan)) (ap (map expression_of) none) (c.loop-test.invariant.0 below all so_far)
