use Rattle.std.proofs.Common.{◌≡◌, ℕ, ◌-◌, nat_lt, cond, false, rules, sym, ap, ◌∙◌, arith}
use Rattle.std.proofs.lemmas.Grind.{common_steps}
use Rattle.std.specs.Option.{option_and_then}
use Rattle.cy_planner_algebra.specs.declared.operators.Operator.{the_lemmas}
use Rattle.cy_planner_algebra.specs.Plans.{Plan, width}
use Rattle.cy_planner_algebra.specs.PlanModels.{plan_of}
use Rattle.cy_planner_pushdown.specs.internal.Pushed.{kind_at}
use Rattle.cy_planner_pushdown.proofs.ColumnKinds.{beside}
use Rattle.cy_planner_pushdown.proofs.Elsewhere.{kind_else}
use Rattle.cy_planner_pushdown.proofs.columns.+kind_at.Goals as goal

pub returns-in-None-sifted : goal.returns-in-None-sifted
returns-in-None-sifted t c =
    sym (c.loop-part.invariant.2
    ∙ kind_else c.loop-part.part.now c.loop-part.column c.in_default.not-Nodes c.in_default.not-Rels c.in_default.not-Join c.in_default.not-Outer c.in_default.not-Lookup c.in_default.not-Project c.in_default.not-Distinct c.in_default.not-Union
    ∙ ap (λ q. option_and_then (λ p. kind_at p c.loop-part.column) q) (sym c.in-None-sifted.ensures.plan))

pub loop-part-preserved : goal.loop-part-preserved
loop-part-preserved t c =
    let left : Plan = plan_of c.in-Join.left.value in
    let right : Plan = plan_of c.in-Join.right.value in
    let column : ℕ = c.loop-part.column in
    let left_width : ℕ = c.width_without-left_width.result in
    let whole : kind_at (plan_of c.loop-part.part.now) column ≡ cond (nat_lt column (width left)) (kind_at left column) (kind_at right (column - width left)) = search (rules, the_lemmas) in
    let wide : left_width ≡ width left = search (rules, the_lemmas) in
    let past : nat_lt column left_width ≡ false = first_of (search rules, grind (arith, common_steps)) in
    let below : c.in-Join.right.value ≡ c.deref-part-else-column-left_width.result.now = search (rules, the_lemmas) in (
      search (rules, the_lemmas),
      search (rules, the_lemmas),
      c.loop-part.invariant.2 ∙ whole ∙ beside left right column left_width wide past ∙ ap (λ q. kind_at (plan_of q) (column - left_width)) below,
      first_of (search (rules, the_lemmas), grind (arith, common_steps)),
    )
