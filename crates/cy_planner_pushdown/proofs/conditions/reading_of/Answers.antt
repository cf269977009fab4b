use Rattle.std.proofs.Common.{◌≡◌, ℕ, ◌+◌, ◌-◌, ◌≤◌, true, List, [], ◌∷◌, ◌++◌, map, sym, ap, subst, ◌∙◌, arith, rules}
use Rattle.std.specs.Prelude.{Some}
use Rattle.std.proofs.lemmas.Grind.{common_steps}
use Rattle.cy_trees.specs.Trees.{Name}
use Rattle.cy_scope_kinds.specs.declared.kinds.Kind.{Kind}
use Rattle.cy_scope_kinds.specs.Scopes.{Scope, added_name}
use Rattle.cy_planner_algebra.specs.Plans.{Plan}
use Rattle.cy_planner_algebra.specs.PlanModels.{plan_of}
use Rattle.cy_planner_pushdown.specs.internal.Conditions.{is_new}
use Rattle.cy_planner_pushdown.specs.internal.Pushed.{StandIn, kind_at}
use Rattle.cy_planner_pushdown.proofs.Readings.{none_stand, stands_next, written_next}
use Rattle.cy_planner_pushdown.proofs.conditions.reading_of.Goals as goal

pub loop-variable-init : goal.loop-variable-init
loop-variable-init c =
    let part : Plan = plan_of c.args.below.now in
    record {
      stand = subst (λ (cs : List ℕ). StandIn part cs c.new-scope.result) (sym c.new-columns.ensures.items)
          (subst (λ (s : Scope). StandIn part [] s) (sym c.new-scope.ensures) (none_stand part));
      written = c.new-written.ensures.items ∙ sym (ap (map (λ n. c.args.before + n)) c.new-columns.ensures.items);
    }

pub loop-variable-preserved : goal.loop-variable-preserved
loop-variable-preserved c =
    let part : Plan = plan_of c.args.below.now in
    let columns : List ℕ = c.loop-variable.columns.items in
    let written : List ℕ = c.loop-variable.written.items in
    let scope : Scope = c.loop-variable.scope in
    let before : ℕ = c.args.before in
    let after : ℕ = c.in-Some.after in
    let name : Name = c.as_str-in-loop-variable.result.now in
    let kind : Kind = c.in-Some-kind_at.kind in
    let least : before ≤ after = c.if-after-before.false in
    let at : kind_at part (after - before) ≡ Some kind = ap (λ q. kind_at (plan_of q) (after - before)) (sym c.root.ensures.same) ∙ sym c.kind_at.ensures ∙ c.in-Some-kind_at.is in
    let new : is_new scope columns name (after - before) ≡ true = first_of (search rules, grind (arith, common_steps)) in
    let added : c.add_name.new.self ≡ added_name scope kind name = c.in_ok-add_name.ensures in
    let pushed : c.push.new.self.items ≡ columns ++ (after - before) ∷ [] = first_of (cc, grind (arith, common_steps)) in
    let pushed_too : c.push-in-loop-variable.new.self.items ≡ written ++ after ∷ [] = first_of (cc, grind (arith, common_steps)) in
    record {
      stand = subst (λ (cs : List ℕ). StandIn part cs c.add_name.new.self) (sym pushed)
          (subst (λ (s : Scope). StandIn part (columns ++ (after - before) ∷ []) s) (sym added)
          (stands_next part columns scope (after - before) name kind c.loop-variable.invariant.stand at new));
      written = pushed_too ∙ written_next before after columns written c.loop-variable.invariant.written least ∙ sym (ap (map (λ n. before + n)) pushed);
    }
