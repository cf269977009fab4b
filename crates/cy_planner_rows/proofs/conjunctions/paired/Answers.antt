use Rattle.std.proofs.Common.{◌≡◌, rules, List, [], ◌∷◌, ◌++◌, length, sym, ap, subst, ◌∙◌, arith}
use Rattle.std.proofs.lemmas.Grind.{common_steps}
use Rattle.std.proofs.lemmas.List.{length-reverse}
use Rattle.cy_trees.specs.declared.expressions.BinaryOperator.TheVariants.{And}
use Rattle.cy_trees.specs.declared.expressions.Expr.{Expr, the_lemmas}
use Rattle.cy_trees.specs.declared.expressions.Expr.TheVariants as expr
use Rattle.cy_trees.specs.Trees.{binary}
use Rattle.cy_trees.specs.TreeModels.{expression_of}
use Rattle.cy_planner_rows.specs.internal.Conjuncts.{all_conjuncts}
use Rattle.cy_planner_rows.specs.internal.Opened.{AreFewer, waiting}
use Rattle.cy_planner_rows.proofs.Stacks.{fewer_last_one, fewer_two, joined_one, joined_two, waiting_reversed}
use Rattle.cy_planner_rows.proofs.conjunctions.paired.Goals as goal

pub loop-first-init : goal.loop-first-init
loop-first-init c = (
  (λ i. all_conjuncts (c.new-made.ensures.items i) ++ waiting (c.reverse.ensures.items i)) ∙ waiting_reversed c.args.tests.items,
  subst (λ (es : List Expr). AreFewer (length c.args.tests.items) (length es) (length c.reverse.new.self.items)) (sym c.new-made.ensures.items) (ap length c.reverse.ensures.items ∙ length-reverse c.args.tests.items),
)

pub loop-first-preserved-in-Continue-branch-3 : goal.loop-first-preserved-in-Continue-branch-3
loop-first-preserved-in-Continue-branch-3 c =
    let last : c.loop-first.tests.items ≡ c.pop.new.self.items ++ c.in-Some.first ∷ [] = first_of (search rules, grind (arith, common_steps)) in
    let next : c.pop.new.self.items ≡ c.pop-in-Some.new.self.items ++ c.in-Some-pop.second ∷ [] = first_of (search rules, grind (arith, common_steps)) in
    let pair : Expr = expr.Binary And c.in_ok-first-in-Some-pop.first c.in_ok-second-in-Some-pop.second in
    let made : expression_of pair ≡ binary And (expression_of c.in_ok-first-in-Some-pop.first.value) (expression_of c.in_ok-second-in-Some-pop.second.value) = search (rules, the_lemmas) in
    let one : c.in_ok-first-in-Some-pop.first.value ≡ c.in-Some.first = first_of (search rules, grind (arith, common_steps)) in
    let two : c.in_ok-second-in-Some-pop.second.value ≡ c.in-Some-pop.second = first_of (search rules, grind (arith, common_steps)) in
    let is : expression_of pair ≡ binary And (expression_of c.in-Some.first) (expression_of c.in-Some-pop.second) = made ∙ (λ i. binary And (expression_of (one i)) (expression_of (two i))) in (
      joined_two c.loop-first.tests.items c.pop.new.self.items c.pop-in-Some.new.self.items c.loop-first.made.items c.push.new.self.items c.in-Some.first c.in-Some-pop.second pair last next c.in_ok-push-in-Some-pop.ensures.items is
          ∙ c.loop-first.invariant.0,
      fewer_two c.loop-first.tests.items c.pop.new.self.items c.pop-in-Some.new.self.items c.loop-first.made.items c.push.new.self.items c.in-Some.first c.in-Some-pop.second pair last next c.in_ok-push-in-Some-pop.ensures.items is
          (length c.args.tests.items) c.loop-first.invariant.1,
    )

pub loop-first-preserved : goal.loop-first-preserved
loop-first-preserved c =
    let last : c.loop-first.tests.items ≡ c.pop.new.self.items ++ c.in-Some.first ∷ [] = first_of (search rules, grind (arith, common_steps)) in
    let none : c.pop.new.self.items ≡ [] = first_of (search rules, grind (arith, common_steps)) in
    let after : c.pop-in-Some.new.self.items ≡ [] = first_of (search rules, grind (arith, common_steps)) in (
      joined_one c.loop-first.tests.items c.pop.new.self.items c.pop-in-Some.new.self.items c.loop-first.made.items c.push-in-None.new.self.items c.in-Some.first last none after c.in_ok-push-in-None.ensures.items
          ∙ c.loop-first.invariant.0,
      fewer_last_one c.loop-first.tests.items c.pop.new.self.items c.pop-in-Some.new.self.items c.loop-first.made.items c.push-in-None.new.self.items c.in-Some.first last none after c.in_ok-push-in-None.ensures.items
          (length c.args.tests.items) c.loop-first.invariant.1,
    )
