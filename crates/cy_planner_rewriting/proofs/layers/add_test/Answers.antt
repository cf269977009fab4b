use Rattle.std.proofs.Common.{◌≡◌, rules, List, [], ◌∷◌, ◌++◌, sym, subst, arith}
use Rattle.std.proofs.lemmas.Grind.{common_steps}
use Rattle.std.proofs.lemmas.List.{append-nil}
use Rattle.cy_planner_algebra.specs.Plans as plan
use Rattle.cy_planner_rewriting.specs.declared.layers.Layer.{Layer}
use Rattle.cy_planner_rewriting.specs.declared.layers.Layer.TheVariants as layer
use Rattle.cy_planner_rewriting.specs.internal.Layers.{AreInPlace}
use Rattle.cy_planner_rewriting.specs.Rewritten.{IsRewritten}
use Rattle.cy_planner_rewriting.proofs.Layering.{lowest_in_place}
use Rattle.cy_planner_rewriting.proofs.Rules.{different_in_none}
use Rattle.cy_planner_rewriting.proofs.layers.add_test.Goals as goal

pub returns-then-is_empty : goal.returns-then-is_empty
returns-then-is_empty c p =
    let ls : List Layer = c.args.layers.now.items in
    let test : List Layer = layer.AllDifferent c.args.columns ∷ [] in
    let none : c.args.columns.items ≡ [] = first_of (search rules, grind (arith, common_steps)) in
    subst (λ (others : List Layer). AreInPlace (ls ++ test) others p p) (append-nil ls)
    (lowest_in_place ls test [] p p (λ well. subst (λ columns. IsRewritten (plan.all_different p columns) p) (sym none) (different_in_none p)))
