-- The depth of a list of parts with one part more at its end.
use Rattle.std.proofs.Common.{◌≡◌, max, List, [], ◌∷◌, ◌++◌, map, ap, ◌∙◌, arith, rules}
use Rattle.std.proofs.lemmas.List.{map-append}
use Rattle.cy_trees.specs.declared.expressions.Expr.{Expr, the_lemmas}
use Rattle.cy_trees.specs.declared.expressions.Arm.{Arm}
use Rattle.cy_trees.specs.declared.expressions.Link.{Link}
use Rattle.cy_trees.specs.declared.expressions.Comparator.{Comparator}
use Rattle.cy_trees.specs.Trees.{Expression}
use Rattle.cy_trees.specs.Depth.{depth, deepest, links_depth, arms_depth}
use Rattle.cy_trees.specs.TreeModels.{expression_of, arm_of, link_of, expressions_from, links_from, arms_from}

pub deepest_push : (es : List Expression) (e : Expression) → deepest (expressions_from (es ++ e ∷ [])) ≡ max (deepest (expressions_from es)) (depth e)
deepest_push [] e = omega arith
deepest_push (x ∷ es) e = let rest = deepest_push es e in omega (arith, rest)

pub links_push : (ls : List (Comparator × Expression)) (l : Comparator × Expression) →
    links_depth (links_from (ls ++ l ∷ [])) ≡ max (links_depth (links_from ls)) (depth l.1)
links_push [] l = omega arith
links_push (x ∷ ls) l = let rest = links_push ls l in omega (arith, rest)

pub arms_push : (arms : List (Expression × Expression)) (a : Expression × Expression) →
    arms_depth (arms_from (arms ++ a ∷ [])) ≡ max (arms_depth (arms_from arms)) (max (depth a.0) (depth a.1))
arms_push [] a = omega arith
arms_push (x ∷ arms) a = let rest = arms_push arms a in omega (arith, rest)

-- the same of what the code keeps
pub deepest_added : (es : List Expr) (e : Expr) (all : List Expr) → all ≡ es ++ e ∷ [] →
    deepest (expressions_from (map expression_of all)) ≡ max (deepest (expressions_from (map expression_of es))) (depth (expression_of e))
deepest_added es e all is =
    ap (λ xs. deepest (expressions_from (map expression_of xs))) is
    ∙ ap (λ xs. deepest (expressions_from xs)) (map-append expression_of es (e ∷ [])) ∙ deepest_push (map expression_of es) (expression_of e)

link_is : (by : Comparator) (e : Expr) → link_of (record { comparator = by; operand = e }) ≡ (by, expression_of e)
link_is by e = search (rules, the_lemmas)

pub links_added : (ls : List Link) (by : Comparator) (e : Expr) (all : List Link) → all ≡ ls ++ record { comparator = by; operand = e } ∷ [] →
    links_depth (links_from (map link_of all)) ≡ max (links_depth (links_from (map link_of ls))) (depth (expression_of e))
links_added ls by e all is =
    let added : Link = record { comparator = by; operand = e } in
    ap (λ xs. links_depth (links_from (map link_of xs))) is
    ∙ ap (λ xs. links_depth (links_from xs)) (map-append link_of ls (added ∷ []) ∙ ap (λ l. map link_of ls ++ l ∷ []) (link_is by e))
    ∙ links_push (map link_of ls) (by, expression_of e)

arm_is : (a b : Expr) → arm_of (record { condition = a; outcome = b }) ≡ (expression_of a, expression_of b)
arm_is a b = search (rules, the_lemmas)

pub arms_added : (given : List Arm) (a b : Expr) (all : List Arm) → all ≡ given ++ record { condition = a; outcome = b } ∷ [] →
    arms_depth (arms_from (map arm_of all)) ≡ max (arms_depth (arms_from (map arm_of given))) (max (depth (expression_of a)) (depth (expression_of b)))
arms_added given a b all is =
    let added : Arm = record { condition = a; outcome = b } in
    ap (λ xs. arms_depth (arms_from (map arm_of xs))) is
    ∙ ap (λ xs. arms_depth (arms_from xs)) (map-append arm_of given (added ∷ []) ∙ ap (λ x. map arm_of given ++ x ∷ []) (arm_is a b))
    ∙ arms_push (map arm_of given) (expression_of a, expression_of b)
