-- What the code looks at next, to see whether expressions are certain.
use Rattle.std.proofs.Common.{◌≡◌, ℕ, ◌+◌, ◌<◌, ◌≢◌, Bool, ◌&&◌, List, [], ◌∷◌, length, map, drop, get_or, refl, ap, ◌∙◌, arith, rules}
use Rattle.std.specs.List.{list_all}
use Rattle.cy_trees.specs.declared.expressions.Comparator.{Comparator}
use Rattle.cy_trees.specs.declared.expressions.Comparator.TheVariants.{Equal}
use Rattle.cy_trees.specs.declared.expressions.Expr.{Expr, the_lemmas}
use Rattle.cy_trees.specs.declared.expressions.Link.{Link}
use Rattle.cy_trees.specs.Trees.{Expression, link, no_links}
use Rattle.cy_trees.specs.TreeModels.{expression_of, expressions_from, link_of, links_from}
use Rattle.cy_scope_kinds.specs.Sure.{is_literal}
use Rattle.cy_oneshot_outcomes.specs.declared.certain.Shape.{Shape}
use Rattle.cy_oneshot_outcomes.specs.declared.certain.Shape.TheVariants as shape
use Rattle.cy_oneshot_outcomes.specs.internal.Certain.{are_certain, are_certain_links, are_literals, asked_shape, first_shape, gives_value, is_certain, may_compare}
use Rattle.cy_oneshot_patterns.proofs.Chains.{link_is}
use Rattle.cy_oneshot_patterns.proofs.SliceReads.{next_of}

pub literals_all : (es : List Expr) → list_all (λ e. is_literal (expression_of e)) es ≡ are_literals (expressions_from (map expression_of es))
literals_all [] = refl
literals_all (e ∷ es) = ap (λ b. is_literal (expression_of e) && b) (literals_all es)

-- the next operand of a chain
pub next_link : (shapes : List Shape) (value : Bool) (links : List Link) (i : ℕ) (x : Link) → i < length links → x ≡ get_or links i x
    → are_certain_links shapes value (links_from (map link_of (drop i links)))
    ≡ ((is_certain shapes (expression_of x.operand) && may_compare x.comparator (value && gives_value shapes (expression_of x.operand)))
    && are_certain_links shapes (gives_value shapes (expression_of x.operand)) (links_from (map link_of (drop (i + 1) links))))
next_link shapes value links i x within is =
    ap (λ l. are_certain_links shapes value (links_from (map link_of l))) (next_of links i x within is)
    ∙ ap (λ (l : Comparator × Expression). are_certain_links shapes value (link l.0 l.1 (links_from (map link_of (drop (i + 1) links))))) (link_is x.comparator x.operand)

-- more arguments than one, or none, give no variable
pub not_one_first : (shapes : List Shape) (es : List Expr) → length es ≢ 1 → first_shape shapes (expressions_from (map expression_of es)) ≡ shape.Value
not_one_first shapes [] other = refl
not_one_first shapes (e ∷ []) other = absurd (other refl)
not_one_first shapes (e ∷ f ∷ es) other = refl

pub not_one_asked : (shapes : List Shape) (es : List Expr) → length es ≢ 1 → asked_shape shapes (expressions_from (map expression_of es)) ≡ shape.Value
not_one_asked shapes [] other = refl
not_one_asked shapes (e ∷ []) other = absurd (other refl)
not_one_asked shapes (e ∷ f ∷ es) other = refl

-- the next of some expressions
pub next_expression : (shapes : List Shape) (es : List Expr) (i : ℕ) (x : Expr) → i < length es → x ≡ get_or es i x
    → are_certain shapes (expressions_from (map expression_of (drop i es)))
    ≡ ((is_certain shapes (expression_of x) && gives_value shapes (expression_of x)) && are_certain shapes (expressions_from (map expression_of (drop (i + 1) es))))
next_expression shapes es i x within is = ap (λ l. are_certain shapes (expressions_from (map expression_of l))) (next_of es i x within is)
