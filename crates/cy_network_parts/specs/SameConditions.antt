-- Conditions on rows that are the same, of the forms that patterns make. (own)
use Rattle.std.specs.Prelude.{ℕ, zero, suc, ◌==◌, Bool, true, false, not, ◌&&◌, Option, None, Some, if◌then◌else◌}
use Rattle.std.specs.Ordering.{int_eq}
use Rattle.std.specs.Str.{bytes_eq}
use Rattle.cy_trees.specs.Trees.{Expression, boolean, integer, text, variable, binary, comparison, Links, no_links, link}
use Rattle.cy_trees.specs.declared.expressions.BinaryOperator.{BinaryOperator}
use Rattle.cy_trees.specs.declared.expressions.BinaryOperator.TheVariants.{And, In}
use Rattle.cy_trees.specs.declared.expressions.Comparator.{Comparator}
use Rattle.cy_trees.specs.declared.expressions.Comparator.TheVariants.{Equal}
use Rattle.cy_trees.specs.declared.expressions.Variable.{Variable}

-- two columns are the same, or neither is known
abbrev pub same_column : Option ℕ → Option ℕ → Bool
same_column None None = true
same_column None (Some d) = false
same_column (Some c) None = false
same_column (Some c) (Some d) = c == d

abbrev pub same_variable : Variable → Variable → Bool
same_variable v w = bytes_eq v.name w.name && same_column v.column w.column

abbrev pub same_truth : Bool → Bool → Bool
same_truth true b = b
same_truth false b = not b

-- two expressions are the same variable or the same literal
abbrev pub same_operand : Expression → Expression → Bool
same_operand (boolean a) (boolean b) = same_truth a b
same_operand (integer m) (integer n) = int_eq m n
same_operand (text s) (text t) = bytes_eq s t
same_operand (variable v) (variable w) = same_variable v w
same_operand _ _ = false

-- both operators are this one
abbrev pub are_and : BinaryOperator → BinaryOperator → Bool
are_and And And = true
are_and _ _ = false

abbrev pub are_in : BinaryOperator → BinaryOperator → Bool
are_in In In = true
are_in _ _ = false

abbrev pub are_equal : Comparator → Comparator → Bool
are_equal Equal Equal = true
are_equal _ _ = false

-- two links of comparisons are equalities with the same value
abbrev pub same_link : Comparator × Expression → Comparator × Expression → Bool
same_link l m = are_equal l.0 m.0 && same_operand l.1 m.1

-- two comparisons go on with the same equalities
abbrev pub same_links : Links → Links → Bool
same_links no_links no_links = true
same_links (link c a ls) (link d b ms) = same_link (c, a) (d, b) && same_links ls ms
same_links _ _ = false

-- Two conditions are the same, this deep at most: a value is in a list, a value equals another one, or several such conditions hold.
abbrev pub same_condition : ℕ → Expression → Expression → Bool
same_condition zero e f = false
same_condition (suc deep) (binary o a b) (binary p c d) =
    if are_and o p then same_condition deep a c && same_condition deep b d else (are_in o p && (same_operand a c && same_operand b d))
same_condition (suc deep) (comparison a ls) (comparison b ms) = same_operand a b && same_links ls ms
same_condition (suc deep) _ _ = false
