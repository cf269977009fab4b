-- What a condition asks of the labels in the second column.
use Rattle.std.proofs.Common.{◌≡◌, true, ◌&&◌, List, refl, sym, ap, ◌∙◌}
use Rattle.std.specs.Prelude.{IfSome, Option, None, Some, Result, Ok, Err}
use Rattle.std.proofs.lemmas.Bool.{and_parts}
use Rattle.cy_values.specs.declared.rows.Cell.{Cell}
use Rattle.cy_values.specs.declared.scalars.Value.{Value}
use Rattle.cy_values.specs.declared.truth.Truth.{Truth}
use Rattle.cy_values.specs.declared.truth.Truth.TheVariants.{No, Unknown, Yes}
use Rattle.cy_values.specs.Truth.{both, is_yes}
use Rattle.cy_values.proofs.Booleans.{none_and}
use Rattle.cy_trees.specs.declared.expressions.BinaryOperator.TheVariants.{And, In}
use Rattle.cy_trees.specs.Trees.{Expression, Name, binary, text}
use Rattle.cy_expr.specs.declared.faults.EvalFault.{EvalFault}
use Rattle.cy_expr.specs.Evaluation.{as_cell}
use Rattle.cy_expr.specs.Faults.{on_one, on_two}
use Rattle.cy_expr.specs.Logic.{conjunction, truth_of, value_of}
use Rattle.cy_expr.specs.Operators.{value_in_cell}
use Rattle.cy_planner_algebra.specs.Expressions.{cell_of, holds, is_true}
use Rattle.cy_planner_algebra.specs.Plans.{computed}
use Rattle.cy_network_sources.specs.Scans.{is_column}
use Rattle.cy_network_sources.proofs.NeededLabels.{passes}
use Rattle.cy_network_relevance.specs.internal.Labelled.{Asks}

-- ---- whether a label is in a list of labels

pub asks_in : (label : Name) (test labels : Expression) → test ≡ binary In (text label) labels → is_column 1 (computed labels) ≡ true → Asks label test
asks_in label test labels is second row ls at held = sym (passes row labels second label ls at) ∙ ap (λ (e : Expression). holds e row) (sym is) ∙ held

-- ---- AND

yes_both : (t u : Truth) → is_true (truth_of (value_of (both t u))) ≡ (is_yes t && is_yes u)
yes_both Yes Yes = refl
yes_both Yes No = refl
yes_both Yes Unknown = refl
yes_both No Yes = refl
yes_both No No = refl
yes_both No Unknown = refl
yes_both Unknown Yes = refl
yes_both Unknown No = refl
yes_both Unknown Unknown = refl

abbrev joined_truth : Result Truth EvalFault → Result Truth EvalFault → Result Truth EvalFault
joined_truth o p = on_one truth_of (on_two (λ a b. Ok (value_of (both a b))) o p)

joined_true : (o p : Result Truth EvalFault) → is_true (joined_truth o p) ≡ (is_true o && is_true p)
joined_true (Ok t) (Ok u) = yes_both t u
joined_true (Ok t) (Err fault) = none_and (is_yes t)
joined_true (Err fault) p = refl

abbrev whole : Result Value EvalFault → Result Value EvalFault → Result Truth EvalFault
whole v w = on_one truth_of (on_one value_in_cell (as_cell (on_two conjunction v w)))

in_cell : (o : Result Value EvalFault) → on_one value_in_cell (as_cell o) ≡ o
in_cell (Ok v) = refl
in_cell (Err fault) = refl

whole_true : (v w : Result Value EvalFault) → is_true (whole v w) ≡ (is_true (on_one truth_of v) && is_true (on_one truth_of w))
whole_true (Ok v) (Ok w) = ap (λ (o : Result Value EvalFault). is_true (on_one truth_of o)) (in_cell (conjunction v w)) ∙ joined_true (truth_of v) (truth_of w)
whole_true (Ok v) (Err fault) = none_and (is_true (truth_of v))
whole_true (Err fault) w = refl

abbrev value_on : List Cell → Expression → Result Value EvalFault
value_on row e = on_one value_in_cell (cell_of row e)

and_holds : (a b : Expression) (row : List Cell) → holds (binary And a b) row ≡ (holds a row && holds b row)
and_holds a b row = whole_true (value_on row a) (value_on row b)

-- what a part of an AND asks the whole asks
pub asks_left : (label : Name) (test a b : Expression) → test ≡ binary And a b → Asks label a → Asks label test
asks_left label test a b is asks row ls at held =
    asks row ls at (and_parts (holds a row) (holds b row) (sym (and_holds a b row) ∙ ap (λ (e : Expression). holds e row) (sym is) ∙ held)).0

pub asks_right : (label : Name) (test a b : Expression) → test ≡ binary And a b → Asks label b → Asks label test
asks_right label test a b is asks row ls at held =
    asks row ls at (and_parts (holds a row) (holds b row) (sym (and_holds a b row) ∙ ap (λ (e : Expression). holds e row) (sym is) ∙ held)).1

-- what is known of a value, if there is one, gives what is weaker
pub weaker : {A : Type 0} (P Q : A → Type 0) → ((a : A) → P a → Q a) → (o : Option A) → IfSome o P → IfSome o Q
weaker P Q step None given = tt
weaker P Q step (Some a) given = step a given
