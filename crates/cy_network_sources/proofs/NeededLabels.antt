-- The label that a scan of nodes needs.
use Rattle.std.proofs.Common.{◌≡◌, ℕ, ◌+◌, ◌-◌, ◌<◌, ◌≤◌, Bool, true, false, cond, ◌||◌, List, [], ◌∷◌, Some, refl, sym, ap, ◌∙◌, map, length, get_or, drop, Bor, arith}
use Rattle.std.specs.Prelude.{Ok}
use Rattle.std.specs.List.{list_any}
use Rattle.std.specs.Str.{bytes_eq}
use Rattle.std.proofs.lemmas.List.{drop_all, drop_more, get_or-map, length-map}
use Rattle.cy_values.specs.declared.scalars.Scalar.TheVariants as scalar
use Rattle.cy_values.specs.declared.scalars.Value.{Value}
use Rattle.cy_values.specs.declared.scalars.Value.TheVariants as value
use Rattle.cy_values.specs.declared.rows.Cell.{Cell}
use Rattle.cy_values.specs.declared.rows.Cell.TheVariants as cell
use Rattle.cy_values.specs.Truth.{known, one_at_least}
use Rattle.cy_trees.specs.declared.expressions.BinaryOperator.TheVariants.{In}
use Rattle.cy_trees.specs.Trees.{Name, Expression, binary, text}
use Rattle.cy_expr.specs.Evaluation.{as_cell}
use Rattle.cy_expr.specs.Faults.{on_one}
use Rattle.cy_expr.specs.Lists.{equals_one, membership}
use Rattle.cy_expr.specs.Logic.{truth_of, value_of}
use Rattle.cy_expr.specs.Operators.{value_in_cell}
use Rattle.cy_planner_algebra.specs.declared.operators.Attribute.{Attribute}
use Rattle.cy_planner_algebra.specs.declared.operators.Attribute.TheVariants.{Labels}
use Rattle.cy_planner_algebra.specs.declared.operators.Operator.{Operator}
use Rattle.cy_graph.specs.declared.nodes.Node.{Node}
use Rattle.cy_planner_algebra.specs.Expressions.{cell_at, cell_of, holds, is_true, projected}
use Rattle.cy_planner_algebra.specs.Plans as plan
use Rattle.cy_planner_algebra.specs.Plans.{Output, Plan, computed}
use Rattle.cy_planner_algebra.specs.PlanModels.{plan_of}
use Rattle.cy_network_sources.specs.Scans.{is_column}
use Rattle.cy_network_sources.specs.Attributes.{node_attribute}
use Rattle.cy_network_sources.specs.internal.Rows.{node_rows}
use Rattle.cy_network_sources.specs.internal.Through.{IsLabelTest, IsNeeded, LeaveNode, labelled, through}
use Rattle.cy_network_sources.proofs.Through.{column_cell, column_is}
use Rattle.cy_network_sources.proofs.ThroughSteps.{none_after}

-- a label in the list of a node's labels
either_known : (a b : Bool) → one_at_least (known a) (known b) ≡ known (a || b)
either_known true true = refl
either_known true false = refl
either_known false true = refl
either_known false false = refl

label_among : (l : Name) (ls : List Name) → equals_one (value.Text l) (map (λ m. scalar.Text m) ls) ≡ known (list_any (bytes_eq l) ls)
label_among l [] = refl
label_among l (m ∷ ls) = ap (one_at_least (known (bytes_eq l m))) (label_among l ls) ∙ either_known (bytes_eq l m) (list_any (bytes_eq l) ls)

known_value : (a : Bool) → value_of (known a) ≡ value.Bool a
known_value true = refl
known_value false = refl

module _ (row : List Cell) (labels : Expression) (column : is_column 1 (computed labels) ≡ true) (l : Name) (ls : List Name)
    (at : cell_at row 1 ≡ cell.Value (value.List (map (λ m. scalar.Text m) ls))) where
  one_in : cell_of row (binary In (text l) labels) ≡ Ok (cell.Value (value.Bool (list_any (bytes_eq l) ls)))
  one_in =
      ap (λ r. as_cell (on_one (membership (value.Text l)) (on_one value_in_cell r))) (column_is labels 1 row column ∙ ap Ok at)
      ∙ ap (λ t. Ok (cell.Value (value_of t))) (label_among l ls)
      ∙ ap (λ v. Ok (cell.Value v)) (known_value (list_any (bytes_eq l) ls))

  pub passes : holds (binary In (text l) labels) row ≡ list_any (bytes_eq l) ls
  passes = ap (λ r. is_true (on_one truth_of (on_one value_in_cell r))) one_in ∙ by (list_any (bytes_eq l) ls)
    where
      by : (b : Bool) → is_true (on_one truth_of (on_one value_in_cell (Ok (cell.Value (value.Bool b))))) ≡ b
      by true = refl
      by false = refl

-- a filter that tests for a label keeps the row of a node that has it
pub label_test : (label : Name) (tested looking leaf p q : Plan) (column : ℕ) (labels : Expression)
    → tested ≡ plan.filter p (binary In (text label) labels) → looking ≡ plan.lookup q column Labels → leaf ≡ plan.nodes → is_column 1 (computed labels) ≡ true
    → IsLabelTest label (tested ∷ looking ∷ leaf ∷ [])
label_test label tested looking leaf p q column labels is_filter is_lookup is_leaf second number node =
    ap (λ f. through values (f ∷ looking ∷ leaf ∷ []) (node_rows number (Some node))) is_filter
    ∙ ap (λ f. through values (plan.filter p (binary In (text label) labels) ∷ f ∷ leaf ∷ []) (node_rows number (Some node))) is_lookup
    ∙ ap (λ f. through values (plan.filter p (binary In (text label) labels) ∷ plan.lookup q column Labels ∷ f ∷ []) (node_rows number (Some node))) is_leaf
    ∙ ap (λ b. cond b (labelled number node ∷ []) []) (passes (labelled number node) labels second label (map (λ l. l.0) node.labels) refl)
  where
    values : Attribute → Value
    values a = node_attribute a (Some node)

-- and leaves out one without it
pub without_label : (label : Name) (ps : List Plan) → IsLabelTest label ps → IsNeeded label ps
without_label label ps tests number node without = tests number node ∙ ap (λ b. cond b (labelled number node ∷ []) []) without

pub tests_label : (label : Name) (tested looking leaf p q : Plan) (column : ℕ) (labels : Expression)
    → tested ≡ plan.filter p (binary In (text label) labels) → looking ≡ plan.lookup q column Labels → leaf ≡ plan.nodes → is_column 1 (computed labels) ≡ true
    → IsNeeded label (tested ∷ looking ∷ leaf ∷ [])
tests_label label tested looking leaf p q column labels is_filter is_lookup is_leaf second =
    without_label label (tested ∷ looking ∷ leaf ∷ []) (label_test label tested looking leaf p q column labels is_filter is_lookup is_leaf second)

-- a projection to the first column then leaves the row of such a node as it is
pub leaves_node : (label : Name) (node : Node) (projection r : Plan) (o : Output) (ps : List Plan) → IsLabelTest label ps → list_any (bytes_eq label) (map (λ l. l.0) node.labels) ≡ true
    → projection ≡ plan.project r (o ∷ []) → is_column 0 o ≡ true → LeaveNode node (projection ∷ ps)
leaves_node label node projection r o ps tests with is first number =
    ap (λ q. through values (q ∷ ps) (node_rows number (Some node))) is
    ∙ ap (map (projected (o ∷ []))) (tests number node ∙ ap (λ b. cond b (labelled number node ∷ []) []) with)
    ∙ ap (λ c. (c ∷ []) ∷ []) (column_cell o 0 (labelled number node) first)
  where
    values : Attribute → Value
    values a = node_attribute a (Some node)

-- none is left out where all are left
pub all_left : (node : Node) (parts : List (Bor Operator)) (count : ℕ) → count ≡ length parts → LeaveNode node (drop count (map (λ (part : Bor Operator). plan_of part.now) parts))
all_left node parts count all number =
    let same = length-map parts (λ (part : Bor Operator). plan_of part.now) in
    ap (λ ps. through (λ a. node_attribute a (Some node)) ps (node_rows number (Some node))) (drop_all count (map (λ (part : Bor Operator). plan_of part.now) parts) (omega (arith, all, same)))

-- the last three of some parts
module _ (parts : List (Bor Operator)) (some : 3 ≤ length parts) where
  abbrev plans : List Plan
  plans = map (λ (part : Bor Operator). plan_of part.now) parts

  place : (k : ℕ) (x : Bor Operator) → k < length parts → x ≡ get_or parts k x → plan_of x.now ≡ get_or plans k (plan_of x.now)
  place k x within is = ap (λ (part : Bor Operator). plan_of part.now) is ∙ sym (get_or-map (λ (part : Bor Operator). plan_of part.now) parts k x (plan_of x.now) within)

  same_many : length plans ≡ length parts
  same_many = length-map parts (λ (part : Bor Operator). plan_of part.now)

  one_of : (k : ℕ) (x : Bor Operator) → k < length parts → x ≡ get_or parts k x → drop k plans ≡ plan_of x.now ∷ drop (k + 1) plans
  one_of k x within is =
      let many = same_many in
      drop_more plans k (plan_of x.now) (omega (arith, many, within)) ∙ ap (λ p. p ∷ drop (k + 1) plans) (sym (place k x within is))

  last_three : (x y z : Bor Operator) → x ≡ get_or parts (length parts - 3) x → y ≡ get_or parts (length parts - 2) y → z ≡ get_or parts (length parts - 1) z
      → drop (length parts - 3) plans ≡ plan_of x.now ∷ plan_of y.now ∷ plan_of z.now ∷ []
  last_three x y z first second third =
      let many = same_many in
      let two : length parts - 3 + 1 ≡ length parts - 2 = omega (arith, some) in
      let one : length parts - 2 + 1 ≡ length parts - 1 = omega (arith, some) in
      one_of (length parts - 3) x (omega (arith, some)) first
      ∙ ap (λ n. plan_of x.now ∷ drop n plans) two
      ∙ ap (λ ps. plan_of x.now ∷ ps) (one_of (length parts - 2) y (omega (arith, some)) second
      ∙ ap (λ n. plan_of y.now ∷ drop n plans) one
      ∙ ap (λ ps. plan_of y.now ∷ ps) (one_of (length parts - 1) z (omega (arith, some)) third
      ∙ ap (λ ps. plan_of z.now ∷ ps) (drop_all (length parts - 1 + 1) plans (omega (arith, some, many)))))

  -- what the last four leave
  pub left_by_last : (node : Node) (w x y z : Bor Operator) → 4 ≤ length parts → w ≡ get_or parts (length parts - 4) w → x ≡ get_or parts (length parts - 3) x → y ≡ get_or parts (length parts - 2) y
      → z ≡ get_or parts (length parts - 1) z → LeaveNode node (plan_of w.now ∷ plan_of x.now ∷ plan_of y.now ∷ plan_of z.now ∷ []) → LeaveNode node (drop (length parts - 4) plans)
  left_by_last node w x y z four first second third fourth leaves number =
      let three : length parts - 4 + 1 ≡ length parts - 3 = omega (arith, four) in
      let last : drop (length parts - 4) plans ≡ plan_of w.now ∷ plan_of x.now ∷ plan_of y.now ∷ plan_of z.now ∷ [] =
      one_of (length parts - 4) w (omega (arith, four)) first
      ∙ ap (λ n. plan_of w.now ∷ drop n plans) three
      ∙ ap (λ ps. plan_of w.now ∷ ps) (last_three x y z second third fourth) in
      ap (λ ps. through (λ a. node_attribute a (Some node)) ps (node_rows number (Some node))) last ∙ leaves number

  -- what they need all need
  pub needed_by_last : (label : Name) (x y z : Bor Operator) → x ≡ get_or parts (length parts - 3) x → y ≡ get_or parts (length parts - 2) y → z ≡ get_or parts (length parts - 1) z
      → IsNeeded label (plan_of x.now ∷ plan_of y.now ∷ plan_of z.now ∷ []) → IsNeeded label plans
  needed_by_last label x y z first second third needed number node without =
      none_after (λ a. node_attribute a (Some node)) plans (length parts - 3) (node_rows number (Some node))
      (ap (λ ps. through (λ a. node_attribute a (Some node)) ps (node_rows number (Some node))) (last_three x y z first second third) ∙ needed number node without)
