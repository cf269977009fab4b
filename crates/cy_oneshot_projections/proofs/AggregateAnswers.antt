-- What the functions that aggregate answer, from what their parts answer.
use Rattle.std.proofs.Common.{◌≡◌, ◌⊎◌, inl, inr, Bool, false, List, [], ◌∷◌, ◌++◌, length, get_or, map, refl, sym, ap, ◌∙◌, arith}
use Rattle.std.specs.Prelude.{pos, Option, Some, Result, Ok, Err}
use Rattle.cy_values.specs.declared.scalars.Value.{Value}
use Rattle.cy_values.specs.declared.scalars.Value.TheVariants as value
use Rattle.cy_values.specs.Order.{cell_order}
use Rattle.cy_values.specs.declared.rows.Cell.{Cell}
use Rattle.cy_trees.specs.declared.expressions.Expr.{Expr}
use Rattle.cy_trees.specs.Trees.{Name, call}
use Rattle.cy_trees.specs.TreeModels.{expression_of, expressions_from}
use Rattle.cy_graph.specs.Graph.{Content}
use Rattle.cy_scope_kinds.specs.declared.functions.Function.{Function}
use Rattle.cy_scope_kinds.specs.declared.functions.Function.TheVariants.{Count}
use Rattle.cy_scope_kinds.specs.Functions.{function_named}
use Rattle.cy_expr.specs.declared.faults.EvalFault.{EvalFault}
use Rattle.cy_expr.specs.declared.faults.EvalFault.TheVariants.{NoMemory, WrongType}
use Rattle.cy_expr.specs.Evaluation.{cell_of}
use Rattle.cy_expr.specs.Faults.{on_one}
use Rattle.cy_expr.specs.Graphs.{lookups}
use Rattle.cy_oneshot_meaning.specs.Groups.{aggregate, aggregate_if, last_or_null, over_rows, taken, without_nulls}
use Rattle.cy_oneshot_meaning.proofs.Once.{same_length}
use Rattle.cy_oneshot_meaning.proofs.OnceCounts.{permuted_in_order}
use Rattle.cy_oneshot_patterns.specs.Outcomes.{gathered}

one_argument : (arguments : List Expr) (argument : Expr) → length arguments ≡ 1 → argument ≡ get_or arguments 0 argument → arguments ≡ argument ∷ []
one_argument [] argument one is = absurd (omega arith)
one_argument (a ∷ []) argument one is = ap (λ (e : Expr). e ∷ []) (sym is)
one_argument (a ∷ b ∷ arguments) argument one is = absurd (omega arith)

-- the last value of several
pub last_of : (vs : List Value) (v : Value) → last_or_null (vs ++ v ∷ []) ≡ v
last_of [] v = refl
last_of (w ∷ []) v = refl
last_of (w ∷ u ∷ vs) v = last_of (u ∷ vs) v

abbrev pub failed : EvalFault → Result Value EvalFault
failed fault = Err fault

-- how many there are doesn't depend on their order
pub counts_alike : (cells : List Cell) (counted : Value) (function : Option Function) (distinct : Bool) → function ≡ Some Count → distinct ≡ false → Ok counted ≡ aggregate Count (without_nulls cells)
    → Ok counted ≡ aggregate_if function (taken distinct cells)
counts_alike cells counted function distinct is plain counts =
    counts
    ∙ ap (λ n. Ok (value.Int (pos n))) (sym (same_length (permuted_in_order cell_order (without_nulls cells))))
    ∙ sym (λ i. aggregate_if (is i) (taken (plain i) cells))

module _ (graph : Content) (name : Name) (distinct : Bool) (rows : List (List Cell)) where
  -- a call of an aggregate
  abbrev pub called : List Expr → Result Value EvalFault
  called arguments = over_rows graph (call name distinct (expressions_from (map expression_of arguments))) rows

  -- with one argument: what it takes, and then what it gives
  pub of_one : (arguments : List Expr) (argument : Expr) → length arguments ≡ 1 → argument ≡ get_or arguments 0 argument
      → called arguments ≡ on_one (λ cells. aggregate_if (function_named name) (taken distinct cells)) (gathered (map (λ row. cell_of (lookups graph) row (expression_of argument)) rows))
  of_one arguments argument one is = ap called (one_argument arguments argument one is)

  pub answers_one : (arguments : List Expr) (argument : Expr) → length arguments ≡ 1 → argument ≡ get_or arguments 0 argument → (cells took : List Cell) (function : Option Function)
      (r : Result Value EvalFault) → gathered (map (λ row. cell_of (lookups graph) row (expression_of argument)) rows) ≡ Ok cells → function ≡ function_named name → took ≡ taken distinct cells
      → (r ≡ aggregate_if function took) ⊎ (r ≡ Err NoMemory) → (r ≡ called arguments) ⊎ (r ≡ Err NoMemory)
  answers_one arguments argument one is cells took function r gives named takes (inl same) =
      inl (same ∙ (λ i. aggregate_if (named i) (takes i))
      ∙ sym (of_one arguments argument one is ∙ ap (λ (o : Result (List Cell) EvalFault). on_one (λ cells. aggregate_if (function_named name) (taken distinct cells)) o) gives))
  answers_one arguments argument one is cells took function r gives named takes (inr none) = inr none

  -- its argument faults
  pub fails_one : (arguments : List Expr) (argument : Expr) → length arguments ≡ 1 → argument ≡ get_or arguments 0 argument → (fault : EvalFault)
      → (gathered (map (λ row. cell_of (lookups graph) row (expression_of argument)) rows) ≡ Err fault) ⊎ (fault ≡ NoMemory)
      → (failed fault ≡ called arguments) ⊎ (failed fault ≡ failed NoMemory)
  fails_one arguments argument one is fault (inl wrong) =
      inl (sym (of_one arguments argument one is ∙ ap (λ (o : Result (List Cell) EvalFault). on_one (λ cells. aggregate_if (function_named name) (taken distinct cells)) o) wrong))
  fails_one arguments argument one is fault (inr none) = inr (ap failed none)

  -- with another number of arguments
  pub of_others : (arguments : List Expr) → (length arguments ≡ 1 → ⊥) → called arguments ≡ Err WrongType
  of_others [] other = refl
  of_others (a ∷ []) other = absurd (other refl)
  of_others (a ∷ b ∷ arguments) other = refl
