-- Two conditions that AND joins, one after the other, and what holds of any row.
use Rattle.std.proofs.Common.{◌≡◌, Bool, true, false, cond, ◌&&◌, List, [], ◌∷◌, filter, refl, sym, ap, subst, ◌∙◌}
use Rattle.std.specs.Prelude.{IsOk, Result, Ok, Err}
use Rattle.std.specs.List.{AllByRecursion}
use Rattle.cy_values.specs.declared.rows.Cell.{Cell}
use Rattle.cy_values.specs.declared.scalars.Value.{Value}
use Rattle.cy_values.specs.declared.truth.Truth.{Truth}
use Rattle.cy_values.specs.declared.truth.Truth.TheVariants.{No, Unknown, Yes}
use Rattle.cy_values.specs.Truth.{both, is_yes}
use Rattle.cy_values.proofs.Booleans.{none_and}
use Rattle.cy_trees.specs.declared.expressions.BinaryOperator.TheVariants.{And}
use Rattle.cy_trees.specs.Trees.{Expression, binary}
use Rattle.cy_scope_kinds.specs.Scopes.{Scope}
use Rattle.cy_graph.specs.Graph.{Content}
use Rattle.cy_expr.specs.declared.faults.EvalFault.{EvalFault}
use Rattle.cy_expr.specs.Evaluation.{as_cell, cell_of}
use Rattle.cy_expr.specs.Faults.{on_one, on_two}
use Rattle.cy_expr.specs.Graphs.{lookups}
use Rattle.cy_expr.specs.Logic.{conjunction, truth_of, value_of}
use Rattle.cy_expr.specs.Operators.{value_in_cell}
use Rattle.cy_planner_algebra.specs.Expressions.{is_true}
use Rattle.cy_planner_rows.specs.Rows.{condition_on, keeps}
use Rattle.cy_planner_rows.proofs.Alike.{in_cell}
use Rattle.cy_scope_kinds.specs.Kinded.{IsKinded}

-- ---- what holds of any row

abbrev pub anything : List Cell → Type 0
anything row = Unit {0}

pub all_anything : (rows : List (List Cell)) → AllByRecursion anything rows
all_anything [] = tt
all_anything (row ∷ rows) = (tt, all_anything rows)

-- ---- AND

pub truth_back : (t : Truth) → truth_of (value_of t) ≡ Ok t
truth_back Yes = refl
truth_back No = refl
truth_back Unknown = refl

yes_both : (t u : Truth) → is_yes (both t u) ≡ (is_yes t && is_yes u)
yes_both Yes Yes = refl
yes_both Yes No = refl
yes_both Yes Unknown = refl
yes_both No Yes = refl
yes_both No No = refl
yes_both No Unknown = refl
yes_both Unknown Yes = refl
yes_both Unknown No = refl
yes_both Unknown Unknown = refl

-- the truth of AND, by the outcomes of its operands
abbrev pub joined_truth : Result Truth EvalFault → Result Truth EvalFault → Result Truth EvalFault
joined_truth o p = on_one truth_of (on_two (λ a b. Ok (value_of (both a b))) o p)

joined_true : (o p : Result Truth EvalFault) → is_true (joined_truth o p) ≡ (is_true o && is_true p)
joined_true (Ok t) (Ok u) = ap is_true (truth_back (both t u)) ∙ yes_both t u
joined_true (Ok t) (Err fault) = none_and (is_yes t)
joined_true (Err fault) p = refl

joined_ok : (o p : Result Truth EvalFault) → IsOk (joined_truth o p) → IsOk o × IsOk p
joined_ok (Ok t) (Ok u) is = (refl, refl)
joined_ok (Ok t) (Err fault) is = cc
joined_ok (Err fault) p is = cc

abbrev pub whole : Result Value EvalFault → Result Value EvalFault → Result Truth EvalFault
whole v w = on_one truth_of (on_one value_in_cell (as_cell (on_two conjunction v w)))

pub whole_true : (v w : Result Value EvalFault) → is_true (whole v w) ≡ (is_true (on_one truth_of v) && is_true (on_one truth_of w))
whole_true (Ok v) (Ok w) = ap (λ (o : Result Value EvalFault). is_true (on_one truth_of o)) (in_cell (conjunction v w)) ∙ joined_true (truth_of v) (truth_of w)
whole_true (Ok v) (Err fault) = none_and (is_true (truth_of v))
whole_true (Err fault) w = refl

pub whole_ok : (v w : Result Value EvalFault) → IsOk (whole v w) → IsOk (on_one truth_of v) × IsOk (on_one truth_of w)
whole_ok (Ok v) (Ok w) is = joined_ok (truth_of v) (truth_of w) (subst (λ (o : Result Value EvalFault). IsOk (on_one truth_of o)) (in_cell (conjunction v w)) is)
whole_ok (Ok v) (Err fault) is = cc
whole_ok (Err fault) w is = cc

module _ (graph : Content) (a b : Expression) where
  pub keeps_both : (row : List Cell) → keeps graph (binary And a b) row ≡ (keeps graph a row && keeps graph b row)
  keeps_both row = whole_true (on_one value_in_cell (cell_of (lookups graph) row a)) (on_one value_in_cell (cell_of (lookups graph) row b))

  pub both_have : (rows : List (List Cell)) → AllByRecursion (λ row. IsOk (condition_on graph (binary And a b) row)) rows
      → AllByRecursion (λ row. IsOk (condition_on graph a row)) rows × AllByRecursion (λ row. IsOk (condition_on graph b row)) rows
  both_have [] each = (tt, tt)
  both_have (row ∷ rows) each =
      let here = whole_ok (on_one value_in_cell (cell_of (lookups graph) row a)) (on_one value_in_cell (cell_of (lookups graph) row b)) each.0 in
      let rest = both_have rows each.1 in
      ((here.0, rest.0), (here.1, rest.1))

-- ---- lists

pub sifted_both : (p q r : List Cell → Bool) → ((row : List Cell) → r row ≡ (p row && q row)) → (rows : List (List Cell)) → filter q (filter p rows) ≡ filter r rows
sifted_both p q r same [] = refl
sifted_both p q r same (row ∷ rows) =
    step (sifted_both p q r same rows) (p row) (q row) refl refl ∙ ap (λ b. cond b (row ∷ filter r rows) (filter r rows)) (sym (same row))
  where
    step : filter q (filter p rows) ≡ filter r rows → (b c : Bool) → p row ≡ b → q row ≡ c → filter q (cond (p row) (row ∷ filter p rows) (filter p rows)) ≡ cond (p row && q row) (row ∷ filter r rows) (filter r rows)
    step rest true true here there =
        ap (λ k. filter q (cond k (row ∷ filter p rows) (filter p rows))) here
        ∙ ap (λ k. cond k (row ∷ filter q (filter p rows)) (filter q (filter p rows))) there
        ∙ ap (λ l. row ∷ l) rest
        ∙ sym (λ i. cond (here i && there i) (row ∷ filter r rows) (filter r rows))
    step rest true false here there =
        ap (λ k. filter q (cond k (row ∷ filter p rows) (filter p rows))) here
        ∙ ap (λ k. cond k (row ∷ filter q (filter p rows)) (filter q (filter p rows))) there
        ∙ rest
        ∙ sym (λ i. cond (here i && there i) (row ∷ filter r rows) (filter r rows))
    step rest false c here there =
        ap (λ k. filter q (cond k (row ∷ filter p rows) (filter p rows))) here
        ∙ rest
        ∙ sym (ap (λ k. cond (k && q row) (row ∷ filter r rows) (filter r rows)) here)

pub each_sifted : (P : List Cell → Type 0) (p : List Cell → Bool) (rows : List (List Cell)) → AllByRecursion P rows → AllByRecursion P (filter p rows)
each_sifted P p [] each = tt
each_sifted P p (row ∷ rows) each =
    elim (p row) as (λ b. AllByRecursion P (cond b (row ∷ filter p rows) (filter p rows))) [
      | true ↦ (each.0, each_sifted P p rows each.1)
      | false ↦ each_sifted P p rows each.1
    ]

-- ---- kinds

pub both_kinded : (scope : Scope) (a b : Expression) → IsKinded scope (binary And a b) → IsKinded scope a × IsKinded scope b
both_kinded scope a b (k, is) = ((is.1, is.3), (is.2, is.4))
