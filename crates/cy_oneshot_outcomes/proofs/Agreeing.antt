-- An expression gives the same on two rows that agree on the columns that it reads.
use Rattle.std.proofs.Common.{◌≡◌, ℕ, List, [], ◌∷◌, ◌++◌, Option, None, Some, Result, Ok, refl, ap, ◌∙◌}
use Rattle.cy_values.specs.declared.scalars.Value.{Value}
use Rattle.cy_values.specs.declared.truth.Truth.{Truth}
use Rattle.cy_values.specs.declared.rows.Cell.{Cell}
use Rattle.cy_values.specs.Truth.{both}
use Rattle.cy_trees.specs.Trees.{Expression, variable, property, has_labels, unary, binary, comparison, list, case, call, Expressions, no_more, more, Links, no_links, link, Arms, no_arms, arm, Otherwise, nothing, otherwise}
use Rattle.cy_scope_kinds.specs.Functions.{function_named}
use Rattle.cy_expr.specs.declared.faults.EvalFault.{EvalFault}
use Rattle.cy_expr.specs.Faults.{on_one, on_two}
use Rattle.cy_expr.specs.Logic.{value_of}
use Rattle.cy_expr.specs.Lists.{list_of}
use Rattle.cy_expr.specs.Choice.{choice}
use Rattle.cy_expr.specs.Operators.{binary_value, compared, unary_value, value_in_cell}
use Rattle.cy_expr.specs.Lookups.{Lookups, property_value, existence, labels_test}
use Rattle.cy_expr.specs.Evaluation.{as_cell, call_value, cell_of, cells_of, chain, column_value, outcome_of_else, outcomes_of, outcomes_of_arms, property_exists, values_of}
use Rattle.cy_expr.proofs.ReadingLemmas.{on_one-pointwise}
use Rattle.cy_oneshot_outcomes.specs.Columns.{AgreeOn, column_list, columns_of_arms, columns_of_elements, columns_of_links, columns_of_otherwise, columns_read}

pub agree-left : (columns others : List ℕ) (row other : List Cell) → AgreeOn (columns ++ others) row other → AgreeOn columns row other
agree-left [] others row other agree = tt
agree-left (c ∷ columns) others row other agree = (agree.0, agree-left columns others row other agree.1)

pub agree-right : (columns others : List ℕ) (row other : List Cell) → AgreeOn (columns ++ others) row other → AgreeOn others row other
agree-right [] others row other agree = agree
agree-right (c ∷ columns) others row other agree = agree-right columns others row other agree.1

module _ (graph : Lookups) (row other : List Cell) where
  column-same : (column : Option ℕ) → AgreeOn (column_list column) row other → column_value column row ≡ column_value column other
  column-same None agree = refl
  column-same (Some c) agree = agree.0

  left : (columns others : List ℕ) → AgreeOn (columns ++ others) row other → AgreeOn columns row other
  left columns others agree = agree-left columns others row other agree

  right : (columns others : List ℕ) → AgreeOn (columns ++ others) row other → AgreeOn others row other
  right columns others agree = agree-right columns others row other agree

  mutual
    pub cell-same : (e : Expression) → AgreeOn (columns_read e) row other → cell_of graph row e ≡ cell_of graph other e
    cell-same (variable v) h = ap (λ (c : Cell). Ok c) (column-same v.column h)
    cell-same (property e key) h = ap (λ (r : Result Cell EvalFault). as_cell (on_one (property_value graph key) r)) (cell-same e h)
    cell-same (has_labels e labels) h = ap (λ (r : Result Cell EvalFault). as_cell (on_one (labels_test graph labels) r)) (cell-same e h)
    cell-same (unary operator e) h = ap (λ (r : Result Cell EvalFault). as_cell (on_one (unary_value operator) r)) (cell-same e h)
    cell-same (binary operator a b) h =
        ap (λ (r : Result Cell EvalFault). as_cell (on_two (binary_value operator) (on_one value_in_cell r) (on_one value_in_cell (cell_of graph row b)))) (cell-same a (left (columns_read a) (columns_read b) h))
        ∙ ap (λ (r : Result Cell EvalFault). as_cell (on_two (binary_value operator) (on_one value_in_cell (cell_of graph other a)) (on_one value_in_cell r))) (cell-same b (right (columns_read a) (columns_read b) h))
    cell-same (comparison e links) h =
        ap (λ (r : Result Truth EvalFault). as_cell (on_one (λ a. Ok (value_of a)) r))
        (on_one-pointwise (λ c. chain graph row c links) (λ c. chain graph other c links) (cell_of graph row e) (cell_of graph other e)
        (cell-same e (left (columns_read e) (columns_of_links links) h)) (chain-same links (right (columns_read e) (columns_of_links links) h)))
    cell-same (list es) h = ap (λ (r : Result (List Value) EvalFault). as_cell (on_one list_of r)) (values-same es h)
    cell-same (case arms e) h =
        ap (λ (os : List (Result Value EvalFault × Result Value EvalFault)). as_cell (choice os (outcome_of_else graph row e))) (arms-same arms (left (columns_of_arms arms) (columns_of_otherwise e) h))
        ∙ ap (λ (o : Result Value EvalFault). as_cell (choice (outcomes_of_arms graph other arms) o)) (else-same e (right (columns_of_arms arms) (columns_of_otherwise e) h))
    cell-same (call name distinct es) h =
        ap as_cell (ap (λ (r : Result (List Cell) EvalFault). call_value graph (function_named name) r (outcomes_of graph row es) (property_exists graph row es)) (cells-same es h)
        ∙ ap (λ (os : List (Result Value EvalFault)). call_value graph (function_named name) (cells_of graph other es) os (property_exists graph row es)) (outcomes-same es h)
        ∙ ap (λ (o : Result Value EvalFault). call_value graph (function_named name) (cells_of graph other es) (outcomes_of graph other es) o) (asked-same es h))
    cell-same _ h = refl

    cells-same : (es : Expressions) → AgreeOn (columns_of_elements es) row other → cells_of graph row es ≡ cells_of graph other es
    cells-same no_more h = refl
    cells-same (more e es) h =
        ap (λ (r : Result Cell EvalFault). on_two (λ c cs. Ok (c ∷ cs)) r (cells_of graph row es)) (cell-same e (left (columns_read e) (columns_of_elements es) h))
        ∙ ap (λ (r : Result (List Cell) EvalFault). on_two (λ c cs. Ok (c ∷ cs)) (cell_of graph other e) r) (cells-same es (right (columns_read e) (columns_of_elements es) h))

    values-same : (es : Expressions) → AgreeOn (columns_of_elements es) row other → values_of graph row es ≡ values_of graph other es
    values-same no_more h = refl
    values-same (more e es) h =
        ap (λ (r : Result Cell EvalFault). on_two (λ v vs. Ok (v ∷ vs)) (on_one value_in_cell r) (values_of graph row es)) (cell-same e (left (columns_read e) (columns_of_elements es) h))
        ∙ ap (λ (r : Result (List Value) EvalFault). on_two (λ v vs. Ok (v ∷ vs)) (on_one value_in_cell (cell_of graph other e)) r) (values-same es (right (columns_read e) (columns_of_elements es) h))

    chain-same : (links : Links) → AgreeOn (columns_of_links links) row other → (c : Cell) → chain graph row c links ≡ chain graph other c links
    chain-same no_links h c = refl
    chain-same (link comparator e links) h c =
        on_one-pointwise (λ d. on_two (λ a b. Ok (both a b)) (compared comparator c d) (chain graph row d links)) (λ d. on_two (λ a b. Ok (both a b)) (compared comparator c d) (chain graph other d links))
        (cell_of graph row e) (cell_of graph other e) (cell-same e (left (columns_read e) (columns_of_links links) h))
        (λ d. ap (λ (r : Result Truth EvalFault). on_two (λ a b. Ok (both a b)) (compared comparator c d) r) (chain-same links (right (columns_read e) (columns_of_links links) h) d))

    outcomes-same : (es : Expressions) → AgreeOn (columns_of_elements es) row other → outcomes_of graph row es ≡ outcomes_of graph other es
    outcomes-same no_more h = refl
    outcomes-same (more e es) h =
        ap (λ (r : Result Cell EvalFault). on_one value_in_cell r ∷ outcomes_of graph row es) (cell-same e (left (columns_read e) (columns_of_elements es) h))
        ∙ ap (λ (os : List (Result Value EvalFault)). on_one value_in_cell (cell_of graph other e) ∷ os) (outcomes-same es (right (columns_read e) (columns_of_elements es) h))

    arms-same : (arms : Arms) → AgreeOn (columns_of_arms arms) row other → outcomes_of_arms graph row arms ≡ outcomes_of_arms graph other arms
    arms-same no_arms h = refl
    arms-same (arm condition outcome arms) h =
        let others = columns_read outcome ++ columns_of_arms arms in
        let later = right (columns_read condition) others h in
        ap (λ (r : Result Cell EvalFault). (on_one value_in_cell r, on_one value_in_cell (cell_of graph row outcome)) ∷ outcomes_of_arms graph row arms) (cell-same condition (left (columns_read condition) others h))
        ∙ ap (λ (r : Result Cell EvalFault). (on_one value_in_cell (cell_of graph other condition), on_one value_in_cell r) ∷ outcomes_of_arms graph row arms) (cell-same outcome (left (columns_read outcome) (columns_of_arms arms) later))
        ∙ ap (λ (os : List (Result Value EvalFault × Result Value EvalFault)). (on_one value_in_cell (cell_of graph other condition), on_one value_in_cell (cell_of graph other outcome)) ∷ os)
        (arms-same arms (right (columns_read outcome) (columns_of_arms arms) later))

    else-same : (e : Otherwise) → AgreeOn (columns_of_otherwise e) row other → outcome_of_else graph row e ≡ outcome_of_else graph other e
    else-same nothing h = refl
    else-same (otherwise e) h = ap (on_one value_in_cell) (cell-same e h)

    asked-same : (es : Expressions) → AgreeOn (columns_of_elements es) row other → property_exists graph row es ≡ property_exists graph other es
    asked-same (more (property e key) no_more) h = ap (on_one (existence graph key)) (cell-same e (left (columns_read e) [] h))
    asked-same es h = refl
