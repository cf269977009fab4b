-- What the parts of narrower plans are made of.
use Rattle.std.proofs.Common.{◌≡◌, ℕ, ◌+◌, ◌<◌, ◌≤◌, List, [], ◌∷◌, ◌++◌, length, map, sym, ap, subst, ◌∙◌, arith}
use Rattle.std.specs.Cmp.{IsTotalOrder}
use Rattle.std.specs.List.{All, AllByRecursion}
use Rattle.cy_values.specs.Order.{row_cmp}
use Rattle.cy_values.proofs.Lists.{each_then}
use Rattle.cy_trees.specs.Trees.{Expression}
use Rattle.cy_planner_algebra.specs.declared.operators.Attribute.{Attribute}
use Rattle.cy_planner_algebra.specs.declared.operators.KeyColumns.{KeyColumns}
use Rattle.cy_planner_algebra.specs.Plans as plan
use Rattle.cy_planner_algebra.specs.Plans.{Plan, width}
use Rattle.cy_planner_algebra.specs.WellFormed.{IsColumn, IsKeyBetween, IsOutputOver, IsOver, IsWellFormed, greatest_width}
use Rattle.cy_planner_rows.specs.Columns.{column_output}
use Rattle.cy_planner_rows.specs.Renumbered.{new_column, renumbered}
use Rattle.cy_planner_rows.proofs.Lists.{all_of_each}
use Rattle.cy_planner_rows.proofs.OverRows.{columns_over}
use Rattle.cy_planner_rewriting.specs.Rewritten.{IsRewritten}
use Rattle.cy_planner_rewriting.proofs.Congruent.{over_join, over_lookup, rewritten_again}
use Rattle.cy_planner_rewriting.proofs.Projections.{member_inside}
use Rattle.cy_planner_rewriting.proofs.Rising.{up_from_different, up_from_filter}
use Rattle.cy_planner_rewriting.specs.internal.Narrows.{taken}
use Rattle.cy_planner_rewriting.specs.internal.KeyPairs.{paired_columns, renumbered_key}
use Rattle.cy_planner_rewriting.specs.internal.Ranks.{AreRanked}
use Rattle.cy_planner_rewriting.proofs.NarrowColumns.{are_columns, lookup_through, taken_inside, width_taken}
use Rattle.cy_planner_rewriting.proofs.Pairing.{keys_inside, narrowed_join}
use Rattle.cy_planner_rewriting.proofs.Settling.{settled_plan}

-- ---- a look-up

module _ (old p : Plan) (columns : List ℕ) (column : ℕ) (attribute : Attribute) (well : IsWellFormed (plan.lookup old column attribute)) (is : IsRewritten old (taken columns p)) (few : width p ≤ length columns) where
  looked_is : IsRewritten (plan.lookup old column attribute) (plan.lookup (taken columns p) column attribute)
  looked_is = over_lookup old (taken columns p) is column attribute

  looked_well : IsWellFormed (plan.lookup (taken columns p) column attribute)
  looked_well = looked_is.well_formed well

  pub column_there : column < length columns
  column_there = subst (λ (n : ℕ). column < n) (width_taken columns p) looked_well.1

  pub place_there : new_column columns column < width p
  place_there = member_inside (width p) columns column column (taken_inside columns p looked_well.0) column_there

  pub lookup_room : width p + 1 ≤ greatest_width
  lookup_room = let most : length columns + 1 ≤ greatest_width = subst (λ (n : ℕ). n + 1 ≤ greatest_width) (width_taken columns p) looked_well.2 in omega (arith, most, few)

  pub looked_as : (place : ℕ) (others : List ℕ) (q : Plan) → place ≡ new_column columns column → others ≡ columns ++ width p ∷ [] → q ≡ plan.lookup p place attribute → IsRewritten (plan.lookup old column attribute) (taken others q)
  looked_as place others q at more made =
      subst (λ (o : Plan). IsRewritten (plan.lookup old column attribute) (taken others o)) (sym (made ∙ ap (λ (n : ℕ). plan.lookup p n attribute) at))
      (subst (λ (cs : List ℕ). IsRewritten (plan.lookup old column attribute) (taken cs (plan.lookup p (new_column columns column) attribute))) (sym more)
      (rewritten_again (plan.lookup old column attribute) (plan.lookup (taken columns p) column attribute) (taken (columns ++ width p ∷ []) (plan.lookup p (new_column columns column) attribute)) looked_is
      (lookup_through p columns column attribute looked_well lookup_room)))

-- ---- columns each once

module _ (p : Plan) (columns kept places : List ℕ) (well : IsWellFormed (taken columns p)) (are : AreRanked (width p) columns kept places) where
  pub kept_over : All (IsOutputOver (width p)) (map column_output kept)
  kept_over = columns_over (width p) kept are.there

  pub settled_as : IsTotalOrder row_cmp → (q : Plan) → q ≡ taken kept p → IsRewritten (taken columns p) (taken places q)
  settled_as total q is = subst (λ (o : Plan). IsRewritten (taken columns p) (taken places o)) (sym is) (settled_plan total p columns kept places are.same are.inside are.there are.few)

-- ---- a join

module _ (left right p q : Plan) (cl cr : List ℕ) (keys : List KeyColumns) (well : IsWellFormed (plan.join left right keys)) (on_left : IsRewritten left (taken cl p)) (on_right : IsRewritten right (taken cr q))
    (few : width p ≤ length cl) (few_too : width q ≤ length cr) where
  joined_is : IsRewritten (plan.join left right keys) (plan.join (taken cl p) (taken cr q) keys)
  joined_is = over_join left right (taken cl p) (taken cr q) on_left on_right keys

  joined_well : IsWellFormed (plan.join (taken cl p) (taken cr q) keys)
  joined_well = joined_is.well_formed well

  pub join_room : width p + width q ≤ greatest_width
  join_room =
      let most = joined_well.3 in
      let one = width_taken cl p in
      let two = width_taken cr q in
      omega (arith, most, one, two, few, few_too)

  pub columns_right : AllByRecursion (λ c. c < width q) cr
  columns_right = taken_inside cr q joined_well.1

  pub right_room : All (λ c. width p + c ≤ greatest_width) cr
  right_room = all_of_each (λ c. width p + c ≤ greatest_width) cr (each_then (λ c. c < width q) (λ c. width p + c ≤ greatest_width) (λ c less. (let room = join_room in omega (arith, less, room))) cr columns_right)

  pub keys_there : All (IsKeyBetween (width p) (width q)) (map (renumbered_key cl cr) keys)
  keys_there =
      keys_inside cl cr (width p) (width q) (taken_inside cl p joined_well.0) columns_right keys
      (subst (λ (n : ℕ). All (IsKeyBetween n (length cr)) keys) (width_taken cl p)
      (subst (λ (n : ℕ). All (IsKeyBetween (width (taken cl p)) n) keys) (width_taken cr q) joined_well.2))

  pub joined_as : IsTotalOrder row_cmp → (low : List KeyColumns) (columns : List ℕ) (made : Plan) → low ≡ map (renumbered_key cl cr) keys → columns ≡ paired_columns low (width p) cl cr → made ≡ plan.join p q low
      → IsRewritten (plan.join left right keys) (taken columns made)
  joined_as total low columns made are pairs is =
      let ks : List KeyColumns = map (renumbered_key cl cr) keys in
      subst (λ (o : Plan). IsRewritten (plan.join left right keys) (taken columns o)) (sym (is ∙ ap (plan.join p q) are))
      (subst (λ (cs : List ℕ). IsRewritten (plan.join left right keys) (taken cs (plan.join p q ks))) (sym (pairs ∙ ap (λ (l : List KeyColumns). paired_columns l (width p) cl cr) are))
      (rewritten_again (plan.join left right keys) (plan.join (taken cl p) (taken cr q) keys) (taken (paired_columns ks (width p) cl cr) (plan.join p q ks)) joined_is
      (narrowed_join p q cl cr keys joined_well join_room total)))

-- ---- a condition, and a test that relationships differ

module _ (p : Plan) (columns : List ℕ) (test lower : Expression) (well : IsWellFormed (plan.filter (taken columns p) test)) (is : lower ≡ renumbered columns test) where
  filtered_is : IsRewritten (plan.filter (taken columns p) test) (taken columns (plan.filter p (renumbered columns test)))
  filtered_is = up_from_filter p (map column_output columns) columns (are_columns columns) test well

  pub filter_over : IsOver (width p) lower
  filter_over = subst (IsOver (width p)) (sym is) (filtered_is.well_formed well).0.1

  pub filtered_as : (q : Plan) → q ≡ plan.filter p lower → IsRewritten (plan.filter (taken columns p) test) (taken columns q)
  filtered_as q made = subst (λ (o : Plan). IsRewritten (plan.filter (taken columns p) test) (taken columns o)) (sym (made ∙ ap (plan.filter p) is)) filtered_is

module _ (p : Plan) (columns members lower : List ℕ) (well : IsWellFormed (plan.all_different (taken columns p) members)) (is : lower ≡ map (new_column columns) members) where
  different_is : IsRewritten (plan.all_different (taken columns p) members) (taken columns (plan.all_different p (map (new_column columns) members)))
  different_is = up_from_different p (map column_output columns) columns (are_columns columns) members well

  pub different_over : All (IsColumn (width p)) lower
  different_over = subst (λ (ms : List ℕ). All (IsColumn (width p)) ms) (sym is) (different_is.well_formed well).0.1

  pub different_as : (q : Plan) → q ≡ plan.all_different p lower → IsRewritten (plan.all_different (taken columns p) members) (taken columns q)
  different_as q made = subst (λ (o : Plan). IsRewritten (plan.all_different (taken columns p) members) (taken columns o)) (sym (made ∙ ap (plan.all_different p) is)) different_is

-- ---- a part that is made of what stands in place of parts

pub made_again : (old low made new : Plan) → IsRewritten old low → made ≡ low → IsRewritten made new → IsRewritten old new
made_again old low made new is at again = rewritten_again old low new is (subst (λ (o : Plan). IsRewritten o new) at again)
