-- The rows of a plan name only numbers that a graph gives out.
use Rattle.std.proofs.Common.{◌≡◌, ℕ, ◌<◌, ◌≤◌, ◌^◌, true, false, cond, List, [], ◌∷◌, ◌++◌, map, filter, refl, arith}
use Rattle.std.specs.Prelude.{flat_map, is_some, Some, Result, Ok, Err, IfOk, IsSome}
use Rattle.std.specs.List.{All, AllByRecursion}
use Rattle.std.specs.Cmp.{Equal-is}
use Rattle.std.specs.Ordering.{is_eq, nat_cmp}
use Rattle.std.specs.FinMap.Entries as entries
use Rattle.std.proofs.lemmas.Bool.{false≢true}
use Rattle.std.proofs.lemmas.List.Elements.{All-append, All-cons, All-filter, All-map, All-nil, All-replicate, All-weaker}
use Rattle.std.proofs.lemmas.Map.Lookups.{exact_unsigned}
use Rattle.cy_values.specs.declared.numbers.NodeId.{NodeId}
use Rattle.cy_values.specs.declared.numbers.RelId.{RelId}
use Rattle.cy_values.specs.declared.scalars.Value.TheVariants as value
use Rattle.cy_values.specs.declared.rows.Cell.{Cell}
use Rattle.cy_values.specs.declared.rows.Cell.TheVariants as cell
use Rattle.cy_values.proofs.Lists.{each_both}
use Rattle.cy_trees.specs.Trees.{Name}
use Rattle.cy_graph.specs.Graph.{IsGraph, State, number_end, node_at}
use Rattle.cy_graph.specs.declared.nodes.Node.{Node}
use Rattle.cy_graph.specs.declared.nodes.Rel.{Rel}
use Rattle.cy_expr.specs.declared.faults.EvalFault.{EvalFault}
use Rattle.cy_expr.proofs.ReadingLemmas.{cell-holds}
use Rattle.cy_expr.specs.Lookups.{IsNumbered}
use Rattle.cy_expr.specs.Graphs.{has_type}
use Rattle.cy_planner_algebra.specs.declared.operators.Orientation.{Orientation}
use Rattle.cy_planner_algebra.specs.declared.operators.Orientation.TheVariants.{Directed, Either}
use Rattle.cy_planner_algebra.specs.Plans as plan
use Rattle.cy_planner_algebra.specs.Plans.{Plan, Output, computed, gathered, width}
use Rattle.cy_planner_algebra.specs.Expressions.{cell_of, cell_or_null, no_graph, output_cell, projected}
use Rattle.cy_planner_algebra.specs.Keys.{meet}
use Rattle.cy_planner_algebra.specs.Meaning.{backwards, forwards, is_loop, is_partner, nulls, or_nulls, paired, rows_of, rows_of_rel, ways, with_attribute}
use Rattle.cy_planner_algebra.proofs.Widths.{all_made, all_once}

abbrev IsNumberedRow : List Cell → Type 0
IsNumberedRow row = All IsNumbered row

or_null_numbered : (r : Result Cell EvalFault) → IfOk r IsNumbered → IsNumbered (cell_or_null r)
or_null_numbered (Ok c) is = is
or_null_numbered (Err fault) is = tt

output_numbered : (row : List Cell) (o : Output) → IsNumberedRow row → IsNumbered (output_cell row o)
output_numbered row (computed e) each = or_null_numbered (cell_of row e) (cell-holds IsNumbered (λ v. tt) no_graph row each e)
output_numbered row (gathered columns) each = tt

projected_numbered : (outputs : List Output) (row : List Cell) → IsNumberedRow row → IsNumberedRow (projected outputs row)
projected_numbered [] row each = All-nil IsNumbered
projected_numbered (o ∷ outputs) row each =
    All-cons IsNumbered (output_cell row o) (projected outputs row) (output_numbered row o each) (projected_numbered outputs row each)

-- a key that is found is below what all keys are below
below : {K X : Type 0} (number : K → ℕ) (next : ℕ) (q : K) (es : List (K × X)) → AllByRecursion (λ (e : K × X). (1 ≤ number e.0) × (number e.0 < next)) es
    → is_some (entries.find (λ m n. nat_cmp (number m) (number n)) q es) ≡ true → number q < next
below number next q [] each found = absurd (false≢true found)
below {K} {X} number next q (e ∷ es) each found =
    elim (is_eq (nat_cmp (number q) (number e.0))) as (λ b. is_eq (nat_cmp (number q) (number e.0)) ≡ b
    → is_some (cond b (Some e.1) (entries.find (λ (m n : K). nat_cmp (number m) (number n)) q es)) ≡ true → number q < next) [
      | true ↦ λ h rest. let same : number q ≡ number e.0 = exact_unsigned (number q) (number e.0) ((Equal-is (nat_cmp (number q) (number e.0))).0 h) in
          let less : number e.0 < next = each.0.1 in
          omega (arith, same, less)
      | false ↦ λ h rest. below number next q es each.1 rest
    ] refl found

-- the rows that are made of each of some relationships
each_rel : {K X B : Type 0} (P : K × X → Type 0) (Q : B → Type 0) (f : K × X → List B) → ((e : K × X) → P e → All Q (f e)) → (es : List (K × X)) → AllByRecursion P es
    → All Q (flat_map f es)
each_rel P Q f step [] each = All-nil Q
each_rel P Q f step (e ∷ es) each = All-append Q (f e) (flat_map f es) (step e each.0) (each_rel P Q f step es each.1)

each_node : {K X B : Type 0} (P : K × X → Type 0) (Q : B → Type 0) (f : K × X → B) → ((e : K × X) → P e → Q (f e)) → (es : List (K × X)) → AllByRecursion P es → All Q (map f es)
each_node P Q f step [] each = All-nil Q
each_node P Q f step (e ∷ es) each = All-cons Q (f e) (map f es) (step e each.0) (each_node P Q f step es each.1)

paired_numbered : (left : List Cell) (rights : List (List Cell)) → IsNumberedRow left → All IsNumberedRow rights → All IsNumberedRow (paired left rights)
paired_numbered left rights is each =
    All-map IsNumberedRow (λ right. left ++ right) rights
    (All-weaker IsNumberedRow (λ right. IsNumberedRow (left ++ right)) (λ right here. All-append IsNumbered left right is here) rights each)

or_nulls_numbered : (n : ℕ) (found : List (List Cell)) → All IsNumberedRow found → All IsNumberedRow (or_nulls n found)
or_nulls_numbered n [] each = All-cons IsNumberedRow (nulls n) [] (All-replicate IsNumbered n (cell.Value value.Null) tt) (All-nil IsNumberedRow)
or_nulls_numbered n (row ∷ rows) each = each

four_numbered : (a b c d : Cell) → IsNumbered a → IsNumbered b → IsNumbered c → IsNumbered d → IsNumberedRow (a ∷ b ∷ c ∷ d ∷ [])
four_numbered a b c d p q r s =
    All-cons IsNumbered a (b ∷ c ∷ d ∷ []) p (All-cons IsNumbered b (c ∷ d ∷ []) q (All-cons IsNumbered c (d ∷ []) r (All-cons IsNumbered d [] s (All-nil IsNumbered))))

module _ (state : State) (is : IsGraph state) where
  node_numbered : (id : NodeId) → IsSome (node_at id state) → id.0 ≤ 2 ^ 40
  node_numbered id there =
      let less : id.0 < state.next_node = below (λ (n : NodeId). n.0) state.next_node id state.content.nodes is.numbered there in
      let most : state.next_node ≤ number_end = is.node_range.1 in
      omega (arith, less, most)

  forwards_numbered : (r : RelId × Rel) → r.0.0 ≤ 2 ^ 40 → r.1.source.0 ≤ 2 ^ 40 → r.1.target.0 ≤ 2 ^ 40 → IsNumberedRow (forwards r)
  forwards_numbered r number source target = four_numbered (cell.Rel r.0) (cell.Node r.1.source) (cell.Node r.1.target) (cell.Value (value.Text r.1.kind)) number source target tt

  backwards_numbered : (r : RelId × Rel) → r.0.0 ≤ 2 ^ 40 → r.1.source.0 ≤ 2 ^ 40 → r.1.target.0 ≤ 2 ^ 40 → IsNumberedRow (backwards r)
  backwards_numbered r number source target = four_numbered (cell.Rel r.0) (cell.Node r.1.target) (cell.Node r.1.source) (cell.Value (value.Text r.1.kind)) number target source tt

  ways_numbered : (orientation : Orientation) (r : RelId × Rel) → IsNumberedRow (forwards r) → IsNumberedRow (backwards r) → All IsNumberedRow (ways orientation r)
  ways_numbered Directed r one other = All-cons IsNumberedRow (forwards r) [] one (All-nil IsNumberedRow)
  ways_numbered Either r one other =
      elim (is_loop r.1) as (λ b. All IsNumberedRow (cond b (forwards r ∷ []) (forwards r ∷ backwards r ∷ []))) [
        | true ↦ All-cons IsNumberedRow (forwards r) [] one (All-nil IsNumberedRow)
        | false ↦ All-cons IsNumberedRow (forwards r) (backwards r ∷ []) one (All-cons IsNumberedRow (backwards r) [] other (All-nil IsNumberedRow))
      ]

  -- a number that is given out, and ends that are nodes
  abbrev IsGivenOut : RelId × Rel → Type 0
  IsGivenOut r = (1 ≤ r.0.0) × (r.0.0 < state.next_rel)

  abbrev HasEnds : RelId × Rel → Type 0
  HasEnds r = IsSome (node_at r.1.source state) × IsSome (node_at r.1.target state)

  rel_numbered : (types : List Name) (orientation : Orientation) (r : RelId × Rel) → IsGivenOut r × HasEnds r → All IsNumberedRow (rows_of_rel types orientation r)
  rel_numbered types orientation r good =
      let less : r.0.0 < state.next_rel = good.0.1 in
      let most : state.next_rel ≤ number_end = is.rel_range.1 in
      let number : r.0.0 ≤ 2 ^ 40 = omega (arith, less, most) in
      let source : r.1.source.0 ≤ 2 ^ 40 = node_numbered r.1.source good.1.0 in
      let target : r.1.target.0 ≤ 2 ^ 40 = node_numbered r.1.target good.1.1 in
      elim (has_type types r.1) as (λ b. All IsNumberedRow (cond b (ways orientation r) [])) [
        | true ↦ ways_numbered orientation r (forwards_numbered r number source target) (backwards_numbered r number source target)
        | false ↦ All-nil IsNumberedRow
      ]

  node_row_numbered : (n : NodeId × Node) → (1 ≤ n.0.0) × (n.0.0 < state.next_node) → IsNumberedRow (cell.Node n.0 ∷ [])
  node_row_numbered n good =
      let less : n.0.0 < state.next_node = good.1 in
      let most : state.next_node ≤ number_end = is.node_range.1 in
      let number : n.0.0 ≤ 2 ^ 40 = omega (arith, less, most) in
      All-cons IsNumbered (cell.Node n.0) [] number (All-nil IsNumbered)

  pub numbered_rows : (p : Plan) → All IsNumberedRow (rows_of state.content p)
  numbered_rows plan.unit = All-cons IsNumberedRow [] [] (All-nil IsNumbered) (All-nil IsNumberedRow)
  numbered_rows plan.nodes =
      each_node (λ (n : NodeId × Node). (1 ≤ n.0.0) × (n.0.0 < state.next_node)) IsNumberedRow (λ n. cell.Node n.0 ∷ []) node_row_numbered state.content.nodes is.numbered
  numbered_rows (plan.rels types orientation) =
      each_rel (λ r. IsGivenOut r × HasEnds r) IsNumberedRow (rows_of_rel types orientation) (rel_numbered types orientation) state.content.rels
      (each_both IsGivenOut HasEnds state.content.rels is.rels_numbered is.ends)
  numbered_rows (plan.join left right keys) =
      all_made IsNumberedRow IsNumberedRow (λ l. paired l (filter (meet keys l) (rows_of state.content right)))
      (λ l here. paired_numbered l (filter (meet keys l) (rows_of state.content right)) here (All-filter (meet keys l) IsNumberedRow (rows_of state.content right) (numbered_rows right)))
      (rows_of state.content left) (numbered_rows left)
  numbered_rows (plan.outer left right keys test) =
      all_made IsNumberedRow IsNumberedRow (λ l. paired l (or_nulls (width right) (filter (is_partner keys test l) (rows_of state.content right))))
      (λ l here. paired_numbered l (or_nulls (width right) (filter (is_partner keys test l) (rows_of state.content right))) here
      (or_nulls_numbered (width right) (filter (is_partner keys test l) (rows_of state.content right))
      (All-filter (is_partner keys test l) IsNumberedRow (rows_of state.content right) (numbered_rows right))))
      (rows_of state.content left) (numbered_rows left)
  numbered_rows (plan.semi left right keys keeping) = All-filter _ IsNumberedRow (rows_of state.content left) (numbered_rows left)
  numbered_rows (plan.lookup p column attribute) =
      All-map IsNumberedRow (with_attribute state.content column attribute) (rows_of state.content p)
      (All-weaker IsNumberedRow (λ row. IsNumberedRow (with_attribute state.content column attribute row))
      (λ row here. All-append IsNumbered row _ here (All-cons IsNumbered _ [] tt (All-nil IsNumbered))) (rows_of state.content p) (numbered_rows p))
  numbered_rows (plan.filter p test) = All-filter _ IsNumberedRow (rows_of state.content p) (numbered_rows p)
  numbered_rows (plan.all_different p columns) = All-filter _ IsNumberedRow (rows_of state.content p) (numbered_rows p)
  numbered_rows (plan.project p outputs) =
      All-map IsNumberedRow (projected outputs) (rows_of state.content p)
      (All-weaker IsNumberedRow (λ row. IsNumberedRow (projected outputs row)) (λ row here. projected_numbered outputs row here) (rows_of state.content p) (numbered_rows p))
  numbered_rows (plan.distinct p) = all_once IsNumberedRow (rows_of state.content p) (numbered_rows p)
  numbered_rows (plan.union left right) =
      All-append IsNumberedRow (rows_of state.content left) (rows_of state.content right) (numbered_rows left) (numbered_rows right)
