-- The kinds of what stands in the columns of a plan, part by part: the rows have cells of these kinds.
use Rattle.std.proofs.Common.{◌≡◌, ℕ, zero, suc, ◌+◌, ◌-◌, ◌<◌, ◌≤◌, ◌==◌, Bool, true, false, cond, List, [], ◌∷◌, ◌++◌, length, map, filter, refl, sym, ap, subst, ◌∙◌, inl, inr, arith}
use Rattle.std.specs.Prelude.{◌⊎◌, Option, Some, None, Result, Ok, Err, flat_map, nat_lt, option_map, slice_get}
use Rattle.std.specs.List.{AllByRecursion}
use Rattle.std.specs.Option.{option_map_or}
use Rattle.std.proofs.lemmas.Bool.{cases_lt, eqb-true, le-ltb, lt-ltb}
use Rattle.std.proofs.lemmas.List.{get_or-append-add, get_or_append_left}
use Rattle.std.proofs.lemmas.Option.{get_or_from_slice_get, slice_get-map, slice_get_within}
use Rattle.std.proofs.Math.Seq.{get_or-append_seam}
use Rattle.cy_values.specs.declared.numbers.NodeId.{NodeId}
use Rattle.cy_values.specs.declared.numbers.RelId.{RelId}
use Rattle.cy_values.specs.declared.rows.Cell.{Cell}
use Rattle.cy_values.specs.declared.rows.Cell.TheVariants as cell
use Rattle.cy_values.specs.declared.scalars.Value.{Value}
use Rattle.cy_values.specs.declared.scalars.Value.TheVariants as value
use Rattle.cy_values.proofs.Lists.{each_append, each_both}
use Rattle.cy_trees.specs.declared.expressions.Variable.{Variable}
use Rattle.cy_trees.specs.Trees.{Name, Expression, null, boolean, integer, text, variable, property, has_labels, unary, binary, comparison, list, case, call, call_star}
use Rattle.cy_scope_kinds.specs.declared.kinds.Kind.{Kind}
use Rattle.cy_scope_kinds.specs.declared.kinds.Kind.TheVariants as kind
use Rattle.cy_scope_kinds.specs.Rows.{is_cell_of}
use Rattle.cy_graph.specs.Graph.{Content}
use Rattle.cy_graph.specs.declared.nodes.Node.{Node}
use Rattle.cy_graph.specs.declared.nodes.Rel.{Rel}
use Rattle.cy_expr.specs.declared.faults.EvalFault.{EvalFault}
use Rattle.cy_expr.specs.Evaluation.{as_cell, column_value}
use Rattle.cy_expr.specs.Graphs.{has_type}
use Rattle.cy_planner_algebra.specs.declared.operators.Attribute.{Attribute}
use Rattle.cy_planner_algebra.specs.declared.operators.Orientation.{Orientation}
use Rattle.cy_planner_algebra.specs.declared.operators.Orientation.TheVariants.{Directed, Either}
use Rattle.cy_planner_algebra.specs.Plans as plan
use Rattle.cy_planner_algebra.specs.Plans.{Plan, Output, computed, gathered, width}
use Rattle.cy_planner_algebra.specs.Expressions as language
use Rattle.cy_planner_algebra.specs.Expressions.{cell_at, cell_or_null, output_cell, projected}
use Rattle.cy_planner_algebra.specs.Keys.{meet}
use Rattle.cy_planner_algebra.specs.Meaning.{backwards, each_once, forwards, is_among, is_loop, is_partner, nulls, or_nulls, paired, rows_of, rows_of_rel, ways, with_attribute}
use Rattle.cy_planner_algebra.specs.WellFormed.{IsWellFormed}
use Rattle.cy_planner_rows.proofs.Lists.{each_mapped}
use Rattle.cy_planner_rows.proofs.OverRows.{IsLong, long_rows}
use Rattle.cy_planner_pushdown.specs.internal.Pushed.{column_taken_over, common_kind, kind_at, kind_computed, kind_made, kind_of_nodes, kind_of_rels}
use Rattle.cy_planner_pushdown.proofs.Conjunctions.{each_sifted, all_anything, anything}

pub rest_of_nodes : (column : ℕ) → 1 ≤ column → kind_of_nodes column ≡ None
rest_of_nodes zero least = absurd (omega (arith, least))
rest_of_nodes (suc n) least = refl

pub rest_of_rels : (column : ℕ) → 4 ≤ column → kind_of_rels column ≡ None
rest_of_rels zero least = absurd (omega (arith, least))
rest_of_rels (suc zero) least = absurd (omega (arith, least))
rest_of_rels (suc (suc zero)) least = absurd (omega (arith, least))
rest_of_rels (suc (suc (suc zero))) least = absurd (omega (arith, least))
rest_of_rels (suc (suc (suc (suc n)))) least = refl

-- a column after those of the left one of two inputs that stand side by side
pub beside : (left right : Plan) (column n : ℕ) → n ≡ width left → nat_lt column n ≡ false
    → cond (nat_lt column (width left)) (kind_at left column) (kind_at right (column - width left)) ≡ kind_at right (column - n)
beside left right column n wide past =
    (λ i. cond (nat_lt column (sym wide i)) (kind_at left column) (kind_at right (column - sym wide i)))
    ∙ ap (λ b. cond b (kind_at left column) (kind_at right (column - n))) past

-- what two columns have in common
pub both_kinds : (a b : Option Kind) (k : Kind) → common_kind a b ≡ Some k → (a ≡ Some k) × (b ≡ Some k)
both_kinds (Some kind.Node) (Some kind.Node) k at = (at, at)
both_kinds (Some kind.Relationship) (Some kind.Relationship) k at = (at, at)
both_kinds None b k at = cc
both_kinds (Some kind.Node) None k at = cc
both_kinds (Some kind.Node) (Some kind.Relationship) k at = cc
both_kinds (Some kind.Node) (Some kind.Relationships) k at = cc
both_kinds (Some kind.Node) (Some kind.Value) k at = cc
both_kinds (Some kind.Node) (Some kind.Flag) k at = cc
both_kinds (Some kind.Relationship) None k at = cc
both_kinds (Some kind.Relationship) (Some kind.Node) k at = cc
both_kinds (Some kind.Relationship) (Some kind.Relationships) k at = cc
both_kinds (Some kind.Relationship) (Some kind.Value) k at = cc
both_kinds (Some kind.Relationship) (Some kind.Flag) k at = cc
both_kinds (Some kind.Relationships) b k at = cc
both_kinds (Some kind.Value) b k at = cc
both_kinds (Some kind.Flag) b k at = cc

same_kind : (k l : Kind) → Some k ≡ Some l → k ≡ l
same_kind k l is = cc

-- the output that a column is
pub output_known : (o : Option Output) (c : ℕ) → column_taken_over o ≡ Some c → (v : Variable) × (o ≡ Some (computed (variable v))) × (v.column ≡ Some c)
output_known (Some (computed (variable v))) c is = (v, refl, is)
output_known (Some (computed null)) c is = cc
output_known (Some (computed (boolean b))) c is = cc
output_known (Some (computed (integer n))) c is = cc
output_known (Some (computed (text t))) c is = cc
output_known (Some (computed (property e key))) c is = cc
output_known (Some (computed (has_labels e labels))) c is = cc
output_known (Some (computed (unary operator e))) c is = cc
output_known (Some (computed (binary operator a b))) c is = cc
output_known (Some (computed (comparison e links))) c is = cc
output_known (Some (computed (list es))) c is = cc
output_known (Some (computed (case arms e))) c is = cc
output_known (Some (computed (call name distinct es))) c is = cc
output_known (Some (computed (call_star name))) c is = cc
output_known (Some (gathered columns)) c is = cc
output_known None c is = cc

-- what a projection makes in a column
pub output_at : (outputs : List Output) (column : ℕ) (o : Output) → slice_get outputs column ≡ Some o → (row : List Cell) → cell_at (projected outputs row) column ≡ output_cell row o
output_at outputs column o is row =
    get_or_from_slice_get (projected outputs row) column (output_cell row o) language.null (slice_get-map (output_cell row) outputs column ∙ ap (option_map (output_cell row)) is)

-- a column that a projection takes over
pub taken_over : (outputs : List Output) (column c : ℕ) → column_taken_over (slice_get outputs column) ≡ Some c → (row : List Cell) → cell_at (projected outputs row) column ≡ cell_at row c
taken_over outputs column c is row =
    let known = output_known (slice_get outputs column) c is in
    output_at outputs column (computed (variable known.0)) known.1 row ∙ ap (λ (o : Option ℕ). column_value o row) known.2

-- ---- each column whose kind is shown lies in the rows

nodes_inside : (column : ℕ) (k : Kind) → kind_of_nodes column ≡ Some k → column < 1
nodes_inside zero k is = omega arith
nodes_inside (suc n) k is = cc

rels_inside : (column : ℕ) (k : Kind) → kind_of_rels column ≡ Some k → column < 4
rels_inside zero k is = omega arith
rels_inside (suc zero) k is = omega arith
rels_inside (suc (suc zero)) k is = omega arith
rels_inside (suc (suc (suc zero))) k is = omega arith
rels_inside (suc (suc (suc (suc n)))) k is = cc

-- in one of two parts, by whether the column is before the second one's first
either_part : (n column : ℕ) (a b : Option Kind) (k : Kind) → cond (nat_lt column n) a b ≡ Some k → ((column < n) × (a ≡ Some k)) ⊎ ((n ≤ column) × (b ≡ Some k))
either_part n column a b k is = by (cases_lt column n)
  where
    by : (column < n) ⊎ (n ≤ column) → ((column < n) × (a ≡ Some k)) ⊎ ((n ≤ column) × (b ≡ Some k))
    by (inl less) = inl (less, sym (ap (λ t. cond t a b) (lt-ltb column n less)) ∙ is)
    by (inr least) = inr (least, sym (ap (λ t. cond t a b) (le-ltb column n least)) ∙ is)

-- the column after the last one
last_part : (n column : ℕ) (k : Kind) → cond (column == n) (Some kind.Value) None ≡ Some k → (column ≡ n) × (kind.Value ≡ k)
last_part n column k is = by (column == n) refl is
  where
    by : (b : Bool) → (column == n) ≡ b → cond b (Some kind.Value) None ≡ Some k → (column ≡ n) × (kind.Value ≡ k)
    by true same at = (eqb-true column n same, same_kind kind.Value k at)
    by false same at = cc

output_inside : (outputs : List Output) (column : ℕ) (k : Kind) (p : ℕ → Option Kind) (o : Option Output) → slice_get outputs column ≡ o → option_map_or p (column_taken_over o) (kind_made o) ≡ Some k → column < length outputs
output_inside outputs column k p (Some o) at is = slice_get_within outputs column o at
output_inside outputs column k p None at is = cc

-- in one of two parts that stand beside each other
inside_both : (n m column : ℕ) (a b : Option Kind) (k : Kind) → (b ≡ Some k → column - n < m) → cond (nat_lt column n) a b ≡ Some k → column < n + m
inside_both n m column a b k after is = by (either_part n column a b k is)
  where
    by : ((column < n) × (a ≡ Some k)) ⊎ ((n ≤ column) × (b ≡ Some k)) → column < n + m
    by (inl both) = let less = both.0 in omega (arith, less)
    by (inr both) = let below : column - n < m = after both.1 in let least = both.0 in omega (arith, least, below)

inside_lookup : (n column : ℕ) (a : Option Kind) (k : Kind) → cond (nat_lt column n) a (cond (column == n) (Some kind.Value) None) ≡ Some k → column < n + 1
inside_lookup n column a k is = by (either_part n column a (cond (column == n) (Some kind.Value) None) k is)
  where
    by : ((column < n) × (a ≡ Some k)) ⊎ ((n ≤ column) × (cond (column == n) (Some kind.Value) None ≡ Some k)) → column < n + 1
    by (inl both) = let less = both.0 in omega (arith, less)
    by (inr both) = let same = (last_part n column k both.1).0 in omega (arith, same)

pub inside : (p : Plan) (column : ℕ) (k : Kind) → IsWellFormed p → kind_at p column ≡ Some k → column < width p
inside plan.unit column k good is = cc
inside plan.nodes column k good is = nodes_inside column k is
inside (plan.rels types orientation) column k good is = rels_inside column k is
inside (plan.join left right keys) column k good is =
    inside_both (width left) (width right) column (kind_at left column) (kind_at right (column - width left)) k (λ at. inside right (column - width left) k good.1 at) is
inside (plan.outer left right keys test) column k good is =
    inside_both (width left) (width right) column (kind_at left column) (kind_at right (column - width left)) k (λ at. inside right (column - width left) k good.1 at) is
inside (plan.semi left right keys keeping) column k good is = inside left column k good.0 is
inside (plan.lookup p c attribute) column k good is = inside_lookup (width p) column (kind_at p column) k is
inside (plan.filter p test) column k good is = inside p column k good.0 is
inside (plan.all_different p columns) column k good is = inside p column k good.0 is
inside (plan.project p outputs) column k good is = output_inside outputs column k (kind_at p) (slice_get outputs column) refl is
inside (plan.distinct p) column k good is = inside p column k good is
inside (plan.union left right) column k good is = inside left column k good.0 (both_kinds (kind_at left column) (kind_at right column) k is).0

-- ---- the rows of tables

abbrev pub HasKindAt : ℕ → Kind → List Cell → Type 0
HasKindAt column k row = is_cell_of k (cell_at row column) ≡ true

module _ (P : List Cell → Type 0) where
  node_rows : ((n : NodeId) → P (cell.Node n ∷ [])) → (ns : List (NodeId × Node)) → AllByRecursion P (map (λ n. cell.Node n.0 ∷ []) ns)
  node_rows each [] = tt
  node_rows each (n ∷ ns) = (each n.0, node_rows each ns)

  module _ (each : (r : RelId × Rel) → P (forwards r) × P (backwards r)) where
    rel_ways : (orientation : Orientation) (r : RelId × Rel) → AllByRecursion P (ways orientation r)
    rel_ways Directed r = ((each r).0, tt)
    rel_ways Either r =
        elim (is_loop r.1) as (λ b. AllByRecursion P (cond b (forwards r ∷ []) (forwards r ∷ backwards r ∷ []))) [
          | true ↦ ((each r).0, tt)
          | false ↦ ((each r).0, ((each r).1, tt))
        ]

    rel_rows : (types : List Name) (orientation : Orientation) (rs : List (RelId × Rel)) → AllByRecursion P (flat_map (rows_of_rel types orientation) rs)
    rel_rows types orientation [] = tt
    rel_rows types orientation (r ∷ rs) =
        each_append P (rows_of_rel types orientation r) (flat_map (rows_of_rel types orientation) rs)
        (elim (has_type types r.1) as (λ b. AllByRecursion P (cond b (ways orientation r) [])) [ true ↦ rel_ways orientation r | false ↦ tt ])
        (rel_rows types orientation rs)

nodes_have : (graph : Content) (column : ℕ) (k : Kind) → kind_of_nodes column ≡ Some k → AllByRecursion (HasKindAt column k) (rows_of graph plan.nodes)
nodes_have graph zero k is = subst (λ (l : Kind). AllByRecursion (HasKindAt 0 l) (rows_of graph plan.nodes)) (same_kind kind.Node k is) (node_rows (HasKindAt 0 kind.Node) (λ n. refl) graph.nodes)
nodes_have graph (suc n) k is = cc

module _ (graph : Content) (types : List Name) (orientation : Orientation) where
  abbrev rels : List (List Cell)
  rels = rows_of graph (plan.rels types orientation)

  rels_have : (column : ℕ) (k : Kind) → kind_of_rels column ≡ Some k → AllByRecursion (HasKindAt column k) rels
  rels_have zero k is = subst (λ (l : Kind). AllByRecursion (HasKindAt 0 l) rels) (same_kind kind.Relationship k is) (rel_rows (HasKindAt 0 kind.Relationship) (λ r. (refl, refl)) types orientation graph.rels)
  rels_have (suc zero) k is = subst (λ (l : Kind). AllByRecursion (HasKindAt 1 l) rels) (same_kind kind.Node k is) (rel_rows (HasKindAt 1 kind.Node) (λ r. (refl, refl)) types orientation graph.rels)
  rels_have (suc (suc zero)) k is = subst (λ (l : Kind). AllByRecursion (HasKindAt 2 l) rels) (same_kind kind.Node k is) (rel_rows (HasKindAt 2 kind.Node) (λ r. (refl, refl)) types orientation graph.rels)
  rels_have (suc (suc (suc zero))) k is = subst (λ (l : Kind). AllByRecursion (HasKindAt 3 l) rels) (same_kind kind.Value k is) (rel_rows (HasKindAt 3 kind.Value) (λ r. (refl, refl)) types orientation graph.rels)
  rels_have (suc (suc (suc (suc n)))) k is = cc

-- ---- rows that are made of others

module _ (P Q R : List Cell → Type 0) (partners : List Cell → List (List Cell)) (found : (l : List Cell) → AllByRecursion Q (partners l)) (made : (l r : List Cell) → P l → Q r → R (l ++ r)) where
  pub each_paired : (ls : List (List Cell)) → AllByRecursion P ls → AllByRecursion R (flat_map (λ l. paired l (partners l)) ls)
  each_paired [] each = tt
  each_paired (l ∷ ls) each =
      each_append R (paired l (partners l)) (flat_map (λ k. paired k (partners k)) ls)
      (each_mapped Q R (λ r. l ++ r) (λ r is. made l r each.0 is) (partners l) (found l)) (each_paired ls each.1)

each_once_of : (P : List Cell → Type 0) (rows : List (List Cell)) → AllByRecursion P rows → AllByRecursion P (each_once rows)
each_once_of P [] each = tt
each_once_of P (row ∷ rows) each =
    elim (is_among row rows) as (λ b. AllByRecursion P (cond b (each_once rows) (row ∷ each_once rows))) [
      | true ↦ each_once_of P rows each.1
      | false ↦ (each.0, each_once_of P rows each.1)
    ]

-- each value is of the kind of values
value_of_kind : (v : Value) → is_cell_of kind.Value (cell.Value v) ≡ true
value_of_kind value.Null = refl
value_of_kind _ = refl

null_at : (n column : ℕ) → cell_at (nulls n) column ≡ language.null
null_at zero column = refl
null_at (suc n) zero = refl
null_at (suc n) (suc column) = null_at n column

module _ (k : Kind) where
  -- the cell of the left row
  pairs_left : (n column : ℕ) (partners : List Cell → List (List Cell)) (ls : List (List Cell)) → column < n → AllByRecursion (IsLong n) ls → AllByRecursion (HasKindAt column k) ls
      → AllByRecursion (HasKindAt column k) (flat_map (λ l. paired l (partners l)) ls)
  pairs_left n column partners ls less long have =
      each_paired (λ l. IsLong n l × HasKindAt column k l) anything (HasKindAt column k) partners (λ l. all_anything (partners l))
      (λ l r both any. ap (is_cell_of k) (get_or_append_left l r language.null column (let e = both.0 in omega (arith, less, e))) ∙ both.1)
      ls (each_both (IsLong n) (HasKindAt column k) ls long have)

  -- that of the right one
  pairs_right : (n column : ℕ) (partners : List Cell → List (List Cell)) (ls : List (List Cell)) → n ≤ column → AllByRecursion (IsLong n) ls
      → ((l : List Cell) → AllByRecursion (HasKindAt (column - n) k) (partners l)) → AllByRecursion (HasKindAt column k) (flat_map (λ l. paired l (partners l)) ls)
  pairs_right n column partners ls least long have =
      each_paired (IsLong n) (HasKindAt (column - n) k) (HasKindAt column k) partners have
      (λ l r is here.
      ap (λ m. is_cell_of k (cell_at (l ++ r) m)) (let e : column ≡ length l + (column - n) = omega (arith, least, is) in e)
      ∙ ap (is_cell_of k) (get_or-append-add l r (column - n) language.null) ∙ here)
      ls long

  or_nulls_have : (n column : ℕ) (rows : List (List Cell)) → AllByRecursion (HasKindAt column k) rows → AllByRecursion (HasKindAt column k) (or_nulls n rows)
  or_nulls_have n column [] each = (ap (is_cell_of k) (null_at n column), tt)
  or_nulls_have n column (row ∷ rows) each = each

  added_value : (graph : Content) (p : Plan) (c column : ℕ) (attribute : Attribute) (row : List Cell) → column ≡ width p → kind.Value ≡ k → IsLong (width p) row → HasKindAt column k (with_attribute graph c attribute row)
  added_value graph p c column attribute row same is long =
      subst (λ (l : Kind). HasKindAt column l (with_attribute graph c attribute row)) is
      (ap (λ m. is_cell_of kind.Value (cell_at (with_attribute graph c attribute row) m)) (same ∙ sym long)
      ∙ ap (is_cell_of kind.Value) (get_or-append_seam row _ [] language.null) ∙ value_of_kind _)

-- ---- what expressions make

value_in : (o : Result Value EvalFault) → is_cell_of kind.Value (cell_or_null (as_cell o)) ≡ true
value_in (Ok v) = value_of_kind v
value_in (Err fault) = refl

module _ (row : List Cell) (k : Kind) where
  as_value : (e : Expression) → Some kind.Value ≡ Some k → is_cell_of kind.Value (cell_or_null (language.cell_of row e)) ≡ true → is_cell_of k (cell_or_null (language.cell_of row e)) ≡ true
  as_value e is made = subst (λ (l : Kind). is_cell_of l (cell_or_null (language.cell_of row e)) ≡ true) (same_kind kind.Value k is) made

  computed_has : (e : Expression) → kind_computed e ≡ Some k → is_cell_of k (cell_or_null (language.cell_of row e)) ≡ true
  computed_has (variable v) is = cc
  computed_has null is = as_value null is refl
  computed_has (boolean b) is = as_value (boolean b) is refl
  computed_has (integer n) is = as_value (integer n) is refl
  computed_has (text t) is = as_value (text t) is refl
  computed_has (property e key) is = as_value (property e key) is (value_in _)
  computed_has (has_labels e labels) is = as_value (has_labels e labels) is (value_in _)
  computed_has (unary operator e) is = as_value (unary operator e) is (value_in _)
  computed_has (binary operator a b) is = as_value (binary operator a b) is (value_in _)
  computed_has (comparison e links) is = as_value (comparison e links) is (value_in _)
  computed_has (list es) is = as_value (list es) is (value_in _)
  computed_has (case arms e) is = as_value (case arms e) is (value_in _)
  computed_has (call name distinct es) is = as_value (call name distinct es) is (value_in _)
  computed_has (call_star name) is = as_value (call_star name) is refl

  made_has : (outputs : List Output) (column : ℕ) (o : Option Output) → slice_get outputs column ≡ o → kind_made o ≡ Some k → HasKindAt column k (projected outputs row)
  made_has outputs column (Some (computed e)) at is = ap (is_cell_of k) (output_at outputs column (computed e) at row) ∙ computed_has e is
  made_has outputs column (Some (gathered columns)) at is =
      ap (is_cell_of k) (output_at outputs column (gathered columns) at row) ∙ ap (λ (l : Kind). is_cell_of l (output_cell row (gathered columns))) (sym (same_kind kind.Relationships k is))
  made_has outputs column None at is = cc

-- ---- the rows of a plan

module _ (graph : Content) where
  abbrev Have : Plan → ℕ → Kind → Type 0
  Have p column k = AllByRecursion (HasKindAt column k) (rows_of graph p)

  project_has : (p : Plan) (outputs : List Output) (column : ℕ) (k : Kind) → ((c : ℕ) → kind_at p c ≡ Some k → Have p c k) → (o : Option ℕ) → column_taken_over (slice_get outputs column) ≡ o
      → option_map_or (kind_at p) o (kind_made (slice_get outputs column)) ≡ Some k → Have (plan.project p outputs) column k
  project_has p outputs column k have (Some c) at is =
      each_mapped (HasKindAt c k) (HasKindAt column k) (projected outputs) (λ row here. ap (is_cell_of k) (taken_over outputs column c at row) ∙ here) (rows_of graph p) (have c is)
  project_has p outputs column k have None at is =
      each_mapped anything (HasKindAt column k) (projected outputs) (λ row any. made_has row k outputs column (slice_get outputs column) refl is) (rows_of graph p) (all_anything (rows_of graph p))

  pairs_have : (p left : Plan) (column : ℕ) (k : Kind) (b : Option Kind) (partners : List Cell → List (List Cell)) → rows_of graph p ≡ flat_map (λ l. paired l (partners l)) (rows_of graph left) → IsWellFormed left
      → (kind_at left column ≡ Some k → Have left column k) → (b ≡ Some k → (l : List Cell) → AllByRecursion (HasKindAt (column - width left) k) (partners l))
      → cond (nat_lt column (width left)) (kind_at left column) b ≡ Some k → Have p column k
  pairs_have p left column k b partners rows well on_left on_right is = subst (λ rs. AllByRecursion (HasKindAt column k) rs) (sym rows) (by (either_part (width left) column (kind_at left column) b k is))
    where
      by : ((column < width left) × (kind_at left column ≡ Some k)) ⊎ ((width left ≤ column) × (b ≡ Some k)) → AllByRecursion (HasKindAt column k) (flat_map (λ l. paired l (partners l)) (rows_of graph left))
      by (inl both) = pairs_left k (width left) column partners (rows_of graph left) both.0 (long_rows graph left well) (on_left both.1)
      by (inr both) = pairs_right k (width left) column partners (rows_of graph left) both.0 (long_rows graph left well) (on_right both.1)

  lookup_has : (p : Plan) (c column : ℕ) (attribute : Attribute) (k : Kind) → IsWellFormed p → (kind_at p column ≡ Some k → Have p column k)
      → cond (nat_lt column (width p)) (kind_at p column) (cond (column == width p) (Some kind.Value) None) ≡ Some k → Have (plan.lookup p c attribute) column k
  lookup_has p c column attribute k well have is = by (either_part (width p) column (kind_at p column) (cond (column == width p) (Some kind.Value) None) k is)
    where
      by : ((column < width p) × (kind_at p column ≡ Some k)) ⊎ ((width p ≤ column) × (cond (column == width p) (Some kind.Value) None ≡ Some k)) → Have (plan.lookup p c attribute) column k
      by (inl both) =
          each_mapped (λ row. IsLong (width p) row × HasKindAt column k row) (HasKindAt column k) (with_attribute graph c attribute)
          (λ row seen. ap (is_cell_of k) (get_or_append_left row _ language.null column (let e = seen.0 in let less = both.0 in omega (arith, less, e))) ∙ seen.1)
          (rows_of graph p) (each_both (IsLong (width p)) (HasKindAt column k) (rows_of graph p) (long_rows graph p well) (have both.1))
      by (inr both) =
          let last = last_part (width p) column k both.1 in
          each_mapped (IsLong (width p)) (HasKindAt column k) (with_attribute graph c attribute) (λ row long. added_value k graph p c column attribute row last.0 last.1 long) (rows_of graph p) (long_rows graph p well)

  pub have_kind : (p : Plan) (column : ℕ) (k : Kind) → IsWellFormed p → kind_at p column ≡ Some k → Have p column k
  have_kind plan.unit column k good is = cc
  have_kind plan.nodes column k good is = nodes_have graph column k is
  have_kind (plan.rels types orientation) column k good is = rels_have graph types orientation column k is
  have_kind (plan.join left right keys) column k good is =
      pairs_have (plan.join left right keys) left column k (kind_at right (column - width left)) (λ l. filter (meet keys l) (rows_of graph right)) refl good.0 (λ at. have_kind left column k good.0 at)
      (λ at l. each_sifted (HasKindAt (column - width left) k) (meet keys l) (rows_of graph right) (have_kind right (column - width left) k good.1 at)) is
  have_kind (plan.outer left right keys test) column k good is =
      pairs_have (plan.outer left right keys test) left column k (kind_at right (column - width left)) (λ l. or_nulls (width right) (filter (is_partner keys test l) (rows_of graph right))) refl good.0
      (λ at. have_kind left column k good.0 at)
      (λ at l. or_nulls_have k (width right) (column - width left) (filter (is_partner keys test l) (rows_of graph right))
      (each_sifted (HasKindAt (column - width left) k) (is_partner keys test l) (rows_of graph right) (have_kind right (column - width left) k good.1 at))) is
  have_kind (plan.semi left right keys keeping) column k good is = each_sifted (HasKindAt column k) _ (rows_of graph left) (have_kind left column k good.0 is)
  have_kind (plan.lookup p c attribute) column k good is = lookup_has p c column attribute k good.0 (λ at. have_kind p column k good.0 at) is
  have_kind (plan.filter p test) column k good is = each_sifted (HasKindAt column k) _ (rows_of graph p) (have_kind p column k good.0 is)
  have_kind (plan.all_different p columns) column k good is = each_sifted (HasKindAt column k) _ (rows_of graph p) (have_kind p column k good.0 is)
  have_kind (plan.project p outputs) column k good is = project_has p outputs column k (λ c at. have_kind p c k good.0 at) (column_taken_over (slice_get outputs column)) refl is
  have_kind (plan.distinct p) column k good is = each_once_of (HasKindAt column k) (rows_of graph p) (have_kind p column k good is)
  have_kind (plan.union left right) column k good is =
      let both = both_kinds (kind_at left column) (kind_at right column) k is in
      each_append (HasKindAt column k) (rows_of graph left) (rows_of graph right) (have_kind left column k good.0 both.0) (have_kind right column k good.1 both.1)
