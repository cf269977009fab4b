-- The rows of a plan are as wide as the plan.
use Rattle.std.proofs.Common.{◌≡◌, ℕ, ◌+◌, ◌≤◌, true, false, cond, List, [], ◌∷◌, ◌++◌, map, filter, length, refl, sym, ap, ◌∙◌, arith}
use Rattle.std.specs.Prelude.{flat_map}
use Rattle.std.specs.List.{All}
use Rattle.std.proofs.lemmas.List.{length-append, length-map, length-replicate}
use Rattle.std.proofs.lemmas.List.Elements.{All-append, All-cons, All-filter, All-head, All-map, All-nil, All-tail, All-weaker}
use Rattle.cy_values.specs.declared.numbers.RelId.{RelId}
use Rattle.cy_values.specs.declared.rows.Cell.{Cell}
use Rattle.cy_graph.specs.Graph.{Content}
use Rattle.cy_graph.specs.declared.nodes.Rel.{Rel}
use Rattle.cy_trees.specs.Trees.{Name}
use Rattle.cy_expr.specs.Graphs.{has_type}
use Rattle.cy_planner_algebra.specs.declared.operators.Orientation.{Orientation}
use Rattle.cy_planner_algebra.specs.declared.operators.Orientation.TheVariants.{Directed, Either}
use Rattle.cy_planner_algebra.specs.Plans as plan
use Rattle.cy_planner_algebra.specs.Plans.{Plan, width}
use Rattle.cy_planner_algebra.specs.Meaning.{backwards, each_once, forwards, is_among, is_loop, is_partner, nulls, or_nulls, paired, rows_of, rows_of_rel, ways, with_attribute}
use Rattle.cy_planner_algebra.specs.Keys.{meet}
use Rattle.cy_planner_algebra.specs.Expressions.{projected, output_cell}
use Rattle.cy_planner_algebra.specs.WellFormed.{IsWellFormed, greatest_width}

abbrev IsWide : ℕ → List Cell → Type 0
IsWide count row = length row ≡ count

-- what holds of all that is made of each thing
pub all_made : {A B : Type 0} (P : A → Type 0) (Q : B → Type 0) (f : A → List B) → ((x : A) → P x → All Q (f x)) → (xs : List A) → All P xs → All Q (flat_map f xs)
all_made P Q f step [] each = All-nil Q
all_made P Q f step (x ∷ xs) each =
    All-append Q (f x) (flat_map f xs) (step x (All-head P x xs each)) (all_made P Q f step xs (All-tail P x xs each))

-- and where it holds of what is made of anything
pub all_made_of_any : {A B : Type 0} (Q : B → Type 0) (f : A → List B) → ((x : A) → All Q (f x)) → (xs : List A) → All Q (flat_map f xs)
all_made_of_any Q f step [] = All-nil Q
all_made_of_any Q f step (x ∷ xs) = All-append Q (f x) (flat_map f xs) (step x) (all_made_of_any Q f step xs)

pub all_mapped : {A B : Type 0} (Q : B → Type 0) (f : A → B) → ((x : A) → Q (f x)) → (xs : List A) → All Q (map f xs)
all_mapped Q f step [] = All-nil Q
all_mapped Q f step (x ∷ xs) = All-cons Q (f x) (map f xs) (step x) (all_mapped Q f step xs)

-- of some rows each once
pub all_once : (P : List Cell → Type 0) (rows : List (List Cell)) → All P rows → All P (each_once rows)
all_once P [] each = each
all_once P (row ∷ rows) each =
    let rest : All P (each_once rows) = all_once P rows (All-tail P row rows each) in
    elim (is_among row rows) as (λ b. All P (cond b (each_once rows) (row ∷ each_once rows))) [
      | true ↦ rest
      | false ↦ All-cons P row (each_once rows) (All-head P row rows each) rest
    ]

wide_ways : (orientation : Orientation) (r : RelId × Rel) → All (IsWide 4) (ways orientation r)
wide_ways Directed r = All-cons (IsWide 4) (forwards r) [] refl (All-nil (IsWide 4))
wide_ways Either r =
    elim (is_loop r.1) as (λ b. All (IsWide 4) (cond b (forwards r ∷ []) (forwards r ∷ backwards r ∷ []))) [
      | true ↦ All-cons (IsWide 4) (forwards r) [] refl (All-nil (IsWide 4))
      | false ↦ All-cons (IsWide 4) (forwards r) (backwards r ∷ []) refl (All-cons (IsWide 4) (backwards r) [] refl (All-nil (IsWide 4)))
    ]

wide_rel : (types : List Name) (orientation : Orientation) (r : RelId × Rel) → All (IsWide 4) (rows_of_rel types orientation r)
wide_rel types orientation r =
    elim (has_type types r.1) as (λ b. All (IsWide 4) (cond b (ways orientation r) [])) [ true ↦ wide_ways orientation r | false ↦ All-nil (IsWide 4) ]

wide_pairs : (m n : ℕ) (left : List Cell) (rights : List (List Cell)) → length left ≡ m → All (IsWide n) rights → All (IsWide (m + n)) (paired left rights)
wide_pairs m n left rights is each =
    All-map (IsWide (m + n)) (λ right. left ++ right) rights
    (All-weaker (IsWide n) (λ right. IsWide (m + n) (left ++ right)) (λ right wide. length-append left right ∙ (let e : length left + length right ≡ m + n = omega (arith, is, wide) in e)) rights each)

wide_or_nulls : (n : ℕ) (found : List (List Cell)) → All (IsWide n) found → All (IsWide n) (or_nulls n found)
wide_or_nulls n [] each = All-cons (IsWide n) (nulls n) [] (length-replicate n _) (All-nil (IsWide n))
wide_or_nulls n (row ∷ rows) each = each

pub wide_rows : (graph : Content) (p : Plan) → IsWellFormed p → All (IsWide (width p)) (rows_of graph p)
wide_rows graph plan.unit good = All-cons (IsWide 0) [] [] refl (All-nil (IsWide 0))
wide_rows graph plan.nodes good = all_mapped (IsWide 1) _ (λ n. refl) graph.nodes
wide_rows graph (plan.rels types orientation) good = all_made_of_any (IsWide 4) (rows_of_rel types orientation) (wide_rel types orientation) graph.rels
wide_rows graph (plan.join left right keys) good =
    all_made (IsWide (width left)) (IsWide (width left + width right)) (λ l. paired l (filter (meet keys l) (rows_of graph right)))
    (λ l is. wide_pairs (width left) (width right) l (filter (meet keys l) (rows_of graph right)) is (All-filter (meet keys l) (IsWide (width right)) (rows_of graph right) (wide_rows graph right good.1)))
    (rows_of graph left) (wide_rows graph left good.0)
wide_rows graph (plan.outer left right keys test) good =
    all_made (IsWide (width left)) (IsWide (width left + width right)) (λ l. paired l (or_nulls (width right) (filter (is_partner keys test l) (rows_of graph right))))
    (λ l is. wide_pairs (width left) (width right) l (or_nulls (width right) (filter (is_partner keys test l) (rows_of graph right))) is
    (wide_or_nulls (width right) (filter (is_partner keys test l) (rows_of graph right))
    (All-filter (is_partner keys test l) (IsWide (width right)) (rows_of graph right) (wide_rows graph right good.1))))
    (rows_of graph left) (wide_rows graph left good.0)
wide_rows graph (plan.semi left right keys keeping) good = All-filter _ (IsWide (width left)) (rows_of graph left) (wide_rows graph left good.0)
wide_rows graph (plan.lookup p column attribute) good =
    All-map (IsWide (width p + 1)) (with_attribute graph column attribute) (rows_of graph p)
    (All-weaker (IsWide (width p)) (λ row. IsWide (width p + 1) (with_attribute graph column attribute row))
    (λ row is. length-append row _ ∙ ap (λ n. n + 1) is) (rows_of graph p) (wide_rows graph p good.0))
wide_rows graph (plan.filter p test) good = All-filter _ (IsWide (width p)) (rows_of graph p) (wide_rows graph p good.0)
wide_rows graph (plan.all_different p columns) good = All-filter _ (IsWide (width p)) (rows_of graph p) (wide_rows graph p good.0)
wide_rows graph (plan.project p outputs) good = all_mapped (IsWide (length outputs)) (projected outputs) (λ row. length-map outputs (output_cell row)) (rows_of graph p)
wide_rows graph (plan.distinct p) good = all_once (IsWide (width p)) (rows_of graph p) (wide_rows graph p good)
wide_rows graph (plan.union left right) good =
    All-append (IsWide (width left)) (rows_of graph left) (rows_of graph right) (wide_rows graph left good.0)
    (All-weaker (IsWide (width right)) (IsWide (width left)) (λ row is. is ∙ sym good.2) (rows_of graph right) (wide_rows graph right good.1))

-- no plan is wider than rows can be
pub width_bounded : (p : plan.Plan) → IsWellFormed p → width p ≤ greatest_width
width_bounded (plan.join left right keys) good = good.3
width_bounded (plan.outer left right keys test) good = good.3
width_bounded (plan.semi left right keys keeping) good = width_bounded left good.0
width_bounded (plan.lookup p column a) good = good.2
width_bounded (plan.filter p test) good = width_bounded p good.0
width_bounded (plan.all_different p columns) good = width_bounded p good.0
width_bounded (plan.project p outputs) good = good.2
width_bounded (plan.distinct p) good = width_bounded p good
width_bounded (plan.union left right) good = width_bounded left good.0
width_bounded _ good = omega arith
