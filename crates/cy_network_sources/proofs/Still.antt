-- From one graph to another a plan has one cost, and none where nothing differs.
use Rattle.std.proofs.Common.{◌≡◌, ℕ, ◌+◌, ◌==◌, Bool, true, false, not, cond, ◌&&◌, ◌||◌, List, [], ◌∷◌, ◌++◌, Option, None, Some, refl, sym, ap, ◌∙◌, length, arith}
use Rattle.std.specs.Prelude.{count_by, is_some, sum_by}
use Rattle.std.proofs.lemmas.List.Sums.{sum_by-cons}
use Rattle.std.proofs.lemmas.Option.{none-some}
use Rattle.cy_values.specs.declared.rows.Cell.{Cell}
use Rattle.cy_values.specs.declared.rows.Cell.TheVariants as cell
use Rattle.cy_values.specs.Bag.{count_of}
use Rattle.cy_values.proofs.Lists.{sums_alike}
use Rattle.cy_values.proofs.Booleans.{itself_equal}
use Rattle.cy_graph.specs.declared.nodes.Node.{Node}
use Rattle.cy_graph.specs.declared.nodes.Rel.{Rel}
use Rattle.cy_graph.specs.Graph.{State, node_at, rel_at}
use Rattle.cy_planner_algebra.specs.declared.operators.KeyColumns.{KeyColumns}
use Rattle.cy_planner_algebra.specs.Expressions.{cell_at}
use Rattle.cy_planner_algebra.specs.Keys.{meet}
use Rattle.cy_planner_algebra.specs.Meaning.{each_once, rows_of}
use Rattle.cy_planner_algebra.specs.Plans as plan
use Rattle.cy_planner_algebra.specs.Plans.{Plan}
use Rattle.cy_planner_algebra.specs.Parts.{parts}
use Rattle.cy_network_operators.specs.OperatorCosts.{changed_pairs, changed_rows, is_changed, rows_either}
use Rattle.cy_network_sources.specs.Changes.{IsChange, IsImage, Touches, image_at}
use Rattle.cy_network_sources.specs.LookupCosts.{names_touched, naming_rows}
use Rattle.cy_network_sources.proofs.Determined.{node_number, rel_number, same_naming}
use Rattle.cy_network_sources.specs.Costs.{changed, cost, joining, part_cost, touched_entities}

-- ---- one cost

module _ (before after : State) (touches others : Touches) (first : IsChange before after touches) (second : IsChange before after others) where
  as_many : touched_entities touches ≡ touched_entities others
  as_many =
      let nodes : length touches.nodes ≡ length others.nodes = node_number before after touches others first second in
      let rels : length touches.rels ≡ length others.rels = rel_number before after touches others first second in
      omega (arith, nodes, rels)

  part_alike : (p : Plan) → part_cost touches before.content after.content p ≡ part_cost others before.content after.content p
  part_alike plan.nodes = as_many
  part_alike (plan.rels types orientation) = as_many
  part_alike (plan.lookup p column attribute) =
      let named : naming_rows touches column (rows_of before.content p) (rows_of after.content p) ≡ naming_rows others column (rows_of before.content p) (rows_of after.content p) =
      same_naming before after touches others first second column (rows_of before.content p) (rows_of after.content p) in
      let many = as_many in
      ap (λ n. n + changed before.content after.content p + naming_rows touches column (rows_of before.content p) (rows_of after.content p)) many
      ∙ ap (λ n. touched_entities others + changed before.content after.content p + n) named
  part_alike _ = refl

  cost_alike : (p : Plan) → cost touches before.content after.content p ≡ cost others before.content after.content p
  cost_alike p =
      ap (λ n. n + changed before.content after.content p)
      (sums_alike (part_cost touches before.content after.content) (part_cost others before.content after.content) part_alike (parts p))

pub one_cost : (before after : State) (touches others : Touches) (p : Plan) → IsChange before after touches → IsChange before after others
    → cost touches before.content after.content p ≡ cost others before.content after.content p
one_cost before after touches others p first second = cost_alike before after touches others first second p

-- ---- no cost

sum_none : {A : Type 0} (f : A → ℕ) → ((x : A) → f x ≡ 0) → (xs : List A) → sum_by f xs ≡ 0
sum_none f none [] = refl
sum_none f none (x ∷ xs) = let one = none x in let rest = sum_none f none xs in let whole = sum_by-cons f x xs in omega (arith, one, rest, whole)

count_none : {A : Type 0} (p : A → Bool) → ((x : A) → p x ≡ false) → (xs : List A) → count_by p xs ≡ 0
count_none p none xs = sum_none (λ x. cond (p x) 1 0) (λ x. ap (λ b. cond {A = ℕ} b 1 0) (none x)) xs

stays : (rows : List (List Cell)) (row : List Cell) → is_changed rows rows row ≡ false
stays rows row = ap not (itself_equal (count_of row rows))

rows_stay : (rows : List (List Cell)) → changed_rows rows rows ≡ 0
rows_stay rows = count_none (is_changed rows rows) (stays rows) (rows_either rows rows)

neither : (m a b : Bool) → a ≡ false → b ≡ false → (m && (a || b)) ≡ false
neither true a b one two = ap (λ c. c || b) one ∙ two
neither false a b one two = refl

pairs_stay : (keys : List KeyColumns) (left right : List (List Cell)) → changed_pairs keys left left right right ≡ 0
pairs_stay keys left right =
    sum_none (λ row. count_by (λ other. meet keys row other && (is_changed left left row || is_changed right right other)) (rows_either right right))
    (λ row. count_none (λ other. meet keys row other && (is_changed left left row || is_changed right right other))
    (λ other. neither (meet keys row other) (is_changed left left row) (is_changed right right other) (stays left row) (stays right other)) (rows_either right right))
    (rows_either left left)

-- an entity that is touched differs
differs_not : {V : Type 0} (value : Option V) (o : Option (Option V)) → IsImage value value o → o ≡ None
differs_not value None image = refl
differs_not value (Some was) image = absurd (image.1 refl)

none_touched : {V : Type 0} (es : List (ℕ × Option V)) → ((n : ℕ) → image_at n es ≡ None) → es ≡ []
none_touched [] none = refl
none_touched (e ∷ es) none = absurd (none-some e.1 (sym (none e.0) ∙ ap (λ b. cond b (Some e.1) (image_at e.0 es)) (itself_equal e.0)))

module _ (graph : State) (touches : Touches) (change : IsChange graph graph touches) where
  no_nodes : touches.nodes ≡ []
  no_nodes = none_touched touches.nodes (λ n. differs_not (node_at (record { 0 = n }) graph) (image_at n touches.nodes) (change.nodes (record { 0 = n })))

  no_rels : touches.rels ≡ []
  no_rels = none_touched touches.rels (λ n. differs_not (rel_at (record { 0 = n }) graph) (image_at n touches.rels) (change.rels (record { 0 = n })))

  no_entities : touched_entities touches ≡ 0
  no_entities = ap (λ (es : List (ℕ × Option Node)). length es + length touches.rels) no_nodes ∙ ap (λ (es : List (ℕ × Option Rel)). 0 + length es) no_rels

  names_none : (c : Cell) → names_touched touches c ≡ false
  names_none (cell.Node id) = ap (λ (es : List (ℕ × Option Node)). is_some (image_at id.0 es)) no_nodes
  names_none (cell.Rel id) = ap (λ (es : List (ℕ × Option Rel)). is_some (image_at id.0 es)) no_rels
  names_none (cell.Rels ids) = refl
  names_none (cell.Value v) = refl

  none_named : (column : ℕ) (rows : List (List Cell)) → naming_rows touches column rows rows ≡ 0
  none_named column rows = count_none (λ row. names_touched touches (cell_at row column)) (λ row. names_none (cell_at row column)) (each_once (rows ++ rows))

  stay : (p : Plan) → changed graph.content graph.content p ≡ 0
  stay p = rows_stay (rows_of graph.content p)

  three : {a b c : ℕ} → a ≡ 0 → b ≡ 0 → c ≡ 0 → a + b + c ≡ 0
  three one two last = omega (arith, one, two, last)

  joining_none : (left right : Plan) (keys : List KeyColumns) → joining graph.content graph.content left right keys ≡ 0
  joining_none left right keys = three (stay left) (stay right) (pairs_stay keys (rows_of graph.content left) (rows_of graph.content right))

  part_none : (p : Plan) → part_cost touches graph.content graph.content p ≡ 0
  part_none plan.unit = refl
  part_none plan.nodes = no_entities
  part_none (plan.rels types orientation) = no_entities
  part_none (plan.join left right keys) = joining_none left right keys
  part_none (plan.outer left right keys test) = joining_none left right keys
  part_none (plan.semi left right keys keeping) = joining_none left right keys
  part_none (plan.lookup p column attribute) = three no_entities (stay p) (none_named column (rows_of graph.content p))
  part_none (plan.filter p test) = stay p
  part_none (plan.all_different p columns) = stay p
  part_none (plan.project p outputs) = stay p
  part_none (plan.distinct p) = stay p
  part_none (plan.union left right) = let one = stay left in let two = stay right in omega (arith, one, two)

  cost_none : (p : Plan) → cost touches graph.content graph.content p ≡ 0
  cost_none p =
      let parts_none : sum_by (part_cost touches graph.content graph.content) (parts p) ≡ 0 = sum_none (part_cost touches graph.content graph.content) part_none (parts p) in
      let root_none = stay p in
      omega (arith, parts_none, root_none)

pub no_cost : (graph : State) (touches : Touches) (p : Plan) → IsChange graph graph touches → cost touches graph.content graph.content p ≡ 0
no_cost graph touches p change = cost_none graph touches change p
