-- The parts of a scan, one after another.
use Rattle.std.proofs.Common.{◌≡◌, ℕ, zero, suc, ◌+◌, ◌-◌, ◌<◌, ◌≤◌, Bool, true, false, cond, List, [], ◌∷◌, ◌++◌, Option, None, Some, refl, sym, ap, subst, ◌∙◌, map, filter, length, get_or, drop, take, arith}
use Rattle.std.specs.Prelude.{IsSome}
use Rattle.std.specs.List.{All}
use Rattle.std.proofs.lemmas.Bool.{false≢true}
use Rattle.std.proofs.lemmas.List.{at_drop_more, drop_at, length-map, map-append, take_at}
use Rattle.std.proofs.lemmas.List.Elements.{All-drop, All-take, filter-append}
use Rattle.std.proofs.lemmas.List.Sums.{count_by-le-length, length-filter}
use Rattle.cy_values.specs.declared.scalars.Value.{Value}
use Rattle.cy_values.specs.declared.rows.Cell.{Cell}
use Rattle.cy_values.specs.declared.rows.Cell.TheVariants as cell
use Rattle.cy_trees.specs.Trees.{Name}
use Rattle.cy_graph.specs.declared.nodes.Node.{Node}
use Rattle.cy_graph.specs.declared.nodes.Rel.{Rel}
use Rattle.cy_network_memory.specs.Counts.{greatest_count}
use Rattle.cy_expr.specs.Lookups.{IsNumbered}
use Rattle.cy_expr.specs.Graphs.{are_different, has_type}
use Rattle.cy_planner_algebra.specs.declared.operators.Attribute.{Attribute}
use Rattle.cy_planner_algebra.specs.declared.operators.Orientation.{Orientation}
use Rattle.cy_planner_algebra.specs.declared.operators.Orientation.TheVariants.{Directed, Either}
use Rattle.cy_planner_algebra.specs.Expressions.{holds, projected, relationships_at}
use Rattle.cy_planner_algebra.specs.Meaning.{backwards, forwards, is_loop, ways}
use Rattle.cy_planner_algebra.specs.Plans as plan
use Rattle.cy_planner_algebra.specs.Plans.{Output, Plan}
use Rattle.cy_planner_algebra.specs.Sure.{HasCells, HasTruth}
use Rattle.cy_network_sources.specs.Changes.{Touches}
use Rattle.cy_network_sources.specs.Scans.{if_this, kept, scan_column, scan_parts, scan_reads}
use Rattle.cy_network_sources.specs.Attributes.{node_attribute, rel_attribute}
use Rattle.cy_network_sources.specs.internal.Rows.{node_rows, rel_rows}
use Rattle.cy_network_sources.specs.internal.Through.{AreFit, IsFit, leaf_of, made_by, node_made, reads_graph, rel_made, through}

module _ (value_of : Attribute → Value) where
  -- no rows make none
  none_made : (p : Plan) → made_by value_of p [] ≡ []
  none_made plan.unit = refl
  none_made _ = refl

  pub none_through : (ps : List Plan) → through value_of ps [] ≡ []
  none_through [] = refl
  none_through (p ∷ ps) = ap (made_by value_of p) (none_through ps) ∙ none_made p

  -- where the last parts leave none, all do
  pub none_after : (ps : List Plan) (k : ℕ) (rows : List (List Cell)) → through value_of (drop k ps) rows ≡ [] → through value_of ps rows ≡ []
  none_after [] zero rows none = none
  none_after [] (suc k) rows none = none
  none_after (p ∷ ps) zero rows none = none
  none_after (p ∷ ps) (suc k) rows none = ap (made_by value_of p) (none_after ps k rows none) ∙ none_made p

  -- the last parts, and then the others
  pub through_split : (ps : List Plan) (k : ℕ) (rows : List (List Cell)) → through value_of ps rows ≡ through value_of (take k ps) (through value_of (drop k ps) rows)
  through_split [] zero rows = refl
  through_split [] (suc k) rows = refl
  through_split (p ∷ ps) zero rows = refl
  through_split (p ∷ ps) (suc k) rows = ap (made_by value_of p) (through_split ps k rows)

  pub fit_split : (ps : List Plan) (k : ℕ) (rows : List (List Cell)) → AreFit value_of ps rows → AreFit value_of (take k ps) (through value_of (drop k ps) rows)
  fit_split [] zero rows fit = tt
  fit_split [] (suc k) rows fit = tt
  fit_split (p ∷ ps) zero rows fit = tt
  fit_split (p ∷ ps) (suc k) rows fit = (subst (IsFit p) (through_split ps k rows) fit.0, fit_split ps k rows fit.1)

  -- one part more
  pub one_part : (ps : List Plan) (k : ℕ) (rows : List (List Cell)) (d : Plan) → k < length ps
      → made_by value_of (get_or ps k d) (through value_of (drop (k + 1) ps) rows) ≡ through value_of (drop k ps) rows
  one_part ps k rows d within = sym (at_drop_more (λ qs. through value_of qs rows) ps k d within)

  pub fit_at : (ps : List Plan) (k : ℕ) (rows : List (List Cell)) (d : Plan) → k < length ps → AreFit value_of ps rows → IsFit (get_or ps k d) (through value_of (drop (k + 1) ps) rows)
  fit_at [] k rows d within fit = absurd (omega (arith, within))
  fit_at (p ∷ ps) zero rows d within fit = fit.0
  fit_at (p ∷ ps) (suc k) rows d within fit =
      let later : suc k + 1 ≡ suc (k + 1) = omega arith in
      subst (λ n. IsFit (get_or ps k d) (through value_of (drop n (p ∷ ps)) rows)) (sym later) (fit_at ps k rows d (omega (arith, within)) fit.1)

  -- rows make what each of them makes
  more_made : (p : Plan) (xs ys : List (List Cell)) → made_by value_of p (xs ++ ys) ≡ made_by value_of p xs ++ made_by value_of p ys
  more_made (plan.lookup p column attribute) xs ys = map-append (λ row. row ++ cell.Value (value_of attribute) ∷ []) xs ys
  more_made (plan.filter p test) xs ys = filter-append (holds test) xs ys
  more_made (plan.all_different p columns) xs ys = filter-append (λ row. are_different (relationships_at columns row)) xs ys
  more_made (plan.project p outputs) xs ys = map-append (projected outputs) xs ys
  more_made _ xs ys = refl

  pub more_through : (ps : List Plan) (xs ys : List (List Cell)) → through value_of ps (xs ++ ys) ≡ through value_of ps xs ++ through value_of ps ys
  more_through [] xs ys = refl
  more_through (p ∷ ps) xs ys = ap (made_by value_of p) (more_through ps xs ys) ∙ more_made p (through value_of ps xs) (through value_of ps ys)

  both_of : (P : List Cell → Type 0) (xs ys : List (List Cell)) → All P (xs ++ ys) → All P xs × All P ys
  both_of P xs ys all =
      (subst (All P) (take_at xs ys (length xs) refl) (All-take P (length xs) (xs ++ ys) all), subst (All P) (drop_at xs ys (length xs) refl) (All-drop P (length xs) (xs ++ ys) all))

  both_fit : (p : Plan) (xs ys : List (List Cell)) → IsFit p (xs ++ ys) → IsFit p xs × IsFit p ys
  both_fit (plan.filter p test) xs ys fit =
      let sure = both_of (HasTruth test) xs ys fit.0 in
      let numbered = both_of (All IsNumbered) xs ys fit.1 in
      ((sure.0, numbered.0), (sure.1, numbered.1))
  both_fit (plan.project p outputs) xs ys fit =
      let sure = both_of (HasCells outputs) xs ys fit.0 in
      let numbered = both_of (All IsNumbered) xs ys fit.1 in
      ((sure.0, numbered.0), (sure.1, numbered.1))
  both_fit _ xs ys fit = (tt, tt)

  both_are_fit : (ps : List Plan) (xs ys : List (List Cell)) → AreFit value_of ps (xs ++ ys) → AreFit value_of ps xs × AreFit value_of ps ys
  both_are_fit [] xs ys fit = (tt, tt)
  both_are_fit (p ∷ ps) xs ys fit =
      let here = both_fit p (through value_of ps xs) (through value_of ps ys) (subst (IsFit p) (more_through ps xs ys) fit.0) in
      let below = both_are_fit ps xs ys fit.1 in
      ((here.0, below.0), (here.1, below.1))

  -- what is fit for rows is fit for each
  pub fit_each : (ps : List Plan) (rows : List (List Cell)) (k : ℕ) (d : List Cell) → k < length rows → AreFit value_of ps rows → AreFit value_of ps (get_or rows k d ∷ [])
  fit_each ps [] k d within fit = absurd (omega (arith, within))
  fit_each ps (row ∷ rows) zero d within fit = (both_are_fit ps (row ∷ []) rows fit).0
  fit_each ps (row ∷ rows) (suc k) d within fit = fit_each ps rows k d (omega (arith, within)) (both_are_fit ps (row ∷ []) rows fit).1

  -- no part makes more rows than it gets
  filter_few : (p : List Cell → Bool) (rows : List (List Cell)) → length (filter p rows) ≤ length rows
  filter_few p rows = let kept = length-filter p rows in let few = count_by-le-length p rows in omega (arith, kept, few)

  map_few : (f : List Cell → List Cell) (rows : List (List Cell)) → length (map f rows) ≤ length rows
  map_few f rows = let same = length-map rows f in omega (arith, same)

  itself_few : (rows : List (List Cell)) → length rows ≤ length rows
  itself_few rows = omega arith

  few_made : (p : Plan) (rows : List (List Cell)) → length (made_by value_of p rows) ≤ length rows
  few_made (plan.lookup p column attribute) rows = map_few (λ row. row ++ cell.Value (value_of attribute) ∷ []) rows
  few_made (plan.filter p test) rows = filter_few (holds test) rows
  few_made (plan.all_different p columns) rows = filter_few (λ row. are_different (relationships_at columns row)) rows
  few_made (plan.project p outputs) rows = map_few (projected outputs) rows
  few_made _ rows = itself_few rows

  few_through : (ps : List Plan) (rows : List (List Cell)) → length (through value_of ps rows) ≤ length rows
  few_through [] rows = itself_few rows
  few_through (p ∷ ps) rows =
      let below = few_through ps rows in
      let here = few_made p (through value_of ps rows) in
      omega (arith, below, here)

-- so an entity has one row or two
pub node_few : (ps : List Plan) (n : ℕ) (o : Option Node) → length (node_made ps n o) ≤ greatest_count
node_few ps n None = omega arith
node_few ps n (Some node) =
    let few : length (node_made ps n (Some node)) ≤ 1 = few_through (λ a. node_attribute a (Some node)) ps (node_rows n (Some node)) in
    omega (arith, few)

rel_two : (types : List Name) (orientation : Orientation) (n : ℕ) (rel : Rel) → length (rel_rows types orientation n (Some rel)) ≤ 2
rel_two types orientation n rel =
    elim (has_type types rel) as (λ b. length (cond b (ways orientation (record { 0 = n }, rel)) []) ≤ 2) [
      | true ↦ two orientation
      | false ↦ omega arith
    ]
  where
    two : (o : Orientation) → length (ways o (record { 0 = n }, rel)) ≤ 2
    two Directed = omega arith
    two Either =
        elim (is_loop rel) as (λ b. length (cond b (forwards (record { 0 = n }, rel) ∷ []) (forwards (record { 0 = n }, rel) ∷ backwards (record { 0 = n }, rel) ∷ [])) ≤ 2) [
          | true ↦ omega arith
          | false ↦ omega arith
        ]

pub rel_few : (types : List Name) (orientation : Orientation) (ps : List Plan) (n : ℕ) (o : Option Rel) → length (rel_made types orientation ps n o) ≤ greatest_count
rel_few types orientation ps n None = omega arith
rel_few types orientation ps n (Some rel) =
    let few = few_through (λ a. rel_attribute a (Some rel)) ps (rel_rows types orientation n (Some rel)) in
    let two = rel_two types orientation n rel in
    omega (arith, few, two)

-- ---- the last part of a scan reads the graph

pub parts_some : (p : Plan) → 1 ≤ length (scan_parts p)
parts_some plan.unit = omega arith
parts_some _ = omega arith

-- the last of a list that has more before it
last_more : (x d : Plan) (xs : List Plan) → 1 ≤ length xs → get_or (x ∷ xs) (length (x ∷ xs) - 1) d ≡ get_or xs (length xs - 1) d
last_more x d [] some = absurd (omega (arith, some))
last_more x d (y ∷ ys) some = let one_more : length (x ∷ y ∷ ys) - 1 ≡ suc (length (y ∷ ys) - 1) = omega arith in ap (λ n. get_or (x ∷ y ∷ ys) n d) one_more

pub last_is : (p d : Plan) → get_or (scan_parts p) (length (scan_parts p) - 1) d ≡ leaf_of p
last_is (plan.lookup p column attribute) d = last_more (plan.lookup p column attribute) d (scan_parts p) (parts_some p) ∙ last_is p d
last_is (plan.filter p test) d = last_more (plan.filter p test) d (scan_parts p) (parts_some p) ∙ last_is p d
last_is (plan.all_different p columns) d = last_more (plan.all_different p columns) d (scan_parts p) (parts_some p) ∙ last_is p d
last_is (plan.project p outputs) d = last_more (plan.project p outputs) d (scan_parts p) (parts_some p) ∙ last_is p d
last_is _ d = refl

this_some : (column : ℕ) (found : Option ℕ) → IsSome (if_this column found) → IsSome found
this_some column None there = there
this_some column (Some other) there = refl

kept_some : (below : Option ℕ) (outputs : List Output) → IsSome (kept below outputs) → IsSome below
kept_some None outputs there = there
kept_some (Some column) outputs there = refl

-- the last part of a scan reads the graph
pub leaf_reads : (p : Plan) → IsSome (scan_column p) → reads_graph (leaf_of p) ≡ true
leaf_reads plan.nodes there = refl
leaf_reads (plan.rels types orientation) there = refl
leaf_reads (plan.lookup p column attribute) there = leaf_reads p (this_some column (scan_column p) there)
leaf_reads (plan.filter p test) there = leaf_reads p there
leaf_reads (plan.all_different p columns) there = leaf_reads p there
leaf_reads (plan.project p outputs) there = leaf_reads p (kept_some (scan_column p) outputs there)
leaf_reads _ there = absurd (false≢true there)

pub some_of : {A : Type 0} (found : Option A) → IsSome found → (x : A) × (found ≡ Some x)
some_of None there = absurd (false≢true there)
some_of (Some x) there = (x, refl)

-- how many entities it reads
pub leaf_count : (touches : Touches) (p : Plan) → scan_reads touches p ≡ scan_reads touches (leaf_of p)
leaf_count touches (plan.lookup p column attribute) = leaf_count touches p
leaf_count touches (plan.filter p test) = leaf_count touches p
leaf_count touches (plan.all_different p columns) = leaf_count touches p
leaf_count touches (plan.project p outputs) = leaf_count touches p
leaf_count touches _ = refl
