-- Rows of a plan with the same cells in the columns of its key are the same.
use Rattle.std.proofs.Common.{◌≡◌, ℕ, suc, ◌+◌, ◌-◌, ◌==◌, ◌<◌, Bool, true, false, cond, List, [], ◌∷◌, ◌++◌, Option, None, Some, filter, map, length, refl, sym, ap, subst, ◌∙◌, inl, inr, arith}
use Rattle.std.specs.Prelude.{◌⊎◌, ◌&&◌, ◌||◌, not, nat_le, nat_lt, slice_get}
use Rattle.std.specs.List.{All}
use Rattle.std.specs.Option.{option_and_then, option_map_or}
use Rattle.std.proofs.lemmas.Bool.{and_parts, false≢true, or_cases, eqb-true, lt-ltb, and_right}
use Rattle.std.proofs.lemmas.Bool.Decides.{nat_tests}
use Rattle.std.proofs.lemmas.List.{get_or-append_right, get_or_append_left}
use Rattle.std.proofs.lemmas.List.Elements.{All-cons, All-filter, All-map, All-nil, All-weaker, filter_passes}
use Rattle.cy_values.specs.declared.numbers.NodeId.{NodeId}
use Rattle.cy_values.specs.declared.numbers.RelId.{RelId}
use Rattle.cy_values.specs.declared.rows.Cell.{Cell}
use Rattle.cy_values.specs.declared.rows.Cell.TheVariants as cell
use Rattle.cy_values.specs.declared.scalars.Value.TheVariants as value
use Rattle.cy_trees.specs.Trees.{Name}
use Rattle.cy_graph.specs.Graph.{Content, IsGraph, State, relationship_in}
use Rattle.cy_graph.specs.declared.nodes.Rel.{Rel}
use Rattle.cy_expr.specs.Graphs.{has_type}
use Rattle.cy_planner_algebra.specs.declared.operators.KeyColumns.{KeyColumns}
use Rattle.cy_planner_algebra.specs.declared.operators.Orientation.{Orientation}
use Rattle.cy_planner_algebra.specs.declared.operators.Orientation.TheVariants.{Directed, Either}
use Rattle.cy_planner_algebra.specs.Plans as plan
use Rattle.cy_planner_algebra.specs.Plans.{Output, Plan, width}
use Rattle.cy_planner_algebra.specs.Expressions.{cell_at, null, projected}
use Rattle.cy_planner_algebra.specs.Keys.{left_key, meet, right_key}
use Rattle.cy_planner_algebra.specs.Meaning.{backwards, forwards, is_loop, paired, rows_of, rows_of_rel, ways, with_attribute}
use Rattle.cy_planner_algebra.specs.WellFormed.{IsWellFormed}
use Rattle.cy_planner_algebra.proofs.Widths.{all_made, all_mapped, wide_rows}
use Rattle.cy_network_relevance.specs.Lists.{column_alone}
use Rattle.cy_network_relevance.specs.Trails.{TellsRowsApartOn, column_at, follows_key, greatest_followed, has_key, is_alone, is_at, is_kept, is_kept_key, is_key, is_key_column, keeps_key, tells_apart, tells_joins, tells_rel}
use Rattle.cy_network_relevance.proofs.Links.{IsThere, cell_there, each_there}
use Rattle.cy_network_relevance.proofs.Bounds.{both}
use Rattle.cy_network_relevance.proofs.Told.{each_told, met_keys, of_counted, same_in_key, same_kept, told}

-- ---- rows with the same key

-- the cells of two rows are the same in each of the columns of a plan's key
abbrev SameKey : Plan → List Cell → List Cell → Type 0
SameKey p row other = (k : ℕ) → k < width p → is_key_column p k ≡ true → cell_at row k ≡ cell_at other k

-- two rows are one where their key is the same
abbrev IsTold : Plan → List Cell → List Cell → Type 0
IsTold p row other = SameKey p row other → row ≡ other

-- what is so of each two
abbrev EachTwo : (List Cell → List Cell → Type 0) → List (List Cell) → Type 0
EachTwo R rows = All (λ row. All (R row) rows) rows

-- it is so of those that pass
two_filtered : (R : List Cell → List Cell → Type 0) (p : List Cell → Bool) (rows : List (List Cell)) → EachTwo R rows → EachTwo R (filter p rows)
two_filtered R p rows each =
    All-filter p (λ row. All (R row) (filter p rows)) rows (All-weaker (λ row. All (R row) rows) (λ row. All (R row) (filter p rows)) (λ row others. All-filter p (R row) rows others) rows each)

-- and of what is made of them
two_mapped : (R Q : List Cell → List Cell → Type 0) (f : List Cell → List Cell) → (rows : List (List Cell)) → ((row other : List Cell) → R row other → Q (f row) (f other))
    → EachTwo R rows → EachTwo Q (map f rows)
two_mapped R Q f rows step each =
    All-map (λ row. All (Q row) (map f rows)) f rows
    (All-weaker (λ row. All (R row) rows) (λ row. All (Q (f row)) (map f rows))
    (λ row others. All-map (Q (f row)) f rows (All-weaker (R row) (λ other. Q (f row) (f other)) (step row) rows others)) rows each)

-- what two things of one kind have
two_of_kind : (P : List Cell → Type 0) (R : List Cell → List Cell → Type 0) (rows : List (List Cell)) → ((row other : List Cell) → P row → P other → R row other) → All P rows → EachTwo R rows
two_of_kind P R rows step each =
    All-weaker P (λ row. All (R row) rows) (λ row is. All-weaker P (R row) (λ other also. step row other is also) rows each) rows each

-- and together with what each has
two_with : (P : List Cell → Type 0) (R : List Cell → List Cell → Type 0) (rows : List (List Cell)) → All P rows → EachTwo R rows
    → EachTwo (λ row other. (P row × P other) × R row other) rows
two_with P R rows each two =
    All-weaker (λ row. P row × All (R row) rows) (λ row. All (λ other. (P row × P other) × R row other) rows)
    (λ row facts. All-weaker (λ other. P other × R row other) (λ other. (P row × P other) × R row other) (λ other also. ((facts.0, also.0), also.1)) rows (both P (R row) rows each facts.1)) rows
    (both P (λ row. All (R row) rows) rows each two)

-- ---- nodes and relationships

record IsNodeRow (row : List Cell) : Type 0 where
  id : NodeId
  is : row ≡ cell.Node id ∷ []

node_rows : (row other : List Cell) → IsNodeRow row → IsNodeRow other → IsTold plan.nodes row other
node_rows row other a b same =
    let one : cell.Node a.id ≡ cell.Node b.id = sym (ap (λ r. cell_at r 0) a.is) ∙ same 0 (omega arith) refl ∙ ap (λ r. cell_at r 0) b.is in
    a.is ∙ ap (λ c. c ∷ []) one ∙ sym b.is

record IsRelRow (graph : Content) (orientation : Orientation) (row : List Cell) : Type 0 where
  id : RelId
  rel : Rel
  there : relationship_in graph id ≡ Some rel
  is : (row ≡ forwards (id, rel)) ⊎ ((row ≡ backwards (id, rel)) × (orientation ≡ Either))

module _ (graph : Content) (e : RelId × Rel) (there : relationship_in graph e.0 ≡ Some e.1) where
  forth : (orientation : Orientation) → IsRelRow graph orientation (forwards e)
  forth orientation = record { id = e.0; rel = e.1; there = there; is = inl refl }

  back : IsRelRow graph Either (backwards e)
  back = record { id = e.0; rel = e.1; there = there; is = inr (refl, refl) }

  rel_ways : (orientation : Orientation) → All (IsRelRow graph orientation) (ways orientation e)
  rel_ways Directed = All-cons (IsRelRow graph Directed) (forwards e) [] (forth Directed) (All-nil (IsRelRow graph Directed))
  rel_ways Either =
      elim (is_loop e.1) as (λ b. All (IsRelRow graph Either) (cond b (forwards e ∷ []) (forwards e ∷ backwards e ∷ []))) [
        | true ↦ All-cons (IsRelRow graph Either) (forwards e) [] (forth Either) (All-nil (IsRelRow graph Either))
        | false ↦
            All-cons (IsRelRow graph Either) (forwards e) (backwards e ∷ []) (forth Either)
            (All-cons (IsRelRow graph Either) (backwards e) [] back (All-nil (IsRelRow graph Either)))
      ]

  rel_rows : (types : List Name) (orientation : Orientation) → All (IsRelRow graph orientation) (rows_of_rel types orientation e)
  rel_rows types orientation =
      elim (has_type types e.1) as (λ b. All (IsRelRow graph orientation) (cond b (ways orientation e) [])) [ true ↦ rel_ways orientation | false ↦ All-nil (IsRelRow graph orientation) ]

same_id : (a b : RelId) → cell.Rel a ≡ cell.Rel b → a ≡ b
same_id a b is = cc

same_node : (a b : NodeId) → cell.Node a ≡ cell.Node b → a ≡ b
same_node a b is = cc

same_found : (a b : Rel) → Some a ≡ Some b → a ≡ b
same_found a b is = cc

-- there and back, where the first end is the same
there_and_back : (id : RelId) (rel : Rel) → rel.source ≡ rel.target → forwards (id, rel) ≡ backwards (id, rel)
there_and_back id rel is =
    ap (λ n. cell.Rel id ∷ cell.Node n ∷ cell.Node rel.target ∷ cell.Value (value.Text rel.kind) ∷ []) is
    ∙ ap (λ n. cell.Rel id ∷ cell.Node rel.target ∷ cell.Node n ∷ cell.Value (value.Text rel.kind) ∷ []) (sym is)

module _ (graph : Content) (types : List Name) (orientation : Orientation) (row other : List Cell) (a : IsRelRow graph orientation row) (b : IsRelRow graph orientation other)
    (same : SameKey (plan.rels types orientation) row other) where
  first_of : (id : RelId) (rel : Rel) (r : List Cell) → (r ≡ forwards (id, rel)) ⊎ ((r ≡ backwards (id, rel)) × (orientation ≡ Either)) → cell_at r 0 ≡ cell.Rel id
  first_of id rel r (inl is) = ap (λ c. cell_at c 0) is
  first_of id rel r (inr is) = ap (λ c. cell_at c 0) is.0

  is_first : (o : Orientation) → tells_rel o 0 ≡ true
  is_first Directed = refl
  is_first Either = refl

  one_id : a.id ≡ b.id
  one_id = same_id a.id b.id (sym (first_of a.id a.rel row a.is) ∙ same 0 (omega arith) (is_first orientation) ∙ first_of b.id b.rel other b.is)

  one_rel : a.rel ≡ b.rel
  one_rel = same_found a.rel b.rel (sym a.there ∙ ap (relationship_in graph) one_id ∙ b.there)

  one_forth : forwards (a.id, a.rel) ≡ forwards (b.id, b.rel)
  one_forth = ap (λ id. forwards (id, a.rel)) one_id ∙ ap (λ rel. forwards (b.id, rel)) one_rel

  one_back : backwards (a.id, a.rel) ≡ backwards (b.id, b.rel)
  one_back = ap (λ id. backwards (id, a.rel)) one_id ∙ ap (λ rel. backwards (b.id, rel)) one_rel

  first_end : orientation ≡ Either → cell_at row 1 ≡ cell_at other 1
  first_end is = same 1 (omega arith) (ap (λ o. tells_rel o 1) is)

  by_ways : (row ≡ forwards (a.id, a.rel)) ⊎ ((row ≡ backwards (a.id, a.rel)) × (orientation ≡ Either))
      → (other ≡ forwards (b.id, b.rel)) ⊎ ((other ≡ backwards (b.id, b.rel)) × (orientation ≡ Either)) → row ≡ other
  by_ways (inl x) (inl y) = x ∙ one_forth ∙ sym y
  by_ways (inr x) (inr y) = x.0 ∙ one_back ∙ sym y.0
  by_ways (inl x) (inr y) =
      let ends : cell.Node a.rel.source ≡ cell.Node b.rel.target = sym (ap (λ r. cell_at r 1) x) ∙ first_end y.1 ∙ ap (λ r. cell_at r 1) y.0 in
      let loop : b.rel.source ≡ b.rel.target = ap (λ (r : Rel). r.source) (sym one_rel) ∙ same_node a.rel.source b.rel.target ends in
      x ∙ one_forth ∙ there_and_back b.id b.rel loop ∙ sym y.0
  by_ways (inr x) (inl y) =
      let ends : cell.Node a.rel.target ≡ cell.Node b.rel.source = sym (ap (λ r. cell_at r 1) x.0) ∙ first_end x.1 ∙ ap (λ r. cell_at r 1) y in
      let loop : b.rel.source ≡ b.rel.target = sym (same_node a.rel.target b.rel.source ends) ∙ ap (λ (r : Rel). r.target) one_rel in
      x.0 ∙ one_back ∙ sym (there_and_back b.id b.rel loop) ∙ sym y

  rel_told : row ≡ other
  rel_told = by_ways a.is b.is

-- ---- pairs

module _ (left right : Plan) (keys : List KeyColumns) where
  -- two rows, each of a left row and a right one that meet, of which the left ones are told by their key and the right ones by theirs
  record IsTwice (one more two others : List Cell) : Type 0 where
    long_one : length one ≡ width left
    long_two : length two ≡ width left
    met_one : left_key keys one ≡ right_key keys more
    met_two : left_key keys two ≡ right_key keys others
    lefts : IsTold left one two
    rights : IsTold right more others

  module _ (one more two others : List Cell) (is : IsTwice one more two others) (same : SameKey (plan.join left right keys) (one ++ more) (two ++ others)) where
    in_left : (row rest : List Cell) → length row ≡ width left → (k : ℕ) → k < width left → cell_at (row ++ rest) k ≡ cell_at row k
    in_left row rest long k less = get_or_append_left row rest null k (subst (λ n. k < n) (sym long) less)

    in_right : (row rest : List Cell) → length row ≡ width left → (k : ℕ) → cell_at (row ++ rest) (width left + k) ≡ cell_at rest k
    in_right row rest long k = get_or-append_right row rest (width left) (width left + k) null long (omega arith) ∙ ap (cell_at rest) (let e : (width left + k) - width left ≡ k = omega arith in e)

    above : (k n : ℕ) → nat_lt (n + k) n ≡ false
    above k n = grind (arith, nat_tests)

    key_left : (k : ℕ) → k < width left → is_key_column left k ≡ true → is_key_column (plan.join left right keys) k ≡ true
    key_left k less key = ap (λ b. cond b (is_key_column left k) (not (is_key keys (k - width left)) && is_key_column right (k - width left))) (lt-ltb k (width left) less) ∙ key

    key_right : (k : ℕ) → is_key keys k ≡ false → is_key_column right k ≡ true → is_key_column (plan.join left right keys) (width left + k) ≡ true
    key_right k free key =
        ap (λ b. cond b (is_key_column left (width left + k)) (not (is_key keys ((width left + k) - width left)) && is_key_column right ((width left + k) - width left))) (above k (width left))
        ∙ ap (λ n. not (is_key keys n) && is_key_column right n) (let e : (width left + k) - width left ≡ k = omega arith in e)
        ∙ ap (λ b. not b && is_key_column right k) free ∙ key

    same_lefts : one ≡ two
    same_lefts =
        is.lefts (λ k less key. sym (in_left one more is.long_one k less) ∙ same k (omega (arith, less)) (key_left k less key) ∙ in_left two others is.long_two k less)

    same_keys : right_key keys more ≡ right_key keys others
    same_keys = sym is.met_one ∙ ap (left_key keys) same_lefts ∙ is.met_two

    same_rights : more ≡ others
    same_rights = is.rights (λ k less key. by k less key (is_key keys k) refl)
      where
        by : (k : ℕ) → k < width right → is_key_column right k ≡ true → (b : Bool) → is_key keys k ≡ b → cell_at more k ≡ cell_at others k
        by k less key true held = same_in_key keys k more others held same_keys
        by k less key false free =
            sym (in_right one more is.long_one k) ∙ same (width left + k) (omega (arith, less)) (key_right k free key) ∙ in_right two others is.long_two k

    same_twice : one ++ more ≡ two ++ others
    same_twice = ap (λ row. row ++ more) same_lefts ∙ ap (λ row. two ++ row) same_rights

  module _ (graph : Content) (left_good : IsWellFormed left) (left_told : EachTwo (IsTold left) (rows_of graph left)) (right_told : EachTwo (IsTold right) (rows_of graph right)) where
    abbrev partners : List Cell → List (List Cell)
    partners row = filter (meet keys row) (rows_of graph right)

    abbrev Pair : List Cell → List Cell → Type 0
    Pair = IsTold (plan.join left right keys)

    -- right rows that meet, with what is known of them and of others
    met : (row : List Cell) → (P : List Cell → Type 0) → All P (rows_of graph right) → All (λ r. (meet keys row r ≡ true) × P r) (partners row)
    met row P each =
        both (λ r. meet keys row r ≡ true) P (partners row) (filter_passes (meet keys row) (rows_of graph right)) (All-filter (meet keys row) P (rows_of graph right) each)

    abbrev IsLong : List Cell → Type 0
    IsLong row = length row ≡ width left

    longs : All IsLong (rows_of graph left)
    longs = wide_rows graph left left_good

    -- the pairs of one left row and one right row, with all pairs
    pair_told : (one more : List Cell) → IsLong one → All (IsTold left one) (rows_of graph left) → meet keys one more ≡ true → All (IsTold right more) (rows_of graph right)
        → All (Pair (one ++ more)) (rows_of graph (plan.join left right keys))
    pair_told one more long lefts meets rights =
        all_made (λ two. IsLong two × IsTold left one two) (Pair (one ++ more)) (λ two. paired two (partners two))
        (λ two facts. All-map (Pair (one ++ more)) (λ others. two ++ others) (partners two)
        (All-weaker (λ others. (meet keys two others ≡ true) × IsTold right more others) (λ others. Pair (one ++ more) (two ++ others))
        (λ others also same. same_twice one more two others
        (record { long_one = long; long_two = facts.0; met_one = met_keys keys one more meets; met_two = met_keys keys two others also.0; lefts = facts.1; rights = also.1 }) same)
        (partners two) (met two (IsTold right more) rights)))
        (rows_of graph left) (both IsLong (IsTold left one) (rows_of graph left) longs lefts)

    pairs_told : EachTwo Pair (rows_of graph (plan.join left right keys))
    pairs_told =
        all_made (λ one. IsLong one × All (IsTold left one) (rows_of graph left)) (λ row. All (Pair row) (rows_of graph (plan.join left right keys))) (λ one. paired one (partners one))
        (λ one facts. All-map (λ row. All (Pair row) (rows_of graph (plan.join left right keys))) (λ more. one ++ more) (partners one)
        (All-weaker (λ more. (meet keys one more ≡ true) × All (IsTold right more) (rows_of graph right)) (λ more. All (Pair (one ++ more)) (rows_of graph (plan.join left right keys)))
        (λ more also. pair_told one more facts.0 facts.1 also.0 also.1)
        (partners one) (met one (λ more. All (IsTold right more) (rows_of graph right)) right_told)))
        (rows_of graph left) (both IsLong (λ one. All (IsTold left one) (rows_of graph left)) (rows_of graph left) longs left_told)

-- ---- projections

-- where a column stands alone
place_of : (outputs : List Output) (column : ℕ) → is_kept outputs column ≡ true → (place : ℕ) × ((place < length outputs) × (is_at outputs place column ≡ true))
place_of [] column kept = absurd (false≢true kept)
place_of (o ∷ os) column kept = by (λ rest. place_of os column rest) (is_alone column o) refl kept
  where
    by : (is_kept os column ≡ true → (place : ℕ) × ((place < length os) × (is_at os place column ≡ true))) → (b : Bool) → is_alone column o ≡ b → (b || is_kept os column) ≡ true
        → (place : ℕ) × ((place < length (o ∷ os)) × (is_at (o ∷ os) place column ≡ true))
    by more true is some = (0, (omega arith, is))
    by more false is some = let found = more some in let less = found.1.0 in (suc found.0, (omega (arith, less), found.1.1))

-- a column that stands alone at a place is the one that is found there
found_at : (outputs : List Output) (place column : ℕ) → is_at outputs place column ≡ true → column_at outputs place ≡ Some column
found_at outputs place column is = by (slice_get outputs place) is
  where
    alone : (found : Option ℕ) → option_map_or (λ other. other == column) found false ≡ true → found ≡ Some column
    alone None not = absurd (false≢true not)
    alone (Some other) same = ap Some (eqb-true other column same)

    by : (found : Option Output) → option_map_or (is_alone column) found false ≡ true → option_and_then column_alone found ≡ Some column
    by None not = absurd (false≢true not)
    by (Some o) at = alone (column_alone o) at

-- a column of the key that is kept
kept_or_not : (key kept : Bool) → (not key || kept) ≡ true → key ≡ true → kept ≡ true
kept_or_not true kept either is = either
kept_or_not false kept either is = absurd (false≢true is)

-- what a projection keeps of a key
key_kept : (p : Plan) (outputs : List Output) → keeps_key p outputs ≡ true → (k : ℕ) → k < width p → is_key_column p k ≡ true → is_kept outputs k ≡ true
key_kept p outputs keeps k less key = kept_or_not (is_key_column p k) (is_kept outputs k) (each_told (is_kept_key p outputs) (width p) keeps k less) key

made_told : (p : Plan) (outputs : List Output) → keeps_key p outputs ≡ true → (row other : List Cell) → IsTold p row other → IsTold (plan.project p outputs) (projected outputs row) (projected outputs other)
made_told p outputs keeps row other is same = ap (projected outputs) (is below)
  where
    below : SameKey p row other
    below k less key =
        let at = place_of outputs k (key_kept p outputs keeps k less key) in
        sym (cell_there outputs row at.0 k at.1.1)
        ∙ same at.0 at.1.0 (ap (λ found. option_map_or (is_key_column p) found false) (found_at outputs at.0 k at.1.1) ∙ key)
        ∙ cell_there outputs other at.0 k at.1.1

-- ---- look-ups

longer_told : (graph : Content) (p : Plan) (column : ℕ) (attribute : _) (row other : List Cell) → ((length row ≡ width p) × (length other ≡ width p)) × IsTold p row other
    → IsTold (plan.lookup p column attribute) (with_attribute graph column attribute row) (with_attribute graph column attribute other)
longer_told graph p column attribute row other facts same = ap (with_attribute graph column attribute) (facts.1 below)
  where
    below : SameKey p row other
    below k less key =
        sym (get_or_append_left row _ null k (subst (λ n. k < n) (sym facts.0.0) less))
        ∙ same k (omega (arith, less)) key
        ∙ get_or_append_left other _ null k (subst (λ n. k < n) (sym facts.0.1) less)

-- what a projection keeps through which a key is followed
followed : (p : Plan) (outputs : List Output) → follows_key p outputs ≡ true → keeps_key p outputs ≡ true
followed p outputs follows = (and_parts (nat_le (width p) greatest_followed) (keeps_key p outputs) follows).1

-- ---- plans

all_told : (graph : State) → IsGraph graph → (p : Plan) → IsWellFormed p → has_key p ≡ true → EachTwo (IsTold p) (rows_of graph.content p)
all_told graph is plan.unit good has = All-cons (λ row. All (IsTold plan.unit row) ([] ∷ [])) [] [] (All-cons (IsTold plan.unit []) [] [] (λ same. refl) (All-nil (IsTold plan.unit []))) (All-nil (λ row. All (IsTold plan.unit row) ([] ∷ [])))
all_told graph is plan.nodes good has =
    two_of_kind IsNodeRow (IsTold plan.nodes) (rows_of graph.content plan.nodes) node_rows (all_mapped IsNodeRow _ (λ n. record { id = n.0; is = refl }) graph.content.nodes)
all_told graph is (plan.rels types orientation) good has =
    two_of_kind (IsRelRow graph.content orientation) (IsTold (plan.rels types orientation)) (rows_of graph.content (plan.rels types orientation)) (rel_told graph.content types orientation)
    (all_made (IsThere graph.content.rels) (IsRelRow graph.content orientation) (rows_of_rel types orientation) (λ e there. rel_rows graph.content e there types orientation) graph.content.rels
    (each_there graph.content.rels is.rels_rising))
all_told graph is (plan.join left right keys) good has =
    let parts = and_parts (has_key left) (has_key right) has in
    pairs_told left right keys graph.content good.0 (all_told graph is left good.0 parts.0) (all_told graph is right good.1 parts.1)
all_told graph is (plan.semi left right keys keeping) good has = two_filtered (IsTold left) _ (rows_of graph.content left) (all_told graph is left good.0 has)
all_told graph is (plan.lookup p column attribute) good has =
    two_mapped (λ row other. ((length row ≡ width p) × (length other ≡ width p)) × IsTold p row other) (IsTold (plan.lookup p column attribute)) (with_attribute graph.content column attribute)
    (rows_of graph.content p) (longer_told graph.content p column attribute)
    (two_with (λ row. length row ≡ width p) (IsTold p) (rows_of graph.content p) (wide_rows graph.content p good.0) (all_told graph is p good.0 has))
all_told graph is (plan.filter p test) good has = two_filtered (IsTold p) _ (rows_of graph.content p) (all_told graph is p good.0 has)
all_told graph is (plan.all_different p columns) good has = two_filtered (IsTold p) _ (rows_of graph.content p) (all_told graph is p good.0 has)
all_told graph is (plan.project p outputs) good has =
    let parts = and_parts (follows_key p outputs) (has_key p) has in
    two_mapped (IsTold p) (IsTold (plan.project p outputs)) (projected outputs) (rows_of graph.content p) (made_told p outputs (followed p outputs parts.0)) (all_told graph is p good.0 parts.1)
all_told graph is _ good has = absurd (false≢true has)

-- a join whose right part has no key has none
pub no_right_key : (p left right lent : Plan) (keys : List KeyColumns) → p ≡ plan.join left right keys → lent ≡ right → has_key lent ≡ false → has_key p ≡ false
no_right_key p left right lent keys is same none = ap has_key is ∙ and_right (has_key left) (has_key right) (ap has_key (sym same) ∙ none)

-- a projection that keeps the key makes different rows of different ones
key_tells : (graph : State) → IsGraph graph → (p : Plan) (outputs : List Output) → IsWellFormed p → has_key p ≡ true → keeps_key p outputs ≡ true → TellsRowsApartOn graph p outputs
key_tells graph is p outputs good has keeps row other here there same_rows =
    of_counted (IsTold p row) (rows_of graph.content p)
    (of_counted (λ r. All (IsTold p r) (rows_of graph.content p)) (rows_of graph.content p) (all_told graph is p good has) row here) other there
    (λ k less key. same_kept outputs row other k (key_kept p outputs keeps k less key) same_rows)

-- ---- both ways of telling rows apart

pub rows_told : (graph : State) → IsGraph graph → (p : Plan) (outputs : List Output) → IsWellFormed p → tells_apart p outputs ≡ true → TellsRowsApartOn graph p outputs
rows_told graph is p outputs good tells = by (or_cases (tells_joins p outputs) (follows_key p outputs && has_key p) tells)
  where
    by : (tells_joins p outputs ≡ true) ⊎ ((follows_key p outputs && has_key p) ≡ true) → TellsRowsApartOn graph p outputs
    by (inl joins) = told graph is p outputs good joins
    by (inr keyed) = let parts = and_parts (follows_key p outputs) (has_key p) keyed in key_tells graph is p outputs good parts.1 (followed p outputs parts.0)
