-- Plans whose inputs are sifted: operator by operator, they are sifted themselves.
use Rattle.std.proofs.Common.{◌≡◌, ℕ, ◌+◌, ◌-◌, ◌==◌, ◌≤◌, Bool, true, cond, ◌&&◌, List, [], ◌∷◌, ◌++◌, length, map, filter, refl, sym, ap, subst, ◌∙◌}
use Rattle.std.specs.Prelude.{Some, None, flat_map, nat_lt, slice_get}
use Rattle.std.specs.List.{All}
use Rattle.std.specs.Option.{option_map_or}
use Rattle.std.proofs.lemmas.List.Elements.{All-append, All-cons, All-filter, All-head, All-nil, All-tail, filter-append}
use Rattle.cy_values.specs.declared.rows.Cell.{Cell}
use Rattle.cy_values.specs.Bag.{count_of}
use Rattle.cy_values.proofs.Booleans.{with_true}
use Rattle.cy_values.proofs.Lists.{each_then, filters_swap}
use Rattle.cy_trees.specs.Trees.{Expression}
use Rattle.cy_scope_kinds.specs.declared.kinds.Kind.TheVariants as kind
use Rattle.cy_graph.specs.Graph.{Content, State, IsGraph}
use Rattle.cy_expr.specs.Graphs.{are_different}
use Rattle.cy_planner_algebra.specs.declared.operators.Attribute.{Attribute}
use Rattle.cy_planner_algebra.specs.declared.operators.Keeping.{Keeping}
use Rattle.cy_planner_algebra.specs.declared.operators.KeyColumns.{KeyColumns}
use Rattle.cy_planner_algebra.specs.Plans as plan
use Rattle.cy_planner_algebra.specs.Plans.{Plan, Output, width}
use Rattle.cy_planner_algebra.specs.Expressions.{holds, projected, relationships_at}
use Rattle.cy_planner_algebra.specs.Keys.{meet}
use Rattle.cy_planner_algebra.specs.Meaning.{each_once, has_partner, is_partner, or_nulls, paired, rows_of, stays, with_attribute}
use Rattle.cy_planner_algebra.specs.Parts.{parts}
use Rattle.cy_planner_algebra.specs.Sure.{HasCells, HasTruth, IsSureOn}
use Rattle.cy_planner_algebra.specs.WellFormed.{IsWellFormed}
use Rattle.cy_planner_algebra.specs.Within.{IsWithin}
use Rattle.cy_planner_algebra.proofs.Counts.{count_passing}
use Rattle.cy_planner_rows.proofs.OverRows.{IsLong, cond_less, long_rows, own_part, smaller_within}
use Rattle.cy_planner_pushdown.specs.internal.Pushed.{IsSifted, column_taken_over, common_kind, kind_at, kind_made}
use Rattle.cy_planner_pushdown.proofs.Commuting.{both_sifted, left_sifted, once_sifted, sifted_mapped}
use Rattle.cy_planner_pushdown.proofs.Conjunctions.{sifted_both, all_anything, anything}

all_split : (P : Plan → Type 0) (xs ys : List Plan) → All P (xs ++ ys) → All P xs × All P ys
all_split P [] ys each = (All-nil P, each)
all_split P (x ∷ xs) ys each =
    let rest = all_split P xs ys (All-tail P x (xs ++ ys) each) in
    (All-cons P x xs (All-head P x (xs ++ ys) each) rest.0, rest.1)

-- what sifts the rows of a plan counts no row more often
sifted_within : (graph : Content) (tables : List (List (List Cell))) (q : List Cell → Bool) (below p : Plan) → rows_of graph p ≡ filter q (rows_of graph below) → IsWithin graph tables below → IsWithin graph tables p
sifted_within graph tables q below p is within row =
    smaller_within tables (count_of row (rows_of graph p)) (count_of row (rows_of graph below))
    (subst (λ rows. count_of row rows ≤ count_of row (rows_of graph below)) (sym is)
    (subst (λ n. n ≤ count_of row (rows_of graph below)) (sym (count_passing q row (rows_of graph below))) (cond_less (q row) (count_of row (rows_of graph below)))))
    (within row)

-- ---- a plan itself

all_pass : (rows : List (List Cell)) → rows ≡ filter (λ row. true) rows
all_pass [] = refl
all_pass (row ∷ rows) = ap (λ others. row ∷ others) (all_pass rows)

pub sifted_itself : (p : Plan) → IsSifted p (λ graph row. true) p
sifted_itself p = record {
  as_wide = refl;
  kinds = λ column. refl;
  rows = λ graph is. all_pass (rows_of graph.content p);
  sure = λ graph is sure. sure;
  bounded = λ graph tables is each. each;
}

-- by a test that lets the same rows pass
pub passes_alike : (below p : Plan) (passes others : Content → List Cell → Bool) → ((graph : Content) (row : List Cell) → others graph row ≡ passes graph row) → IsSifted below passes p → IsSifted below others p
passes_alike below p passes others same is = record {
  as_wide = is.as_wide;
  kinds = is.kinds;
  rows = λ graph good. is.rows graph good ∙ (λ i. filter (λ row. sym (same graph.content row) i) (rows_of graph.content below));
  sure = is.sure;
  bounded = is.bounded;
}

-- one test after another
pub sifted_after : (below between p : Plan) (first second : Content → List Cell → Bool) → IsSifted below first between → IsSifted between second p → IsSifted below (λ graph row. first graph row && second graph row) p
sifted_after below between p first second here there = record {
  as_wide = there.as_wide ∙ here.as_wide;
  kinds = λ column. there.kinds column ∙ here.kinds column;
  rows = λ graph is.
      there.rows graph is
      ∙ ap (filter (second graph.content)) (here.rows graph is)
      ∙ sifted_both (first graph.content) (second graph.content) (λ row. first graph.content row && second graph.content row) (λ row. refl) (rows_of graph.content below);
  sure = λ graph is sure. there.sure graph is (here.sure graph is sure);
  bounded = λ graph tables is each. there.bounded graph tables is (here.bounded graph tables is each);
}

-- ---- an operator with one below it

module _ (below other : Plan) (inner outer : Content → List Cell → Bool) (is_sifted : IsSifted below inner other) where
  -- it makes its rows of those below it one by one, or drops some
  one_below : (over over_other : Plan) → width over_other ≡ width over
      → ((column : ℕ) → kind_at over_other column ≡ kind_at over column)
      → ((graph : State) → IsGraph graph → rows_of graph.content over_other ≡ filter (outer graph.content) (rows_of graph.content over))
      → ((graph : State) → IsGraph graph → IsSureOn graph.content over → IsSureOn graph.content over_other)
      → ((graph : Content) (tables : List (List (List Cell))) → All (IsWithin graph tables) (parts over) → All (IsWithin graph tables) (parts below))
      → ((graph : Content) (tables : List (List (List Cell))) → IsWithin graph tables over_other → All (IsWithin graph tables) (parts other) → All (IsWithin graph tables) (parts over_other))
      → IsSifted over outer over_other
  one_below over over_other wide kinds rows sure parts_below parts_over = record {
    as_wide = wide;
    kinds = kinds;
    rows = rows;
    sure = sure;
    bounded = λ graph tables is each.
        parts_over graph.content tables
        (sifted_within graph.content tables (outer graph.content) over over_other (rows graph is) (own_part (IsWithin graph.content tables) over each))
        (is_sifted.bounded graph tables is (parts_below graph.content tables each));
  }

  tail_below : (over : Plan) (graph : Content) (tables : List (List (List Cell))) → All (IsWithin graph tables) (over ∷ parts below) → All (IsWithin graph tables) (parts below)
  tail_below over graph tables each = All-tail (IsWithin graph tables) over (parts below) each

  cons_over : (over : Plan) (graph : Content) (tables : List (List (List Cell))) → IsWithin graph tables over → All (IsWithin graph tables) (parts other) → All (IsWithin graph tables) (over ∷ parts other)
  cons_over over graph tables own each = All-cons (IsWithin graph tables) over (parts other) own each

module _ (below other : Plan) (passes : Content → List Cell → Bool) (is_sifted : IsSifted below passes other) where
  pub sifted_filter : (condition : Expression) → IsSifted (plan.filter below condition) passes (plan.filter other condition)
  sifted_filter condition =
      one_below below other passes passes is_sifted (plan.filter below condition) (plan.filter other condition) is_sifted.as_wide is_sifted.kinds
      (λ graph is. ap (filter (holds condition)) (is_sifted.rows graph is) ∙ filters_swap (holds condition) (passes graph.content) (rows_of graph.content below))
      (λ graph is sure. (
        is_sifted.sure graph is sure.0,
        subst (λ rows. All (HasTruth condition) rows) (sym (is_sifted.rows graph is)) (All-filter (passes graph.content) (HasTruth condition) (rows_of graph.content below) sure.1),
      ))
      (tail_below below other passes passes is_sifted (plan.filter below condition)) (cons_over below other passes passes is_sifted (plan.filter other condition))

  pub sifted_different : (others : List ℕ) → IsSifted (plan.all_different below others) passes (plan.all_different other others)
  sifted_different others =
      one_below below other passes passes is_sifted (plan.all_different below others) (plan.all_different other others) is_sifted.as_wide is_sifted.kinds
      (λ graph is.
      ap (filter (λ row. are_different (relationships_at others row))) (is_sifted.rows graph is)
      ∙ filters_swap (λ row. are_different (relationships_at others row)) (passes graph.content) (rows_of graph.content below))
      (λ graph is sure. is_sifted.sure graph is sure)
      (tail_below below other passes passes is_sifted (plan.all_different below others)) (cons_over below other passes passes is_sifted (plan.all_different other others))

  pub sifted_distinct : IsSifted (plan.distinct below) passes (plan.distinct other)
  sifted_distinct =
      one_below below other passes passes is_sifted (plan.distinct below) (plan.distinct other) is_sifted.as_wide is_sifted.kinds
      (λ graph is. ap each_once (is_sifted.rows graph is) ∙ once_sifted (passes graph.content) (rows_of graph.content below))
      (λ graph is sure. is_sifted.sure graph is sure)
      (tail_below below other passes passes is_sifted (plan.distinct below)) (cons_over below other passes passes is_sifted (plan.distinct other))

module _ (below other : Plan) (inner outer : Content → List Cell → Bool) (is_sifted : IsSifted below inner other) where
  pub sifted_lookup : IsWellFormed below → (at : ℕ) (attribute : Attribute)
      → ((graph : Content) (row more : List Cell) → length row ≡ width below → outer graph (row ++ more) ≡ inner graph row)
      → IsSifted (plan.lookup below at attribute) outer (plan.lookup other at attribute)
  sifted_lookup well at attribute agree =
      one_below below other inner outer is_sifted (plan.lookup below at attribute) (plan.lookup other at attribute) (ap (λ n. n + 1) is_sifted.as_wide)
      (λ column i. cond (nat_lt column (is_sifted.as_wide i)) (is_sifted.kinds column i) (cond (column == is_sifted.as_wide i) (Some kind.Value) None))
      (λ graph is.
      ap (map (with_attribute graph.content at attribute)) (is_sifted.rows graph is)
      ∙ sifted_mapped (IsLong (width below)) (with_attribute graph.content at attribute) (outer graph.content) (inner graph.content)
      (λ row long. sym (agree graph.content row _ long))
      (rows_of graph.content below) (long_rows graph.content below well))
      (λ graph is sure. is_sifted.sure graph is sure)
      (tail_below below other inner outer is_sifted (plan.lookup below at attribute)) (cons_over below other inner outer is_sifted (plan.lookup other at attribute))

module _ (below other : Plan) (inner outer : Content → List Cell → Bool) (is_sifted : IsSifted below inner other) where
  pub sifted_project : (outputs : List Output) → ((graph : Content) (row : List Cell) → outer graph (projected outputs row) ≡ inner graph row)
      → IsSifted (plan.project below outputs) outer (plan.project other outputs)
  sifted_project outputs agree =
      one_below below other inner outer is_sifted (plan.project below outputs) (plan.project other outputs) refl
      (λ column i. option_map_or (λ c. is_sifted.kinds c i) (column_taken_over (slice_get outputs column)) (kind_made (slice_get outputs column)))
      (λ graph is.
      ap (map (projected outputs)) (is_sifted.rows graph is)
      ∙ sifted_mapped anything (projected outputs) (outer graph.content) (inner graph.content) (λ row any. sym (agree graph.content row))
      (rows_of graph.content below) (all_anything (rows_of graph.content below)))
      (λ graph is sure. (
        is_sifted.sure graph is sure.0,
        subst (λ rows. All (HasCells outputs) rows) (sym (is_sifted.rows graph is)) (All-filter (inner graph.content) (HasCells outputs) (rows_of graph.content below) sure.1),
      ))
      (tail_below below other inner outer is_sifted (plan.project below outputs)) (cons_over below other inner outer is_sifted (plan.project other outputs))

-- ---- an operator with two below it

module _ (left right : Plan) where
  two_parts : (over : Plan) (graph : Content) (tables : List (List (List Cell))) → All (IsWithin graph tables) (over ∷ parts left ++ parts right) → All (IsWithin graph tables) (parts left) × All (IsWithin graph tables) (parts right)
  two_parts over graph tables each =
      let both = All-tail (IsWithin graph tables) over (parts left ++ parts right) each in
      all_split (IsWithin graph tables) (parts left) (parts right) both

  with_parts : (over : Plan) (graph : Content) (tables : List (List (List Cell))) → IsWithin graph tables over → All (IsWithin graph tables) (parts left) → All (IsWithin graph tables) (parts right) → All (IsWithin graph tables) (over ∷ parts left ++ parts right)
  with_parts over graph tables own lefts rights =
      All-cons (IsWithin graph tables) over (parts left ++ parts right) own (All-append (IsWithin graph tables) (parts left) (parts right) lefts rights)

-- a test of a pair that is one of its left row and one of its right row
module _ (left right other_left other_right : Plan) (keys : List KeyColumns) (on_left on_right outer : Content → List Cell → Bool) (well : IsWellFormed left)
    (agree : (graph : Content) (l r : List Cell) → length l ≡ width left → meet keys l r ≡ true → outer graph (l ++ r) ≡ (on_left graph l && on_right graph r))
    (here : IsSifted left on_left other_left) (there : IsSifted right on_right other_right) where
  joined_rows : (graph : State) → IsGraph graph → rows_of graph.content (plan.join other_left other_right keys) ≡ filter (outer graph.content) (rows_of graph.content (plan.join left right keys))
  joined_rows graph is =
      (λ i. flat_map (λ l. paired l (filter (meet keys l) (there.rows graph is i))) (here.rows graph is i))
      ∙ both_sifted (outer graph.content) (IsLong (width left)) (on_left graph.content) (on_right graph.content) (meet keys)
      (λ l r long met. agree graph.content l r long met) (rows_of graph.content right) (rows_of graph.content left) (long_rows graph.content left well)

  pub sifted_join : IsSifted (plan.join left right keys) outer (plan.join other_left other_right keys)
  sifted_join = record {
    as_wide = λ i. here.as_wide i + there.as_wide i;
    kinds = λ column i. cond (nat_lt column (here.as_wide i)) (here.kinds column i) (there.kinds (column - here.as_wide i) i);
    rows = joined_rows;
    sure = λ graph is sure. (here.sure graph is sure.0, there.sure graph is sure.1);
    bounded = λ graph tables is each.
        let both = two_parts left right (plan.join left right keys) graph.content tables each in
        with_parts other_left other_right (plan.join other_left other_right keys) graph.content tables
        (sifted_within graph.content tables (outer graph.content) (plan.join left right keys) (plan.join other_left other_right keys) (joined_rows graph is)
        (own_part (IsWithin graph.content tables) (plan.join left right keys) each))
        (here.bounded graph tables is both.0) (there.bounded graph tables is both.1);
  }

module _ (left right other : Plan) (inner outer : Content → List Cell → Bool) (well : IsWellFormed left)
    (agree : (graph : Content) (l r : List Cell) → length l ≡ width left → outer graph (l ++ r) ≡ inner graph l) (is_sifted : IsSifted left inner other) where
  -- the left row passes, whatever stands after it
  outer_rows : (keys : List KeyColumns) (predicate : Expression) (graph : State) → IsGraph graph
      → rows_of graph.content (plan.outer other right keys predicate) ≡ filter (outer graph.content) (rows_of graph.content (plan.outer left right keys predicate))
  outer_rows keys predicate graph is =
      ap (flat_map (λ l. paired l (or_nulls (width right) (filter (is_partner keys predicate l) (rows_of graph.content right))))) (is_sifted.rows graph is)
      ∙ left_sifted (outer graph.content) (IsLong (width left)) (inner graph.content) (λ l. or_nulls (width right) (filter (is_partner keys predicate l) (rows_of graph.content right)))
      (λ l long.
      each_then anything (λ r. outer graph.content (l ++ r) ≡ inner graph.content l) (λ r any. agree graph.content l r long)
      (or_nulls (width right) (filter (is_partner keys predicate l) (rows_of graph.content right))) (all_anything (or_nulls (width right) (filter (is_partner keys predicate l) (rows_of graph.content right)))))
      (rows_of graph.content left) (long_rows graph.content left well)

  pairs_sifted : (keys : List KeyColumns) → IsSifted (plan.join left right keys) outer (plan.join other right keys)
  pairs_sifted keys =
      sifted_join left right other right keys inner (λ graph row. true) outer well (λ graph l r long met. agree graph l r long ∙ with_true (inner graph l)) is_sifted (sifted_itself right)

  pub sifted_outer : (keys : List KeyColumns) (predicate : Expression) → IsSifted (plan.outer left right keys predicate) outer (plan.outer other right keys predicate)
  sifted_outer keys predicate =
      let pairs = pairs_sifted keys in
      record {
        as_wide = ap (λ n. n + width right) is_sifted.as_wide;
        kinds = pairs.kinds;
        rows = outer_rows keys predicate;
        sure = λ graph is sure. (
          is_sifted.sure graph is sure.0,
          sure.1,
          subst (λ rows. All (HasTruth predicate) rows) (sym (pairs.rows graph is))
              (All-filter (outer graph.content) (HasTruth predicate) (rows_of graph.content (plan.join left right keys)) sure.2),
        );
        bounded = λ graph tables is each.
            let both = two_parts left right (plan.outer left right keys predicate) graph.content tables each in
            with_parts other right (plan.outer other right keys predicate) graph.content tables
            (sifted_within graph.content tables (outer graph.content) (plan.outer left right keys predicate) (plan.outer other right keys predicate) (outer_rows keys predicate graph is)
            (own_part (IsWithin graph.content tables) (plan.outer left right keys predicate) each))
            (is_sifted.bounded graph tables is both.0) both.1;
      }

module _ (left right other : Plan) (passes : Content → List Cell → Bool) (is_sifted : IsSifted left passes other) (keys : List KeyColumns) (keeping : Keeping) where
  semi_rows : (graph : State) → IsGraph graph → rows_of graph.content (plan.semi other right keys keeping) ≡ filter (passes graph.content) (rows_of graph.content (plan.semi left right keys keeping))
  semi_rows graph is =
      ap (filter (λ l. stays keeping (has_partner keys (rows_of graph.content right) l))) (is_sifted.rows graph is)
      ∙ filters_swap (λ l. stays keeping (has_partner keys (rows_of graph.content right) l)) (passes graph.content) (rows_of graph.content left)

  pub sifted_semi : IsSifted (plan.semi left right keys keeping) passes (plan.semi other right keys keeping)
  sifted_semi = record {
    as_wide = is_sifted.as_wide;
    kinds = is_sifted.kinds;
    rows = semi_rows;
    sure = λ graph is sure. (is_sifted.sure graph is sure.0, sure.1);
    bounded = λ graph tables is each.
        let both = two_parts left right (plan.semi left right keys keeping) graph.content tables each in
        with_parts other right (plan.semi other right keys keeping) graph.content tables
        (sifted_within graph.content tables (passes graph.content) (plan.semi left right keys keeping) (plan.semi other right keys keeping) (semi_rows graph is)
        (own_part (IsWithin graph.content tables) (plan.semi left right keys keeping) each))
        (is_sifted.bounded graph tables is both.0) both.1;
  }

module _ (left right other_left other_right : Plan) (passes : Content → List Cell → Bool) (here : IsSifted left passes other_left) (there : IsSifted right passes other_right) where
  union_rows : (graph : State) → IsGraph graph → rows_of graph.content (plan.union other_left other_right) ≡ filter (passes graph.content) (rows_of graph.content (plan.union left right))
  union_rows graph is =
      ap (λ rows. rows ++ rows_of graph.content other_right) (here.rows graph is)
      ∙ ap (λ rows. filter (passes graph.content) (rows_of graph.content left) ++ rows) (there.rows graph is)
      ∙ sym (filter-append (passes graph.content) (rows_of graph.content left) (rows_of graph.content right))

  pub sifted_union : IsSifted (plan.union left right) passes (plan.union other_left other_right)
  sifted_union = record {
    as_wide = here.as_wide;
    kinds = λ column i. common_kind (here.kinds column i) (there.kinds column i);
    rows = union_rows;
    sure = λ graph is sure. (here.sure graph is sure.0, there.sure graph is sure.1);
    bounded = λ graph tables is each.
        let both = two_parts left right (plan.union left right) graph.content tables each in
        with_parts other_left other_right (plan.union other_left other_right) graph.content tables
        (sifted_within graph.content tables (passes graph.content) (plan.union left right) (plan.union other_left other_right) (union_rows graph is)
        (own_part (IsWithin graph.content tables) (plan.union left right) each))
        (here.bounded graph tables is both.0) (there.bounded graph tables is both.1);
  }
