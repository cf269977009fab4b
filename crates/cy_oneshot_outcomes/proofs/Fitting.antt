-- What fitting asks of a step with a length, or of one that is written out, and of all that stands before it and after it.
use Rattle.std.proofs.Common.{◌≡◌, ℕ, zero, suc, Bool, true, false, not, ◌&&◌, ◌||◌, List, [], ◌∷◌, ◌++◌, map, length, refl, ap, ◌∙◌, append-nil, arith}
use Rattle.std.specs.Prelude.{◌==◌, flat_map, zip}
use Rattle.std.specs.List.{list_all, list_any, AllByRecursion}
use Rattle.std.proofs.Math.Bool.{and-true}
use Rattle.std.proofs.lemmas.Bool.{and_right, true≢false}
use Rattle.std.proofs.lemmas.List.Concat.{flat_map-append}
use Rattle.std.proofs.lemmas.List.Folds.{list_all-append, list_any-append}
use Rattle.cy_values.specs.declared.numbers.NodeId.{NodeId}
use Rattle.cy_values.specs.declared.numbers.RelId.{RelId}
use Rattle.cy_values.specs.declared.numbers.Entity.TheVariants as entity
use Rattle.cy_values.specs.declared.rows.Cell.{Cell}
use Rattle.cy_values.specs.declared.rows.Cell.TheVariants as cell
use Rattle.cy_values.proofs.Booleans.{grouped_left}
use Rattle.cy_values.proofs.Lists.{each_then}
use Rattle.cy_trees.specs.declared.clauses.Length.{Length}
use Rattle.cy_trees.specs.Trees.{NodePattern, RelationshipPattern}
use Rattle.cy_graph.specs.Graph.{Content}
use Rattle.cy_graph.specs.declared.nodes.Node.{Node}
use Rattle.cy_graph.specs.declared.nodes.Rel.{Rel}
use Rattle.cy_expr.specs.Graphs.{are_different}
use Rattle.cy_oneshot_patterns.specs.Fits.{agrees, are_linked, extended, fits, has_entries, has_entry, is_labelled, is_link, relationships_of}
use Rattle.cy_oneshot_patterns.specs.Places.{Place, node, relationship, relationships, assignments, entries_if}
use Rattle.cy_oneshot_outcomes.specs.Lengths.{any_node, nameless, single, places_between}
use Rattle.cy_oneshot_outcomes.proofs.Sums.{all_flat_map, all_map, all_true}
use Rattle.cy_oneshot_outcomes.proofs.Walks.{between, past_node}

-- ---- places without names

all_agree : (row : List Cell) (places : List Place) (cells : List Cell) → list_all (agrees row) (zip (map nameless places) cells) ≡ true
all_agree row [] cells = refl
all_agree row (place ∷ places) [] = refl
all_agree row (node n ∷ places) (c ∷ cells) = all_agree row places cells
all_agree row (relationship r ∷ places) (c ∷ cells) = all_agree row places cells
all_agree row (relationships r range ∷ places) (c ∷ cells) = all_agree row places cells

-- the rest that fitting asks
abbrev pub holds : Content → List Cell → List (Place × Cell) → Bool
holds graph row assigned =
    are_linked graph assigned && list_all (is_labelled graph) assigned && list_all (has_entries graph row) assigned
    && are_different (flat_map (λ p. relationships_of p.1) assigned)

pub fits_nameless : (graph : Content) (row : List Cell) (places : List Place) (cells : List Cell)
    → fits graph row (zip (map nameless places) cells) ≡ holds graph row (zip (map nameless places) cells)
fits_nameless graph row places cells =
    let assigned : List (Place × Cell) = zip (map nameless places) cells in
    ap (λ b. b && are_linked graph assigned && list_all (is_labelled graph) assigned && list_all (has_entries graph row) assigned
    && are_different (flat_map (λ p. relationships_of p.1) assigned)) (all_agree (extended row assigned) places cells)

pub fits_and_agrees : (graph : Content) (row : List Cell) (assigned : List (Place × Cell))
    → fits graph row assigned ≡ (list_all (agrees (extended row assigned)) assigned && holds graph row assigned)
fits_and_agrees graph row assigned =
    by (list_all (agrees (extended row assigned)) assigned) (are_linked graph assigned) (list_all (is_labelled graph) assigned) (list_all (has_entries graph row) assigned)
    (are_different (flat_map (λ p. relationships_of p.1) assigned))
  where
    by : (a b c d e : Bool) → (a && b && c && d && e) ≡ (a && (b && c && d && e))
    by true b c d e = refl
    by false b c d e = refl

-- ---- joined ends

-- a pattern can be cut at a node
cut : (graph : Content) (before : List (Place × Cell)) (n : NodePattern) (c : Cell) (after : List (Place × Cell))
    → are_linked graph (before ++ (node n, c) ∷ after) ≡ (are_linked graph (before ++ (node n, c) ∷ []) && are_linked graph ((node n, c) ∷ after))
cut graph [] n c after = refl
cut graph (p ∷ []) n c after = past_node graph p n c after
cut graph (p ∷ q ∷ []) n c after =
    ap (λ b. is_link graph q.0 p.1 q.1 c && b) (cut graph (q ∷ []) n c after)
    ∙ grouped_left (is_link graph q.0 p.1 q.1 c) (are_linked graph (q ∷ (node n, c) ∷ [])) (are_linked graph ((node n, c) ∷ after))
cut graph (p ∷ q ∷ r ∷ before) n c after =
    ap (λ b. is_link graph q.0 p.1 q.1 r.1 && b) (cut graph (q ∷ r ∷ before) n c after)
    ∙ grouped_left (is_link graph q.0 p.1 q.1 r.1) (are_linked graph (q ∷ r ∷ before ++ (node n, c) ∷ [])) (are_linked graph ((node n, c) ∷ after))

-- ---- different relationships

twice_before : (ids others : List RelId) → are_different ids ≡ false → are_different (ids ++ others) ≡ false
twice_before [] others h = absurd (true≢false h)
twice_before (id ∷ ids) others h =
    let any : list_any (λ (o : RelId). o.0 == id.0) (ids ++ others) ≡ (list_any (λ (o : RelId). o.0 == id.0) ids || list_any (λ (o : RelId). o.0 == id.0) others) =
    list_any-append (λ (o : RelId). o.0 == id.0) ids others in
    ap (λ b. not b && are_different (ids ++ others)) any
    ∙ by (list_any (λ (o : RelId). o.0 == id.0) ids) h
    (twice_before ids others)
  where
    by : (b : Bool) → (not b && are_different ids) ≡ false → (are_different ids ≡ false → are_different (ids ++ others) ≡ false)
        → (not (b || list_any (λ (o : RelId). o.0 == id.0) others) && are_different (ids ++ others)) ≡ false
    by true e rest = refl
    by false e rest = and_right (not (list_any (λ (o : RelId). o.0 == id.0) others)) (are_different (ids ++ others)) (rest e)

-- where one of them stands twice, one stands twice in all
pub twice_in_all : (before ids after : List RelId) → are_different ids ≡ false → are_different (before ++ (ids ++ after)) ≡ false
twice_in_all [] ids after h = twice_before ids after h
twice_in_all (id ∷ before) ids after h =
    and_right (not (list_any (λ (o : RelId). o.0 == id.0) (before ++ (ids ++ after)))) (are_different (before ++ (ids ++ after))) (twice_in_all before ids after h)

-- ---- the whole

-- relationships have the entries of a step's map
abbrev have_entries : Content → List Cell → RelationshipPattern → List RelId → Bool
have_entries graph row r ids = list_all (λ x. list_all (has_entry graph row x) (entries_if r.properties)) (map (λ id. entity.Rel id) ids)

-- what stands between the ends of a step has these relationships, and asks of them what the step asks
pub record IsMiddle (graph : Content) (row : List Cell) (r : RelationshipPattern) (middle : List (Place × Cell)) (ids : List RelId) : Type 0 where
  pub labels : list_all (is_labelled graph) middle ≡ true
  pub entries : list_all (has_entries graph row) middle ≡ have_entries graph row r ids
  pub relationships : flat_map (λ p. relationships_of p.1) middle ≡ ids

module _ (graph : Content) (row : List Cell) (r : RelationshipPattern) (before : List (Place × Cell)) (start : NodePattern) (x : NodeId) (end : NodePattern) (y : NodeId) (after : List (Place × Cell)) where
  abbrev left : List (Place × Cell)
  left = before ++ (node start, cell.Node x) ∷ []

  abbrev right : List (Place × Cell)
  right = (node end, cell.Node y) ∷ after

  abbrev taken : List (Place × Cell) → List RelId
  taken assigned = flat_map (λ p. relationships_of p.1) assigned

  -- what fitting asks but that the ends of the step are joined
  abbrev pub around : List RelId → Bool
  around ids =
      (are_linked graph left && are_linked graph right)
      && (list_all (is_labelled graph) left && list_all (is_labelled graph) right)
      && (list_all (has_entries graph row) left && (have_entries graph row r ids && list_all (has_entries graph row) right))
      && are_different (taken left ++ (ids ++ taken right))

  linked : (middle : List (Place × Cell))
      → are_linked graph (left ++ (middle ++ right)) ≡ (are_linked graph left && (are_linked graph ((node start, cell.Node x) ∷ (middle ++ (node end, cell.Node y) ∷ [])) && are_linked graph right))
  linked middle =
      ap (are_linked graph) (moved before)
      ∙ cut graph before start (cell.Node x) (middle ++ right)
      ∙ ap (λ b. are_linked graph left && b) (cut graph ((node start, cell.Node x) ∷ middle) end (cell.Node y) after)
    where
      moved : (ps : List (Place × Cell)) → (ps ++ (node start, cell.Node x) ∷ []) ++ (middle ++ right) ≡ ps ++ (node start, cell.Node x) ∷ (middle ++ right)
      moved [] = refl
      moved (p ∷ ps) = ap (λ l. p ∷ l) (moved ps)

  all_three : (f : Place × Cell → Bool) (middle : List (Place × Cell)) → list_all f (left ++ (middle ++ right)) ≡ (list_all f left && (list_all f middle && list_all f right))
  all_three f middle = list_all-append f left (middle ++ right) ∙ ap (λ b. list_all f left && b) (list_all-append f middle right)

  taken_three : (middle : List (Place × Cell)) → taken (left ++ (middle ++ right)) ≡ taken left ++ (taken middle ++ taken right)
  taken_three middle = flat_map-append (λ p. relationships_of p.1) left (middle ++ right) ∙ ap (λ l. taken left ++ l) (flat_map-append (λ p. relationships_of p.1) middle right)

  apart : (a core b labels entries different : Bool) → ((a && (core && b)) && labels && entries && different) ≡ (core && ((a && b) && labels && entries && different))
  apart true true b labels entries different = refl
  apart false true b labels entries different = refl
  apart true false b labels entries different = refl
  apart false false b labels entries different = refl

  pub holds_apart : (middle : List (Place × Cell)) (ids : List RelId) → IsMiddle graph row r middle ids
      → holds graph row (left ++ (middle ++ right)) ≡ (are_linked graph ((node start, cell.Node x) ∷ (middle ++ (node end, cell.Node y) ∷ [])) && around ids)
  holds_apart middle ids is =
      let labels : list_all (is_labelled graph) (left ++ (middle ++ right)) ≡ (list_all (is_labelled graph) left && list_all (is_labelled graph) right) =
      all_three (is_labelled graph) middle ∙ ap (λ b. list_all (is_labelled graph) left && (b && list_all (is_labelled graph) right)) is.labels in
      let entries : list_all (has_entries graph row) (left ++ (middle ++ right)) ≡ (list_all (has_entries graph row) left && (have_entries graph row r ids && list_all (has_entries graph row) right)) =
      all_three (has_entries graph row) middle ∙ ap (λ b. list_all (has_entries graph row) left && (b && list_all (has_entries graph row) right)) is.entries in
      let different : taken (left ++ (middle ++ right)) ≡ taken left ++ (ids ++ taken right) =
      taken_three middle ∙ ap (λ l. taken left ++ (l ++ taken right)) is.relationships in
      (λ i. linked middle i && labels i && entries i && are_different (different i))
      ∙ apart (are_linked graph left) (are_linked graph ((node start, cell.Node x) ∷ (middle ++ (node end, cell.Node y) ∷ []))) (are_linked graph right)
      (list_all (is_labelled graph) left && list_all (is_labelled graph) right)
      (list_all (has_entries graph row) left && (have_entries graph row r ids && list_all (has_entries graph row) right))
      (are_different (taken left ++ (ids ++ taken right)))

  pub none_around : (ids : List RelId) → are_different ids ≡ false → around ids ≡ false
  none_around ids h =
      and_right _ (are_different (taken left ++ (ids ++ taken right))) (twice_in_all (taken left) ids (taken right) h)

-- ---- what stands between the ends

module _ (graph : Content) (row : List Cell) (r : RelationshipPattern) where
  pub list_is_middle : (l : RelationshipPattern) (range : Length) → l.properties ≡ r.properties → (ids : List RelId) → IsMiddle graph row r ((relationships l range, cell.Rels ids) ∷ []) ids
  list_is_middle l range same ids = record {
    labels = refl;
    entries = and-true (have_entries graph row l ids) ∙ ap (λ p. list_all (λ x. list_all (has_entry graph row x) (entries_if p)) (map (λ id. entity.Rel id) ids)) same;
    relationships = append-nil ids;
  }

  pub record IsBetween (count : ℕ) (w : List Cell) : Type 0 where
    pub middle : IsMiddle graph row r (zip (between r count) w) (flat_map relationships_of w)
    pub long : length w ≡ places_between count

  one_between : (id : RelId) → IsBetween 1 (cell.Rel id ∷ [])
  one_between id = record {
    middle = record { labels = refl; entries = and-true (have_entries graph row r (id ∷ [])); relationships = refl };
    long = refl;
  }

  more_between : (count : ℕ) (id : RelId) (n : NodeId) (w : List Cell) → IsBetween (suc count) w → IsBetween (suc (suc count)) (cell.Rel id ∷ cell.Node n ∷ w)
  more_between count id n w is = record {
    middle = record {
      labels = is.middle.labels;
      entries = (λ i. and-true (list_all (has_entry graph row (entity.Rel id)) (entries_if r.properties)) i && is.middle.entries i);
      relationships = ap (λ l. id ∷ l) is.middle.relationships;
    };
    long = (let long : length w ≡ places_between (suc count) = is.long in let e : suc (suc (length w)) ≡ places_between (suc (suc count)) = omega (arith, long) in e);
  }

  all_longer_by : {A B : Type 0} (P : List B → Type 0) (f : A → B) (lists : List (List B)) (xs : List A) → ((x : A) → AllByRecursion (λ l. P (f x ∷ l)) lists)
      → AllByRecursion P (flat_map (λ y. map (λ l. y ∷ l) lists) (map f xs))
  all_longer_by P f lists xs each =
      all_flat_map P (λ y. map (λ l. y ∷ l) lists) (map f xs)
      (all_map (λ y. AllByRecursion P (map (λ l. y ∷ l) lists)) f xs (all_true (λ x. AllByRecursion P (map (λ l. f x ∷ l) lists)) (λ x. all_map P (λ l. f x ∷ l) lists (each x)) xs))

  pub all_between : (count : ℕ) → AllByRecursion (IsBetween count) (assignments graph (between r count))
  all_between zero = (record { middle = record { labels = refl; entries = refl; relationships = refl }; long = refl }, tt)
  all_between (suc zero) = all_longer_by (IsBetween 1) (λ (e : RelId × Rel). cell.Rel e.0) ([] ∷ []) graph.rels (λ e. (one_between e.0, tt))
  all_between (suc (suc count)) =
      all_longer_by (IsBetween (suc (suc count))) (λ (e : RelId × Rel). cell.Rel e.0) (assignments graph (node any_node ∷ between r (suc count))) graph.rels
      (λ e. all_longer_by (λ w. IsBetween (suc (suc count)) (cell.Rel e.0 ∷ w)) (λ (m : NodeId × Node). cell.Node m.0) (assignments graph (between r (suc count))) graph.nodes
      (λ m. each_then (IsBetween (suc count)) (λ w. IsBetween (suc (suc count)) (cell.Rel e.0 ∷ cell.Node m.0 ∷ w)) (λ w is. more_between count e.0 m.0 w is)
      (assignments graph (between r (suc count))) (all_between (suc count))))

pub between_nameless : (r : RelationshipPattern) (count : ℕ) → map nameless (between r count) ≡ between r count
between_nameless r zero = refl
between_nameless r (suc zero) = refl
between_nameless r (suc (suc count)) = ap (λ l. relationship (single r) ∷ node any_node ∷ l) (between_nameless r (suc count))
