-- The deltas of rows with an attribute: those of rows that change, and of rows that name a touched entity.
use Rattle.std.proofs.Common.{◌≡◌, ℕ, ◌≤◌, ◌==◌, Bool, true, false, cond, ◌&&◌, List, [], ◌∷◌, ◌++◌, Option, None, Some, refl, sym, ap, subst, ◌∙◌, map, slice_get, nat_eq, arith}
use Rattle.std.specs.Prelude.{flat_map, unwrap_or}
use Rattle.std.specs.List.{All, IsDistinct, cons_option}
use Rattle.std.specs.Map.{lookup, keys_of}
use Rattle.std.specs.Option.{option_map_or}
use Rattle.std.specs.declared.cmp.Ordering.{Ordering}
use Rattle.std.specs.declared.cmp.Ordering.TheVariants.{Less, Equal, Greater}
use Rattle.std.specs.Ordering.{is_eq, nat_cmp, ordering_then}
use Rattle.std.proofs.lemmas.Bool.Decides.{nat_tests}
use Rattle.std.proofs.lemmas.List.{append-nil}
use Rattle.std.proofs.lemmas.List.Elements.{All-cons, All-filter, All-head, All-nil, All-tail}
use Rattle.std.proofs.lemmas.Option.{unwrap_or-slice_get}
use Rattle.std.proofs.lemmas.Bool.{eqb-true}
use Rattle.cy_values.specs.declared.rows.Cell.{Cell}
use Rattle.cy_values.specs.declared.rows.Cell.TheVariants as cell
use Rattle.cy_values.specs.Bag.{count_of}
use Rattle.cy_graph.specs.declared.nodes.Node.{Node}
use Rattle.cy_graph.specs.declared.nodes.Rel.{Rel}
use Rattle.cy_graph.specs.Graph.{Content, State, node_at, rel_at}
use Rattle.cy_values.specs.Same.{is_row}
use Rattle.cy_values.proofs.Booleans.{itself_equal}
use Rattle.cy_values.proofs.SameRows.{row_itself, same_row}
use Rattle.cy_network_memory.specs.Counts.{Counts, greatest_count, key_cells}
use Rattle.cy_planner_algebra.specs.declared.operators.Attribute.{Attribute}
use Rattle.cy_planner_algebra.specs.Expressions.{cell_at, null}
use Rattle.cy_planner_algebra.specs.Meaning.{attribute_of, with_attribute}
use Rattle.cy_network_memory.specs.declared.memory.RowDelta.{RowDelta}
use Rattle.cy_network_operators.specs.Deltas.{IsBounded, IsDelta, counts, counts_after, deltas_of, row_delta_between}
use Rattle.cy_network_operators.proofs.DeltaLemmas.{deltas_made, between_bounded as bounded_between}
use Rattle.cy_network_operators.proofs.Staging.{after_delta}
use Rattle.cy_network_operators.proofs.JoinLemmas.{made_by}
use Rattle.cy_network_sources.specs.declared.attributes.Attributes.{Attributes}
use Rattle.cy_network_sources.specs.Changes.{IsChange, IsImage, Touches}
use Rattle.cy_network_sources.specs.internal.Attributes.{AreAttributes, front, reattributed, row_delta_at, still, still_deltas, valued}
use Rattle.cy_network_sources.specs.Attributes.{node_attribute, rel_attribute}
use Rattle.cy_network_sources.proofs.Keys.{own_entries, same_by_order}
use Rattle.cy_network_sources.proofs.LookupLemmas.{at_node, at_rel, at_rels, at_value, count_with, reattributed_other, reattributed_row_delta, rows_same, valued_is}
use Rattle.cy_network_sources.proofs.Owners.{none_between, owns, node_owner, rel_owner}

-- ---- which entity the key of a row names

-- the key that a row has
abbrev pub key_in : ℕ → List Cell → List Cell
key_in column row = key_cells (column ∷ []) row

-- the key, where the cell in the column is known
abbrev pub cells_of : Option Cell → List Cell
cells_of None = []
cells_of (Some c) = c ∷ []

pub key_is : (column : ℕ) (row : List Cell) (o : Option Cell) → slice_get row column ≡ o → key_in column row ≡ cells_of o
key_is column row o is = ap (λ (p : Option Cell). cons_option p []) is ∙ alike o
  where
    alike : (p : Option Cell) → cons_option p [] ≡ cells_of p
    alike None = refl
    alike (Some c) = refl

pub cell_is : (column : ℕ) (row : List Cell) (o : Option Cell) → slice_get row column ≡ o → cell_at row column ≡ unwrap_or o null
cell_is column row o is = sym (unwrap_or-slice_get row column null) ∙ ap (λ (p : Option Cell). unwrap_or p null) is

then_equal : (o : Ordering) → is_eq (ordering_then o Equal) ≡ is_eq o
then_equal Less = refl
then_equal Equal = refl
then_equal Greater = refl

number_back : (m n : ℕ) → nat_eq m n ≡ nat_eq n m
number_back m n = grind (arith, nat_tests)

-- no two keys of different kinds are the same
differ : (owner : List Cell → Option ℕ) (key other : List Cell) (n : ℕ) (b : Bool) → is_row key other ≡ b → owner key ≡ Some n → owner other ≡ None → b ≡ false
differ owner key other n false is one none = refl
differ owner key other n true is one none = let clash : Some n ≡ None = sym one ∙ ap owner (same_row key other is) ∙ none in cc

pub node_key : (n : ℕ) (o : Option Cell) → is_row (cell.Node (record { 0 = n }) ∷ []) (cells_of o) ≡ owns (node_owner (cells_of o)) n
node_key n None = refl
node_key n (Some (cell.Node id)) = then_equal (nat_cmp n id.0) ∙ same_by_order n id.0 ∙ number_back n id.0
node_key n (Some (cell.Rel id)) = differ node_owner (cell.Node (record { 0 = n }) ∷ []) (cell.Rel id ∷ []) n _ refl refl refl
node_key n (Some (cell.Rels ids)) = differ node_owner (cell.Node (record { 0 = n }) ∷ []) (cell.Rels ids ∷ []) n _ refl refl refl
node_key n (Some (cell.Value v)) = differ node_owner (cell.Node (record { 0 = n }) ∷ []) (cell.Value v ∷ []) n _ refl refl refl

pub rel_key : (n : ℕ) (o : Option Cell) → is_row (cell.Rel (record { 0 = n }) ∷ []) (cells_of o) ≡ owns (rel_owner (cells_of o)) n
rel_key n None = refl
rel_key n (Some (cell.Rel id)) = then_equal (nat_cmp n id.0) ∙ same_by_order n id.0 ∙ number_back n id.0
rel_key n (Some (cell.Node id)) = differ rel_owner (cell.Rel (record { 0 = n }) ∷ []) (cell.Node id ∷ []) n _ refl refl refl
rel_key n (Some (cell.Rels ids)) = differ rel_owner (cell.Rel (record { 0 = n }) ∷ []) (cell.Rels ids ∷ []) n _ refl refl refl
rel_key n (Some (cell.Value v)) = differ rel_owner (cell.Rel (record { 0 = n }) ∷ []) (cell.Value v ∷ []) n _ refl refl refl

-- ---- what rows make that name an entity with these values

key_names : (column : ℕ) (row : List Cell) (entity : Cell) (o : Option Cell) → slice_get row column ≡ o → is_row (entity ∷ []) (cells_of o) ≡ true → cell_at row column ≡ entity
key_names column row entity None is same =
    let clash : entity ∷ [] ≡ [] = same_row (entity ∷ []) [] same in
    cc
key_names column row entity (Some c) is same =
    let keys : entity ∷ [] ≡ c ∷ [] = same_row (entity ∷ []) (c ∷ []) same in
    let cells : entity ≡ c = cc in
    cell_is column row (Some c) is ∙ sym cells

pub still_by_graphs : (old new : Content) (column : ℕ) (attribute : Attribute) (was staged : Counts) (entity : Cell) (values : Attributes)
    → AreAttributes (attribute_of old attribute entity) (attribute_of new attribute entity) values → (row : List Cell)
    → still_deltas (column ∷ []) was staged (entity ∷ []) values row ≡ still old new column attribute was staged entity row
still_by_graphs old new column attribute was staged entity values are row =
    cases (is_row (entity ∷ []) (key_in column (front row))) (was (front row) == staged (front row)) refl
  where
    names : is_row (entity ∷ []) (key_in column (front row)) ≡ true → cell_at (front row) column ≡ entity
    names is = key_names column (front row) entity (slice_get (front row) column) refl (ap (is_row (entity ∷ [])) (sym (key_is column (front row) (slice_get (front row) column) refl)) ∙ is)

    cases : (k e : Bool) → is_row (entity ∷ []) (key_in column (front row)) ≡ k
        → cond (k && e) (deltas_of row (valued values (row_delta_at was staged (front row)))) [] ≡ cond (k && e) (deltas_of row (reattributed old new column attribute (row_delta_at was staged (front row)))) []
    cases false e is = refl
    cases true false is = refl
    cases true true is =
        ap (deltas_of row) (valued_is old new column attribute (row_delta_at was staged (front row)) values
        (subst (λ (c : Cell). AreAttributes (attribute_of old attribute c) (attribute_of new attribute c) values) (sym (names is)) are))

-- ---- the entity of a row among those that are touched

-- what is made where the number is touched
abbrev where_touched : {V : Type 0} → List RowDelta → Option V → List RowDelta
where_touched made None = []
where_touched made (Some was) = made

module _ {V : Type 0} (same : Bool) (made : List RowDelta) where
  abbrev term : Option ℕ → ℕ × V → List RowDelta
  term o e = cond (owns o e.0 && same) made []

  none_term : (o : Option ℕ) (e : ℕ × V) → owns o e.0 ≡ false → term o e ≡ []
  none_term o e is = ap (λ b. cond (b && same) made []) is

  no_owner : (es : List (ℕ × V)) → flat_map (term None) es ≡ []
  no_owner [] = refl
  no_owner (e ∷ es) = no_owner es

  one_owner : (q : ℕ) (es : List (ℕ × V)) → IsDistinct nat_eq (keys_of es) → flat_map (term (Some q)) es ≡ where_touched (cond same made []) (lookup (nat_eq q) es)
  one_owner q es once =
      made_by (λ e. nat_eq q e.0) (term (Some q)) (none_term (Some q)) es
      ∙ ap (flat_map (term (Some q))) (own_entries nat_eq eqb-true q es once)
      ∙ one (lookup (nat_eq q) es)
    where
      one : (o : Option V) → flat_map (term (Some q)) (option_map_or (λ v. (q, v) ∷ []) o []) ≡ where_touched (cond same made []) o
      one None = refl
      one (Some v) = append-nil (term (Some q) (q, v)) ∙ ap (λ b. cond (b && same) made []) (itself_equal q)

-- ---- all together

module _ (before now : State) (touches : Touches) (change : IsChange before now touches) (column : ℕ) (attribute : Attribute) (was staged : Counts) (row : List Cell) where
  abbrev first : List Cell
  first = front row

  abbrev old : Content
  old = before.content

  abbrev new : Content
  new = now.content

  abbrev whole : List RowDelta
  whole = deltas_of row (reattributed old new column attribute (row_delta_at was staged first))

  abbrev unchanged : Bool
  unchanged = was first == staged first

  -- a row makes nothing where neither its count nor its attribute differs
  none_made : unchanged ≡ true → attribute_of old attribute (cell_at first column) ≡ attribute_of new attribute (cell_at first column) → whole ≡ []
  none_made is same =
      ap (λ b. deltas_of row (cond b (row_delta_between (with_attribute new column attribute first) (was first) (staged first))
      (row_delta_between (with_attribute old column attribute first) (was first) 0 ++ row_delta_between (with_attribute new column attribute first) 0 (staged first))))
      (rows_same first (attribute_of old attribute (cell_at first column)) (attribute_of new attribute (cell_at first column)) same)
      ∙ ap (deltas_of row) (none_between (with_attribute new column attribute first) (was first) (staged first) (eqb-true _ _ is))

  abbrev changed_part : List RowDelta
  changed_part = cond unchanged [] (whole ++ [])

  abbrev node_part : List RowDelta
  node_part = flat_map (λ e. still old new column attribute was staged (cell.Node (record { 0 = e.0 })) row) touches.nodes

  abbrev rel_part : List RowDelta
  rel_part = flat_map (λ e. still old new column attribute was staged (cell.Rel (record { 0 = e.0 })) row) touches.rels

  nodes_named : (o : Option Cell) → slice_get first column ≡ o → node_part ≡ flat_map (term unchanged whole (node_owner (cells_of o))) touches.nodes
  nodes_named o is = each touches.nodes
    where
      each : (es : List (ℕ × Option Node)) → flat_map (λ e. still old new column attribute was staged (cell.Node (record { 0 = e.0 })) row) es ≡ flat_map (term unchanged whole (node_owner (cells_of o))) es
      each [] = refl
      each (e ∷ es) =
          ap (λ made. made ++ flat_map (λ f. still old new column attribute was staged (cell.Node (record { 0 = f.0 })) row) es)
          (ap (λ b. cond (b && unchanged) whole []) (ap (is_row (cell.Node (record { 0 = e.0 }) ∷ [])) (key_is column first o is) ∙ node_key e.0 o))
          ∙ ap (λ made. term unchanged whole (node_owner (cells_of o)) e ++ made) (each es)

  rels_named : (o : Option Cell) → slice_get first column ≡ o → rel_part ≡ flat_map (term unchanged whole (rel_owner (cells_of o))) touches.rels
  rels_named o is = each touches.rels
    where
      each : (es : List (ℕ × Option Rel)) → flat_map (λ e. still old new column attribute was staged (cell.Rel (record { 0 = e.0 })) row) es ≡ flat_map (term unchanged whole (rel_owner (cells_of o))) es
      each [] = refl
      each (e ∷ es) =
          ap (λ made. made ++ flat_map (λ f. still old new column attribute was staged (cell.Rel (record { 0 = f.0 })) row) es)
          (ap (λ b. cond (b && unchanged) whole []) (ap (is_row (cell.Rel (record { 0 = e.0 }) ∷ [])) (key_is column first o is) ∙ rel_key e.0 o))
          ∙ ap (λ made. term unchanged whole (rel_owner (cells_of o)) e ++ made) (each es)

  -- where nothing names a touched entity, the attribute is the same
  untouched : attribute_of old attribute (cell_at first column) ≡ attribute_of new attribute (cell_at first column) → (b : Bool) → unchanged ≡ b → cond b [] (whole ++ []) ++ ([] ++ []) ≡ whole
  untouched same true is = sym (none_made is same)
  untouched same false is = append-nil (whole ++ []) ∙ append-nil whole

  touched_once : (b : Bool) → cond b [] (whole ++ []) ++ (cond b whole [] ++ []) ≡ whole
  touched_once true = append-nil whole
  touched_once false = append-nil (whole ++ []) ∙ append-nil whole

  touched_second : (b : Bool) → cond b [] (whole ++ []) ++ ([] ++ cond b whole []) ≡ whole
  touched_second true = refl
  touched_second false = append-nil (whole ++ []) ∙ append-nil whole

  by_cell : (o : Option Cell) → slice_get first column ≡ o
      → changed_part ++ (flat_map (term unchanged whole (node_owner (cells_of o))) touches.nodes ++ flat_map (term unchanged whole (rel_owner (cells_of o))) touches.rels) ≡ whole
  by_cell None is =
      ap (λ made. changed_part ++ (made ++ flat_map (term unchanged whole None) touches.rels)) (no_owner unchanged whole touches.nodes)
      ∙ ap (λ made. changed_part ++ ([] ++ made)) (no_owner unchanged whole touches.rels)
      ∙ untouched (ap (attribute_of old attribute) (cell_is column first None is) ∙ sym (ap (attribute_of new attribute) (cell_is column first None is) ∙ at_value new attribute _ ∙ sym (at_value old attribute _))) unchanged refl
  by_cell (Some (cell.Rels ids)) is =
      ap (λ made. changed_part ++ (made ++ flat_map (term unchanged whole None) touches.rels)) (no_owner unchanged whole touches.nodes)
      ∙ ap (λ made. changed_part ++ ([] ++ made)) (no_owner unchanged whole touches.rels)
      ∙ untouched (ap (attribute_of old attribute) (cell_is column first (Some (cell.Rels ids)) is) ∙ at_rels old attribute ids ∙ sym (ap (attribute_of new attribute) (cell_is column first (Some (cell.Rels ids)) is) ∙ at_rels new attribute ids)) unchanged refl
  by_cell (Some (cell.Value v)) is =
      ap (λ made. changed_part ++ (made ++ flat_map (term unchanged whole None) touches.rels)) (no_owner unchanged whole touches.nodes)
      ∙ ap (λ made. changed_part ++ ([] ++ made)) (no_owner unchanged whole touches.rels)
      ∙ untouched (ap (attribute_of old attribute) (cell_is column first (Some (cell.Value v)) is) ∙ at_value old attribute v ∙ sym (ap (attribute_of new attribute) (cell_is column first (Some (cell.Value v)) is) ∙ at_value new attribute v)) unchanged refl
  by_cell (Some (cell.Node id)) is =
      ap (λ made. changed_part ++ (made ++ flat_map (term unchanged whole None) touches.rels)) (one_owner unchanged whole id.0 touches.nodes change.nodes_once)
      ∙ ap (λ made. changed_part ++ (where_touched (cond unchanged whole []) (lookup (nat_eq id.0) touches.nodes) ++ made)) (no_owner unchanged whole touches.rels)
      ∙ by (lookup (nat_eq id.0) touches.nodes) (change.nodes id)
    where
      by : (found : Option (Option Node)) → IsImage (node_at id before) (node_at id now) found → changed_part ++ (where_touched (cond unchanged whole []) found ++ []) ≡ whole
      by None image =
          untouched (ap (attribute_of old attribute) (cell_is column first (Some (cell.Node id)) is) ∙ at_node before attribute id ∙ ap (node_attribute attribute) image
          ∙ sym (ap (attribute_of new attribute) (cell_is column first (Some (cell.Node id)) is) ∙ at_node now attribute id)) unchanged refl
      by (Some value) image = touched_once unchanged
  by_cell (Some (cell.Rel id)) is =
      ap (λ made. changed_part ++ (made ++ flat_map (term unchanged whole (Some id.0)) touches.rels)) (no_owner unchanged whole touches.nodes)
      ∙ ap (λ made. changed_part ++ ([] ++ made)) (one_owner unchanged whole id.0 touches.rels change.rels_once)
      ∙ by (lookup (nat_eq id.0) touches.rels) (change.rels id)
    where
      by : (found : Option (Option Rel)) → IsImage (rel_at id before) (rel_at id now) found → changed_part ++ ([] ++ where_touched (cond unchanged whole []) found) ≡ whole
      by None image =
          untouched (ap (attribute_of old attribute) (cell_is column first (Some (cell.Rel id)) is) ∙ at_rel before attribute id ∙ ap (rel_attribute attribute) image
          ∙ sym (ap (attribute_of new attribute) (cell_is column first (Some (cell.Rel id)) is) ∙ at_rel now attribute id)) unchanged refl
      by (Some value) image = touched_second unchanged

  changed_made : (deltas : List RowDelta) → IsDelta was staged deltas → deltas_of row (flat_map (reattributed old new column attribute) deltas) ≡ changed_part
  changed_made deltas delta =
      deltas_made row (λ s. is_row first s.row) (reattributed old new column attribute) (λ s apart. reattributed_other old new column attribute row s apart) deltas
      ∙ ap (flat_map (λ s. deltas_of row (reattributed old new column attribute s))) (delta.each first)
      ∙ one unchanged
    where
      one : (b : Bool) → flat_map (λ s. deltas_of row (reattributed old new column attribute s)) (cond b [] (row_delta_at was staged first ∷ [])) ≡ cond b [] (whole ++ [])
      one true = refl
      one false = refl

  -- what a row makes of all, by the row that it begins with
  pub made_whole : (deltas : List RowDelta) → IsDelta was staged deltas
      → deltas_of row (flat_map (reattributed old new column attribute) deltas) ++ (node_part ++ rel_part) ≡ whole
  made_whole deltas delta =
      ap (λ made. made ++ (node_part ++ rel_part)) (changed_made deltas delta)
      ∙ ap (λ made. changed_part ++ (made ++ rel_part)) (nodes_named (slice_get first column) refl)
      ∙ ap (λ made. changed_part ++ (flat_map (term unchanged whole (node_owner (cells_of (slice_get first column)))) touches.nodes ++ made)) (rels_named (slice_get first column) refl)
      ∙ by_cell (slice_get first column) refl

-- the delta of the rows with the attribute
pub lookup_delta : (before now : State) (touches : Touches) → IsChange before now touches → (column : ℕ) (attribute : Attribute) (was : Counts) (deltas made : List RowDelta)
    → IsDelta was (counts_after deltas was) deltas
    → ((row : List Cell) → deltas_of row made ≡ deltas_of row (flat_map (reattributed before.content now.content column attribute) deltas)
    ++ (flat_map (λ e. still before.content now.content column attribute was (counts_after deltas was) (cell.Node (record { 0 = e.0 })) row) touches.nodes
    ++ flat_map (λ e. still before.content now.content column attribute was (counts_after deltas was) (cell.Rel (record { 0 = e.0 })) row) touches.rels))
    → (old new : List (List Cell)) → ((row : List Cell) → was row ≡ count_of row old) → IsDelta (counts old) (counts new) deltas
    → IsDelta (counts (map (with_attribute before.content column attribute) old)) (counts (map (with_attribute now.content column attribute) new)) made
lookup_delta before now touches change column attribute was deltas made held makes old new is delta = record {
  each = λ row.
      makes row
      ∙ made_whole before now touches change column attribute was staged row deltas held
      ∙ reattributed_row_delta before.content now.content column attribute was staged row
      ∙ ap (λ n. row_delta_between row n (cond (is_row row (with_attribute now.content column attribute (front row))) (staged (front row)) 0))
      (ap (λ n. cond (is_row row (with_attribute before.content column attribute (front row))) n 0) (is (front row)) ∙ sym (count_with before.content now.content column attribute before.content row old))
      ∙ ap (λ n. row_delta_between row (count_of row (map (with_attribute before.content column attribute) old)) n)
      (ap (λ n. cond (is_row row (with_attribute now.content column attribute (front row))) n 0) (after_delta was (counts new) deltas from_was (front row)) ∙ sym (count_with before.content now.content column attribute now.content row new));
}
  where
    staged : Counts
    staged = counts_after deltas was

    from_was : IsDelta was (counts new) deltas
    from_was = record { each = λ row. delta.each row ∙ ap (λ n. row_delta_between row n (count_of row new)) (sym (is row)) }

-- ---- and within bounds

all_by_rows : (P : RowDelta → Type 0) (deltas : List RowDelta) → ((row : List Cell) → All P (deltas_of row deltas)) → All P deltas
all_by_rows P [] each = All-nil P
all_by_rows P (s ∷ deltas) each =
    All-cons P s deltas
    (All-head P s (deltas_of s.row deltas) (subst (λ b. All P (cond b (s ∷ deltas_of s.row deltas) (deltas_of s.row deltas))) (row_itself s.row) (each s.row)))
    (all_by_rows P deltas (λ row. rest row (is_row row s.row) (each row)))
  where
    rest : (row : List Cell) (b : Bool) → All P (cond b (s ∷ deltas_of row deltas) (deltas_of row deltas)) → All P (deltas_of row deltas)
    rest row true all = All-tail P s (deltas_of row deltas) all
    rest row false all = all

bounded_if : (b : Bool) (n : ℕ) → n ≤ greatest_count → cond b n 0 ≤ greatest_count
bounded_if true n is = is
bounded_if false n is = omega arith

-- the counts to which bounded row deltas lead are bounded
staged_bounded : (was staged : Counts) (deltas : List RowDelta) → IsDelta was staged deltas → ((row : List Cell) → was row ≤ greatest_count) → All IsBounded deltas → (row : List Cell) → staged row ≤ greatest_count
staged_bounded was staged deltas delta within bounded row =
    by (was row == staged row) refl (subst (All IsBounded) (delta.each row) (All-filter (λ s. is_row row s.row) IsBounded deltas bounded))
  where
    by : (b : Bool) → (was row == staged row) ≡ b → All IsBounded (cond b [] (row_delta_at was staged row ∷ [])) → staged row ≤ greatest_count
    by true is all = subst (λ n. n ≤ greatest_count) (eqb-true _ _ is) (within row)
    by false is all = (All-head IsBounded (row_delta_at was staged row) [] all).1

pub lookup_bounded : (before now : State) (touches : Touches) → IsChange before now touches → (column : ℕ) (attribute : Attribute) (was : Counts) (deltas made : List RowDelta)
    → IsDelta was (counts_after deltas was) deltas
    → ((row : List Cell) → deltas_of row made ≡ deltas_of row (flat_map (reattributed before.content now.content column attribute) deltas)
    ++ (flat_map (λ e. still before.content now.content column attribute was (counts_after deltas was) (cell.Node (record { 0 = e.0 })) row) touches.nodes
    ++ flat_map (λ e. still before.content now.content column attribute was (counts_after deltas was) (cell.Rel (record { 0 = e.0 })) row) touches.rels))
    → ((row : List Cell) → was row ≤ greatest_count) → All IsBounded deltas → All IsBounded made
lookup_bounded before now touches change column attribute was deltas made held makes within bounded =
    all_by_rows IsBounded made (λ row.
    subst (All IsBounded)
    (sym (makes row ∙ made_whole before now touches change column attribute was staged row deltas held ∙ reattributed_row_delta before.content now.content column attribute was staged row))
    (bounded_between row _ _
    (bounded_if (is_row row (with_attribute before.content column attribute (front row))) (was (front row)) (within (front row)))
    (bounded_if (is_row row (with_attribute now.content column attribute (front row))) (staged (front row)) (staged_bounded was staged deltas held within bounded (front row)))))
  where
    staged : Counts
    staged = counts_after deltas was
