-- What a scan makes of each of its entities.
use Rattle.std.proofs.Common.{◌≡◌, ℕ, zero, suc, ◌==◌, Bool, true, false, cond, List, [], ◌∷◌, ◌++◌, Option, None, Some, refl, sym, ap, subst, ◌∙◌, map, filter}
use Rattle.std.specs.Prelude.{flat_map, Ok}
use Rattle.std.specs.List.{All, AllByRecursion, IsDistinct}
use Rattle.std.specs.Map.{lookup, keys_of}
use Rattle.std.specs.Option.{option_map}
use Rattle.std.proofs.lemmas.Bool.{false≢true, true≢false, eqb-true}
use Rattle.std.proofs.lemmas.List.{map-append}
use Rattle.std.proofs.lemmas.List.Elements.{All-from_recursion, filter-append, recursion_from_All}
use Rattle.std.proofs.lemmas.Map.Keys.{IsDistinct-head, IsDistinct-tail}
use Rattle.cy_values.specs.declared.scalars.Value.{Value}
use Rattle.cy_values.specs.declared.rows.Cell.{Cell}
use Rattle.cy_values.specs.declared.rows.Cell.TheVariants as cell
use Rattle.cy_trees.specs.Trees.{Expression, variable}
use Rattle.cy_graph.specs.Graph.{Content}
use Rattle.cy_expr.specs.Evaluation.{column_value}
use Rattle.cy_expr.specs.Lookups.{IsNumbered}
use Rattle.cy_expr.specs.Graphs.{are_different}
use Rattle.cy_planner_algebra.specs.declared.operators.Attribute.{Attribute}
use Rattle.cy_planner_algebra.specs.Expressions.{cell_at, cell_of, cell_or_null, holds, output_cell, projected, relationships_at}
use Rattle.cy_planner_algebra.specs.Meaning.{attribute_of, rows_of, with_attribute}
use Rattle.cy_planner_algebra.specs.Plans as plan
use Rattle.cy_planner_algebra.specs.Plans.{Plan, Output, computed, gathered}
use Rattle.cy_planner_algebra.specs.Sure.{HasCells, HasTruth, IsSureOn}
use Rattle.cy_network_sources.specs.Scans.{if_this, is_column, is_this, kept, kept_at, scan_column, scan_parts}
use Rattle.cy_network_sources.specs.internal.Through.{AreFit, leaf_of, through}

-- ---- each element of a list

module _ {X : Type 0} where
  pub each_weaker : (P Q : X → Type 0) → ((x : X) → P x → Q x) → (xs : List X) → AllByRecursion P xs → AllByRecursion Q xs
  each_weaker P Q step [] each = tt
  each_weaker P Q step (x ∷ xs) each = (step x each.0, each_weaker P Q step xs each.1)

  pub each_one : (P : X → Type 0) → ((x : X) → P x) → (xs : List X) → AllByRecursion P xs
  each_one P of [] = tt
  each_one P of (x ∷ xs) = (of x, each_one P of xs)

  pub each_both : (P Q : X → Type 0) (xs : List X) → AllByRecursion P xs → AllByRecursion Q xs → AllByRecursion (λ x. P x × Q x) xs
  each_both P Q [] one other = tt
  each_both P Q (x ∷ xs) one other = ((one.0, other.0), each_both P Q xs one.1 other.1)

  each_left : (P : X → Type 0) (xs ys : List X) → AllByRecursion P (xs ++ ys) → AllByRecursion P xs
  each_left P [] ys each = tt
  each_left P (x ∷ xs) ys each = (each.0, each_left P xs ys each.1)

  each_right : (P : X → Type 0) (xs ys : List X) → AllByRecursion P (xs ++ ys) → AllByRecursion P ys
  each_right P [] ys each = each
  each_right P (x ∷ xs) ys each = each_right P xs ys each.1

  each_kept : (P : X → Type 0) (p : X → Bool) (xs : List X) → AllByRecursion P xs → AllByRecursion P (filter p xs)
  each_kept P p [] each = tt
  each_kept P p (x ∷ xs) each =
      elim (p x) as (λ b. AllByRecursion P (cond b (x ∷ filter p xs) (filter p xs))) [
        | true ↦ (each.0, each_kept P p xs each.1)
        | false ↦ each_kept P p xs each.1
      ]

module _ {X A : Type 0} where
  each_made : (P : A → Type 0) (f : X → List A) (xs : List X) → AllByRecursion P (flat_map f xs) → AllByRecursion (λ x. AllByRecursion P (f x)) xs
  each_made P f [] each = tt
  each_made P f (x ∷ xs) each = (each_left P (f x) (flat_map f xs) each, each_made P f xs (each_right P (f x) (flat_map f xs) each))

  -- what holds of all that several make holds of what each makes
  pub all_of_each : (P : A → Type 0) (f : X → List A) (xs : List X) → All P (flat_map f xs) → AllByRecursion (λ x. All P (f x)) xs
  all_of_each P f xs all =
      each_weaker (λ x. AllByRecursion P (f x)) (λ x. All P (f x)) (λ x. All-from_recursion P (f x)) xs (each_made P f xs (recursion_from_All P (flat_map f xs) all))

  each_mapped : (P : A → Type 0) (f : X → A) (xs : List X) → AllByRecursion (λ x. P (f x)) xs → AllByRecursion P (map f xs)
  each_mapped P f [] each = tt
  each_mapped P f (x ∷ xs) each = (each.0, each_mapped P f xs each.1)

  pub each_unmapped : (P : A → Type 0) (f : X → A) (xs : List X) → AllByRecursion P (map f xs) → AllByRecursion (λ x. P (f x)) xs
  each_unmapped P f [] each = tt
  each_unmapped P f (x ∷ xs) each = (each.0, each_unmapped P f xs each.1)

  made_alike : (f g : X → List A) (xs : List X) → AllByRecursion (λ x. f x ≡ g x) xs → flat_map f xs ≡ flat_map g xs
  made_alike f g [] each = refl
  made_alike f g (x ∷ xs) each = ap (λ made. made ++ flat_map f xs) each.0 ∙ ap (λ rest. g x ++ rest) (made_alike f g xs each.1)

  map_alike : (f g : X → A) (xs : List X) → AllByRecursion (λ x. f x ≡ g x) xs → map f xs ≡ map g xs
  map_alike f g [] each = refl
  map_alike f g (x ∷ xs) each = ap (λ made. made ∷ map f xs) each.0 ∙ ap (λ rest. g x ∷ rest) (map_alike f g xs each.1)

  filter_made : (p : A → Bool) (f : X → List A) (xs : List X) → filter p (flat_map f xs) ≡ flat_map (λ x. filter p (f x)) xs
  filter_made p f [] = refl
  filter_made p f (x ∷ xs) = filter-append p (f x) (flat_map f xs) ∙ ap (λ rest. filter p (f x) ++ rest) (filter_made p f xs)

map_made : {X A B : Type 0} (g : A → B) (f : X → List A) (xs : List X) → map g (flat_map f xs) ≡ flat_map (λ x. map g (f x)) xs
map_made g f [] = refl
map_made g f (x ∷ xs) = map-append g (f x) (flat_map f xs) ∙ ap (λ rest. map g (f x) ++ rest) (map_made g f xs)

-- ---- entries, each of whose keys stands once

module _ {K V : Type 0} (eq : K → K → Bool) (itself : (k : K) → eq k k ≡ true) (back : (j k : K) → eq j k ≡ eq k j) where
  -- a look-up by its key finds each
  pub each_found : (es : List (K × V)) → IsDistinct eq (keys_of es) → AllByRecursion (λ e. lookup (eq e.0) es ≡ Some e.1) es
  each_found [] once = tt
  each_found (e ∷ es) once = (
    ap (λ b. cond b (Some e.1) (lookup (eq e.0) es)) (itself e.0),
    each_weaker (λ f. (lookup (eq f.0) es ≡ Some f.1) × (eq e.0 f.0 ≡ false)) (λ f. lookup (eq f.0) (e ∷ es) ≡ Some f.1)
        (λ f is. ap (λ b. cond b (Some e.1) (lookup (eq f.0) es)) (back f.0 e.0 ∙ is.1) ∙ is.0) es
        (each_both (λ f. lookup (eq f.0) es ≡ Some f.1) (λ f. eq e.0 f.0 ≡ false) es (each_found es (IsDistinct-tail eq e.0 (keys_of es) once))
        (each_unmapped (λ k. eq e.0 k ≡ false) (λ (f : K × V). f.0) es (IsDistinct-head eq e.0 (keys_of es) once))),
  )

pub none_some : {A : Type 0} {B : Type 0} (x : A) → None ≡ Some x → B
none_some x is = cc is

pub some_same : {A : Type 0} (x y : A) → Some x ≡ Some y → x ≡ y
some_same x y is = cc is

module _ {K V : Type 0} (eq : K → K → Bool) (same : (j k : K) → eq j k ≡ true → j ≡ k) (P : K × V → Type 0) where
  -- what holds of each holds of the one that a look-up finds
  pub holds_found : (k : K) (v : V) (es : List (K × V)) → AllByRecursion P es → lookup (eq k) es ≡ Some v → P (k, v)
  holds_found k v [] each found = none_some v found
  holds_found k v (e ∷ es) each found = by (holds_found k v es each.1) (eq k e.0) refl found
    where
      by : (lookup (eq k) es ≡ Some v → P (k, v)) → (b : Bool) → eq k e.0 ≡ b → cond b (Some e.1) (lookup (eq k) es) ≡ Some v → P (k, v)
      by later true is at =
          let key : e.0 ≡ k = sym (same k e.0 is) in
          let value : e.1 ≡ v = some_same e.1 v at in
          subst P (λ i. (key i, value i)) each.0
      by later false is at = later at

-- ---- the column in which a row names its entity

-- it is a node or a relationship
abbrev pub names : Cell → Bool
names (cell.Node id) = true
names (cell.Rel id) = true
names (cell.Rels ids) = false
names (cell.Value v) = false

-- it stays where cells come after it
stays : (own : Cell) → names own ≡ true → (row more : List Cell) (column : ℕ) → cell_at row column ≡ own → cell_at (row ++ more) column ≡ own
stays own entity [] more column is = absurd (true≢false (sym entity ∙ ap names (sym is)))
stays own entity (c ∷ row) more zero is = is
stays own entity (c ∷ row) more (suc column) is = stays own entity row more column is

this_column : (column : ℕ) (found : Option ℕ) (row : List Cell) → is_this column found ≡ true → column_value found row ≡ cell_at row column
this_column column None row is = absurd (false≢true is)
this_column column (Some other) row is = ap (cell_at row) (eqb-true other column is)

-- the cell of an expression that is a column alone
pub column_is : (e : Expression) (column : ℕ) (row : List Cell) → is_column column (computed e) ≡ true → cell_of row e ≡ Ok (cell_at row column)
column_is (variable v) column row is = ap Ok (this_column column v.column row is)
column_is _ column row is = absurd (false≢true is)

pub column_cell : (o : Output) (column : ℕ) (row : List Cell) → is_column column o ≡ true → output_cell row o ≡ cell_at row column
column_cell (gathered columns) column row is = absurd (false≢true is)
column_cell (computed e) column row is = ap cell_or_null (column_is e column row is)

-- it moves to where a projection keeps it
pub kept_cell : (outputs : List Output) (column at : ℕ) (row : List Cell) → kept_at column outputs ≡ Some at → cell_at (projected outputs row) at ≡ cell_at row column
kept_cell [] column at row is = none_some at is
kept_cell (o ∷ os) column at row is = by (λ j. kept_cell os column j row) (is_column column o) refl is
  where
    later : ((j : ℕ) → kept_at column os ≡ Some j → cell_at (projected os row) j ≡ cell_at row column)
        → (found : Option ℕ) → kept_at column os ≡ found → option_map suc found ≡ Some at → cell_at (output_cell row o ∷ projected os row) at ≡ cell_at row column
    later below None none moved = none_some at moved
    later below (Some j) found moved = ap (cell_at (output_cell row o ∷ projected os row)) (sym (some_same (suc j) at moved)) ∙ below j found

    by : ((j : ℕ) → kept_at column os ≡ Some j → cell_at (projected os row) j ≡ cell_at row column) → (b : Bool) → is_column column o ≡ b → cond b (Some 0) (option_map suc (kept_at column os)) ≡ Some at → cell_at (output_cell row o ∷ projected os row) at ≡ cell_at row column
    by below true this found = ap (cell_at (output_cell row o ∷ projected os row)) (sym (some_same 0 at found)) ∙ column_cell o column row this
    by below false this found = later below (kept_at column os) refl found

pub if_this_is : (column : ℕ) (found : Option ℕ) (c : ℕ) → if_this column found ≡ Some c → (found ≡ Some c) × (column ≡ c)
if_this_is column None c is = none_some c is
if_this_is column (Some other) c is = by (other == column) refl is
  where
    by : (b : Bool) → (other == column) ≡ b → cond b (Some other) None ≡ Some c → (Some other ≡ Some c) × (column ≡ c)
    by true same at = (at, sym (eqb-true other column same) ∙ some_same other c at)
    by false same at = none_some c at

pub kept_is : (below : Option ℕ) (outputs : List Output) (c : ℕ) → kept below outputs ≡ Some c → (k : ℕ) × ((below ≡ Some k) × (kept_at k outputs ≡ Some c))
kept_is None outputs c is = none_some c is
kept_is (Some k) outputs c is = (k, (refl, is))

-- ---- the rows of a scan are those of its entities

module _ {X : Type 0} (own : X → Cell) (value_of : X → Attribute → Value) (leaf : X → List (List Cell))
    (entity : (e : X) → names (own e) ≡ true) (first : (e : X) → AllByRecursion (λ row. cell_at row 0 ≡ own e) (leaf e)) where
  abbrev pub made : Plan → X → List (List Cell)
  made p e = through (value_of e) (scan_parts p) (leaf e)

  -- each names its own
  pub named : (p : Plan) (c : ℕ) → scan_column p ≡ Some c → (e : X) → AllByRecursion (λ row. cell_at row c ≡ own e) (made p e)
  named plan.nodes c is e = subst (λ k. AllByRecursion (λ row. cell_at row k ≡ own e) (leaf e)) (some_same 0 c is) (first e)
  named (plan.rels types orientation) c is e = subst (λ k. AllByRecursion (λ row. cell_at row k ≡ own e) (leaf e)) (some_same 0 c is) (first e)
  named (plan.lookup p column attribute) c is e =
      each_mapped (λ row. cell_at row c ≡ own e) (λ row. row ++ cell.Value (value_of e attribute) ∷ []) (made p e)
      (each_weaker (λ row. cell_at row c ≡ own e) (λ row. cell_at (row ++ cell.Value (value_of e attribute) ∷ []) c ≡ own e)
      (λ row at. stays (own e) (entity e) row (cell.Value (value_of e attribute) ∷ []) c at) (made p e) (named p c (if_this_is column (scan_column p) c is).0 e))
  named (plan.filter p test) c is e = each_kept (λ row. cell_at row c ≡ own e) (holds test) (made p e) (named p c is e)
  named (plan.all_different p columns) c is e =
      each_kept (λ row. cell_at row c ≡ own e) (λ row. are_different (relationships_at columns row)) (made p e) (named p c is e)
  named (plan.project p outputs) c is e =
      let at = kept_is (scan_column p) outputs c is in
      each_mapped (λ row. cell_at row c ≡ own e) (projected outputs) (made p e)
      (each_weaker (λ row. cell_at row at.0 ≡ own e) (λ row. cell_at (projected outputs row) c ≡ own e)
      (λ row named_there. kept_cell outputs at.0 c row at.1.1 ∙ named_there) (made p e) (named p at.0 at.1.0 e))
  named _ c is e = none_some c is

  module _ (graph : Content) (es : List X) (L : Plan) (known : AllByRecursion (λ e. (a : Attribute) → attribute_of graph a (own e) ≡ value_of e a) es)
      (read : rows_of graph L ≡ flat_map leaf es) where
    looked_up : (p : Plan) (column c : ℕ) (a : Attribute) → scan_column p ≡ Some c → column ≡ c
        → flat_map (λ e. map (with_attribute graph column a) (made p e)) es ≡ flat_map (λ e. map (λ row. row ++ cell.Value (value_of e a) ∷ []) (made p e)) es
    looked_up p column c a is same =
        made_alike (λ e. map (with_attribute graph column a) (made p e)) (λ e. map (λ row. row ++ cell.Value (value_of e a) ∷ []) (made p e)) es
        (each_weaker (λ e. (b : Attribute) → attribute_of graph b (own e) ≡ value_of e b)
        (λ e. map (with_attribute graph column a) (made p e) ≡ map (λ row. row ++ cell.Value (value_of e a) ∷ []) (made p e))
        (λ e knows. map_alike (with_attribute graph column a) (λ row. row ++ cell.Value (value_of e a) ∷ []) (made p e)
        (each_weaker (λ row. cell_at row c ≡ own e) (λ row. with_attribute graph column a row ≡ row ++ cell.Value (value_of e a) ∷ [])
        (λ row at. ap (λ v. row ++ cell.Value v ∷ []) (ap (λ n. attribute_of graph a (cell_at row n)) same ∙ ap (attribute_of graph a) at ∙ knows a))
        (made p e) (named p c is e))) es known)

    pub rows_by_entity : (p : Plan) (c : ℕ) → leaf_of p ≡ L → scan_column p ≡ Some c → rows_of graph p ≡ flat_map (made p) es
    rows_by_entity plan.nodes c over is = ap (rows_of graph) over ∙ read
    rows_by_entity (plan.rels types orientation) c over is = ap (rows_of graph) over ∙ read
    rows_by_entity (plan.lookup p column a) c over is =
        let below = if_this_is column (scan_column p) c is in
        ap (map (with_attribute graph column a)) (rows_by_entity p c over below.0)
        ∙ map_made (with_attribute graph column a) (made p) es
        ∙ looked_up p column c a below.0 below.1
    rows_by_entity (plan.filter p test) c over is = ap (filter (holds test)) (rows_by_entity p c over is) ∙ filter_made (holds test) (made p) es
    rows_by_entity (plan.all_different p columns) c over is =
        ap (filter (λ row. are_different (relationships_at columns row))) (rows_by_entity p c over is)
        ∙ filter_made (λ row. are_different (relationships_at columns row)) (made p) es
    rows_by_entity (plan.project p outputs) c over is =
        let at = kept_is (scan_column p) outputs c is in
        ap (map (projected outputs)) (rows_by_entity p at.0 over at.1.0) ∙ map_made (projected outputs) (made p) es
    rows_by_entity _ c over is = none_some c is

    -- ---- its expressions have no fault on them

    all_here : (P : List Cell → Type 0) (p : Plan) (c : ℕ) → leaf_of p ≡ L → scan_column p ≡ Some c → All P (rows_of graph p) → AllByRecursion (λ e. All P (made p e)) es
    all_here P p c over is all = all_of_each P (made p) es (subst (All P) (rows_by_entity p c over is) all)

    pub fit_entities : ((q : Plan) → All (All IsNumbered) (rows_of graph q)) → (p : Plan) (c : ℕ) → leaf_of p ≡ L → scan_column p ≡ Some c → IsSureOn graph p
        → AllByRecursion (λ e. AreFit (value_of e) (scan_parts p) (leaf e)) es
    fit_entities numbered plan.nodes c over is sure = each_one (λ e. AreFit (value_of e) (plan.nodes ∷ []) (leaf e)) (λ e. (tt, tt)) es
    fit_entities numbered (plan.rels types orientation) c over is sure = each_one (λ e. AreFit (value_of e) (plan.rels types orientation ∷ []) (leaf e)) (λ e. (tt, tt)) es
    fit_entities numbered (plan.lookup p column a) c over is sure =
        each_weaker (λ e. AreFit (value_of e) (scan_parts p) (leaf e)) (λ e. AreFit (value_of e) (plan.lookup p column a ∷ scan_parts p) (leaf e)) (λ e fit. (tt, fit)) es
        (fit_entities numbered p c over (if_this_is column (scan_column p) c is).0 sure)
    fit_entities numbered (plan.filter p test) c over is sure =
        each_both (λ e. All (HasTruth test) (made p e) × All (All IsNumbered) (made p e)) (λ e. AreFit (value_of e) (scan_parts p) (leaf e)) es
        (each_both (λ e. All (HasTruth test) (made p e)) (λ e. All (All IsNumbered) (made p e)) es
        (all_here (HasTruth test) p c over is sure.1) (all_here (All IsNumbered) p c over is (numbered p)))
        (fit_entities numbered p c over is sure.0)
    fit_entities numbered (plan.all_different p columns) c over is sure =
        each_weaker (λ e. AreFit (value_of e) (scan_parts p) (leaf e)) (λ e. AreFit (value_of e) (plan.all_different p columns ∷ scan_parts p) (leaf e)) (λ e fit. (tt, fit)) es
        (fit_entities numbered p c over is sure)
    fit_entities numbered (plan.project p outputs) c over is sure =
        let at = kept_is (scan_column p) outputs c is in
        each_both (λ e. All (HasCells outputs) (made p e) × All (All IsNumbered) (made p e)) (λ e. AreFit (value_of e) (scan_parts p) (leaf e)) es
        (each_both (λ e. All (HasCells outputs) (made p e)) (λ e. All (All IsNumbered) (made p e)) es
        (all_here (HasCells outputs) p at.0 over at.1.0 sure.1) (all_here (All IsNumbered) p at.0 over at.1.0 (numbered p)))
        (fit_entities numbered p at.0 over at.1.0 sure.0)
    fit_entities numbered _ c over is sure = none_some c is
