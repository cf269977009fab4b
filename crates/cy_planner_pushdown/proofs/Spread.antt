-- A scope for a row in whose columns the variables of another one stand: these variables there, and elsewhere what the cells are.
use Rattle.std.proofs.Common.{◌≡◌, ℕ, zero, suc, ◌+◌, ◌<◌, ◌==◌, Bool, true, false, cond, List, [], ◌∷◌, drop, length, map, get_or, refl, sym, ap, subst, ◌∙◌, arith}
use Rattle.std.specs.Prelude.{Option, Some, None, slice_get}
use Rattle.std.specs.List.{AllByRecursion, IsDistinct}
use Rattle.std.proofs.lemmas.Bool.{and_from, and_parts, eq-eqb, eqb-true}
use Rattle.std.proofs.lemmas.List.{length-map}
use Rattle.std.proofs.lemmas.Option.{get_or_from_slice_get, same_Some}
use Rattle.cy_values.specs.declared.rows.Cell.{Cell}
use Rattle.cy_values.specs.declared.rows.Cell.TheVariants as cell
use Rattle.cy_values.specs.declared.scalars.Value.TheVariants as value
use Rattle.cy_values.proofs.Lists.{each_both, each_then}
use Rattle.cy_values.proofs.Naturals.{nothing_added}
use Rattle.cy_trees.specs.Trees.{Name, Expression}
use Rattle.cy_scope_kinds.specs.declared.kinds.Kind.{Kind}
use Rattle.cy_scope_kinds.specs.declared.kinds.Kind.TheVariants as kind
use Rattle.cy_scope_kinds.specs.Kinded.{HasKind}
use Rattle.cy_scope_kinds.specs.Rows.{is_cell_of, row_fits}
use Rattle.cy_scope_kinds.specs.Scopes.{Scope}
use Rattle.cy_graph.specs.Graph.{Content}
use Rattle.cy_planner_algebra.specs.Plans.{Plan, width}
use Rattle.cy_planner_algebra.specs.Expressions.{cell_at}
use Rattle.cy_planner_algebra.specs.Meaning.{nulls, rows_of}
use Rattle.cy_planner_algebra.specs.WellFormed.{IsWellFormed}
use Rattle.cy_planner_rows.specs.Renumbered.{new_column, renumbered}
use Rattle.cy_planner_rows.specs.Rows.{IsReadOver}
use Rattle.cy_planner_pushdown.specs.internal.Conditions.{IsTest, cells_at}
use Rattle.cy_planner_pushdown.specs.internal.Pushed.{AreDistinct, CanBePushed, StandIn, kind_at, kind_in_scope}
use Rattle.cy_planner_pushdown.proofs.ColumnKinds.{HasKindAt, have_kind, inside}
use Rattle.cy_planner_pushdown.proofs.RenumberedKinds.{kind_renumbered}

-- the kind that a cell shows
abbrev kind_of_cell : Cell → Kind
kind_of_cell (cell.Node n) = kind.Node
kind_of_cell (cell.Rel r) = kind.Relationship
kind_of_cell (cell.Rels rs) = kind.Relationships
kind_of_cell (cell.Value v) = kind.Value

shows : (c : Cell) → is_cell_of (kind_of_cell c) c ≡ true
shows (cell.Value value.Null) = refl
shows (cell.Value (value.Bool b)) = refl
shows (cell.Value (value.Int n)) = refl
shows (cell.Value (value.Text t)) = refl
shows (cell.Value (value.List vs)) = refl
shows _ = refl

-- the variable that stands in a column
abbrev stands : Scope → List ℕ → ℕ → Option (Name × Kind)
stands [] columns column = None
stands (v ∷ scope) [] column = None
stands (v ∷ scope) (c ∷ columns) column = cond (column == c) (Some v) (stands scope columns column)

abbrev or_shown : Option (Name × Kind) → Cell → Name × Kind
or_shown (Some v) c = v
or_shown None c = ([], kind_of_cell c)

-- for the cells from a column on
abbrev pub spread : Scope → List ℕ → ℕ → List Cell → Scope
spread scope columns j [] = []
spread scope columns j (c ∷ row) = or_shown (stands scope columns j) c ∷ spread scope columns (suc j) row

module _ (scope : Scope) (columns : List ℕ) where
  spread_long : (j : ℕ) (row : List Cell) → length (spread scope columns j row) ≡ length row
  spread_long j [] = refl
  spread_long j (c ∷ row) = ap (λ n. suc n) (spread_long (suc j) row)

  spread_at : (j n : ℕ) (row : List Cell) (v : Name × Kind) → n < length row → stands scope columns (j + n) ≡ Some v → slice_get (spread scope columns j row) n ≡ Some v
  spread_at j n [] v less at = absurd (omega (arith, less))
  spread_at j zero (c ∷ row) v less at = ap (λ o. Some (or_shown o c)) (ap (stands scope columns) (let e : j ≡ j + 0 = omega arith in e) ∙ at)
  spread_at j (suc n) (c ∷ row) v less at = spread_at (suc j) n row v (omega (arith, less)) (ap (stands scope columns) (let e : suc j + n ≡ j + suc n = omega arith in e) ∙ at)

  shown_fits : (o : Option (Name × Kind)) (c : Cell) → ((v : Name × Kind) → o ≡ Some v → is_cell_of v.1 c ≡ true) → is_cell_of (or_shown o c).1 c ≡ true
  shown_fits (Some v) c fits = fits v refl
  shown_fits None c fits = shows c

  spread_fits : (j : ℕ) (row : List Cell) → ((n : ℕ) (v : Name × Kind) → n < length row → stands scope columns (j + n) ≡ Some v → is_cell_of v.1 (cell_at row n) ≡ true)
      → row_fits (spread scope columns j row) row ≡ true
  spread_fits j [] fits = refl
  spread_fits j (c ∷ row) fits =
      and_from (is_cell_of (or_shown (stands scope columns j) c).1 c) (row_fits (spread scope columns (suc j) row) row)
      (shown_fits (stands scope columns j) c (λ v at. fits 0 v (omega arith) (ap (stands scope columns) (let e : j + 0 ≡ j = omega arith in e) ∙ at)))
      (spread_fits (suc j) row (λ n v less at. fits (suc n) v (omega (arith, less)) (ap (stands scope columns) (let e : j + suc n ≡ suc j + n = omega arith in e) ∙ at)))

-- a variable stands in its column, if no other one does
apart_at : (x : ℕ) (columns : List ℕ) (i c : ℕ) → AllByRecursion (λ y. (x == y) ≡ false) columns → slice_get columns i ≡ Some c → (x == c) ≡ false
apart_at x [] i c each at = cc
apart_at x (d ∷ columns) zero c each at = ap (λ y. x == y) (sym (same_Some d c at)) ∙ each.0
apart_at x (d ∷ columns) (suc i) c each at = apart_at x columns i c each.1 at

turned : (x c : ℕ) → (x == c) ≡ false → (c == x) ≡ false
turned x c is = by (c == x) refl
  where
    by : (b : Bool) → (c == x) ≡ b → b ≡ false
    by false same = refl
    by true same = sym (eq-eqb x c (sym (eqb-true c x same))) ∙ is

stands_at : (scope : Scope) (columns : List ℕ) (i c : ℕ) (v : Name × Kind) → AreDistinct columns → slice_get scope i ≡ Some v → slice_get columns i ≡ Some c → stands scope columns c ≡ Some v
unfolding IsDistinct
stands_at [] columns i c v distinct at place = cc
stands_at (w ∷ scope) [] i c v distinct at place = cc
stands_at (w ∷ scope) (d ∷ columns) zero c v distinct at place =
    ap (λ (b : Bool). cond b (Some w) (stands scope columns c)) (eq-eqb c d (sym (same_Some d c place))) ∙ at
stands_at (w ∷ scope) (d ∷ columns) (suc i) c v distinct at place =
    ap (λ (b : Bool). cond b (Some w) (stands scope columns c)) (turned d c (apart_at d columns i c distinct.0 place)) ∙ stands_at scope columns i c v distinct.1 at place

-- what stands there is of its kind
stands_fits : (scope : Scope) (columns : List ℕ) (row : List Cell) (c : ℕ) (v : Name × Kind) → row_fits scope (cells_at columns row) ≡ true → stands scope columns c ≡ Some v → is_cell_of v.1 (cell_at row c) ≡ true
stands_fits [] columns row c v fits at = cc
stands_fits (w ∷ scope) [] row c v fits at = cc
stands_fits (w ∷ scope) (d ∷ columns) row c v fits at =
    let both = and_parts (is_cell_of w.1 (cell_at row d)) (row_fits scope (cells_at columns row)) fits in
    by (λ is. stands_fits scope columns row c v both.1 is) both.0 (c == d) refl at
  where
    by : (stands scope columns c ≡ Some v → is_cell_of v.1 (cell_at row c) ≡ true) → is_cell_of w.1 (cell_at row d) ≡ true → (b : Bool) → (c == d) ≡ b
        → cond b (Some w) (stands scope columns c) ≡ Some v → is_cell_of v.1 (cell_at row c) ≡ true
    by rest here true same is =
        subst (λ (u : Name × Kind). is_cell_of u.1 (cell_at row c) ≡ true) (same_Some w v is)
        (ap (λ n. is_cell_of w.1 (cell_at row n)) (eqb-true c d same) ∙ here)
    by rest here false same is = rest is

pub row_spread : (scope : Scope) (columns : List ℕ) (row : List Cell) → row_fits scope (cells_at columns row) ≡ true → row_fits (spread scope columns 0 row) row ≡ true
row_spread scope columns row fits = spread_fits scope columns 0 row (λ n v less at. stands_fits scope columns row n v fits (ap (stands scope columns) (sym (nothing_added n)) ∙ at))

-- ---- a condition on columns of a plan

-- as many columns as variables
pub as_many : (p : Plan) (columns : List ℕ) (scope : Scope) → StandIn p columns scope → length scope ≡ length columns
as_many p columns scope stand = sym (length-map scope kind_in_scope) ∙ ap length (sym stand.0) ∙ length-map columns (kind_at p)

-- what stands at the same place of two lists that are alike
kind_known : (p : ℕ → Option Kind) (columns : List ℕ) (scope : Scope) (i : ℕ) (v : Name × Kind) → map p columns ≡ map kind_in_scope scope → slice_get scope i ≡ Some v
    → (c : ℕ) × (slice_get columns i ≡ Some c) × (p c ≡ Some v.1)
kind_known p columns [] i v same at = cc
kind_known p [] (w ∷ scope) i v same at = cc
kind_known p (c ∷ columns) (w ∷ scope) zero v same at = (c, refl, ap (λ ks. get_or ks 0 None) same ∙ ap kind_in_scope (same_Some w v at))
kind_known p (c ∷ columns) (w ∷ scope) (suc i) v same at = kind_known p columns scope i v (ap (λ ks. drop 1 ks) same) at

module _ (p : Plan) (columns : List ℕ) (test : Expression) (good : IsWellFormed p) (can : CanBePushed p columns test) where
  abbrev scope : Scope
  scope = can.0

  abbrev is : IsTest scope test
  is = can.2

  same_column : (row : List Cell) → length row ≡ width p → (i : ℕ) (v : Name × Kind) → slice_get scope i ≡ Some v → slice_get (spread scope columns 0 row) (new_column columns i) ≡ Some v
  same_column row long i v at =
      let known = kind_known (kind_at p) columns scope i v can.1.0 at in
      let less : known.0 < width p = inside p known.0 v.1 good known.2 in
      ap (slice_get (spread scope columns 0 row)) (get_or_from_slice_get columns i known.0 i known.1)
      ∙ spread_at scope columns 0 known.0 row v (omega (arith, less, long)) (ap (stands scope columns) (nothing_added known.0) ∙ stands_at scope columns i known.0 v can.1.1 at known.1)

  pub spread_kinded : (row : List Cell) → length row ≡ width p → HasKind (spread scope columns 0 row) (renumbered columns test) kind.Flag
  spread_kinded row long = kind_renumbered columns scope (spread scope columns 0 row) (same_column row long) test kind.Flag is.kinded

  nulls_long : (n : ℕ) → length (nulls n) ≡ n
  nulls_long zero = refl
  nulls_long (suc n) = ap (λ m. suc m) (nulls_long n)

  pub read_over : IsReadOver p (renumbered columns test)
  read_over =
      (spread scope columns 0 (nulls (width p)), spread_long scope columns 0 (nulls (width p)) ∙ nulls_long (width p), (kind.Flag, spread_kinded (nulls (width p)) (nulls_long (width p))))

  pub spread_wide : (row : List Cell) → length row ≡ width p → length (spread scope columns 0 row) ≡ width p
  spread_wide row long = spread_long scope columns 0 row ∙ long

  -- the cells of all rows are of the kinds
  module _ (graph : Content) where
    abbrev Fits : Scope → List ℕ → List Cell → Type 0
    Fits vs cs row = row_fits vs (cells_at cs row) ≡ true

    none_fit : (rows : List (List Cell)) → AllByRecursion (Fits [] []) rows
    none_fit [] = tt
    none_fit (row ∷ rows) = (refl, none_fit rows)

    fit_each : (cs : List ℕ) (vs : Scope) → map (kind_at p) cs ≡ map kind_in_scope vs → AllByRecursion (Fits vs cs) (rows_of graph p)
    fit_each [] [] same = none_fit (rows_of graph p)
    fit_each [] (v ∷ vs) same = cc
    fit_each (c ∷ cs) [] same = cc
    fit_each (c ∷ cs) (v ∷ vs) same =
        each_then (λ row. HasKindAt c v.1 row × Fits vs cs row) (Fits (v ∷ vs) (c ∷ cs)) (λ row both. and_from (is_cell_of v.1 (cell_at row c)) (row_fits vs (cells_at cs row)) both.0 both.1) (rows_of graph p)
        (each_both (HasKindAt c v.1) (Fits vs cs) (rows_of graph p) (have_kind graph p c v.1 good (ap (λ ks. get_or ks 0 None) same)) (fit_each cs vs (ap (λ ks. drop 1 ks) same)))

    pub all_fit : AllByRecursion (λ row. row_fits scope (cells_at columns row) ≡ true) (rows_of graph p)
    all_fit = fit_each columns scope can.1.0
