-- Columns of a plan, and those of the parts below it in which there stands the same.
use Rattle.std.proofs.Common.{◌≡◌, ℕ, zero, suc, ◌+◌, ◌-◌, ◌<◌, ◌≤◌, ◌==◌, true, false, cond, List, [], ◌∷◌, ◌++◌, length, map, drop, take, get_or, refl, sym, ap, subst, ◌∙◌, arith}
use Rattle.std.specs.Prelude.{◌||◌, IfSome, Option, Some, None, nat_lt, slice_get}
use Rattle.std.specs.List.{AllByRecursion, Contains, IsDistinct, list_all}
use Rattle.std.specs.declared.alloc.Global.{Global}
use Rattle.std.specs.declared.vec.Vec.{Vec}
use Rattle.std.specs.Option.{option_map_or}
use Rattle.std.specs.Ordering.{eq_by_cmp}
use Rattle.std.proofs.lemmas.Bool.{and_parts, le-ltb, lt-ltb, ltb-true, or_parts}
use Rattle.std.proofs.lemmas.List.{get_or-append-add, get_or_append_left}
use Rattle.std.proofs.Math.Seq.{take-suc}
use Rattle.cy_values.specs.declared.rows.Cell.{Cell}
use Rattle.cy_values.specs.Order.{row_cmp}
use Rattle.cy_trees.specs.Trees.{Expression}
use Rattle.cy_scope_kinds.specs.declared.kinds.Kind.{Kind}
use Rattle.cy_scope_kinds.specs.declared.kinds.Kind.TheVariants as kind
use Rattle.cy_scope_kinds.specs.Scopes.{Scope}
use Rattle.cy_planner_algebra.specs.declared.operators.Attribute.{Attribute}
use Rattle.cy_planner_algebra.specs.declared.operators.KeyColumns.{KeyColumns}
use Rattle.cy_planner_algebra.specs.Plans as plan
use Rattle.cy_planner_algebra.specs.Plans.{Plan, Output, width}
use Rattle.cy_planner_algebra.specs.Expressions.{cell_at, null, projected}
use Rattle.cy_planner_algebra.specs.Keys.{left_key, meet, right_key}
use Rattle.cy_planner_algebra.proofs.Counts.{identity}
use Rattle.cy_planner_pushdown.specs.internal.Conditions.{cells_at, is_among}
use Rattle.cy_planner_pushdown.specs.internal.Pushed.{AreDistinct, AreMoved, CanBePushed, Each, IsLeftKey, IsOnLeft, IsOnRight, IsRightKey, IsTakenOver, common_kind, kind_at, kind_in_scope, kind_made}
use Rattle.cy_planner_pushdown.specs.internal.Ways.{IsLeftWay, IsRightWay, IsWay, both_ways}
use Rattle.cy_planner_pushdown.proofs.ColumnKinds.{both_kinds, taken_over}

-- ---- one column more

each_longer : (R : ℕ → ℕ → Type 0) (columns others : List ℕ) (c d : ℕ) → Each R columns others → R c d → Each R (columns ++ c ∷ []) (others ++ d ∷ [])
each_longer R [] [] c d each next = (next, tt)
each_longer R [] (o ∷ others) c d each next = absurd each
each_longer R (x ∷ columns) [] c d each next = absurd each
each_longer R (x ∷ columns) (o ∷ others) c d each next = (each.0, each_longer R columns others c d each.1 next)

apart_longer : (x d : ℕ) (columns : List ℕ) → (x == d) ≡ false → AllByRecursion (λ y. (x == y) ≡ false) columns → AllByRecursion (λ y. (x == y) ≡ false) (columns ++ d ∷ [])
apart_longer x d [] here each = (here, tt)
apart_longer x d (c ∷ columns) here each = (each.0, apart_longer x d columns here each.1)

pub distinct_longer : (columns : List ℕ) (d : ℕ) → AreDistinct columns → is_among columns d ≡ false → AreDistinct (columns ++ d ∷ [])
unfolding IsDistinct
distinct_longer [] d distinct new = (tt, tt)
distinct_longer (c ∷ columns) d distinct new =
    let both = or_parts (c == d) (is_among columns d) new in
    (apart_longer c d columns both.0 distinct.0, distinct_longer columns d distinct.1 both.1)

-- so a loop goes on
pub moved_next : (R : ℕ → ℕ → Type 0) (columns found : List ℕ) (i d : ℕ) → i < length columns → AreMoved R (take i columns) found → R (get_or columns i 0) d → is_among found d ≡ false
    → AreMoved R (take (i + 1) columns) (found ++ d ∷ [])
moved_next R columns found i d less moved next new = (
  subst (λ cs. Each R cs (found ++ d ∷ []))
      (sym (ap (λ n. take n columns) (let e : i + 1 ≡ suc i = omega arith in e) ∙ take-suc columns i 0 less))
      (each_longer R (take i columns) found (get_or columns i 0) d moved.0 next),
  distinct_longer found d moved.1 new,
)

pub none_moved : (R : ℕ → ℕ → Type 0) (columns : List ℕ) → AreMoved R (take 0 columns) []
unfolding IsDistinct
none_moved R columns = (tt, tt)

-- ---- keys

-- what has the same key has the same cells
module _ (l r : List Cell) where
  cells_alike : (keys : List KeyColumns) → left_key keys l ≡ right_key keys r → AllByRecursion (λ (k : KeyColumns). cell_at l k.left ≡ cell_at r k.right) keys
  cells_alike [] same = tt
  cells_alike (k ∷ keys) same = (ap (λ cs. get_or cs 0 null) same, cells_alike keys (ap (λ cs. drop 1 cs) same))

  keys_alike : (keys : List KeyColumns) → meet keys l r ≡ true → AllByRecursion (λ (k : KeyColumns). cell_at l k.left ≡ cell_at r k.right) keys
  keys_alike keys met = cells_alike keys (identity (left_key keys l) (right_key keys r) (and_parts (eq_by_cmp row_cmp (left_key keys l) (right_key keys r)) _ met).0)

one_of : (P : KeyColumns → Type 0) (keys : List KeyColumns) (k : KeyColumns) → AllByRecursion P keys → Contains keys k → P k
one_of P [] k each (i, less, at) = absurd (omega (arith, less))
one_of P (x ∷ keys) k each (zero, less, at) = subst P at each.0
one_of P (x ∷ keys) k each (suc i, less, at) = one_of P keys k each.1 (i, omega (arith, less), at)

-- ---- the columns of a join

module _ (left right : Plan) (keys : List KeyColumns) (column : ℕ) where
  before_is : column < width left → kind_at (plan.join left right keys) column ≡ kind_at left column
  before_is less = ap (λ b. cond b (kind_at left column) (kind_at right (column - width left))) (lt-ltb column (width left) less)

  after_is : width left ≤ column → kind_at (plan.join left right keys) column ≡ kind_at right (column - width left)
  after_is least = ap (λ b. cond b (kind_at left column) (kind_at right (column - width left))) (le-ltb column (width left) least)

  left_cell : (l r : List Cell) → length l ≡ width left → column < width left → cell_at (l ++ r) column ≡ cell_at l column
  left_cell l r long less = get_or_append_left l r null column (omega (arith, long, less))

  right_cell : (l r : List Cell) → length l ≡ width left → width left ≤ column → cell_at (l ++ r) column ≡ cell_at r (column - width left)
  right_cell l r long least = ap (λ n. cell_at (l ++ r) n) (let e : column ≡ length l + (column - width left) = omega (arith, long, least) in e) ∙ get_or-append-add l r (column - width left) null

  pub own_left : column < width left → IsOnLeft left right keys column column
  own_left less = record { kinds = sym (before_is less); cells = λ l r long met. sym (left_cell l r long less) }

  pub own_right : width left ≤ column → IsOnRight left right keys column (column - width left)
  own_right least = record { kinds = sym (after_is least); cells = λ l r long met. sym (right_cell l r long least) }

  pub key_left : (other : ℕ) → width left ≤ column → IsLeftKey left keys (column - width left) (kind_at right (column - width left)) other → IsOnLeft left right keys column other
  key_left other least is = record {
    kinds = is.kinds ∙ sym (after_is least);
    cells = λ l r long met.
        ap (cell_at l) (sym is.there)
        ∙ one_of (λ (k : KeyColumns). cell_at l k.left ≡ cell_at r k.right) keys is.key (keys_alike l r keys met) is.among
        ∙ ap (cell_at r) is.here
        ∙ sym (right_cell l r long least);
  }

  pub key_right : (other : ℕ) → column < width left → IsRightKey right keys column (kind_at left column) other → IsOnRight left right keys column other
  key_right other less is = record {
    kinds = is.kinds ∙ sym (before_is less);
    cells = λ l r long met.
        ap (cell_at r) (sym is.there)
        ∙ sym (one_of (λ (k : KeyColumns). cell_at l k.left ≡ cell_at r k.right) keys is.key (keys_alike l r keys met) is.among)
        ∙ ap (cell_at l) is.here
        ∙ sym (left_cell l r long less);
  }

if_some_map : {A : Type 0} (P Q : A → Type 0) → ((x : A) → P x → Q x) → (o : Option A) → IfSome o P → IfSome o Q
if_some_map P Q step (Some x) here = step x here
if_some_map P Q step None here = here

pub keys_left : (left right : Plan) (keys : List KeyColumns) (column n : ℕ) → n ≡ width left → width left ≤ column → (o : Option ℕ)
    → IfSome o (IsLeftKey left keys (column - n) (kind_at right (column - n))) → IfSome o (IsOnLeft left right keys column)
keys_left left right keys column n wide least o found =
    if_some_map (IsLeftKey left keys (column - width left) (kind_at right (column - width left))) (IsOnLeft left right keys column) (λ other is. key_left left right keys column other least is) o
    (subst (λ (m : ℕ). IfSome o (IsLeftKey left keys (column - m) (kind_at right (column - m)))) wide found)

pub keys_right : (left right : Plan) (keys : List KeyColumns) (column : ℕ) → column < width left → (o : Option ℕ)
    → IfSome o (IsRightKey right keys column (kind_at left column)) → IfSome o (IsOnRight left right keys column)
keys_right left right keys column less = if_some_map (IsRightKey right keys column (kind_at left column)) (IsOnRight left right keys column) (λ other is. key_right left right keys column other less is)

-- ---- kinds and cells of several columns

kinds_each : (R : ℕ → ℕ → Type 0) (f g : ℕ → Option Kind) → ((c d : ℕ) → R c d → g d ≡ f c) → (columns others : List ℕ) → Each R columns others → map f columns ≡ map g others
kinds_each R f g same [] [] each = refl
kinds_each R f g same [] (d ∷ others) each = absurd each
kinds_each R f g same (c ∷ columns) [] each = absurd each
kinds_each R f g same (c ∷ columns) (d ∷ others) each = λ i. sym (same c d each.0) i ∷ kinds_each R f g same columns others each.1 i

cells_each : (R : ℕ → ℕ → Type 0) (row other : List Cell) → ((c d : ℕ) → R c d → cell_at other d ≡ cell_at row c) → (columns others : List ℕ) → Each R columns others → cells_at others other ≡ cells_at columns row
cells_each R row other same [] [] each = refl
cells_each R row other same [] (d ∷ others) each = absurd each
cells_each R row other same (c ∷ columns) [] each = absurd each
cells_each R row other same (c ∷ columns) (d ∷ others) each = λ i. same c d each.0 i ∷ cells_each R row other same columns others each.1 i

below_alike : {A : Type 0} (n : ℕ) (f g : ℕ → A) → ((c : ℕ) → c < n → f c ≡ g c) → (columns : List ℕ) → list_all (λ c. nat_lt c n) columns ≡ true → map f columns ≡ map g columns
below_alike n f g same [] all = refl
below_alike n f g same (c ∷ columns) all =
    let both = and_parts (nat_lt c n) (list_all (λ d. nat_lt d n) columns) all in
    λ i. same c (ltb-true c n both.0) i ∷ below_alike n f g same columns both.1 i

-- the first columns of a longer row
pub cells_first : (n : ℕ) (columns : List ℕ) → list_all (λ c. nat_lt c n) columns ≡ true → (l r : List Cell) → length l ≡ n → cells_at columns (l ++ r) ≡ cells_at columns l
cells_first n columns all l r long = below_alike n (cell_at (l ++ r)) (cell_at l) (λ c less. get_or_append_left l r null c (omega (arith, long, less))) columns all

pub cells_taken_over : (outputs : List Output) (columns others : List ℕ) → Each (IsTakenOver outputs) columns others → (row : List Cell) → cells_at others row ≡ cells_at columns (projected outputs row)
cells_taken_over outputs columns others each row = cells_each (IsTakenOver outputs) (projected outputs row) row (λ c d is. sym (taken_over outputs c d is row)) columns others each

-- ---- what can be pushed down

both_parts : (left right : Plan) (cs : List ℕ) (vs : Scope) → map (kind_at (plan.union left right)) cs ≡ map kind_in_scope vs → (map (kind_at left) cs ≡ map kind_in_scope vs) × (map (kind_at right) cs ≡ map kind_in_scope vs)
both_parts left right [] [] same = (refl, refl)
both_parts left right [] (v ∷ vs) same = cc
both_parts left right (c ∷ cs) [] same = cc
both_parts left right (c ∷ cs) (v ∷ vs) same =
    let here : common_kind (kind_at left c) (kind_at right c) ≡ Some v.1 = ap (λ ks. get_or ks 0 None) same in
    let both = both_kinds (kind_at left c) (kind_at right c) v.1 here in
    let rest = both_parts left right cs vs (ap (λ ks. drop 1 ks) same) in
    ((λ i. both.0 i ∷ rest.0 i), (λ i. both.1 i ∷ rest.1 i))

module _ (test : Expression) where
  moved : (p q : Plan) (columns others : List ℕ) → map (kind_at p) columns ≡ map (kind_at q) others → AreDistinct others → CanBePushed p columns test → CanBePushed q others test
  moved p q columns others same distinct (scope, stand, is) = (scope, (sym same ∙ stand.0, distinct), is)

  module _ (left right : Plan) (keys : List KeyColumns) (columns others : List ℕ) where
    pub can_left : AreMoved (IsOnLeft left right keys) columns others → CanBePushed (plan.join left right keys) columns test → CanBePushed left others test
    can_left (each, distinct) can =
        moved (plan.join left right keys) left columns others (kinds_each (IsOnLeft left right keys) (kind_at (plan.join left right keys)) (kind_at left) (λ c d is. is.kinds) columns others each) distinct can

    pub can_right : AreMoved (IsOnRight left right keys) columns others → CanBePushed (plan.join left right keys) columns test → CanBePushed right others test
    can_right (each, distinct) can =
        moved (plan.join left right keys) right columns others (kinds_each (IsOnRight left right keys) (kind_at (plan.join left right keys)) (kind_at right) (λ c d is. is.kinds) columns others each) distinct can

    pub cells_left : AreMoved (IsOnLeft left right keys) columns others → (l r : List Cell) → length l ≡ width left → meet keys l r ≡ true → cells_at others l ≡ cells_at columns (l ++ r)
    cells_left (each, distinct) l r long met = cells_each (IsOnLeft left right keys) (l ++ r) l (λ c d is. is.cells l r long met) columns others each

    pub cells_right : AreMoved (IsOnRight left right keys) columns others → (l r : List Cell) → length l ≡ width left → meet keys l r ≡ true → cells_at others r ≡ cells_at columns (l ++ r)
    cells_right (each, distinct) l r long met = cells_each (IsOnRight left right keys) (l ++ r) r (λ c d is. is.cells l r long met) columns others each

  pub can_outer : (left right : Plan) (keys : List KeyColumns) (predicate : Expression) (columns : List ℕ) → list_all (λ c. nat_lt c (width left)) columns ≡ true
      → CanBePushed (plan.outer left right keys predicate) columns test → CanBePushed left columns test
  can_outer left right keys predicate columns all can =
      moved (plan.outer left right keys predicate) left columns columns
      (below_alike (width left) (kind_at (plan.outer left right keys predicate)) (kind_at left)
      (λ c less. ap (λ b. cond b (kind_at left c) (kind_at right (c - width left))) (lt-ltb c (width left) less)) columns all) can.1.1 can

  pub can_lookup : (below : Plan) (at : ℕ) (attribute : Attribute) (columns : List ℕ) → list_all (λ c. nat_lt c (width below)) columns ≡ true
      → CanBePushed (plan.lookup below at attribute) columns test → CanBePushed below columns test
  can_lookup below at attribute columns all can =
      moved (plan.lookup below at attribute) below columns columns
      (below_alike (width below) (kind_at (plan.lookup below at attribute)) (kind_at below)
      (λ c less. ap (λ b. cond b (kind_at below c) (cond (c == width below) (Some kind.Value) None)) (lt-ltb c (width below) less)) columns all) can.1.1 can

  pub can_project : (below : Plan) (outputs : List Output) (columns others : List ℕ) → AreMoved (IsTakenOver outputs) columns others → CanBePushed (plan.project below outputs) columns test → CanBePushed below others test
  can_project below outputs columns others (each, distinct) can =
      moved (plan.project below outputs) below columns others
      (kinds_each (IsTakenOver outputs) (kind_at (plan.project below outputs)) (kind_at below)
      (λ c d is. sym (ap (λ (o : Option ℕ). option_map_or (kind_at below) o (kind_made (slice_get outputs c))) is)) columns others each) distinct can

  pub can_union : (left right : Plan) (columns : List ℕ) → CanBePushed (plan.union left right) columns test → CanBePushed left columns test × CanBePushed right columns test
  can_union left right columns (scope, (kinds, distinct), is) = let both = both_parts left right columns scope kinds in ((scope, (both.0, distinct), is), (scope, (both.1, distinct), is))

-- ---- the ways from a join

module _ (left right : Plan) (keys : List KeyColumns) (columns : Vec ℕ Global) where
  pub way_is : (on_left on_right : Option (Vec ℕ Global)) → IsLeftWay left right keys columns.items on_left → IsRightWay left right keys columns.items on_right
      → IsWay (both_ways columns on_left on_right) (plan.join left right keys) columns.items
  way_is (Some lefts) (Some rights) here there = (here, there)
  way_is (Some lefts) None here there = here
  way_is None (Some rights) here there = there
  way_is None None here there = refl
