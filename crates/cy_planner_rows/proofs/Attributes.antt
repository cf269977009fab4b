-- The attributes of cells of a kind: each cell of a kind that has an attribute gives it.
use Rattle.std.proofs.Common.{◌≡◌, ℕ, zero, suc, Bool, true, false, not, List, [], ◌∷◌, length, get_or, refl, sym, ap, ◌∙◌}
use Rattle.std.specs.Prelude.{Ok, Some, slice_get}
use Rattle.std.proofs.lemmas.Bool.{and_parts, false≢true}
use Rattle.std.proofs.lemmas.Option.{none-some, same_Some}
use Rattle.cy_values.specs.declared.scalars.Value.{Value}
use Rattle.cy_values.specs.declared.scalars.Value.TheVariants as value
use Rattle.cy_values.specs.declared.rows.Cell.{Cell}
use Rattle.cy_values.specs.declared.rows.Cell.TheVariants as cell
use Rattle.cy_trees.specs.declared.expressions.UnaryOperator.{UnaryOperator}
use Rattle.cy_trees.specs.declared.expressions.UnaryOperator.TheVariants as unary_operator
use Rattle.cy_trees.specs.declared.expressions.BinaryOperator.{BinaryOperator}
use Rattle.cy_trees.specs.declared.expressions.BinaryOperator.TheVariants as binary_operator
use Rattle.cy_trees.specs.Trees.{Name}
use Rattle.cy_scope_kinds.specs.declared.kinds.Kind.{Kind}
use Rattle.cy_scope_kinds.specs.declared.kinds.Kind.TheVariants as kind
use Rattle.cy_scope_kinds.specs.declared.functions.Function.{Function}
use Rattle.cy_scope_kinds.specs.declared.functions.Function.TheVariants as function
use Rattle.cy_scope_kinds.specs.Kinds.{flag_if, is_entity, is_flag, is_node, is_relationship, is_relationships, is_value}
use Rattle.cy_scope_kinds.specs.ExpressionKinds.{binary_kind, function_kind, unary_kind}
use Rattle.cy_scope_kinds.specs.Rows.{is_cell_of, is_value_of, row_fits}
use Rattle.cy_scope_kinds.specs.Scopes.{Scope}
use Rattle.cy_graph.specs.Graph.{Content}
use Rattle.cy_expr.specs.Graphs.{lookups}
use Rattle.cy_planner_algebra.specs.declared.operators.Attribute.{Attribute}
use Rattle.cy_planner_algebra.specs.declared.operators.Attribute.TheVariants.{Property, RelType, Labels}
use Rattle.cy_planner_algebra.specs.Expressions.{null}
use Rattle.cy_planner_algebra.specs.Meaning.{attribute_of}
use Rattle.cy_planner_rows.specs.internal.Lowered.{attribute_outcome}

-- the kinds of what has an attribute
abbrev pub has_attribute : Attribute → Kind → Bool
has_attribute (Property key) k = is_entity k
has_attribute RelType k = is_relationship k
has_attribute Labels k = is_node k

-- no value has one
pub no_value : (a : Attribute) (k : Kind) → is_value k ≡ true → has_attribute a k ≡ true → ⊥
no_value a kind.Node v h = false≢true v
no_value a kind.Relationship v h = false≢true v
no_value a kind.Relationships v h = false≢true v
no_value (Property key) kind.Value v h = false≢true h
no_value RelType kind.Value v h = false≢true h
no_value Labels kind.Value v h = false≢true h
no_value (Property key) kind.Flag v h = false≢true h
no_value RelType kind.Flag v h = false≢true h
no_value Labels kind.Flag v h = false≢true h

-- and no list of relationships
no_list : (a : Attribute) (k : Kind) → is_relationships k ≡ true → has_attribute a k ≡ true → ⊥
no_list a kind.Node v h = false≢true v
no_list (Property key) kind.Relationships v h = false≢true h
no_list RelType kind.Relationships v h = false≢true h
no_list Labels kind.Relationships v h = false≢true h
no_list a _ v h = false≢true v

no_both : (k : Kind) → is_node k ≡ true → is_relationship k ≡ true → ⊥
no_both kind.Node v h = false≢true h
no_both _ v h = false≢true v

-- values, by what makes them
pub unary_value : (o : UnaryOperator) → is_value (unary_kind o) ≡ true
unary_value unary_operator.Not = refl
unary_value _ = refl

pub binary_value : (o : BinaryOperator) → is_value (binary_kind o) ≡ true
binary_value binary_operator.Or = refl
binary_value _ = refl

pub chosen_value : (b : Bool) → is_value (flag_if b) ≡ true
chosen_value true = refl
chosen_value false = refl

pub called_value : (f : Function) (b : Bool) → is_value (function_kind f b) ≡ true
called_value function.Coalesce b = chosen_value b
called_value function.Exists b = refl
called_value f b = refl

-- a value that isn't null has none either
value_apart : (a : Attribute) (k : Kind) (v : Value) → (v ≡ value.Null → ⊥) → is_value_of k v ≡ true → has_attribute a k ≡ true → ⊥
value_apart a k value.Null some fit h = some refl
value_apart a k (value.Bool b) some fit h = no_value a k fit h
value_apart a k _ some fit h = no_value a k (and_parts (is_value k) (not (is_flag k)) fit).0 h

module _ (graph : Content) where
  abbrev Gives : Attribute → Cell → Type 0
  Gives a c = attribute_outcome (lookups graph) a c ≡ Ok (attribute_of graph a c)

  null_gives : (a : Attribute) → Gives a null
  null_gives (Property key) = refl
  null_gives RelType = refl
  null_gives Labels = refl

  value_gives : (a : Attribute) (k : Kind) (v : Value) → is_value_of k v ≡ true → has_attribute a k ≡ true → Gives a (cell.Value v)
  value_gives a k value.Null fit h = null_gives a
  value_gives a k (value.Bool b) fit h = absurd (value_apart a k (value.Bool b) (λ e. cc) fit h)
  value_gives a k (value.Int n) fit h = absurd (value_apart a k (value.Int n) (λ e. cc) fit h)
  value_gives a k (value.Text t) fit h = absurd (value_apart a k (value.Text t) (λ e. cc) fit h)
  value_gives a k (value.List es) fit h = absurd (value_apart a k (value.List es) (λ e. cc) fit h)

  pub cell_gives : (a : Attribute) (k : Kind) (c : Cell) → is_cell_of k c ≡ true → has_attribute a k ≡ true → Gives a c
  cell_gives (Property key) k (cell.Node n) fit h = refl
  cell_gives (Property key) k (cell.Rel r) fit h = refl
  cell_gives RelType k (cell.Node n) fit h = absurd (no_both k fit h)
  cell_gives RelType k (cell.Rel r) fit h = refl
  cell_gives Labels k (cell.Node n) fit h = refl
  cell_gives Labels k (cell.Rel r) fit h = absurd (no_both k h fit)
  cell_gives a k (cell.Rels rs) fit h = absurd (no_list a k fit h)
  cell_gives a k (cell.Value v) fit h = value_gives a k v fit h

-- a row that fits a scope has a cell of its kind for each variable
pub fits_long : (scope : Scope) (row : List Cell) → row_fits scope row ≡ true → length row ≡ length scope
fits_long [] [] fit = refl
fits_long [] (c ∷ row) fit = absurd (false≢true fit)
fits_long (v ∷ scope) [] fit = absurd (false≢true fit)
fits_long (v ∷ scope) (c ∷ row) fit = ap suc (fits_long scope row (and_parts (is_cell_of v.1 c) (row_fits scope row) fit).1)

pub fits_cell : (scope : Scope) (row : List Cell) (column : ℕ) (v : Name × Kind) → row_fits scope row ≡ true → slice_get scope column ≡ Some v → is_cell_of v.1 (get_or row column null) ≡ true
fits_cell [] row column v fit is = absurd (none-some v is)
fits_cell (w ∷ scope) [] column v fit is = absurd (false≢true fit)
fits_cell (w ∷ scope) (c ∷ row) zero v fit is =
    ap (λ (x : Name × Kind). is_cell_of x.1 c) (sym (same_Some w v is)) ∙ (and_parts (is_cell_of w.1 c) (row_fits scope row) fit).0
fits_cell (w ∷ scope) (c ∷ row) (suc column) v fit is = fits_cell scope row column v (and_parts (is_cell_of w.1 c) (row_fits scope row) fit).1 is
