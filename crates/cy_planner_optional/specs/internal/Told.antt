-- What tells of a row whether a path is there: the nodes that the path names, and the values that its entries ask for. Of rows those that
-- are told from some others. (own)
use Rattle.std.specs.Prelude.{◌≡◌, ℕ, ◌+◌, false, List, [], ◌∷◌, ◌++◌, codes, flat_map, length, map}
use Rattle.std.specs.List.{range_with_len}
use Rattle.cy_trees.specs.declared.expressions.UnaryOperator.TheVariants.{IsNotNull, IsNull}
use Rattle.cy_trees.specs.Trees.{Expression, boolean, call, more, no_more, unary}
use Rattle.cy_oneshot_patterns.specs.Places.{Place}
use Rattle.cy_planner_algebra.specs.declared.operators.Keeping.TheVariants.{Unmatched}
use Rattle.cy_planner_algebra.specs.declared.operators.KeyColumns.{KeyColumns}
use Rattle.cy_planner_algebra.specs.Plans as plan
use Rattle.cy_planner_algebra.specs.Plans.{Plan}
use Rattle.cy_planner_algebra.specs.WellFormed.{IsWellFormed}
use Rattle.cy_planner_rows.specs.internal.Lookups.{narrowed}
use Rattle.cy_planner_tables.specs.internal.OptionalPairs.{all_of, keys_from}
use Rattle.cy_planner_optional.specs.Columns.{reading_entries, values_of}
use Rattle.cy_planner_rows.specs.Conditions.{column_variable}

-- whether a value is null, and the value, or another one where it is null: neither is null
abbrev pub told_by : Expression → List Expression
told_by e = unary IsNull e ∷ call (codes "coalesce") false (more e (more (boolean false) no_more)) ∷ []

abbrev pub told : List Expression → List Expression
told values = flat_map told_by values

-- of a pattern
abbrev pub told_values : List Place → List Expression
told_values places = told (values_of (reading_entries places))

-- the columns of the nodes that a pattern names, in rows with so many columns
abbrev pub named_columns : ℕ → List Place → List ℕ
named_columns count places = map (λ k. k.left) (keys_from count 0 places)

-- those, and what is told after the row
abbrev pub told_columns : ℕ → List Place → List ℕ
told_columns count places = named_columns count places ++ range_with_len count (length (told_values places))

-- the same columns of two rows
abbrev pub alike : List ℕ → List KeyColumns
alike columns = map (λ column. record { left = column; right = column }) columns

abbrev pub is_not_null_at : ℕ → Expression
is_not_null_at column = unary IsNotNull (column_variable column)

-- each of these columns has something
abbrev pub all_there : List ℕ → Expression
all_there columns = all_of (map is_not_null_at columns)

-- of the first rows, with what is told after so many columns, the first columns of those that no other row is like and that have all nodes
abbrev pub apart_from : ℕ → Plan → Plan → List Place → Plan
apart_from count rows others places =
    plan.filter (narrowed count (plan.semi rows others (alike (told_columns count places)) Unmatched)) (all_there (named_columns count places))

-- rows and others with what is told after so many columns
pub record CanBeTold (count : ℕ) (rows others : Plan) (places : List Place) : Type 0 where
  pub as_wide : plan.width rows ≡ count + length (told_values places)
  pub others_wide : plan.width others ≡ count + length (told_values places)

-- what is made of them
pub record IsApart (count : ℕ) (rows others : Plan) (places : List Place) (p : Plan) : Type 0 where
  pub is : p ≡ apart_from count rows others places
  pub good : IsWellFormed rows
  pub others_good : IsWellFormed others
