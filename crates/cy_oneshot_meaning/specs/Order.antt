-- The order of rows: by keys, then canonical. (openCypher 9, ORDER BY; ties own)
use Rattle.std.specs.Prelude.{Bool, not, List, [], ◌∷◌, filter, if◌then◌else◌}
use Rattle.std.specs.declared.cmp.Ordering.{Ordering}
use Rattle.std.specs.declared.cmp.Ordering.TheVariants.{Less, Equal, Greater}
use Rattle.std.specs.Ordering.{ordering_then, ordering_reverse, eq_by_cmp, is_gt}
use Rattle.cy_values.specs.declared.rows.Cell.{Cell}
use Rattle.cy_values.specs.Order.{cell_order, row_cmp}

-- a thing among things that are in order, before the first that isn't less than it
abbrev pub placed : {A : Type 0} → (A → A → Ordering) → A → List A → List A
placed order x [] = x ∷ []
placed order x (y ∷ ys) = if is_gt (order x y) then y ∷ placed order x ys else x ∷ y ∷ ys

-- the things in order
abbrev pub in_order : {A : Type 0} → (A → A → Ordering) → List A → List A
in_order order [] = []
in_order order (x ∷ xs) = placed order x (in_order order xs)

-- each of them once
abbrev pub each_once : {A : Type 0} → (A → A → Ordering) → List A → List A
each_once order [] = []
each_once order (x ∷ xs) = x ∷ filter (λ y. not (eq_by_cmp order x y)) (each_once order xs)

-- a row with the values of its keys
pub record Keyed : Type 0 where
  pub row : List Cell
  pub keys : List Cell

-- by the keys from the left, those that are descending turned round; each row has as many keys, else a beginning comes first
abbrev pub keys_order : List Bool → List Cell → List Cell → Ordering
keys_order [] ks ls = Equal
keys_order (descending ∷ flags) [] [] = Equal
keys_order (descending ∷ flags) [] (l ∷ ls) = Less
keys_order (descending ∷ flags) (k ∷ ks) [] = Greater
keys_order (descending ∷ flags) (k ∷ ks) (l ∷ ls) =
    ordering_then (if descending then ordering_reverse (cell_order k l) else cell_order k l) (keys_order flags ks ls)

-- ties go in canonical order, under descending keys too
abbrev pub keyed_order : List Bool → Keyed → Keyed → Ordering
keyed_order descending x y = ordering_then (keys_order descending x.keys y.keys) (row_cmp x.row y.row)
