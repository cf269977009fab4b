-- The names of a node's labels.
use Rattle.std.proofs.Common.{◌≡◌, ℕ, ◌≤◌, true, ◌&&◌, List, [], ◌∷◌, length, map, take, Bor, refl, ap, ◌∙◌}
use Rattle.std.proofs.lemmas.List.{take_all}
use Rattle.std.specs.Prelude.{◌||◌, Option, Some, None, is_some}
use Rattle.std.specs.Option.{option_copied}
use Rattle.std.specs.List.{list_any, list_all}
use Rattle.std.specs.Ordering.{is_lt, nat_cmp, eq_by_cmp}
use Rattle.std.specs.Cmp.Lexicographic.{slice_cmp}
use Rattle.std.specs.FinMap.Entries as entries
use Rattle.std.specs.Str.{bytes_eq}
use Rattle.std.proofs.lemmas.Map.Text.{is_eq-slice_cmp}
use Rattle.cy_values.specs.declared.scalars.Scalar.{Scalar}
use Rattle.cy_values.specs.declared.scalars.Scalar.TheVariants as scalar
use Rattle.cy_trees.specs.Trees.{Name}
use Rattle.cy_graph.specs.Maps as maps
use Rattle.cy_expr.specs.Lookups.{names_rise}

pub same_tests : (name : Name) (names : List Name) → list_any (eq_by_cmp maps.text_order name) names ≡ list_any (bytes_eq name) names
same_tests name [] = refl
same_tests name (other ∷ names) = λ i. is_eq-slice_cmp name other i || same_tests name names i

module _ {V : Type 0} where
  -- a map has a value at a name exactly where the name is among its keys
  is_named : (name : Name) (labels : List (Name × V)) → is_some (maps.value_at name labels) ≡ list_any (bytes_eq name) (map (λ l. l.0) labels)
  is_named name labels = entries.is_some-find maps.text_order name labels ∙ same_tests name (map (λ l. l.0) labels)

  pub name_found : (name : Name) (labels : List (Name × V)) (found : Option (Bor V)) → option_copied found ≡ maps.value_at name labels
      → is_some found ≡ list_any (bytes_eq name) (map (λ l. l.0) labels)
  name_found name labels None is = ap is_some is ∙ is_named name labels
  name_found name labels (Some v) is = ap is_some is ∙ is_named name labels

  below_names : (name : Name) (labels : List (Name × V)) → list_all (λ other. is_lt (slice_cmp nat_cmp name other)) (map (λ l. l.0) labels) ≡ entries.below_all maps.text_order name labels
  below_names name [] = refl
  below_names name (label ∷ labels) = ap (λ b. is_lt (slice_cmp nat_cmp name label.0) && b) (below_names name labels)

  names_alike : (labels : List (Name × V)) → names_rise (map (λ l. l.0) labels) ≡ maps.rises labels
  names_alike [] = refl
  names_alike (label ∷ labels) = λ i. below_names label.0 labels i && names_alike labels i

  -- the keys of a map rise
  pub labels_rise : (labels : List (Name × V)) → maps.rises labels ≡ true → names_rise (map (λ l. l.0) labels) ≡ true
  labels_rise labels rising = names_alike labels ∙ rising

  -- and as texts
  texts_of : (labels : List (Name × V)) → map (λ l. scalar.Text l.0) labels ≡ map (λ l. scalar.Text l) (map (λ l. l.0) labels)
  texts_of [] = refl
  texts_of (label ∷ labels) = ap (λ ts. scalar.Text label.0 ∷ ts) (texts_of labels)

  -- all of a map's entries were gone through
  pub all_made : (labels entries : List (Name × V)) (i : ℕ) (made : List Scalar) → length entries ≤ i → entries ≡ labels
      → made ≡ map (λ l. scalar.Text l.0) (take i entries) → made ≡ map (λ l. scalar.Text l) (map (λ l. l.0) labels)
  all_made labels entries i made ends all so_far = so_far ∙ rw (take_all i entries ends, all) (texts_of labels)
