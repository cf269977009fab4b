-- Values that a change has to give back, under their numbers.
use Rattle.std.specs.Prelude.{ℕ, List, [], ◌∷◌, None, Some, option_to_list}
use Rattle.std.specs.Option.{option_map}
use Rattle.indexmap.specs.IndexMap.{spare}
use Rattle.cy_graph.specs.declared.before_images.Images.{Images}
use Rattle.cy_graph.specs.declared.before_images.Images.TheVariants as images
use Rattle.cy_graph.specs.declared.before_images.Rest.{Rest}
use Rattle.cy_graph.specs.declared.before_images.Rest.TheVariants as rest

-- the values in the order in which they were kept, and how many more there is room for
pub record BeforeImages (V : Type 0) : Type 0 where
  pub entries : List (ℕ × V)
  pub spare : ℕ

module _ {V : Type 0} where
  -- what the one value, or the map, is seen as
  abbrev pub images_of : Images V → BeforeImages V
  images_of (images.One None) = record { entries = []; spare = 1 }
  images_of (images.One (Some e)) = record { entries = e ∷ []; spare = 0 }
  images_of (images.Many map) = record { entries = map.entries; spare = spare map }

  -- what an iterator has still to give
  abbrev pub rest_of : Rest V → List (ℕ × V)
  rest_of (rest.One one) = option_to_list (option_map (λ p. (p.0, p.1.now)) one)
  rest_of (rest.Many entries) = entries
