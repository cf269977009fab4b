-- The relationships whose numbers stand in a list.
use Rattle.std.specs.Prelude.{ℕ, List, [], ◌∷◌, Option, None, Some}
use Rattle.cy_values.specs.declared.numbers.RelId.{RelId}
use Rattle.cy_graph.specs.declared.nodes.Rel.{Rel}
use Rattle.cy_graph.specs.internal.Slots.{value_under}

-- the relationships with one more before them, if it is there
abbrev pub with_first : RelId → Option Rel → List (RelId × Rel) → List (RelId × Rel)
with_first id None rels = rels
with_first id (Some rel) rels = (id, rel) ∷ rels

-- those of the numbers under which there is a relationship, each with it
abbrev pub listed : List (ℕ × Rel) → List RelId → List (RelId × Rel)
listed rels [] = []
listed rels (id ∷ ids) = with_first id (value_under id.0 rels) (listed rels ids)
