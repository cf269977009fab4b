-- The before images of what a change touched, series by series.
use Rattle.std.specs.Prelude.{ℕ, Option}
use Rattle.std.proofs.Common.{inl, inr}
use Rattle.std.specs.Option.{option_map}
use Rattle.cy_values.specs.declared.numbers.Entity.TheVariants as entity
use Rattle.cy_graph.specs.declared.nodes.Node.{Node}
use Rattle.cy_graph.specs.declared.nodes.Rel.{Rel}
use Rattle.cy_graph.specs.Touched.{BeforeImage}

-- the before image of a node that differs
abbrev pub node_image : ℕ × Option Node → BeforeImage
node_image e = (entity.Node (record { 0 = e.0 }), option_map (λ node. inl node) e.1)

-- the before image of a relationship that differs
abbrev pub rel_image : ℕ × Option Rel → BeforeImage
rel_image e = (entity.Rel (record { 0 = e.0 }), option_map (λ rel. inr rel) e.1)
