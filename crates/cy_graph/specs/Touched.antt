-- What a change touched (own).
use Rattle.std.specs.Prelude.{◌≡◌, ◌≢◌, List, [], ◌∷◌, Contains, Option, ◌⊎◌}
use Rattle.std.proofs.Common.{inl, inr}
use Rattle.std.specs.List.{AllByRecursion}
use Rattle.std.specs.Option.{option_map}
use Rattle.cy_values.specs.declared.numbers.Entity.{Entity}
use Rattle.cy_values.specs.declared.numbers.Entity.TheVariants as entity
use Rattle.cy_graph.specs.declared.nodes.Node.{Node}
use Rattle.cy_graph.specs.declared.nodes.Rel.{Rel}
use Rattle.cy_graph.specs.declared.touched.Touched.{Touched}
use Rattle.cy_graph.specs.declared.touched.Was.{Was}
use Rattle.cy_graph.specs.declared.touched.Was.TheVariants as was
use Rattle.cy_graph.specs.Graph.{State, node_at, rel_at}

-- the value that an entity had: a node, or a relationship
abbrev pub Old : Type 0
Old = Node ⊎ Rel

-- the before image of an entity: the entity, with the value that it had, if it was there
abbrev pub BeforeImage : Type 0
BeforeImage = Entity × Option Old

abbrev pub old_value : Was → Old
old_value (was.Node node) = inl node.now
old_value (was.Rel rel) = inr rel.now

abbrev pub before_image : Touched → BeforeImage
before_image t = (t.entity, option_map old_value t.was)

-- the value of an entity in a graph
abbrev pub value_of : Entity → State → Option Old
value_of (entity.Node id) state = option_map (λ node. inl node) (node_at id state)
value_of (entity.Rel id) state = option_map (λ rel. inr rel) (rel_at id state)

-- the entity differs between the two graphs, and had this value in the first
abbrev pub Differs : State → State → BeforeImage → Type 0
Differs before now e = (e.1 ≡ value_of e.0 before) × (value_of e.0 before ≢ value_of e.0 now)

-- each entity differs from those after it
abbrev pub AreApart : List BeforeImage → Type 0
AreApart [] = Unit {0}
AreApart (e ∷ es) = AllByRecursion (λ (f : BeforeImage). e.0 ≢ f.0) es × AreApart es

-- the before images are of exactly the entities that differ between the two graphs, each once, with their values in the first
pub record AreTouched (before now : State) (touched : List BeforeImage) : Type 0 where
  pub once : AreApart touched
  pub differ : (e : BeforeImage) → Contains touched e → Differs before now e
  pub all : (e : Entity) → value_of e before ≢ value_of e now → Contains touched (e, value_of e before)
