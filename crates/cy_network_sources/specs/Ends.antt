-- Relationships that differ in their properties alone. (own)
use Rattle.std.specs.Prelude.{◌≡◌}
use Rattle.cy_graph.specs.declared.nodes.Rel.{Rel}

-- two values of a relationship have the same ends and the same type
pub record HaveSameEnds (old new : Rel) : Type 0 where
  pub source : old.source ≡ new.source
  pub target : old.target ≡ new.target
  pub kind : old.kind ≡ new.kind
