-- What operators of a chain have, and where one of them ends it.
use Rattle.std.specs.Prelude.{◌≡◌, ℕ, ◌<◌, List, [], ◌∷◌, ◌++◌, Option, drop, length}
use Rattle.cy_planner_algebra.specs.Plans as plan
use Rattle.cy_planner_algebra.specs.Plans.{Plan}
use Rattle.cy_network_sources.specs.Scans.{scan_column}
use Rattle.cy_network_parts.specs.Parts.{chain, IsWhole}

-- what operators have themselves, those of the last one first
abbrev pub own_of_all : {X : Type 0} → (Plan → List X) → List Plan → List X
own_of_all own [] = []
own_of_all own (p ∷ ps) = own_of_all own ps ++ own p

-- the first operator from one down that has no operator below it, or two
abbrev pub chain_end : Plan → Plan
chain_end plan.unit = plan.unit
chain_end plan.nodes = plan.nodes
chain_end (plan.rels types orientation) = plan.rels types orientation
chain_end (plan.join left right keys) = plan.join left right keys
chain_end (plan.outer left right keys test) = plan.outer left right keys test
chain_end (plan.semi left right keys keeping) = plan.semi left right keys keeping
chain_end (plan.lookup p column attribute) = chain_end p
chain_end (plan.filter p test) = chain_end p
chain_end (plan.all_different p columns) = chain_end p
chain_end (plan.project p outputs) = chain_end p
chain_end (plan.distinct p) = chain_end p
chain_end (plan.union left right) = plan.union left right

-- an operator that is whole stands at a place of a chain, and its rows name their entity in this column, if it is a scan
pub record IsWholeAt (ps : List Plan) (place : ℕ) (column : Option ℕ) : Type 0 where
  pub within : place < length ps
  pub end : Plan
  pub rest : drop place ps ≡ chain end
  pub named : column ≡ scan_column end
  pub whole : IsWhole end
