-- What a change of a graph leaves as it is of a plan. (own; irrelevant updates: Blakeley, Coburn, Larson)
use Rattle.std.specs.Prelude.{◌≡◌, ◌⊎◌, ⊤, true, is_some}
use Rattle.cy_graph.specs.Graph.{Content}
use Rattle.cy_planner_algebra.specs.Meaning.{rows_of}
use Rattle.cy_planner_algebra.specs.Plans as plan
use Rattle.cy_planner_algebra.specs.Plans.{Plan}
use Rattle.cy_network_sources.specs.Scans.{scan_column}

-- an operator has the same rows on two graphs
abbrev pub HasSameRows : Content → Content → Plan → Type 0
HasSameRows before after p = rows_of before p ≡ rows_of after p

-- an operator is a scan, so that nothing is asked of the operators below it; or this is so of the one below it
abbrev pub IsScanOr : Plan → Type 0 → Type 0
IsScanOr p below = (is_some (scan_column p) ≡ true) ⊎ below

-- The operators of a plan have the same rows on two graphs: those of which a scan is made may have others, but not the scan.
abbrev pub IsUntouched : Content → Content → Plan → Type 0
IsUntouched before after plan.unit = ⊤
IsUntouched before after plan.nodes = HasSameRows before after plan.nodes
IsUntouched before after (plan.rels types orientation) = HasSameRows before after (plan.rels types orientation)
IsUntouched before after (plan.join left right keys) = IsUntouched before after left × IsUntouched before after right
IsUntouched before after (plan.outer left right keys test) = IsUntouched before after left × IsUntouched before after right
IsUntouched before after (plan.semi left right keys keeping) = IsUntouched before after left × IsUntouched before after right
IsUntouched before after (plan.lookup p column attribute) =
    HasSameRows before after (plan.lookup p column attribute) × IsScanOr (plan.lookup p column attribute) (IsUntouched before after p)
IsUntouched before after (plan.filter p test) = HasSameRows before after (plan.filter p test) × IsScanOr (plan.filter p test) (IsUntouched before after p)
IsUntouched before after (plan.all_different p columns) =
    HasSameRows before after (plan.all_different p columns) × IsScanOr (plan.all_different p columns) (IsUntouched before after p)
IsUntouched before after (plan.project p outputs) = HasSameRows before after (plan.project p outputs) × IsScanOr (plan.project p outputs) (IsUntouched before after p)
IsUntouched before after (plan.distinct p) = IsUntouched before after p
IsUntouched before after (plan.union left right) = IsUntouched before after left × IsUntouched before after right
