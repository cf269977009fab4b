-- What the steps of the memories and the reads of the graph may be at the operators of a plan, as these promise it. (own)
use Rattle.std.specs.Prelude.{ℕ, ◌+◌, ◌*◌, ◌||◌, Bool, true, false, List, if◌then◌else◌, length}
use Rattle.cy_values.specs.declared.rows.Cell.{Cell}
use Rattle.cy_planner_algebra.specs.Plans as plan
use Rattle.cy_planner_algebra.specs.Plans.{Plan}
use Rattle.cy_network_operators.specs.OperatorCosts.{changed_pairs, changed_rows}
use Rattle.cy_network_sources.specs.Changes.{Touches}
use Rattle.cy_network_sources.specs.LookupCosts.{naming_rows}

-- how many steps the memories of an operator take at most, where the rows of each operator before and after are given
abbrev pub own_steps : (Plan → List (List Cell)) → (Plan → List (List Cell)) → Touches → Plan → ℕ
own_steps rows rows_now touches plan.unit = 0
own_steps rows rows_now touches plan.nodes = 0
own_steps rows rows_now touches (plan.rels types orientation) = 0
own_steps rows rows_now touches (plan.join left right keys) =
    changed_rows (rows left) (rows_now left) + changed_rows (rows right) (rows_now right) + 2 * changed_pairs keys (rows left) (rows_now left) (rows right) (rows_now right)
own_steps rows rows_now touches (plan.outer left right keys test) =
    5 * (changed_rows (rows left) (rows_now left) + changed_rows (rows right) (rows_now right) + changed_pairs keys (rows left) (rows_now left) (rows right) (rows_now right))
own_steps rows rows_now touches (plan.semi left right keys keeping) =
    5 * (changed_rows (rows left) (rows_now left) + changed_rows (rows right) (rows_now right) + changed_pairs keys (rows left) (rows_now left) (rows right) (rows_now right))
own_steps rows rows_now touches (plan.lookup p column attribute) = length touches.nodes + length touches.rels + naming_rows touches column (rows p) (rows_now p)
own_steps rows rows_now touches (plan.filter p test) = 0
own_steps rows rows_now touches (plan.all_different p columns) = 0
own_steps rows rows_now touches (plan.project p outputs) = 2 * changed_rows (rows p) (rows_now p)
own_steps rows rows_now touches (plan.distinct p) = 0
own_steps rows rows_now touches (plan.union left right) = 2 * (changed_rows (rows left) (rows_now left) + changed_rows (rows right) (rows_now right))

-- how many entities it reads at most
abbrev pub own_reads : (Plan → List (List Cell)) → (Plan → List (List Cell)) → Touches → Plan → ℕ
own_reads rows rows_now touches plan.unit = 0
own_reads rows rows_now touches plan.nodes = length touches.nodes
own_reads rows rows_now touches (plan.rels types orientation) = length touches.rels
own_reads rows rows_now touches (plan.join left right keys) = 0
own_reads rows rows_now touches (plan.outer left right keys test) = 0
own_reads rows rows_now touches (plan.semi left right keys keeping) = 0
own_reads rows rows_now touches (plan.lookup p column attribute) = changed_rows (rows p) (rows_now p) + length touches.nodes + length touches.rels
own_reads rows rows_now touches (plan.filter p test) = 0
own_reads rows rows_now touches (plan.all_different p columns) = 0
own_reads rows rows_now touches (plan.project p outputs) = 0
own_reads rows rows_now touches (plan.distinct p) = 0
own_reads rows rows_now touches (plan.union left right) = 0

-- what a number of each operator comes to in a plan
abbrev pub in_all : (Plan → ℕ) → Plan → ℕ
in_all own plan.unit = own plan.unit
in_all own plan.nodes = own plan.nodes
in_all own (plan.rels types orientation) = own (plan.rels types orientation)
in_all own (plan.join left right keys) = in_all own left + in_all own right + own (plan.join left right keys)
in_all own (plan.outer left right keys test) = in_all own left + in_all own right + own (plan.outer left right keys test)
in_all own (plan.semi left right keys keeping) = in_all own left + in_all own right + own (plan.semi left right keys keeping)
in_all own (plan.lookup p column attribute) = in_all own p + own (plan.lookup p column attribute)
in_all own (plan.filter p test) = in_all own p + own (plan.filter p test)
in_all own (plan.all_different p columns) = in_all own p + own (plan.all_different p columns)
in_all own (plan.project p outputs) = in_all own p + own (plan.project p outputs)
in_all own (plan.distinct p) = in_all own p + own (plan.distinct p)
in_all own (plan.union left right) = in_all own left + in_all own right + own (plan.union left right)

-- how many steps the memories of all operators of a plan take at most
abbrev pub all_steps : (Plan → List (List Cell)) → (Plan → List (List Cell)) → Touches → Plan → ℕ
all_steps rows rows_now touches = in_all (own_steps rows rows_now touches)

-- how many entities all operators of a plan read at most
abbrev pub all_reads : (Plan → List (List Cell)) → (Plan → List (List Cell)) → Touches → Plan → ℕ
all_reads rows rows_now touches = in_all (own_reads rows rows_now touches)

-- some operator of a plan looks at the graph
abbrev pub looks_at_graph : Plan → Bool
looks_at_graph plan.unit = false
looks_at_graph plan.nodes = true
looks_at_graph (plan.rels types orientation) = true
looks_at_graph (plan.join left right keys) = looks_at_graph left || looks_at_graph right
looks_at_graph (plan.outer left right keys test) = looks_at_graph left || looks_at_graph right
looks_at_graph (plan.semi left right keys keeping) = looks_at_graph left || looks_at_graph right
looks_at_graph (plan.lookup p column attribute) = true
looks_at_graph (plan.filter p test) = looks_at_graph p
looks_at_graph (plan.all_different p columns) = looks_at_graph p
looks_at_graph (plan.project p outputs) = looks_at_graph p
looks_at_graph (plan.distinct p) = looks_at_graph p
looks_at_graph (plan.union left right) = looks_at_graph left || looks_at_graph right

-- how many entities are read at most to tell whether a change concerns a plan
abbrev pub asked_reads : Touches → Plan → ℕ
asked_reads touches p = if looks_at_graph p then length touches.nodes + length touches.rels else 0
