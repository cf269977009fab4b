-- What the operators may do at the parts of a plan is within its cost.
use Rattle.std.proofs.Common.{◌≡◌, ℕ, ◌+◌, ◌*◌, ◌≤◌, Bool, true, false, cond, ◌||◌, List, [], ◌∷◌, ◌++◌, length, arith}
use Rattle.std.specs.Prelude.{sum_by}
use Rattle.std.proofs.lemmas.List.Sums.{sum_by-cons, sum_by-append}
use Rattle.cy_network_memory.proofs.RowLists.{within_itself}
use Rattle.cy_graph.specs.Graph.{Content}
use Rattle.cy_planner_algebra.specs.declared.operators.KeyColumns.{KeyColumns}
use Rattle.cy_planner_algebra.specs.Plans as plan
use Rattle.cy_planner_algebra.specs.Plans.{Plan}
use Rattle.cy_planner_algebra.specs.Parts.{parts}
use Rattle.cy_planner_algebra.specs.Meaning.{rows_of}
use Rattle.cy_network_operators.specs.OperatorCosts.{changed_pairs}
use Rattle.cy_network_sources.specs.Changes.{Touches}
use Rattle.cy_network_sources.specs.LookupCosts.{naming_rows}
use Rattle.cy_network_sources.specs.Costs.{changed, cost, part_cost, touched_entities}
use Rattle.cy_network_sources.specs.Work.{all_reads, all_steps, asked_reads, in_all, looks_at_graph, own_reads, own_steps}

-- ---- what a number of each part comes to in a plan is its sum over the parts

alone : (own : Plan → ℕ) (p : Plan) → own p ≡ sum_by own (p ∷ [])
alone own p = let whole = sum_by-cons own p [] in omega (arith, whole)

one_more : (own : Plan → ℕ) (p : Plan) (ps : List Plan) (n : ℕ) → n ≡ sum_by own ps → n + own p ≡ sum_by own (p ∷ ps)
one_more own p ps n is = let whole = sum_by-cons own p ps in omega (arith, is, whole)

two_more : (own : Plan → ℕ) (p : Plan) (ps qs : List Plan) (m n : ℕ) → m ≡ sum_by own ps → n ≡ sum_by own qs → m + n + own p ≡ sum_by own (p ∷ ps ++ qs)
two_more own p ps qs m n one two = let whole = sum_by-cons own p (ps ++ qs) in let both = sum_by-append own ps qs in omega (arith, one, two, whole, both)

pub over_parts : (own : Plan → ℕ) (p : Plan) → in_all own p ≡ sum_by own (parts p)
over_parts own plan.unit = alone own plan.unit
over_parts own plan.nodes = alone own plan.nodes
over_parts own (plan.rels types orientation) = alone own (plan.rels types orientation)
over_parts own (plan.join left right keys) = two_more own (plan.join left right keys) (parts left) (parts right) _ _ (over_parts own left) (over_parts own right)
over_parts own (plan.outer left right keys test) = two_more own (plan.outer left right keys test) (parts left) (parts right) _ _ (over_parts own left) (over_parts own right)
over_parts own (plan.semi left right keys keeping) = two_more own (plan.semi left right keys keeping) (parts left) (parts right) _ _ (over_parts own left) (over_parts own right)
over_parts own (plan.lookup p column attribute) = one_more own (plan.lookup p column attribute) (parts p) _ (over_parts own p)
over_parts own (plan.filter p test) = one_more own (plan.filter p test) (parts p) _ (over_parts own p)
over_parts own (plan.all_different p columns) = one_more own (plan.all_different p columns) (parts p) _ (over_parts own p)
over_parts own (plan.project p outputs) = one_more own (plan.project p outputs) (parts p) _ (over_parts own p)
over_parts own (plan.distinct p) = one_more own (plan.distinct p) (parts p) _ (over_parts own p)
over_parts own (plan.union left right) = two_more own (plan.union left right) (parts left) (parts right) _ _ (over_parts own left) (over_parts own right)

-- ---- each part is within its cost

joins : (l r p : ℕ) → (l + r + 2 * p) + 0 ≤ 5 * (l + r + p)
joins l r p = omega arith

outers : (l r p : ℕ) → 5 * (l + r + p) + 0 ≤ 5 * (l + r + p)
outers l r p = omega arith

lookups : (n m k c : ℕ) → (n + m + k) + (c + n + m) ≤ 5 * ((n + m) + c + k)
lookups n m k c = omega arith

projections : (c : ℕ) → 2 * c + 0 ≤ 5 * c
projections c = omega arith

unions : (l r : ℕ) → 2 * (l + r) + 0 ≤ 5 * (l + r)
unions l r = omega arith

node_reads : (n m : ℕ) → 0 + n ≤ 5 * (n + m)
node_reads n m = omega arith

rel_reads : (n m : ℕ) → 0 + m ≤ 5 * (n + m)
rel_reads n m = omega arith

nothing : (n : ℕ) → 0 + 0 ≤ 5 * n
nothing n = omega arith

-- ---- a sum that is within another one, part by part

sums_within : {A : Type 0} (f g h : A → ℕ) → ((x : A) → f x + g x ≤ 5 * h x) → (xs : List A) → sum_by f xs + sum_by g xs ≤ 5 * sum_by h xs
sums_within f g h within [] = omega arith
sums_within f g h within (x ∷ xs) =
    let rest = sums_within f g h within xs in
    let own = within x in
    let fs = sum_by-cons f x xs in
    let gs = sum_by-cons g x xs in
    let hs = sum_by-cons h x xs in
    omega (arith, rest, own, fs, gs, hs)

root : (steps reads asked costs changed all_of_steps all_of_reads : ℕ) → all_of_steps ≡ steps → all_of_reads ≡ reads → asked ≤ costs → steps + reads ≤ 5 * costs → all_of_steps + (asked + all_of_reads) ≤ 16 * (costs + changed)
root steps reads asked costs changed all_of_steps all_of_reads one two few within = omega (arith, one, two, few, within)

-- ---- what is read once where a part looks at the graph

module _ (few : ℕ) (f : Plan → ℕ) where
  abbrev Asked : Bool → List Plan → Type 0
  Asked looks ps = cond looks few 0 ≤ sum_by f ps

  -- one part more, and the parts of two
  asked_more : (looks : Bool) (p : Plan) (ps : List Plan) → Asked looks ps → Asked looks (p ∷ ps)
  asked_more looks p ps within = let whole = sum_by-cons f p ps in omega (arith, whole, within)

  asked_both : (one other : Bool) (p : Plan) (ps qs : List Plan) → Asked one ps → Asked other qs → Asked (one || other) (p ∷ ps ++ qs)
  asked_both true other p ps qs within more = let whole = sum_by-cons f p (ps ++ qs) in let both = sum_by-append f ps qs in omega (arith, whole, both, within)
  asked_both false other p ps qs within more = let whole = sum_by-cons f p (ps ++ qs) in let both = sum_by-append f ps qs in omega (arith, whole, both, more)

  asked_here : (p : Plan) (ps : List Plan) → few ≤ f p → Asked true (p ∷ ps)
  asked_here p ps within = let whole = sum_by-cons f p ps in omega (arith, whole, within)

lookup_reads : (n c k : ℕ) → n ≤ n + c + k
lookup_reads n c k = omega arith

module _ (touches : Touches) (before after : Content) where
  abbrev few : Plan → ℕ
  few p = changed before after p

  abbrev pairs : Plan → Plan → List KeyColumns → ℕ
  pairs left right keys = changed_pairs keys (rows_of before left) (rows_of after left) (rows_of before right) (rows_of after right)

  part_within : (p : Plan) → own_steps (rows_of before) (rows_of after) touches p + own_reads (rows_of before) (rows_of after) touches p ≤ 5 * part_cost touches before after p
  part_within plan.unit = nothing 0
  part_within plan.nodes = node_reads (length touches.nodes) (length touches.rels)
  part_within (plan.rels types orientation) = rel_reads (length touches.nodes) (length touches.rels)
  part_within (plan.join left right keys) = joins (few left) (few right) (pairs left right keys)
  part_within (plan.outer left right keys test) = outers (few left) (few right) (pairs left right keys)
  part_within (plan.semi left right keys keeping) = outers (few left) (few right) (pairs left right keys)
  part_within (plan.lookup p column attribute) = lookups (length touches.nodes) (length touches.rels) (naming_rows touches column (rows_of before p) (rows_of after p)) (few p)
  part_within (plan.filter p test) = nothing (few p)
  part_within (plan.all_different p columns) = nothing (few p)
  part_within (plan.project p outputs) = projections (few p)
  part_within (plan.distinct p) = nothing (few p)
  part_within (plan.union left right) = unions (few left) (few right)

  abbrev costs : Plan → ℕ
  costs = part_cost touches before after

  asked_within : (p : Plan) → asked_reads touches p ≤ sum_by costs (parts p)
  asked_within plan.unit = omega arith
  asked_within plan.nodes = asked_here (touched_entities touches) costs plan.nodes [] (within_itself (touched_entities touches))
  asked_within (plan.rels types orientation) = asked_here (touched_entities touches) costs (plan.rels types orientation) [] (within_itself (touched_entities touches))
  asked_within (plan.join left right keys) =
      asked_both (touched_entities touches) costs (looks_at_graph left) (looks_at_graph right) (plan.join left right keys) (parts left) (parts right) (asked_within left) (asked_within right)
  asked_within (plan.outer left right keys test) =
      asked_both (touched_entities touches) costs (looks_at_graph left) (looks_at_graph right) (plan.outer left right keys test) (parts left) (parts right) (asked_within left) (asked_within right)
  asked_within (plan.semi left right keys keeping) =
      asked_both (touched_entities touches) costs (looks_at_graph left) (looks_at_graph right) (plan.semi left right keys keeping) (parts left) (parts right) (asked_within left) (asked_within right)
  asked_within (plan.lookup p column attribute) =
      asked_here (touched_entities touches) costs (plan.lookup p column attribute) (parts p)
      (lookup_reads (touched_entities touches) (few p) (naming_rows touches column (rows_of before p) (rows_of after p)))
  asked_within (plan.filter p test) = asked_more (touched_entities touches) costs (looks_at_graph p) (plan.filter p test) (parts p) (asked_within p)
  asked_within (plan.all_different p columns) = asked_more (touched_entities touches) costs (looks_at_graph p) (plan.all_different p columns) (parts p) (asked_within p)
  asked_within (plan.project p outputs) = asked_more (touched_entities touches) costs (looks_at_graph p) (plan.project p outputs) (parts p) (asked_within p)
  asked_within (plan.distinct p) = asked_more (touched_entities touches) costs (looks_at_graph p) (plan.distinct p) (parts p) (asked_within p)
  asked_within (plan.union left right) =
      asked_both (touched_entities touches) costs (looks_at_graph left) (looks_at_graph right) (plan.union left right) (parts left) (parts right) (asked_within left) (asked_within right)

  work_within : (p : Plan) → all_steps (rows_of before) (rows_of after) touches p + (asked_reads touches p + all_reads (rows_of before) (rows_of after) touches p) ≤ 16 * cost touches before after p
  work_within p =
      root (sum_by (own_steps (rows_of before) (rows_of after) touches) (parts p)) (sum_by (own_reads (rows_of before) (rows_of after) touches) (parts p))
      (asked_reads touches p) (sum_by (part_cost touches before after) (parts p)) (few p)
      (all_steps (rows_of before) (rows_of after) touches p) (all_reads (rows_of before) (rows_of after) touches p)
      (over_parts (own_steps (rows_of before) (rows_of after) touches) p) (over_parts (own_reads (rows_of before) (rows_of after) touches) p) (asked_within p)
      (sums_within (own_steps (rows_of before) (rows_of after) touches) (own_reads (rows_of before) (rows_of after) touches) (part_cost touches before after) part_within (parts p))

pub all_within : (touches : Touches) (before after : Content) (p : Plan)
    → all_steps (rows_of before) (rows_of after) touches p + (asked_reads touches p + all_reads (rows_of before) (rows_of after) touches p) ≤ 16 * cost touches before after p
all_within touches before after p = work_within touches before after p
