-- The relationship at a node that has the least number.
use Rattle.std.proofs.Common.{◌≡◌, ℕ, ◌<◌, Bool, true, false, cond, eqb, map, filter, List, [], ◌∷◌, Option, Some, None, IsSome, IsTrue, refl, ap, ◌∙◌, arith}
use Rattle.std.specs.Prelude.{slice_get, ◌||◌, ltb, if◌then◌else◌}
use Rattle.std.specs.List.{AllByRecursion}
use Rattle.std.specs.Ordering.{is_lt}
use Rattle.std.specs.FinMap.Entries as entries
use Rattle.std.proofs.lemmas.Bool.{and_parts}
use Rattle.std.proofs.lemmas.Bool.Decides.{nat_tests}
use Rattle.cy_values.specs.declared.numbers.NodeId.{NodeId}
use Rattle.cy_values.specs.declared.numbers.RelId.{RelId}
use Rattle.cy_graph.specs.declared.nodes.Node.{Node}
use Rattle.cy_graph.specs.declared.nodes.Rel.{Rel}
use Rattle.cy_graph.specs.Graph.{rel_order, rels_with}
use Rattle.cy_graph.specs.internal.Ends.{rels_from, rels_into}
use Rattle.cy_graph.specs.Model.{rels_of}
use Rattle.cy_graph.specs.internal.Slots.{value_under}
use Rattle.cy_graph.proofs.Graphs.{EndsIn}

-- the lesser of two numbers, of those that are there
abbrev pub lesser : Option RelId → Option RelId → Option RelId
lesser None b = b
lesser (Some a) None = Some a
lesser (Some a) (Some b) = Some (if ltb a.0 b.0 then a else b)

abbrev first : List RelId → Option RelId
first ids = slice_get ids 0

same_alone : (k : RelId) → lesser (Some k) (Some k) ≡ Some k
same_alone k = elim (ltb k.0 k.0) as (λ b. Some (if b then k else k) ≡ Some k) [ true ↦ refl | false ↦ refl ]

lesser_left : (k : RelId) (ids : List RelId) → AllByRecursion (λ (y : RelId). k.0 < y.0) ids → lesser (Some k) (first ids) ≡ Some k
lesser_left k [] all = refl
lesser_left k (y ∷ ys) all =
    let lt = all.0 in
    let here : ltb k.0 y.0 ≡ true = grind (arith, nat_tests) in
    ap (λ b. Some (if b then k else y)) here

lesser_right : (k : RelId) (ids : List RelId) → AllByRecursion (λ (y : RelId). k.0 < y.0) ids → lesser (first ids) (Some k) ≡ Some k
lesser_right k [] all = refl
lesser_right k (y ∷ ys) all =
    let lt = all.0 in
    let here : ltb y.0 k.0 ≡ false = grind (arith, nat_tests) in
    ap (λ b. Some (if b then y else k)) here

pub is_below : (k m : RelId) → is_lt (rel_order k m) ≡ true → k.0 < m.0
is_below k m h = grind (arith, nat_tests)

-- what is picked of later relationships has later numbers
later : (test : RelId × Rel → Bool) (k : RelId) (es : List (RelId × Rel)) → entries.below_all rel_order k es ≡ true → AllByRecursion (λ (y : RelId). k.0 < y.0) (map (λ (e : RelId × Rel). e.0) (filter test es))
later test k [] below = tt
later test k (e ∷ es) below =
    let parts = and_parts _ _ below in
    let rest = later test k es parts.1 in
    elim (test e) as (λ b. AllByRecursion (λ (y : RelId). k.0 < y.0) (map (λ (f : RelId × Rel). f.0) (cond b (e ∷ filter test es) (filter test es)))) [ true ↦ (is_below k e.0 parts.0, rest) | false ↦ rest ]

-- the first of those at either end is the lesser of the first ones at each
pub least_first : (node : NodeId) (es : List (RelId × Rel)) → IsTrue (entries.is_sorted rel_order es) → lesser (first (rels_from node es)) (first (rels_into node es)) ≡ first (rels_with node es)
least_first node [] up = refl
least_first node (e ∷ es) up =
    let parts = and_parts _ _ up in
    let rest = least_first node es parts.1 in
    let later_out = later (λ x. eqb node.0 x.1.source.0) e.0 es parts.0 in
    let later_into = later (λ x. eqb node.0 x.1.target.0) e.0 es parts.0 in
    elim (eqb node.0 e.1.source.0) as (λ a. lesser (first (map (λ (x : RelId × Rel). x.0) (cond a (e ∷ filter (λ x. eqb node.0 x.1.source.0) es) (filter (λ x. eqb node.0 x.1.source.0) es))))
    (first (map (λ (x : RelId × Rel). x.0) (cond (eqb node.0 e.1.target.0) (e ∷ filter (λ x. eqb node.0 x.1.target.0) es) (filter (λ x. eqb node.0 x.1.target.0) es))))
    ≡ first (map (λ (x : RelId × Rel). x.0) (cond (a || eqb node.0 e.1.target.0) (e ∷ filter (λ x. eqb node.0 x.1.source.0 || eqb node.0 x.1.target.0) es) (filter (λ x. eqb node.0 x.1.source.0 || eqb node.0 x.1.target.0) es)))) [
      | true ↦ elim (eqb node.0 e.1.target.0) as (λ b. lesser (Some e.0) (first (map (λ (x : RelId × Rel). x.0) (cond b (e ∷ filter (λ x. eqb node.0 x.1.target.0) es) (filter (λ x. eqb node.0 x.1.target.0) es)))) ≡ Some e.0) [
        | true ↦ same_alone e.0
        | false ↦ lesser_left e.0 (rels_into node es) later_into
      ]
      | false ↦ elim (eqb node.0 e.1.target.0) as (λ b. lesser (first (rels_from node es)) (first (map (λ (x : RelId × Rel). x.0) (cond b (e ∷ filter (λ x. eqb node.0 x.1.target.0) es) (filter (λ x. eqb node.0 x.1.target.0) es))))
          ≡ first (map (λ (x : RelId × Rel). x.0) (cond b (e ∷ filter (λ x. eqb node.0 x.1.source.0 || eqb node.0 x.1.target.0) es) (filter (λ x. eqb node.0 x.1.source.0 || eqb node.0 x.1.target.0) es)))) [
            | true ↦ lesser_right e.0 (rels_from node es) later_out
            | false ↦ rest
          ]
    ]

pub least_is : (node : NodeId) (es : List (RelId × Rel)) → IsTrue (entries.is_sorted rel_order es) → (out into : Option RelId) → out ≡ first (rels_from node es) → into ≡ first (rels_into node es) → lesser out into ≡ first (rels_with node es)
least_is node es up out into out_is into_is = ap (λ o. lesser o into) out_is ∙ ap (lesser (first (rels_from node es))) into_is ∙ least_first node es up

-- where there is none, the node is no end of any
pub ends_left : (node : NodeId) (nodes : List (ℕ × Node)) (without : List (ℕ × Node)) → ((k : ℕ) → eqb node.0 k ≡ false → IsSome (value_under k nodes) → IsSome (value_under k without)) → (es : List (ℕ × Rel))
    → first (rels_with node (rels_of es)) ≡ None → AllByRecursion (λ (e : ℕ × Rel). EndsIn nodes e.1) es → AllByRecursion (λ (e : ℕ × Rel). EndsIn without e.1) es
ends_left node nodes without stay [] none all = tt
ends_left node nodes without stay (e ∷ es) none all =
    elim (eqb node.0 e.1.source.0) as (λ a. eqb node.0 e.1.source.0 ≡ a
    → first (map (λ (x : RelId × Rel). x.0) (cond (a || eqb node.0 e.1.target.0) ((record { 0 = e.0 }, e.1) ∷ filter (λ x. eqb node.0 x.1.source.0 || eqb node.0 x.1.target.0) (rels_of es)) (filter (λ x. eqb node.0 x.1.source.0 || eqb node.0 x.1.target.0) (rels_of es)))) ≡ None
    → AllByRecursion (λ (f : ℕ × Rel). EndsIn without f.1) (e ∷ es)) [
      | true ↦ λ s no. cc
      | false ↦ λ s no.
          elim (eqb node.0 e.1.target.0) as (λ b. eqb node.0 e.1.target.0 ≡ b
          → first (map (λ (x : RelId × Rel). x.0) (cond b ((record { 0 = e.0 }, e.1) ∷ filter (λ x. eqb node.0 x.1.source.0 || eqb node.0 x.1.target.0) (rels_of es)) (filter (λ x. eqb node.0 x.1.source.0 || eqb node.0 x.1.target.0) (rels_of es)))) ≡ None
          → AllByRecursion (λ (f : ℕ × Rel). EndsIn without f.1) (e ∷ es)) [
            | true ↦ λ t nothing. cc
            | false ↦ λ t later. ((stay e.1.source.0 s all.0.0, stay e.1.target.0 t all.0.1), ends_left node nodes without stay es later all.1)
          ] refl no
    ] refl none
