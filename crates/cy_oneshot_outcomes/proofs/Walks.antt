-- Relationships with nodes between them, and lists of relationships: a list that leads from a node to another one leads there by way
-- of certain nodes alone.
use Rattle.std.specs.FinMap.Entries as entries
use Rattle.std.proofs.Common.{◌≡◌, ℕ, zero, suc, ◌+◌, Bool, true, false, cond, ◌&&◌, List, [], ◌∷◌, ◌++◌, map, refl, sym, ap, ◌∙◌}
use Rattle.std.specs.Prelude.{◌==◌, sum_by, flat_map, zip}
use Rattle.std.specs.List.{list_any}
use Rattle.std.proofs.Math.Bool.{and-true}
use Rattle.std.proofs.lemmas.Bool.{and_parts}
use Rattle.cy_values.specs.declared.numbers.NodeId.{NodeId}
use Rattle.cy_values.specs.declared.numbers.RelId.{RelId}
use Rattle.cy_values.specs.declared.rows.Cell.{Cell}
use Rattle.cy_values.specs.declared.rows.Cell.TheVariants as cell
use Rattle.cy_values.proofs.Lists.{sum_of_none, sums_alike}
use Rattle.cy_trees.specs.Trees.{NodePattern, RelationshipPattern}
use Rattle.cy_graph.specs.Graph.{Content, node_order}
use Rattle.cy_graph.specs.declared.nodes.Node.{Node}
use Rattle.cy_graph.specs.declared.nodes.Rel.{Rel}
use Rattle.cy_oneshot_patterns.specs.Fits.{are_linked, leads, leads_on, relationships_of}
use Rattle.cy_oneshot_patterns.specs.Places.{Place, node, relationship, assignments}
use Rattle.cy_oneshot_outcomes.specs.Lengths.{any_node, single}
use Rattle.cy_oneshot_outcomes.proofs.Sums.{sum_exchanged, sum_map}
use Rattle.cy_oneshot_outcomes.proofs.OneEnd.{any_that_is, leads_to_one, sum_of_one}
use Rattle.cy_oneshot_outcomes.proofs.Pigeons.{lists_of, sum_longer}

-- the places between the ends of a step that is written out
abbrev pub between : RelationshipPattern → ℕ → List Place
between r zero = []
between r (suc zero) = relationship (single r) ∷ []
between r (suc (suc count)) = relationship (single r) ∷ node any_node ∷ between r (suc count)

abbrev pub numbers : Content → List RelId
numbers graph = map (λ (e : RelId × Rel). e.0) graph.rels

pub pulled_out : {A : Type 0} (b : Bool) (p : A → Bool) (f : A → ℕ) (xs : List A) → sum_by (λ x. cond (b && p x) (f x) 0) xs ≡ cond b (sum_by (λ x. cond (p x) (f x) 0) xs) 0
pulled_out true p f xs = refl
pulled_out false p f xs = sum_of_none xs

-- a node's place asks nothing of what stands before it
pub past_node : (graph : Content) (p : Place × Cell) (m : NodePattern) (c : Cell) (rest : List (Place × Cell)) → are_linked graph (p ∷ (node m, c) ∷ rest) ≡ are_linked graph ((node m, c) ∷ rest)
past_node graph p m c [] = refl
past_node graph p m c (q ∷ rest) = refl

-- the sum over the assignments of two places and others
sum_two : (graph : Content) (r : RelationshipPattern) (n : NodePattern) (others : List Place) (f : List Cell → ℕ)
    → sum_by f (assignments graph (relationship r ∷ node n ∷ others))
    ≡ sum_by (λ (e : RelId × Rel). sum_by (λ (m : NodeId × Node). sum_by (λ w. f (cell.Rel e.0 ∷ cell.Node m.0 ∷ w)) (assignments graph others)) graph.nodes) graph.rels
sum_two graph r n others f =
    sum_longer f (map (λ (e : RelId × Rel). cell.Rel e.0) graph.rels) (assignments graph (node n ∷ others))
    ∙ sum_map (λ c. sum_by (λ w. f (c ∷ w)) (assignments graph (node n ∷ others))) (λ (e : RelId × Rel). cell.Rel e.0) graph.rels
    ∙ sums_alike (λ (e : RelId × Rel). sum_by (λ w. f (cell.Rel e.0 ∷ w)) (assignments graph (node n ∷ others)))
    (λ (e : RelId × Rel). sum_by (λ (m : NodeId × Node). sum_by (λ w. f (cell.Rel e.0 ∷ cell.Node m.0 ∷ w)) (assignments graph others)) graph.nodes)
    (λ e. sum_longer (λ w. f (cell.Rel e.0 ∷ w)) (map (λ (m : NodeId × Node). cell.Node m.0) graph.nodes) (assignments graph others)
    ∙ sum_map (λ c. sum_by (λ w. f (cell.Rel e.0 ∷ c ∷ w)) (assignments graph others)) (λ (m : NodeId × Node). cell.Node m.0) graph.nodes) graph.rels

module _ (graph : Content) (rising : entries.is_sorted node_order graph.nodes ≡ true) (r : RelationshipPattern) (end : NodePattern) (y : NodeId) (there : list_any (λ (n : NodeId × Node). n.0.0 == y.0) graph.nodes ≡ true) where
  -- from a node by way of this many relationships and the nodes between them to the end
  abbrev pub is_walk : ℕ → NodePattern → NodeId → List Cell → Bool
  is_walk count start x w = are_linked graph ((node start, cell.Node x) ∷ (zip (between r count) w ++ (node end, cell.Node y) ∷ []))

  leads_last : (x : NodeId) (id : RelId) → (leads graph (single r) x id y && true) ≡ leads_on graph r x (id ∷ []) y
  leads_last x id = and-true (leads graph r x id y) ∙ sym (any_that_is (λ n. leads graph r x id n) y graph.nodes there)

  first_step : (count : ℕ) (start : NodePattern) (x : NodeId) (id : RelId) (n : NodeId) (w : List Cell)
      → is_walk (suc (suc count)) start x (cell.Rel id ∷ cell.Node n ∷ w) ≡ (leads graph r x id n && is_walk (suc count) any_node n w)
  first_step count start x id n w =
      ap (λ b. leads graph r x id n && b) (past_node graph (relationship (single r), cell.Rel id) any_node (cell.Node n) (zip (between r (suc count)) w ++ (node end, cell.Node y) ∷ []))

  pub walks : (count : ℕ) (f : List RelId → ℕ) (start : NodePattern) (x : NodeId)
      → sum_by (λ w. cond (is_walk (suc count) start x w) (f (flat_map relationships_of w)) 0) (assignments graph (between r (suc count)))
      ≡ sum_by (λ ids. cond (leads_on graph r x ids y) (f ids) 0) (lists_of (suc count) (numbers graph))
  walks zero f start x =
      sum_longer (λ w. cond (is_walk 1 start x w) (f (flat_map relationships_of w)) 0) (map (λ (e : RelId × Rel). cell.Rel e.0) graph.rels) ([] ∷ [])
      ∙ sum_map (λ c. sum_by (λ w. cond (is_walk 1 start x (c ∷ w)) (f (flat_map relationships_of (c ∷ w))) 0) ([] ∷ [])) (λ (e : RelId × Rel). cell.Rel e.0) graph.rels
      ∙ sums_alike (λ (e : RelId × Rel). 0 + cond (leads graph (single r) x e.0 y && true) (f (e.0 ∷ [])) 0) (λ (e : RelId × Rel). 0 + cond (leads_on graph r x (e.0 ∷ []) y) (f (e.0 ∷ [])) 0)
      (λ e. ap (λ b. 0 + cond b (f (e.0 ∷ [])) 0) (leads_last x e.0)) graph.rels
      ∙ sym (sum_map (λ id. sum_by (λ ids. cond (leads_on graph r x (id ∷ ids) y) (f (id ∷ ids)) 0) ([] ∷ [])) (λ (e : RelId × Rel). e.0) graph.rels)
      ∙ sym (sum_longer (λ ids. cond (leads_on graph r x ids y) (f ids) 0) (numbers graph) ([] ∷ []))
  walks (suc count) f start x =
      sum_two graph (single r) any_node (between r (suc count)) (λ w. cond (is_walk (suc (suc count)) start x w) (f (flat_map relationships_of w)) 0)
      ∙ sums_alike
      (λ (e : RelId × Rel). sum_by (λ (m : NodeId × Node). sum_by (λ w. cond (is_walk (suc (suc count)) start x (cell.Rel e.0 ∷ cell.Node m.0 ∷ w)) (f (e.0 ∷ flat_map relationships_of w)) 0) (assignments graph (between r (suc count)))) graph.nodes)
      (λ (e : RelId × Rel). sum_by (λ ids. cond (leads_on graph r x (e.0 ∷ ids) y) (f (e.0 ∷ ids)) 0) (lists_of (suc count) (numbers graph)))
      (λ e. after e.0 (λ n. walks count (λ ids. f (e.0 ∷ ids)) any_node n)) graph.rels
      ∙ sym (sum_map (λ id. sum_by (λ ids. cond (leads_on graph r x (id ∷ ids) y) (f (id ∷ ids)) 0) (lists_of (suc count) (numbers graph))) (λ (e : RelId × Rel). e.0) graph.rels)
      ∙ sym (sum_longer (λ ids. cond (leads_on graph r x ids y) (f ids) 0) (numbers graph) (lists_of (suc count) (numbers graph)))
    where
      by_way_of : (id : RelId) (n : NodeId)
          → (sum_by (λ w. cond (is_walk (suc count) any_node n w) (f (id ∷ flat_map relationships_of w)) 0) (assignments graph (between r (suc count)))
          ≡ sum_by (λ ids. cond (leads_on graph r n ids y) (f (id ∷ ids)) 0) (lists_of (suc count) (numbers graph)))
          → sum_by (λ w. cond (is_walk (suc (suc count)) start x (cell.Rel id ∷ cell.Node n ∷ w)) (f (id ∷ flat_map relationships_of w)) 0) (assignments graph (between r (suc count)))
          ≡ sum_by (λ ids. cond (leads graph r x id n && leads_on graph r n ids y) (f (id ∷ ids)) 0) (lists_of (suc count) (numbers graph))
      by_way_of id n rest =
          sums_alike (λ w. cond (is_walk (suc (suc count)) start x (cell.Rel id ∷ cell.Node n ∷ w)) (f (id ∷ flat_map relationships_of w)) 0)
          (λ w. cond (leads graph r x id n && is_walk (suc count) any_node n w) (f (id ∷ flat_map relationships_of w)) 0)
          (λ w. ap (λ b. cond b (f (id ∷ flat_map relationships_of w)) 0) (first_step count start x id n w)) (assignments graph (between r (suc count)))
          ∙ pulled_out (leads graph r x id n) (λ w. is_walk (suc count) any_node n w) (λ w. f (id ∷ flat_map relationships_of w)) (assignments graph (between r (suc count)))
          ∙ ap (λ s. cond (leads graph r x id n) s 0) rest
          ∙ sym (pulled_out (leads graph r x id n) (λ ids. leads_on graph r n ids y) (λ ids. f (id ∷ ids)) (lists_of (suc count) (numbers graph)))

      after : (id : RelId)
          → ((n : NodeId) → sum_by (λ w. cond (is_walk (suc count) any_node n w) (f (id ∷ flat_map relationships_of w)) 0) (assignments graph (between r (suc count)))
          ≡ sum_by (λ ids. cond (leads_on graph r n ids y) (f (id ∷ ids)) 0) (lists_of (suc count) (numbers graph)))
          → sum_by (λ (m : NodeId × Node). sum_by (λ w. cond (is_walk (suc (suc count)) start x (cell.Rel id ∷ cell.Node m.0 ∷ w)) (f (id ∷ flat_map relationships_of w)) 0) (assignments graph (between r (suc count)))) graph.nodes
          ≡ sum_by (λ ids. cond (leads_on graph r x (id ∷ ids) y) (f (id ∷ ids)) 0) (lists_of (suc count) (numbers graph))
      after id rest =
          sums_alike (λ (m : NodeId × Node). sum_by (λ w. cond (is_walk (suc (suc count)) start x (cell.Rel id ∷ cell.Node m.0 ∷ w)) (f (id ∷ flat_map relationships_of w)) 0) (assignments graph (between r (suc count))))
          (λ (m : NodeId × Node). sum_by (λ ids. cond (leads graph r x id m.0 && leads_on graph r m.0 ids y) (f (id ∷ ids)) 0) (lists_of (suc count) (numbers graph)))
          (λ m. by_way_of id m.0 (rest m.0)) graph.nodes
          ∙ sum_exchanged (λ (m : NodeId × Node) ids. cond (leads graph r x id m.0 && leads_on graph r m.0 ids y) (f (id ∷ ids)) 0) graph.nodes (lists_of (suc count) (numbers graph))
          ∙ sums_alike (λ ids. sum_by (λ (m : NodeId × Node). cond (leads graph r x id m.0 && leads_on graph r m.0 ids y) (f (id ∷ ids)) 0) graph.nodes)
          (λ ids. cond (leads_on graph r x (id ∷ ids) y) (f (id ∷ ids)) 0)
          (λ ids. sum_of_one (λ (m : NodeId × Node). leads graph r x id m.0 && leads_on graph r m.0 ids y)
          (λ m n h k. leads_to_one graph r x id m.0 n.0 (and_parts (leads graph r x id m.0) (leads_on graph r m.0 ids y) h).0 (and_parts (leads graph r x id n.0) (leads_on graph r n.0 ids y) k).0)
          (f (id ∷ ids)) graph.nodes rising) (lists_of (suc count) (numbers graph))
