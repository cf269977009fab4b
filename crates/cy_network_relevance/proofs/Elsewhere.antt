-- What is known of each part but a few: what is known of the parts below it.
use Rattle.std.proofs.Common.{◌≡◌, ℕ, Bool, false, List, [], ◌∷◌, refl, ◌∙◌, inr}
use Rattle.std.specs.Prelude.{◌||◌, ⊤}
use Rattle.std.specs.Option.{option_and_then, option_map_or}
use Rattle.cy_planner_algebra.specs.declared.operators.Operator.{Operator, roll-Operator}
use Rattle.cy_planner_algebra.specs.declared.operators.Operator.TheOpen.{Operator-F}
use Rattle.cy_planner_algebra.specs.declared.operators.Operator.TheVariants.{rolls-Unit, rolls-Nodes, rolls-Rels, rolls-Join, rolls-Outer, rolls-Lookup, rolls-Project, rolls-Distinct, rolls-Union}
use Rattle.cy_planner_algebra.specs.Plans.{Output, Plan}
use Rattle.cy_planner_algebra.specs.PlanModels.{plan_of}
use Rattle.cy_planner_algebra.specs.internal.Below.{below, sifted}
use Rattle.cy_planner_algebra.proofs.Layers.{IsNoUnit, IsNoNodes, IsNoRels, IsNoJoin, IsNoOuter, IsNoLookup, IsNoProject, IsNoDistinct, IsNoUnion, by_layer, plan_from}
use Rattle.cy_network_sources.specs.Work.{looks_at_graph}
use Rattle.cy_network_relevance.specs.declared.entities.Entity.{Entity}
use Rattle.cy_network_relevance.specs.internal.Kept.{IsUnchanged}
use Rattle.cy_network_relevance.specs.Lists.{least_named, most_named}
use Rattle.cy_network_relevance.specs.Trails.{has_key, has_links, has_lists, is_key_column, tells_joins}

-- this is so of the one part below, or of one of both
abbrev pub either : (Plan → Bool) → List Plan → Bool
either so [] = false
either so (p ∷ []) = so p
either so (p ∷ q ∷ more) = so p || so q

-- and of both
abbrev pub Both : (Plan → Type 0) → List Plan → Type 0
Both Holds [] = ⊤
Both Holds (p ∷ []) = Holds p
Both Holds (p ∷ q ∷ more) = Holds p × Holds q

-- the first three columns of another part hold a relationship and its ends where those of the part that it sifts do
pub links_else : (part : Operator) → IsNoRels part → IsNoJoin part → IsNoLookup part → IsNoProject part → has_links (plan_of part) ≡ option_map_or has_links (sifted (plan_of part)) false
links_else part no_rels no_join no_lookup no_project = by_layer (λ p. has_links p ≡ option_map_or has_links (sifted p) false) part go
  where
    go : (layer : Operator-F Operator) → part ≡ roll-Operator layer → has_links (plan_from layer) ≡ option_map_or has_links (sifted (plan_from layer)) false
    go (Operator-F.Rels types orientation) is = absurd (no_rels types orientation (is ∙ rolls-Rels types orientation))
    go (Operator-F.Join left right keys) is = absurd (no_join left right keys (is ∙ rolls-Join left right keys))
    go (Operator-F.Lookup below column attribute) is = absurd (no_lookup below column attribute (is ∙ rolls-Lookup below column attribute))
    go (Operator-F.Project below outputs) is = absurd (no_project below outputs (is ∙ rolls-Project below outputs))
    go Operator-F.Unit is = refl
    go _ is = refl

pub lists_else : (part : Operator) → IsNoLookup part → IsNoProject part → IsNoUnion part → has_lists (plan_of part) ≡ option_map_or has_lists (sifted (plan_of part)) false
lists_else part no_lookup no_project no_union = by_layer (λ p. has_lists p ≡ option_map_or has_lists (sifted p) false) part go
  where
    go : (layer : Operator-F Operator) → part ≡ roll-Operator layer → has_lists (plan_from layer) ≡ option_map_or has_lists (sifted (plan_from layer)) false
    go (Operator-F.Lookup below column attribute) is = absurd (no_lookup below column attribute (is ∙ rolls-Lookup below column attribute))
    go (Operator-F.Project below outputs) is = absurd (no_project below outputs (is ∙ rolls-Project below outputs))
    go (Operator-F.Union left right) is = absurd (no_union left right (is ∙ rolls-Union left right))
    go Operator-F.Unit is = refl
    go _ is = refl

-- a projection tells the rows of another part than a join apart where it does so with those of the part that it sifts
pub joins_else : (part : Operator) (outputs : List Output) → IsNoJoin part → tells_joins (plan_of part) outputs ≡ option_map_or (λ q. tells_joins q outputs) (sifted (plan_of part)) false
joins_else part outputs no_join = by_layer (λ p. tells_joins p outputs ≡ option_map_or (λ q. tells_joins q outputs) (sifted p) false) part go
  where
    go : (layer : Operator-F Operator) → part ≡ roll-Operator layer → tells_joins (plan_from layer) outputs ≡ option_map_or (λ q. tells_joins q outputs) (sifted (plan_from layer)) false
    go (Operator-F.Join left right keys) is = absurd (no_join left right keys (is ∙ rolls-Join left right keys))
    go Operator-F.Unit is = refl
    go _ is = refl

-- the key of another part is that of the part that it sifts
pub key_column_else : (part : Operator) (column : ℕ) → IsNoNodes part → IsNoRels part → IsNoJoin part → IsNoLookup part → IsNoProject part → is_key_column (plan_of part) column ≡ option_map_or (λ q. is_key_column q column) (sifted (plan_of part)) false
key_column_else part column no_nodes no_rels no_join no_lookup no_project = by_layer (λ p. is_key_column p column ≡ option_map_or (λ q. is_key_column q column) (sifted p) false) part go
  where
    go : (layer : Operator-F Operator) → part ≡ roll-Operator layer → is_key_column (plan_from layer) column ≡ option_map_or (λ q. is_key_column q column) (sifted (plan_from layer)) false
    go Operator-F.Nodes is = absurd (no_nodes (is ∙ rolls-Nodes))
    go (Operator-F.Rels types orientation) is = absurd (no_rels types orientation (is ∙ rolls-Rels types orientation))
    go (Operator-F.Join left right keys) is = absurd (no_join left right keys (is ∙ rolls-Join left right keys))
    go (Operator-F.Lookup below column attribute) is = absurd (no_lookup below column attribute (is ∙ rolls-Lookup below column attribute))
    go (Operator-F.Project below outputs) is = absurd (no_project below outputs (is ∙ rolls-Project below outputs))
    go Operator-F.Unit is = refl
    go _ is = refl

pub key_else : (part : Operator) → IsNoUnit part → IsNoNodes part → IsNoRels part → IsNoJoin part → IsNoLookup part → IsNoProject part → has_key (plan_of part) ≡ option_map_or has_key (sifted (plan_of part)) false
key_else part no_unit no_nodes no_rels no_join no_lookup no_project = by_layer (λ p. has_key p ≡ option_map_or has_key (sifted p) false) part go
  where
    go : (layer : Operator-F Operator) → part ≡ roll-Operator layer → has_key (plan_from layer) ≡ option_map_or has_key (sifted (plan_from layer)) false
    go Operator-F.Unit is = absurd (no_unit (is ∙ rolls-Unit))
    go Operator-F.Nodes is = absurd (no_nodes (is ∙ rolls-Nodes))
    go (Operator-F.Rels types orientation) is = absurd (no_rels types orientation (is ∙ rolls-Rels types orientation))
    go (Operator-F.Join left right keys) is = absurd (no_join left right keys (is ∙ rolls-Join left right keys))
    go (Operator-F.Lookup below column attribute) is = absurd (no_lookup below column attribute (is ∙ rolls-Lookup below column attribute))
    go (Operator-F.Project below outputs) is = absurd (no_project below outputs (is ∙ rolls-Project below outputs))
    go (Operator-F.Outer left right keys test) is = refl
    go _ is = refl

-- the cells of another part name as many relationships as those of the part that it sifts
pub most_else : (part : Operator) (column : ℕ) → IsNoRels part → IsNoJoin part → IsNoOuter part → IsNoLookup part → IsNoDistinct part → IsNoProject part → IsNoUnion part → most_named (plan_of part) column ≡ option_and_then (λ q. most_named q column) (sifted (plan_of part))
most_else part column no_rels no_join no_outer no_lookup no_distinct no_project no_union = by_layer (λ p. most_named p column ≡ option_and_then (λ q. most_named q column) (sifted p)) part go
  where
    go : (layer : Operator-F Operator) → part ≡ roll-Operator layer → most_named (plan_from layer) column ≡ option_and_then (λ q. most_named q column) (sifted (plan_from layer))
    go (Operator-F.Rels types orientation) is = absurd (no_rels types orientation (is ∙ rolls-Rels types orientation))
    go (Operator-F.Join left right keys) is = absurd (no_join left right keys (is ∙ rolls-Join left right keys))
    go (Operator-F.Outer left right keys test) is = absurd (no_outer left right keys test (is ∙ rolls-Outer left right keys test))
    go (Operator-F.Lookup below column attribute) is = absurd (no_lookup below column attribute (is ∙ rolls-Lookup below column attribute))
    go (Operator-F.Distinct below) is = absurd (no_distinct below (is ∙ rolls-Distinct below))
    go (Operator-F.Project below outputs) is = absurd (no_project below outputs (is ∙ rolls-Project below outputs))
    go (Operator-F.Union left right) is = absurd (no_union left right (is ∙ rolls-Union left right))
    go Operator-F.Unit is = refl
    go _ is = refl

pub least_else : (part : Operator) (column : ℕ) → IsNoRels part → IsNoJoin part → IsNoOuter part → IsNoLookup part → IsNoDistinct part → IsNoProject part → IsNoUnion part → least_named (plan_of part) column ≡ option_map_or (λ q. least_named q column) (sifted (plan_of part)) 0
least_else part column no_rels no_join no_outer no_lookup no_distinct no_project no_union = by_layer (λ p. least_named p column ≡ option_map_or (λ q. least_named q column) (sifted p) 0) part go
  where
    go : (layer : Operator-F Operator) → part ≡ roll-Operator layer → least_named (plan_from layer) column ≡ option_map_or (λ q. least_named q column) (sifted (plan_from layer)) 0
    go (Operator-F.Rels types orientation) is = absurd (no_rels types orientation (is ∙ rolls-Rels types orientation))
    go (Operator-F.Join left right keys) is = absurd (no_join left right keys (is ∙ rolls-Join left right keys))
    go (Operator-F.Outer left right keys test) is = absurd (no_outer left right keys test (is ∙ rolls-Outer left right keys test))
    go (Operator-F.Lookup below column attribute) is = absurd (no_lookup below column attribute (is ∙ rolls-Lookup below column attribute))
    go (Operator-F.Distinct below) is = absurd (no_distinct below (is ∙ rolls-Distinct below))
    go (Operator-F.Project below outputs) is = absurd (no_project below outputs (is ∙ rolls-Project below outputs))
    go (Operator-F.Union left right) is = absurd (no_union left right (is ∙ rolls-Union left right))
    go Operator-F.Unit is = refl
    go _ is = refl

-- another part looks at the graph where a part below it does
pub looks_else : (part : Operator) → IsNoNodes part → IsNoRels part → IsNoLookup part → looks_at_graph (plan_of part) ≡ either looks_at_graph (below (plan_of part))
looks_else part no_nodes no_rels no_lookup = by_layer (λ p. looks_at_graph p ≡ either looks_at_graph (below p)) part go
  where
    go : (layer : Operator-F Operator) → part ≡ roll-Operator layer → looks_at_graph (plan_from layer) ≡ either looks_at_graph (below (plan_from layer))
    go Operator-F.Nodes is = absurd (no_nodes (is ∙ rolls-Nodes))
    go (Operator-F.Rels types orientation) is = absurd (no_rels types orientation (is ∙ rolls-Rels types orientation))
    go (Operator-F.Lookup below column attribute) is = absurd (no_lookup below column attribute (is ∙ rolls-Lookup below column attribute))
    go Operator-F.Unit is = refl
    go _ is = refl

-- another part is unchanged where the parts below it are
pub unchanged_else : (part : Operator) (e : Entity) → IsNoNodes part → IsNoRels part → IsNoLookup part → Both (IsUnchanged e) (below (plan_of part)) → IsUnchanged e (plan_of part)
unchanged_else part e no_nodes no_rels no_lookup = by_layer (λ p. Both (IsUnchanged e) (below p) → IsUnchanged e p) part go
  where
    go : (layer : Operator-F Operator) → part ≡ roll-Operator layer → Both (IsUnchanged e) (below (plan_from layer)) → IsUnchanged e (plan_from layer)
    go Operator-F.Nodes is = absurd (no_nodes (is ∙ rolls-Nodes))
    go (Operator-F.Rels types orientation) is = absurd (no_rels types orientation (is ∙ rolls-Rels types orientation))
    go (Operator-F.Lookup below column attribute) is = absurd (no_lookup below column attribute (is ∙ rolls-Lookup below column attribute))
    go Operator-F.Unit is = λ each. each
    go (Operator-F.Filter below test) is = λ each. inr each
    go _ is = λ each. each
