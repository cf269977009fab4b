-- What each part does but a few.
use Rattle.std.proofs.Common.{◌≡◌, ℕ, false, List, None, Option, refl, ◌∙◌}
use Rattle.cy_values.specs.declared.rows.Cell.{Cell}
use Rattle.cy_values.specs.declared.scalars.Value.{Value}
use Rattle.cy_planner_algebra.specs.declared.operators.Attribute.{Attribute}
use Rattle.cy_planner_algebra.specs.declared.operators.Operator.{Operator, roll-Operator}
use Rattle.cy_planner_algebra.specs.declared.operators.Operator.TheOpen.{Operator-F}
use Rattle.cy_planner_algebra.specs.declared.operators.Operator.TheVariants.{rolls-Nodes, rolls-Rels, rolls-Lookup, rolls-Filter, rolls-AllDifferent, rolls-Project}
use Rattle.cy_planner_algebra.specs.PlanModels.{plan_of}
use Rattle.cy_planner_algebra.proofs.Layers.{IsNoNodes, IsNoRels, IsNoLookup, IsNoFilter, IsNoAllDifferent, IsNoProject, by_layer, plan_from}
use Rattle.cy_network_sources.specs.Scans.{column_over}
use Rattle.cy_network_sources.specs.internal.Through.{made_by, reads_graph}

-- another part than these leaves the rows of an entity as they are
pub made_else : (part : Operator) (value_of : Attribute → Value) (rows : List (List Cell)) → IsNoLookup part → IsNoFilter part → IsNoAllDifferent part → IsNoProject part → made_by value_of (plan_of part) rows ≡ rows
made_else part value_of rows no_lookup no_filter no_different no_project = by_layer (λ p. made_by value_of p rows ≡ rows) part go
  where
    go : (layer : Operator-F Operator) → part ≡ roll-Operator layer → made_by value_of (plan_from layer) rows ≡ rows
    go (Operator-F.Lookup below column attribute) is = absurd (no_lookup below column attribute (is ∙ rolls-Lookup below column attribute))
    go (Operator-F.Filter below test) is = absurd (no_filter below test (is ∙ rolls-Filter below test))
    go (Operator-F.AllDifferent below columns) is = absurd (no_different below columns (is ∙ rolls-AllDifferent below columns))
    go (Operator-F.Project below outputs) is = absurd (no_project below outputs (is ∙ rolls-Project below outputs))
    go Operator-F.Unit is = refl
    go _ is = refl

-- only a look-up reads attributes
pub alike_else : (part : Operator) (value_of other : Attribute → Value) (rows : List (List Cell)) → IsNoLookup part → made_by value_of (plan_of part) rows ≡ made_by other (plan_of part) rows
alike_else part value_of other rows no_lookup = by_layer (λ p. made_by value_of p rows ≡ made_by other p rows) part go
  where
    go : (layer : Operator-F Operator) → part ≡ roll-Operator layer → made_by value_of (plan_from layer) rows ≡ made_by other (plan_from layer) rows
    go (Operator-F.Lookup below column attribute) is = absurd (no_lookup below column attribute (is ∙ rolls-Lookup below column attribute))
    go Operator-F.Unit is = refl
    go _ is = refl

-- another part names no entity
pub column_else : (part : Operator) (below : Option ℕ) → IsNoNodes part → IsNoRels part → IsNoLookup part → IsNoFilter part → IsNoAllDifferent part → IsNoProject part → column_over (plan_of part) below ≡ None
column_else part below no_nodes no_rels no_lookup no_filter no_different no_project = by_layer (λ p. column_over p below ≡ None) part go
  where
    go : (layer : Operator-F Operator) → part ≡ roll-Operator layer → column_over (plan_from layer) below ≡ None
    go Operator-F.Nodes is = absurd (no_nodes (is ∙ rolls-Nodes))
    go (Operator-F.Rels types orientation) is = absurd (no_rels types orientation (is ∙ rolls-Rels types orientation))
    go (Operator-F.Lookup below column attribute) is = absurd (no_lookup below column attribute (is ∙ rolls-Lookup below column attribute))
    go (Operator-F.Filter below test) is = absurd (no_filter below test (is ∙ rolls-Filter below test))
    go (Operator-F.AllDifferent below columns) is = absurd (no_different below columns (is ∙ rolls-AllDifferent below columns))
    go (Operator-F.Project below outputs) is = absurd (no_project below outputs (is ∙ rolls-Project below outputs))
    go Operator-F.Unit is = refl
    go _ is = refl

-- another part reads no graph
pub reads_else : (part : Operator) → IsNoNodes part → IsNoRels part → reads_graph (plan_of part) ≡ false
reads_else part no_nodes no_rels = by_layer (λ p. reads_graph p ≡ false) part go
  where
    go : (layer : Operator-F Operator) → part ≡ roll-Operator layer → reads_graph (plan_from layer) ≡ false
    go Operator-F.Nodes is = absurd (no_nodes (is ∙ rolls-Nodes))
    go (Operator-F.Rels types orientation) is = absurd (no_rels types orientation (is ∙ rolls-Rels types orientation))
    go Operator-F.Unit is = refl
    go _ is = refl
