-- Scans of nodes that have the labels of the nodes in the second column.
use Rattle.std.proofs.Common.{◌≡◌, ℕ, Bool, true, false, cond, List, [], ◌∷◌, ◌++◌, Some, map, filter, length, refl, sym, ap, subst, ◌∙◌, arith}
use Rattle.std.specs.Prelude.{⊤}
use Rattle.std.specs.List.{AllByRecursion, list_any}
use Rattle.std.specs.Str.{bytes_eq}
use Rattle.cy_values.specs.declared.rows.Cell.{Cell}
use Rattle.cy_values.specs.declared.rows.Cell.TheVariants as cell
use Rattle.cy_trees.specs.Trees.{Expression, Name}
use Rattle.cy_graph.specs.declared.nodes.Node.{Node}
use Rattle.cy_planner_algebra.specs.declared.operators.Attribute.{Attribute}
use Rattle.cy_planner_algebra.specs.declared.operators.Attribute.TheVariants.{Labels}
use Rattle.cy_planner_algebra.specs.Expressions.{cell_at, holds, output_cell, projected}
use Rattle.cy_planner_algebra.specs.Plans as plan
use Rattle.cy_planner_algebra.specs.Plans.{Output, Plan}
use Rattle.cy_network_sources.specs.Scans.{if_this, kept, kept_at, scan_column, scan_parts}
use Rattle.cy_network_sources.specs.Attributes.{node_attribute}
use Rattle.cy_network_sources.specs.internal.Through.{node_made}
use Rattle.cy_network_relevance.specs.internal.Labelled.{Asks, HasLabels, IsLabelled, IsOne, IsSingle, LacksWithout, NamesNodes}

-- ---- lists

module _ {X : Type 0} (P : X → Type 0) where
  each_mapped : {Y : Type 0} (Q : Y → Type 0) (f : X → Y) → ((x : X) → P x → Q (f x)) → (xs : List X) → AllByRecursion P xs → AllByRecursion Q (map f xs)
  each_mapped Q f step [] each = tt
  each_mapped Q f step (x ∷ xs) each = (step x each.0, each_mapped Q f step xs each.1)

  each_filtered : (test : X → Bool) (xs : List X) → AllByRecursion P xs → AllByRecursion P (filter test xs)
  each_filtered test [] each = tt
  each_filtered test (x ∷ xs) each = by (each_filtered test xs each.1) (test x)
    where
      by : AllByRecursion P (filter test xs) → (b : Bool) → AllByRecursion P (cond b (x ∷ filter test xs) (filter test xs))
      by rest true = (each.0, rest)
      by rest false = rest

  none_filtered : (test : X → Bool) → ((x : X) → P x → test x ≡ false) → (xs : List X) → AllByRecursion P xs → filter test xs ≡ []
  none_filtered test fails [] each = refl
  none_filtered test fails (x ∷ xs) each = ap (λ b. cond b (x ∷ filter test xs) (filter test xs)) (fails x each.0) ∙ none_filtered test fails xs each.1

-- ---- scans of nodes

pub names_lookup : (p : Plan) (column : ℕ) (attribute : Attribute) → column ≡ 0 → NamesNodes p → NamesNodes (plan.lookup p column attribute)
names_lookup p column attribute first names = record { column = ap (λ n. if_this n (scan_column p)) first ∙ ap (if_this 0) names.column; leaf = names.leaf }

pub names_filter : (p : Plan) (test : Expression) → NamesNodes p → NamesNodes (plan.filter p test)
names_filter p test names = record { column = names.column; leaf = names.leaf }

pub names_project : (p : Plan) (outputs : List Output) → kept_at 0 outputs ≡ Some 0 → NamesNodes p → NamesNodes (plan.project p outputs)
names_project p outputs first names = record { column = ap (λ o. kept o outputs) names.column ∙ first; leaf = names.leaf }

-- ---- of one column

pub single_filter : (p : Plan) (test : Expression) → IsSingle p → IsSingle (plan.filter p test)
single_filter p test one = record {
  names = names_filter p test one.names;
  single = λ number node. each_filtered IsOne (holds test) (node_made (scan_parts p) number (Some node)) (one.single number node);
}

one_made : (outputs : List Output) → length outputs ≡ 1 → (row : List Cell) → IsOne (projected outputs row)
one_made [] one row = absurd (omega (arith, one))
one_made (o ∷ []) one row = (output_cell row o, refl)
one_made (o ∷ p ∷ os) one row = absurd (omega (arith, one))

anything : (xs : List (List Cell)) → AllByRecursion (λ row. ⊤) xs
anything [] = tt
anything (x ∷ xs) = (tt, anything xs)

pub single_project : (p : Plan) (outputs : List Output) → length outputs ≡ 1 → kept_at 0 outputs ≡ Some 0 → NamesNodes p → IsSingle (plan.project p outputs)
single_project p outputs one first names = record {
  names = names_project p outputs first names;
  single = λ number node.
      let below = node_made (scan_parts p) number (Some node) in
      each_mapped (λ row. ⊤) IsOne (projected outputs) (λ row any. one_made outputs one row) below (anything below);
}

-- ---- with labels

pub labelled_lookup : (p : Plan) (column : ℕ) (attribute : Attribute) → column ≡ 0 → attribute ≡ Labels → IsSingle p → HasLabels (plan.lookup p column attribute)
labelled_lookup p column attribute first is one = subst (λ (a : Attribute). HasLabels (plan.lookup p column a)) (sym is) (record {
  names = names_lookup p column Labels first one.names;
  labelled = λ number node.
      each_mapped IsOne (IsLabelled node) (λ row. row ++ cell.Value (node_attribute Labels (Some node)) ∷ []) (λ row only. (only.0, [], ap (λ (r : List Cell). r ++ cell.Value (node_attribute Labels (Some node)) ∷ []) only.1))
      (node_made (scan_parts p) number (Some node)) (one.single number node);
})

pub labelled_over : (p : Plan) (column : ℕ) (attribute : Attribute) → column ≡ 0 → HasLabels p → HasLabels (plan.lookup p column attribute)
labelled_over p column attribute first has = record {
  names = names_lookup p column attribute first has.names;
  labelled = λ number node.
      each_mapped (IsLabelled node) (IsLabelled node) (λ row. row ++ cell.Value (node_attribute attribute (Some node)) ∷ [])
      (λ row is. (is.0, is.1 ++ cell.Value (node_attribute attribute (Some node)) ∷ [], ap (λ (r : List Cell). r ++ cell.Value (node_attribute attribute (Some node)) ∷ []) is.2))
      (node_made (scan_parts p) number (Some node)) (has.labelled number node);
}

pub labelled_filter : (p : Plan) (test : Expression) → HasLabels p → HasLabels (plan.filter p test)
labelled_filter p test has = record {
  names = names_filter p test has.names;
  labelled = λ number node. each_filtered (IsLabelled node) (holds test) (node_made (scan_parts p) number (Some node)) (has.labelled number node);
}

-- a filter that asks for a label leaves out the nodes without it
module _ (label : Name) (test : Expression) (asks : Asks label test) (node : Node) (without : list_any (bytes_eq label) (map (λ l. l.0) node.labels) ≡ false) where
  fails : (row : List Cell) → IsLabelled node row → holds test row ≡ false
  fails row is = by (holds test row) refl
    where
      by : (b : Bool) → holds test row ≡ b → holds test row ≡ false
      by false fails_here = fails_here
      by true held =
          let has : list_any (bytes_eq label) (map (λ l. l.0) node.labels) ≡ true = asks row (map (λ l. l.0) node.labels) (ap (λ (r : List Cell). cell_at r 1) is.2) held in
          let wrong : true ≡ false = sym has ∙ without in
          absurd (cc)

pub needs_label : (p : Plan) (test : Expression) (label : Name) → HasLabels p → Asks label test → LacksWithout label (plan.filter p test)
needs_label p test label has asks = record {
  names = names_filter p test has.names;
  needed = λ number node without.
      none_filtered (IsLabelled node) (holds test) (fails label test asks node without) (node_made (scan_parts p) number (Some node)) (has.labelled number node);
}
