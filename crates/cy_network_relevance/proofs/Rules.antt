-- What is known of a part by what is known of the parts below it.
use Rattle.std.proofs.Common.{◌≡◌, ℕ, suc, ◌+◌, ◌-◌, ◌^◌, ◌≤◌, min, arith, Bool, true, false, cond, List, [], ◌∷◌, ◌++◌, Option, None, Some, refl, sym, ap, subst, ◌∙◌, map, filter, is_some, not, inl}
use Rattle.std.specs.Prelude.{if◌then◌else◌, slice_get}
use Rattle.std.specs.Option.{option_copied, option_map}
use Rattle.std.proofs.lemmas.Bool.{false≢true}
use Rattle.cy_values.specs.declared.rows.Cell.TheVariants as cell
use Rattle.cy_trees.specs.Trees.{Expression, Name, null, boolean, integer, text, variable, property, has_labels, unary, binary, comparison, list, case, call, call_star}
use Rattle.cy_trees.specs.declared.expressions.BinaryOperator.TheVariants.{In}
use Rattle.cy_graph.specs.declared.nodes.Node.{Node}
use Rattle.cy_graph.specs.declared.nodes.Rel.{Rel}
use Rattle.cy_index.specs.Index.{SightState}
use Rattle.cy_expr.specs.Graphs.{are_different, has_type}
use Rattle.cy_planner_algebra.specs.declared.operators.Attribute.{Attribute}
use Rattle.cy_planner_algebra.specs.declared.operators.Attribute.TheVariants.{Labels}
use Rattle.cy_planner_algebra.specs.declared.operators.Orientation.{Orientation}
use Rattle.cy_planner_algebra.specs.Expressions.{holds, projected, relationships_at}
use Rattle.cy_planner_algebra.specs.Meaning.{ways}
use Rattle.cy_planner_algebra.specs.Plans as plan
use Rattle.cy_planner_algebra.specs.Plans.{Output, Plan, computed, gathered}
use Rattle.cy_network_relevance.specs.Lists.{column_alone}
use Rattle.cy_network_sources.specs.Scans.{if_this, is_column, is_this, kept, kept_at, scan_parts}
use Rattle.cy_network_sources.specs.Attributes.{node_attribute, rel_attribute}
use Rattle.cy_network_sources.specs.internal.Rows.{rel_rows}
use Rattle.cy_network_sources.specs.Ends.{HaveSameEnds}
use Rattle.cy_network_sources.specs.internal.Through.{IsNeeded, leaf_of, node_made, rel_made}
use Rattle.cy_network_sources.proofs.NeededLabels.{tests_label}
use Rattle.cy_network_sources.proofs.SameEnds.{rows_alike}
use Rattle.cy_network_relevance.specs.declared.entities.Entity.{Entity}
use Rattle.cy_network_relevance.specs.declared.entities.Entity.TheVariants as entity
use Rattle.cy_network_relevance.specs.internal.Kept.{IsAbsent, IsUnchanged, KeepsRows, NoRows, NodeKept, RelKept}

-- ---- what a part over a scan makes of the rows of one entity

node_lookup : (p : Plan) (column : ℕ) (attribute : Attribute) (number : ℕ) (node : Option Node)
    → node_made (scan_parts (plan.lookup p column attribute)) number node ≡ map (λ row. row ++ cell.Value (node_attribute attribute node) ∷ []) (node_made (scan_parts p) number node)
node_lookup p column attribute number None = refl
node_lookup p column attribute number (Some node) = refl

node_filter : (p : Plan) (test : Expression) (number : ℕ) (node : Option Node) → node_made (scan_parts (plan.filter p test)) number node ≡ filter (holds test) (node_made (scan_parts p) number node)
node_filter p test number None = refl
node_filter p test number (Some node) = refl

node_different : (p : Plan) (columns : List ℕ) (number : ℕ) (node : Option Node)
    → node_made (scan_parts (plan.all_different p columns)) number node ≡ filter (λ row. are_different (relationships_at columns row)) (node_made (scan_parts p) number node)
node_different p columns number None = refl
node_different p columns number (Some node) = refl

node_project : (p : Plan) (outputs : List Output) (number : ℕ) (node : Option Node) → node_made (scan_parts (plan.project p outputs)) number node ≡ map (projected outputs) (node_made (scan_parts p) number node)
node_project p outputs number None = refl
node_project p outputs number (Some node) = refl

module _ (types : List Name) (orientation : Orientation) where
  rel_lookup : (p : Plan) (column : ℕ) (attribute : Attribute) (number : ℕ) (rel : Option Rel)
      → rel_made types orientation (scan_parts (plan.lookup p column attribute)) number rel
      ≡ map (λ row. row ++ cell.Value (rel_attribute attribute rel) ∷ []) (rel_made types orientation (scan_parts p) number rel)
  rel_lookup p column attribute number None = refl
  rel_lookup p column attribute number (Some rel) = refl

  rel_filter : (p : Plan) (test : Expression) (number : ℕ) (rel : Option Rel)
      → rel_made types orientation (scan_parts (plan.filter p test)) number rel ≡ filter (holds test) (rel_made types orientation (scan_parts p) number rel)
  rel_filter p test number None = refl
  rel_filter p test number (Some rel) = refl

  rel_different : (p : Plan) (columns : List ℕ) (number : ℕ) (rel : Option Rel)
      → rel_made types orientation (scan_parts (plan.all_different p columns)) number rel
      ≡ filter (λ row. are_different (relationships_at columns row)) (rel_made types orientation (scan_parts p) number rel)
  rel_different p columns number None = refl
  rel_different p columns number (Some rel) = refl

  rel_project : (p : Plan) (outputs : List Output) (number : ℕ) (rel : Option Rel)
      → rel_made types orientation (scan_parts (plan.project p outputs)) number rel ≡ map (projected outputs) (rel_made types orientation (scan_parts p) number rel)
  rel_project p outputs number None = refl
  rel_project p outputs number (Some rel) = refl

-- ---- the same rows, over the same rows

module _ (old new : Option Node) where
  pub node_over_lookup : (p : Plan) (column : ℕ) (attribute : Attribute) → NodeKept old new p → node_attribute attribute old ≡ node_attribute attribute new → NodeKept old new (plan.lookup p column attribute)
  node_over_lookup p column attribute kept same leaf number =
      node_lookup p column attribute number old
      ∙ (λ i. map (λ row. row ++ cell.Value (same i) ∷ []) (kept leaf number i))
      ∙ sym (node_lookup p column attribute number new)

  pub node_over_filter : (p : Plan) (test : Expression) → NodeKept old new p → NodeKept old new (plan.filter p test)
  node_over_filter p test kept leaf number = node_filter p test number old ∙ ap (filter (holds test)) (kept leaf number) ∙ sym (node_filter p test number new)

  pub node_over_different : (p : Plan) (columns : List ℕ) → NodeKept old new p → NodeKept old new (plan.all_different p columns)
  node_over_different p columns kept leaf number =
      node_different p columns number old ∙ ap (filter (λ row. are_different (relationships_at columns row))) (kept leaf number) ∙ sym (node_different p columns number new)

  pub node_over_project : (p : Plan) (outputs : List Output) → NodeKept old new p → NodeKept old new (plan.project p outputs)
  node_over_project p outputs kept leaf number = node_project p outputs number old ∙ ap (map (projected outputs)) (kept leaf number) ∙ sym (node_project p outputs number new)

module _ (old new : Option Rel) where
  pub rel_over_lookup : (p : Plan) (column : ℕ) (attribute : Attribute) → RelKept old new p → rel_attribute attribute old ≡ rel_attribute attribute new → RelKept old new (plan.lookup p column attribute)
  rel_over_lookup p column attribute kept same types orientation leaf number =
      rel_lookup types orientation p column attribute number old
      ∙ (λ i. map (λ row. row ++ cell.Value (same i) ∷ []) (kept types orientation leaf number i))
      ∙ sym (rel_lookup types orientation p column attribute number new)

  pub rel_over_filter : (p : Plan) (test : Expression) → RelKept old new p → RelKept old new (plan.filter p test)
  rel_over_filter p test kept types orientation leaf number =
      rel_filter types orientation p test number old ∙ ap (filter (holds test)) (kept types orientation leaf number) ∙ sym (rel_filter types orientation p test number new)

  pub rel_over_different : (p : Plan) (columns : List ℕ) → RelKept old new p → RelKept old new (plan.all_different p columns)
  rel_over_different p columns kept types orientation leaf number =
      rel_different types orientation p columns number old
      ∙ ap (filter (λ row. are_different (relationships_at columns row))) (kept types orientation leaf number)
      ∙ sym (rel_different types orientation p columns number new)

  pub rel_over_project : (p : Plan) (outputs : List Output) → RelKept old new p → RelKept old new (plan.project p outputs)
  rel_over_project p outputs kept types orientation leaf number =
      rel_project types orientation p outputs number old ∙ ap (map (projected outputs)) (kept types orientation leaf number) ∙ sym (rel_project types orientation p outputs number new)

-- ---- no rows, over no rows

none_lookup : (e : Entity) (p : Plan) (column : ℕ) (attribute : Attribute) → NoRows e p → NoRows e (plan.lookup p column attribute)
none_lookup (entity.Node old new) p column attribute none = λ leaf number. (
  node_lookup p column attribute number (option_copied old) ∙ ap (map (λ row. row ++ cell.Value (node_attribute attribute (option_copied old)) ∷ [])) (none leaf number).0,
  node_lookup p column attribute number (option_copied new) ∙ ap (map (λ row. row ++ cell.Value (node_attribute attribute (option_copied new)) ∷ [])) (none leaf number).1,
)
none_lookup (entity.Rel old new) p column attribute none = λ types orientation leaf number. (
  rel_lookup types orientation p column attribute number (option_copied old) ∙ ap (map (λ row. row ++ cell.Value (rel_attribute attribute (option_copied old)) ∷ [])) (none types orientation leaf number).0,
  rel_lookup types orientation p column attribute number (option_copied new) ∙ ap (map (λ row. row ++ cell.Value (rel_attribute attribute (option_copied new)) ∷ [])) (none types orientation leaf number).1,
)

none_filter : (e : Entity) (p : Plan) (test : Expression) → NoRows e p → NoRows e (plan.filter p test)
none_filter (entity.Node old new) p test none = λ leaf number. (
  node_filter p test number (option_copied old) ∙ ap (filter (holds test)) (none leaf number).0,
  node_filter p test number (option_copied new) ∙ ap (filter (holds test)) (none leaf number).1,
)
none_filter (entity.Rel old new) p test none = λ types orientation leaf number. (
  rel_filter types orientation p test number (option_copied old) ∙ ap (filter (holds test)) (none types orientation leaf number).0,
  rel_filter types orientation p test number (option_copied new) ∙ ap (filter (holds test)) (none types orientation leaf number).1,
)

none_project : (e : Entity) (p : Plan) (outputs : List Output) → NoRows e p → NoRows e (plan.project p outputs)
none_project (entity.Node old new) p outputs none = λ leaf number. (
  node_project p outputs number (option_copied old) ∙ ap (map (projected outputs)) (none leaf number).0,
  node_project p outputs number (option_copied new) ∙ ap (map (projected outputs)) (none leaf number).1,
)
none_project (entity.Rel old new) p outputs none = λ types orientation leaf number. (
  rel_project types orientation p outputs number (option_copied old) ∙ ap (map (projected outputs)) (none types orientation leaf number).0,
  rel_project types orientation p outputs number (option_copied new) ∙ ap (map (projected outputs)) (none types orientation leaf number).1,
)

-- where there are none, they are the same
pub none_kept : (e : Entity) (p : Plan) → NoRows e p → KeepsRows e p
none_kept (entity.Node old new) p none = λ leaf number. (none leaf number).0 ∙ sym (none leaf number).1
none_kept (entity.Rel old new) p none = λ types orientation leaf number. (none types orientation leaf number).0 ∙ sym (none types orientation leaf number).1

-- ---- the rules by which the parts of a plan are gone through

pub absent_lookup : (e : Entity) (p : Plan) (column : ℕ) (attribute : Attribute) → column ≡ 0 → IsAbsent e p → IsAbsent e (plan.lookup p column attribute)
absent_lookup e p column attribute first absent =
    subst (λ n. IsAbsent e (plan.lookup p n attribute)) (sym first) (ap (if_this 0) absent.0, none_lookup e p 0 attribute absent.1)

pub absent_filter : (e : Entity) (p : Plan) (test : Expression) → IsAbsent e p → IsAbsent e (plan.filter p test)
absent_filter e p test absent = (absent.0, none_filter e p test absent.1)

pub absent_project : (e : Entity) (p : Plan) (outputs : List Output) → kept_at 0 outputs ≡ Some 0 → IsAbsent e p → IsAbsent e (plan.project p outputs)
absent_project e p outputs first absent = (ap (λ (o : Option ℕ). kept o outputs) absent.0 ∙ first, none_project e p outputs absent.1)

pub unchanged_absent_lookup : (e : Entity) (p : Plan) (column : ℕ) (attribute : Attribute) → column ≡ 0 → IsAbsent e p → IsUnchanged e (plan.lookup p column attribute)
unchanged_absent_lookup e p column attribute first absent =
    let none = absent_lookup e p column attribute first absent in inl (ap is_some none.0, none_kept e (plan.lookup p column attribute) none.1)

pub unchanged_absent_filter : (e : Entity) (p : Plan) (test : Expression) → IsAbsent e (plan.filter p test) → IsUnchanged e (plan.filter p test)
unchanged_absent_filter e p test absent = inl (ap is_some absent.0, none_kept e (plan.filter p test) absent.1)

-- ---- the columns that a projection makes

-- one that a projection makes is a column alone where this one stands alone in it
pub alone_is : (k : ℕ) (o : Output) → is_column k o ≡ is_this k (column_alone o)
alone_is k (gathered columns) = refl
alone_is k (computed (variable v)) = refl
alone_is k (computed null) = refl
alone_is k (computed (boolean b)) = refl
alone_is k (computed (integer n)) = refl
alone_is k (computed (text t)) = refl
alone_is k (computed (property e key)) = refl
alone_is k (computed (has_labels e labels)) = refl
alone_is k (computed (unary operator e)) = refl
alone_is k (computed (binary operator a b)) = refl
alone_is k (computed (comparison e links)) = refl
alone_is k (computed (list es)) = refl
alone_is k (computed (case arms e)) = refl
alone_is k (computed (call name distinct es)) = refl
alone_is k (computed (call_star name)) = refl

-- the first of them is the first column below it
pub first_kept : {A : Type 0} (f : A → Output) (outputs : List A) (o : A) → Some o ≡ slice_get outputs 0 → is_column 0 (f o) ≡ true → kept_at 0 (map f outputs) ≡ Some 0
first_kept f [] o at is = absurd (cc)
first_kept f (x ∷ outputs) o at is =
    let same : o ≡ x = cc in
    ap (λ (b : Bool). if b then Some 0 else option_map suc (kept_at 0 (map f outputs))) (ap (λ y. is_column 0 (f y)) (sym same) ∙ is)

-- ---- leaves

pub no_rels : {X : Type 0} (types : List Name) (orientation : Orientation) → plan.nodes ≡ plan.rels types orientation → X
no_rels types orientation is = cc is

pub no_nodes : {X : Type 0} (types : List Name) (orientation : Orientation) → plan.rels types orientation ≡ plan.nodes → X
no_nodes types orientation is = cc is

-- a relationship with the same ends before and after
pub both_rels : (old new : Rel) → HaveSameEnds old new → (types : List Name) (orientation : Orientation) → RelKept (Some old) (Some new) (plan.rels types orientation)
both_rels old new same types orientation other_types other_orientation leaf number = rows_alike old new same other_types other_orientation number

-- a relationship of another type
pub of_another : (types : List Name) (rel : Rel) (b : Bool) → b ≡ has_type types rel → not b ≡ true → (orientation : Orientation) (number : ℕ) → rel_rows types orientation number (Some rel) ≡ []
of_another types rel true is other orientation number = absurd (false≢true other)
of_another types rel false is other orientation number = ap (λ b. cond b (ways orientation (record { 0 = number }, rel)) []) (sym is)

pub none_of_types : (types : List Name) (rel : Option Rel) → ((orientation : Orientation) (number : ℕ) → rel_rows types orientation number rel ≡ []) → (orientation : Orientation)
    → (other_types : List Name) (other_orientation : Orientation) → plan.rels types orientation ≡ plan.rels other_types other_orientation → (number : ℕ)
    → rel_made other_types other_orientation (scan_parts (plan.rels types orientation)) number rel ≡ []
none_of_types types None none orientation other_types other_orientation leaf number = refl
none_of_types types (Some rel) none orientation other_types other_orientation leaf number =
    let same : types ≡ other_types = cc leaf in
    subst (λ (ts : List Name). rel_rows ts other_orientation number (Some rel) ≡ []) same (none other_orientation number)

-- ---- the label of a filter

pub left_out : (e : Entity) (below : Plan) (test labels : Expression) (label : Name) → below ≡ plan.lookup plan.nodes 0 Labels → test ≡ binary In (text label) labels → is_column 1 (computed labels) ≡ true
    → ((p : Plan) → IsNeeded label (scan_parts p) → leaf_of p ≡ plan.nodes → NoRows e p) → IsAbsent e (plan.filter below test)
left_out e below test labels label is_below is_test second none =
    subst (λ (q : Plan). IsAbsent e (plan.filter q test)) (sym is_below) (
      refl,
      none (plan.filter (plan.lookup plan.nodes 0 Labels) test)
          (tests_label label (plan.filter (plan.lookup plan.nodes 0 Labels) test) (plan.lookup plan.nodes 0 Labels) plan.nodes (plan.lookup plan.nodes 0 Labels) plan.nodes 0 labels
          (ap (plan.filter (plan.lookup plan.nodes 0 Labels)) is_test) refl refl second) refl,
    )

-- ---- of the loops over the touched entities

pub one_read : (old new : SightState) → new ≡ record old { reads = min (old.reads + 1) (2 ^ 64 - 1) } → new.reads ≤ old.reads + 1
one_read old new is = let reads : new.reads ≡ min (old.reads + 1) (2 ^ 64 - 1) = ap (λ (s : SightState). s.reads) is in omega (arith, reads)
