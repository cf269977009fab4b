-- What an entity whose bits are apart from those of a mask leaves as it is of a part, by what it leaves of the parts below it.
use Rattle.std.proofs.Common.{◌≡◌, ℕ, false, List, [], ◌∷◌, ◌++◌, Option, None, Some, map, filter, is_some, refl, sym, ap, subst, ◌∙◌, inl, inr}
use Rattle.cy_values.specs.declared.rows.Cell.TheVariants as cell
use Rattle.cy_trees.specs.Trees.{Expression, Name}
use Rattle.cy_graph.specs.declared.nodes.Node.{Node}
use Rattle.cy_graph.specs.declared.nodes.Rel.{Rel}
use Rattle.cy_planner_algebra.specs.declared.operators.Attribute.{Attribute}
use Rattle.cy_planner_algebra.specs.declared.operators.Attribute.TheVariants.{Labels, Property, RelType}
use Rattle.cy_planner_algebra.specs.declared.operators.Keeping.{Keeping}
use Rattle.cy_planner_algebra.specs.declared.operators.KeyColumns.{KeyColumns}
use Rattle.cy_planner_algebra.specs.declared.operators.Orientation.{Orientation}
use Rattle.cy_planner_algebra.specs.Expressions.{holds, projected}
use Rattle.cy_planner_algebra.specs.Plans as plan
use Rattle.cy_planner_algebra.specs.Plans.{Output, Plan}
use Rattle.cy_network_sources.specs.Attributes.{node_attribute, rel_attribute}
use Rattle.cy_network_sources.specs.Scans.{if_this, kept, kept_at, scan_column, scan_parts}
use Rattle.cy_network_sources.specs.internal.Rows.{rel_rows}
use Rattle.cy_network_sources.specs.internal.Through.{node_made, rel_made}
use Rattle.cy_network_relevance.specs.internal.Kept.{NodeKept, RelKept}
use Rattle.cy_network_relevance.proofs.Rules.{no_nodes, no_rels, none_of_types, of_another}
use Rattle.cy_network_relevance.specs.declared.masks.Mask.{Mask}
use Rattle.cy_network_relevance.specs.Masks.{joined}
use Rattle.cy_network_relevance.specs.NameBits.{AreBitsApart, lowest_bits, no_bits, node_bits, rel_bits}
use Rattle.cy_network_relevance.specs.internal.Labelled.{LacksWithout}
use Rattle.cy_network_relevance.specs.internal.Left.{IsLimited, IsReadOf, IsWithin, LeavesUnread, MissesNode, MissesRel, label_mask, rels_mask}
use Rattle.cy_network_relevance.proofs.BitsApart.{left_apart, right_apart}
use Rattle.cy_network_relevance.proofs.NameBits.{lacks_label, lacks_types, no_node, no_rel}

-- ---- masks within others

pub within_itself : (mask : Mask) → IsWithin mask mask
within_itself mask = record { nodes = λ bits apart. apart; rels = λ bits apart. apart }

pub within_first : (a b mask : Mask) → IsWithin (joined a b) mask → IsWithin a mask
within_first a b mask within = record {
  nodes = λ bits apart. left_apart bits a.nodes b.nodes (within.nodes bits apart);
  rels = λ bits apart. left_apart bits a.rels b.rels (within.rels bits apart);
}

pub within_second : (a b mask : Mask) → IsWithin (joined a b) mask → IsWithin b mask
within_second a b mask within = record {
  nodes = λ bits apart. right_apart bits a.nodes b.nodes (within.nodes bits apart);
  rels = λ bits apart. right_apart bits a.rels b.rels (within.rels bits apart);
}

module _ (mask other : Mask) (within : IsWithin mask other) where
  fewer_nodes : (old new : Option Node) → MissesNode other old new → MissesNode mask old new
  fewer_nodes old new misses = (within.nodes (node_bits old) misses.0, within.nodes (node_bits new) misses.1)

  fewer_rels : (old new : Option Rel) → MissesRel other old new → MissesRel mask old new
  fewer_rels old new misses = (within.rels (rel_bits old) misses.0, within.rels (rel_bits new) misses.1)

  pub read_within : (attribute : Attribute) → IsReadOf mask attribute → IsReadOf other attribute
  read_within attribute read = record {
    nodes = λ old new misses. read.nodes old new (fewer_nodes old new misses);
    rels = λ old new misses. read.rels old new (fewer_rels old new misses);
  }

  pub unread_within : (p : Plan) → LeavesUnread mask p → LeavesUnread other p
  unread_within p left = record {
    nodes = λ old new misses. left.nodes old new (fewer_nodes old new misses);
    rels = λ old new misses. left.rels old new (fewer_rels old new misses);
  }

-- ---- attributes

pub read_property : (mask : Mask) (key : Name) → mask ≡ record { nodes = lowest_bits; rels = lowest_bits } → IsReadOf mask (Property key)
read_property mask key is = subst (λ (m : Mask). IsReadOf m (Property key)) (sym is) (record {
  nodes = λ old new misses. ap (node_attribute (Property key)) (no_node old misses.0 ∙ sym (no_node new misses.1));
  rels = λ old new misses. ap (rel_attribute (Property key)) (no_rel old misses.0 ∙ sym (no_rel new misses.1));
})

pub read_type : (mask : Mask) → mask ≡ record { nodes = no_bits; rels = lowest_bits } → IsReadOf mask RelType
read_type mask is = subst (λ (m : Mask). IsReadOf m RelType) (sym is) (record {
  nodes = λ old new misses. refl;
  rels = λ old new misses. ap (rel_attribute RelType) (no_rel old misses.0 ∙ sym (no_rel new misses.1));
})

pub read_labels : (mask : Mask) → mask ≡ record { nodes = lowest_bits; rels = no_bits } → IsReadOf mask Labels
read_labels mask is = subst (λ (m : Mask). IsReadOf m Labels) (sym is) (record {
  nodes = λ old new misses. ap (node_attribute Labels) (no_node old misses.0 ∙ sym (no_node new misses.1));
  rels = λ old new misses. refl;
})

-- ---- scans without rows

-- what a part over a scan makes of the rows of one entity
node_lookup : (p : Plan) (column : ℕ) (attribute : Attribute) (number : ℕ) (node : Option Node) → node_made (scan_parts p) number node ≡ [] → node_made (scan_parts (plan.lookup p column attribute)) number node ≡ []
node_lookup p column attribute number None none = refl
node_lookup p column attribute number (Some node) none = ap (map (λ row. row ++ cell.Value (node_attribute attribute (Some node)) ∷ [])) none

node_filter : (p : Plan) (test : Expression) (number : ℕ) (node : Option Node) → node_made (scan_parts p) number node ≡ [] → node_made (scan_parts (plan.filter p test)) number node ≡ []
node_filter p test number None none = refl
node_filter p test number (Some node) none = ap (filter (holds test)) none

node_project : (p : Plan) (outputs : List Output) (number : ℕ) (node : Option Node) → node_made (scan_parts p) number node ≡ [] → node_made (scan_parts (plan.project p outputs)) number node ≡ []
node_project p outputs number None none = refl
node_project p outputs number (Some node) none = ap (map (projected outputs)) none

module _ (types : List Name) (orientation : Orientation) where
  rel_lookup : (p : Plan) (column : ℕ) (attribute : Attribute) (number : ℕ) (rel : Option Rel) → rel_made types orientation (scan_parts p) number rel ≡ []
      → rel_made types orientation (scan_parts (plan.lookup p column attribute)) number rel ≡ []
  rel_lookup p column attribute number None none = refl
  rel_lookup p column attribute number (Some rel) none = ap (map (λ row. row ++ cell.Value (rel_attribute attribute (Some rel)) ∷ [])) none

  rel_filter : (p : Plan) (test : Expression) (number : ℕ) (rel : Option Rel) → rel_made types orientation (scan_parts p) number rel ≡ [] → rel_made types orientation (scan_parts (plan.filter p test)) number rel ≡ []
  rel_filter p test number None none = refl
  rel_filter p test number (Some rel) none = ap (filter (holds test)) none

  rel_project : (p : Plan) (outputs : List Output) (number : ℕ) (rel : Option Rel) → rel_made types orientation (scan_parts p) number rel ≡ [] → rel_made types orientation (scan_parts (plan.project p outputs)) number rel ≡ []
  rel_project p outputs number None none = refl
  rel_project p outputs number (Some rel) none = ap (map (projected outputs)) none

  rows_missed : (rel : Option Rel) → AreBitsApart (rels_mask types).rels (rel_bits rel) → (other : Orientation) (number : ℕ) → rel_rows types other number rel ≡ []
  rows_missed None misses other number = refl
  rows_missed (Some rel) misses other number = by types misses
    where
      by : (ts : List Name) → AreBitsApart (rels_mask ts).rels (rel_bits (Some rel)) → rel_rows ts other number (Some rel) ≡ []
      by [] apart = let gone : Some rel ≡ None = no_rel (Some rel) apart in absurd (cc)
      by (t ∷ ts) apart = of_another (t ∷ ts) rel false (sym (lacks_types (t ∷ ts) rel apart)) refl other number

pub limited_nodes : (mask : Mask) → mask ≡ record { nodes = lowest_bits; rels = no_bits } → IsLimited mask plan.nodes
limited_nodes mask is = subst (λ (m : Mask). IsLimited m plan.nodes) (sym is) (record {
  column = refl;
  nodes = λ old new misses leaf number. (ap (node_made (scan_parts plan.nodes) number) (no_node old misses.0), ap (node_made (scan_parts plan.nodes) number) (no_node new misses.1));
  rels = λ old new misses types orientation leaf number. no_rels types orientation leaf;
})

pub limited_rels : (types : List Name) (orientation : Orientation) → IsLimited (rels_mask types) (plan.rels types orientation)
limited_rels types orientation = record {
  column = refl;
  nodes = λ old new misses leaf number. no_nodes types orientation leaf;
  rels = λ old new misses other_types other_orientation leaf number. (
    none_of_types types old (rows_missed types orientation old misses.0) orientation other_types other_orientation leaf number,
    none_of_types types new (rows_missed types orientation new misses.1) orientation other_types other_orientation leaf number,
  );
}

pub limited_label : (label : Name) (p : Plan) → LacksWithout label p → IsLimited (label_mask label) p
limited_label label p lacks = record {
  column = lacks.names.column;
  nodes = λ old new misses leaf number. (one old misses.0 number, one new misses.1 number);
  rels = λ old new misses types orientation leaf number. no_rels types orientation (sym lacks.names.leaf ∙ leaf);
}
  where
    one : (node : Option Node) → AreBitsApart (label_mask label).nodes (node_bits node) → (number : ℕ) → node_made (scan_parts p) number node ≡ []
    one None misses number = refl
    one (Some node) misses number = lacks.needed number node (lacks_label label node misses)

module _ (mask : Mask) (p : Plan) (limited : IsLimited mask p) where
  pub limited_lookup : (column : ℕ) (attribute : Attribute) → column ≡ 0 → IsLimited mask (plan.lookup p column attribute)
  limited_lookup column attribute first = record {
    column = ap (λ n. if_this n (scan_column p)) first ∙ ap (if_this 0) limited.column;
    nodes = λ old new misses leaf number.
        let none = limited.nodes old new misses leaf number in
        (node_lookup p column attribute number old none.0, node_lookup p column attribute number new none.1);
    rels = λ old new misses types orientation leaf number.
        let none = limited.rels old new misses types orientation leaf number in
        (rel_lookup types orientation p column attribute number old none.0, rel_lookup types orientation p column attribute number new none.1);
  }

  pub limited_filter : (test : Expression) → IsLimited mask (plan.filter p test)
  limited_filter test = record {
    column = limited.column;
    nodes = λ old new misses leaf number. let none = limited.nodes old new misses leaf number in (node_filter p test number old none.0, node_filter p test number new none.1);
    rels = λ old new misses types orientation leaf number.
        let none = limited.rels old new misses types orientation leaf number in
        (rel_filter types orientation p test number old none.0, rel_filter types orientation p test number new none.1);
  }

  pub limited_project : (outputs : List Output) → kept_at 0 outputs ≡ Some 0 → IsLimited mask (plan.project p outputs)
  limited_project outputs first = record {
    column = ap (λ (o : Option ℕ). kept o outputs) limited.column ∙ first;
    nodes = λ old new misses leaf number. let none = limited.nodes old new misses leaf number in (node_project p outputs number old none.0, node_project p outputs number new none.1);
    rels = λ old new misses types orientation leaf number.
        let none = limited.rels old new misses types orientation leaf number in
        (rel_project types orientation p outputs number old none.0, rel_project types orientation p outputs number new none.1);
  }

  -- it makes the same of such an entity
  kept_node : (old new : Option Node) → MissesNode mask old new → NodeKept old new p
  kept_node old new misses leaf number = let none = limited.nodes old new misses leaf number in none.0 ∙ sym none.1

  kept_rel : (old new : Option Rel) → MissesRel mask old new → RelKept old new p
  kept_rel old new misses types orientation leaf number = let none = limited.rels old new misses types orientation leaf number in none.0 ∙ sym none.1

-- ---- what is left as it is

pub unread_nodes : (mask : Mask) → IsLimited mask plan.nodes → LeavesUnread mask plan.nodes
unread_nodes mask limited = record { nodes = kept_node mask plan.nodes limited; rels = kept_rel mask plan.nodes limited }

pub unread_rels : (mask : Mask) (types : List Name) (orientation : Orientation) → IsLimited mask (plan.rels types orientation) → LeavesUnread mask (plan.rels types orientation)
unread_rels mask types orientation limited = record { nodes = kept_node mask (plan.rels types orientation) limited; rels = kept_rel mask (plan.rels types orientation) limited }

pub unread_limited_lookup : (mask : Mask) (p : Plan) (column : ℕ) (attribute : Attribute) → IsLimited mask (plan.lookup p column attribute) → LeavesUnread mask (plan.lookup p column attribute)
unread_limited_lookup mask p column attribute limited = record {
  nodes = λ old new misses. inl (ap is_some limited.column, kept_node mask (plan.lookup p column attribute) limited old new misses);
  rels = λ old new misses. inl (ap is_some limited.column, kept_rel mask (plan.lookup p column attribute) limited old new misses);
}

pub unread_limited_filter : (mask : Mask) (p : Plan) (test : Expression) → IsLimited mask (plan.filter p test) → LeavesUnread mask (plan.filter p test)
unread_limited_filter mask p test limited = record {
  nodes = λ old new misses. inl (ap is_some limited.column, kept_node mask (plan.filter p test) limited old new misses);
  rels = λ old new misses. inl (ap is_some limited.column, kept_rel mask (plan.filter p test) limited old new misses);
}

module _ (mask : Mask) (p : Plan) (left : LeavesUnread mask p) where
  pub unread_lookup : (column : ℕ) (attribute : Attribute) → IsReadOf mask attribute → LeavesUnread mask (plan.lookup p column attribute)
  unread_lookup column attribute read = record {
    nodes = λ old new misses. inr (left.nodes old new misses, read.nodes old new misses);
    rels = λ old new misses. inr (left.rels old new misses, read.rels old new misses);
  }

  pub unread_filter : (test : Expression) → LeavesUnread mask (plan.filter p test)
  unread_filter test = record { nodes = λ old new misses. inr (left.nodes old new misses); rels = λ old new misses. inr (left.rels old new misses) }

  pub unread_different : (columns : List ℕ) → LeavesUnread mask (plan.all_different p columns)
  unread_different columns = record { nodes = left.nodes; rels = left.rels }

  pub unread_project : (outputs : List Output) → LeavesUnread mask (plan.project p outputs)
  unread_project outputs = record { nodes = left.nodes; rels = left.rels }

  pub unread_distinct : LeavesUnread mask (plan.distinct p)
  unread_distinct = record { nodes = left.nodes; rels = left.rels }

module _ (mask : Mask) (p q : Plan) (left : LeavesUnread mask p) (right : LeavesUnread mask q) where
  pub unread_join : (keys : List KeyColumns) → LeavesUnread mask (plan.join p q keys)
  unread_join keys = record {
    nodes = λ old new misses. (left.nodes old new misses, right.nodes old new misses);
    rels = λ old new misses. (left.rels old new misses, right.rels old new misses);
  }

  pub unread_outer : (keys : List KeyColumns) (test : Expression) → LeavesUnread mask (plan.outer p q keys test)
  unread_outer keys test = record {
    nodes = λ old new misses. (left.nodes old new misses, right.nodes old new misses);
    rels = λ old new misses. (left.rels old new misses, right.rels old new misses);
  }

  pub unread_semi : (keys : List KeyColumns) (keeping : Keeping) → LeavesUnread mask (plan.semi p q keys keeping)
  unread_semi keys keeping = record {
    nodes = λ old new misses. (left.nodes old new misses, right.nodes old new misses);
    rels = λ old new misses. (left.rels old new misses, right.rels old new misses);
  }

  pub unread_union : LeavesUnread mask (plan.union p q)
  unread_union = record {
    nodes = λ old new misses. (left.nodes old new misses, right.nodes old new misses);
    rels = λ old new misses. (left.rels old new misses, right.rels old new misses);
  }
