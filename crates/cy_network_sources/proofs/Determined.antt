-- What leads from one graph to another is determined but for its order.
use Rattle.std.proofs.Common.{◌≡◌, ℕ, List, ◌++◌, Option, None, Some, length, refl, sym, ap, ◌∙◌, nat_eq}
use Rattle.std.specs.Prelude.{count_by, is_some}
use Rattle.std.specs.List.{IsDistinct}
use Rattle.std.specs.Map.{keys_of, lookup}
use Rattle.std.proofs.lemmas.List.{length-map}
use Rattle.std.proofs.lemmas.Cmp.{nat_eq_equiv}
use Rattle.std.proofs.lemmas.Map.Made.{is_some-lookup, length-from_same_keys}
use Rattle.cy_values.specs.declared.rows.Cell.{Cell}
use Rattle.cy_values.specs.declared.rows.Cell.TheVariants as cell
use Rattle.cy_graph.specs.Graph.{State, node_at, rel_at}
use Rattle.cy_planner_algebra.specs.Expressions.{cell_at}
use Rattle.cy_planner_algebra.specs.Meaning.{each_once}
use Rattle.cy_network_sources.specs.Changes.{IsChange, IsImage, Touches, image_at}
use Rattle.cy_network_sources.specs.LookupCosts.{names_touched, naming_rows}

one_image : {V : Type 0} (before now : Option V) (a b : Option (Option V)) → IsImage before now a → IsImage before now b → a ≡ b
one_image before now None None first second = refl
one_image before now None (Some b) first second = absurd (second.1 first)
one_image before now (Some a) None first second = absurd (first.1 second)
one_image before now (Some a) (Some b) first second = ap Some (first.0 ∙ sym second.0)

-- entries of which each key stands once are as many as others with the same look-ups
one_length : {X : Type 0} (es fs : List (ℕ × X)) → IsDistinct nat_eq (keys_of es) → IsDistinct nat_eq (keys_of fs) → ((n : ℕ) → lookup (nat_eq n) es ≡ lookup (nat_eq n) fs) → length es ≡ length fs
one_length es fs first second same =
    sym (length-map es (λ e. e.0))
    ∙ length-from_same_keys nat_eq_equiv (keys_of es) (keys_of fs) first second
    (λ n. sym (is_some-lookup (nat_eq n) es) ∙ ap is_some (same n) ∙ is_some-lookup (nat_eq n) fs)
    ∙ length-map fs (λ e. e.0)

module _ (before now : State) (touches others : Touches) (first : IsChange before now touches) (second : IsChange before now others) where
  pub one_node : (number : ℕ) → image_at number touches.nodes ≡ image_at number others.nodes
  one_node number =
      one_image (node_at (record { 0 = number }) before) (node_at (record { 0 = number }) now) (image_at number touches.nodes) (image_at number others.nodes)
      (first.nodes (record { 0 = number })) (second.nodes (record { 0 = number }))

  pub one_rel : (number : ℕ) → image_at number touches.rels ≡ image_at number others.rels
  one_rel number =
      one_image (rel_at (record { 0 = number }) before) (rel_at (record { 0 = number }) now) (image_at number touches.rels) (image_at number others.rels)
      (first.rels (record { 0 = number })) (second.rels (record { 0 = number }))

  pub node_number : length touches.nodes ≡ length others.nodes
  node_number = one_length touches.nodes others.nodes first.nodes_once second.nodes_once one_node

  pub rel_number : length touches.rels ≡ length others.rels
  rel_number = one_length touches.rels others.rels first.rels_once second.rels_once one_rel

  same_named : (c : Cell) → names_touched touches c ≡ names_touched others c
  same_named (cell.Node id) = ap is_some (one_node id.0)
  same_named (cell.Rel id) = ap is_some (one_rel id.0)
  same_named (cell.Rels ids) = refl
  same_named (cell.Value v) = refl

  pub same_naming : (column : ℕ) (old new : List (List Cell)) → naming_rows touches column old new ≡ naming_rows others column old new
  same_naming column old new = λ i. count_by (λ row. same_named (cell_at row column) i) (each_once (old ++ new))
