-- A change touched something exactly where it leads to another content.
use Rattle.std.specs.FinMap.Entries as entries
use Rattle.std.proofs.Common.{◌≡◌, ◌≢◌, ℕ, Bool, true, false, List, [], ◌∷◌, Option, None, Some, inl, inr, refl, sym, ap, ◌∙◌, arith}
use Rattle.std.specs.Cmp.{IsTotalOrder}
use Rattle.std.specs.Option.{option_map}
use Rattle.std.specs.declared.cmp.Ordering.TheVariants.{Equal}
use Rattle.std.proofs.lemmas.Bool.Decides.{nat_tests}
use Rattle.std.proofs.lemmas.Cmp.{nat_cmp_total}
use Rattle.cy_values.specs.declared.numbers.NodeId.{NodeId}
use Rattle.cy_values.specs.declared.numbers.RelId.{RelId}
use Rattle.cy_values.specs.declared.numbers.Entity.TheVariants as entity
use Rattle.cy_graph.specs.contracts.nodes.NodePartialEq.TheImpl as node_eq
use Rattle.cy_graph.specs.contracts.nodes.RelPartialEq.TheImpl as rel_eq
use Rattle.cy_graph.proofs.Same.{same_node, node_itself, same_rel, rel_itself}
use Rattle.cy_graph.proofs.Touching.{same_nodes, same_rels}
use Rattle.cy_graph.specs.Graph.{Content, State, node_order, rel_order, node_at, rel_at, IsGraph}
use Rattle.cy_graph.specs.Touched.{Old, BeforeImage, AreTouched}
use Rattle.cy_graph.proofs.Places.{held}

-- what can't differ is the same
decided : {V : Type 0} (eq : V → V → Bool) → ((m n : V) → eq m n ≡ true → m ≡ n) → ((n : V) → eq n n ≡ true) → (m n : Option V) → (m ≢ n → ⊥) → m ≡ n
decided eq same itself None None e = refl
decided eq same itself None (Some n) e = absurd (e (λ x. cc))
decided eq same itself (Some m) None e = absurd (e (λ x. cc))
decided eq same itself (Some m) (Some n) e =
    elim (eq m n) as (λ b. eq m n ≡ b → Some m ≡ Some n) [
      | true ↦ λ h. ap Some (same m n h)
      | false ↦ λ h. absurd (e (λ x.
          let values : m ≡ n = cc x in
          let wrong : true ≡ false = sym (itself m) ∙ ap (λ k. eq m k) values ∙ h in
          cc))
    ] refl

-- two graphs differ only at touched nodes
nodes_same : (before now : State) → AreTouched before now [] → (x : NodeId) → node_at x before ≡ node_at x now
nodes_same before now touched x = decided (node_eq.eq-value).it same_node node_itself (node_at x before) (node_at x now) (λ differ.
    let here = touched.all (entity.Node x) (λ e. differ (same_nodes (node_at x before) (node_at x now) e)) in
    absurd (omega (arith, here.1)))

-- and only at touched relationships
rels_same : (before now : State) → AreTouched before now [] → (x : RelId) → rel_at x before ≡ rel_at x now
rels_same before now touched x = decided (rel_eq.eq-value).it same_rel rel_itself (rel_at x before) (rel_at x now) (λ differ.
    let here = touched.all (entity.Rel x) (λ e. differ (same_rels (rel_at x before) (rel_at x now) e)) in
    absurd (omega (arith, here.1)))

node_total : IsTotalOrder node_order
node_total = record {
  antisymm = λ x y. nat_cmp_total.antisymm x.0 y.0;
  trans = λ x y z. nat_cmp_total.trans x.0 y.0 z.0;
  congr = λ x y z. nat_cmp_total.congr x.0 y.0 z.0;
}

node_tied : (x y : NodeId) → node_order x y ≡ Equal → x ≡ y
node_tied x y h =
    let numbers : x.0 ≡ y.0 = grind (arith, nat_tests) in
    ap (λ (n : ℕ). let id : NodeId = record { 0 = n } in id) numbers

rel_total : IsTotalOrder rel_order
rel_total = record {
  antisymm = λ x y. nat_cmp_total.antisymm x.0 y.0;
  trans = λ x y z. nat_cmp_total.trans x.0 y.0 z.0;
  congr = λ x y z. nat_cmp_total.congr x.0 y.0 z.0;
}

rel_tied : (x y : RelId) → rel_order x y ≡ Equal → x ≡ y
rel_tied x y h =
    let numbers : x.0 ≡ y.0 = grind (arith, nat_tests) in
    ap (λ (n : ℕ). let id : RelId = record { 0 = n } in id) numbers

-- where nothing is touched, the content is the same
pub nothing_touched : (before now : State) → AreTouched before now [] → IsGraph before → IsGraph now → now.content ≡ before.content
nothing_touched before now touched graph_before graph_now =
    let nodes = entries.same_entries node_order node_total node_tied now.content.nodes before.content.nodes (held _ graph_now.rising) (held _ graph_before.rising) (λ x. sym (nodes_same before now touched x)) in
    let rels = entries.same_entries rel_order rel_total rel_tied now.content.rels before.content.rels (held _ graph_now.rels_rising) (held _ graph_before.rels_rising) (λ x. sym (rels_same before now touched x)) in
    λ i. record { nodes = nodes i; rels = rels i }

-- where something is, it is another
something_touched : (before now : State) (e : BeforeImage) (es : List BeforeImage) → AreTouched before now (e ∷ es) → now.content ≡ before.content → ⊥
something_touched before now (entity.Node id, old) es touched same =
    (touched.differ (entity.Node id, old) (0, omega arith, refl)).1 (ap (λ (content : Content). let o : Option Old = option_map (λ node. inl node) (entries.find node_order id content.nodes) in o) (sym same))
something_touched before now (entity.Rel id, old) es touched same =
    (touched.differ (entity.Rel id, old) (0, omega arith, refl)).1 (ap (λ (content : Content). let o : Option Old = option_map (λ rel. inr rel) (entries.find rel_order id content.rels) in o) (sym same))

pub touched_differs : (before now : State) (es : List BeforeImage) → AreTouched before now es → (es ≡ [] → ⊥) → now.content ≢ before.content
touched_differs before now [] touched some = λ same. some refl
touched_differs before now (e ∷ es) touched some = something_touched before now e es touched
