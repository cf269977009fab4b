-- The test of whether two graphs hold the same, and the tick and the entries after a line that leaves it so.
use Rattle.std.proofs.Common.{◌≡◌, ◌≢◌, ℕ, Bool, true, false, cond, ◌&&◌, ◌==◌, List, [], ◌∷◌, Ok, refl, sym, ap, subst, ⊎_elim, inl}
use Rattle.std.specs.Bool.{Decides}
use Rattle.std.specs.Cmp.Lexicographic.{pointwise}
use Rattle.std.specs.Str.{bytes_eq}
use Rattle.std.specs.Ordering.{eq_by_cmp, is_eq}
use Rattle.std.proofs.lemmas.Bool.{cases_Bool}
use Rattle.std.proofs.lemmas.Bool.Decides.{Decides-and, Decides-eqb, Decides-like}
use Rattle.std.proofs.lemmas.Slice.Eq.{bytes_eq-Decides, slice_eq-Decides}
use Rattle.cy_values.specs.declared.numbers.NodeId.{NodeId}
use Rattle.cy_values.specs.declared.numbers.RelId.{RelId}
use Rattle.cy_values.specs.declared.scalars.Value.{Value}
use Rattle.cy_values.specs.Order.{value_order}
use Rattle.cy_values.proofs.Identity.{same_values}
use Rattle.cy_values.proofs.SameRows.{equal_order, value_itself}
use Rattle.cy_graph.specs.Graph.{Content}
use Rattle.cy_graph.specs.declared.nodes.Node.{Node}
use Rattle.cy_graph.specs.declared.nodes.Rel.{Rel}
use Rattle.cy_engine_views.specs.RegisteredViews.{AreEntries, View}
use Rattle.cy_engine_lines.specs.Verdicts.{same_label, same_entry, same_value, same_node, same_ends, same_link, same_relationship, same_content, next_tick, tick_after}

value_decides : (v w : Value) → Decides (eq_by_cmp value_order v w) (v ≡ w)
value_decides v w = (λ h. same_values v w (equal_order (value_order v w) h), λ e. subst (λ (x : Value). eq_by_cmp value_order v x ≡ true) e (ap is_eq (value_itself v)))

label_decides : (k l : List ℕ × Unit {0}) → Decides (same_label k l) (k ≡ l)
label_decides k l = Decides-like (bytes_eq k.0 l.0) (λ h. λ i. (h i, tt)) (λ h. ap (λ (p : List ℕ × Unit {0}). p.0) h) (bytes_eq-Decides k.0 l.0)

entry_decides : (p q : List ℕ × Value) → Decides (same_entry p q) (p ≡ q)
entry_decides p q =
    Decides-like (bytes_eq p.0 q.0 && eq_by_cmp value_order p.1 q.1) (λ h. λ i. (h.0 i, h.1 i))
    (λ h. (ap (λ (r : List ℕ × Value). r.0) h, ap (λ (r : List ℕ × Value). r.1) h))
    (Decides-and (bytes_eq p.0 q.0) (eq_by_cmp value_order p.1 q.1) (bytes_eq-Decides p.0 q.0) (value_decides p.1 q.1))

node_value_decides : (m n : Node) → Decides (same_value m n) (m ≡ n)
node_value_decides m n =
    Decides-like (same_value m n) (λ h. λ i. record { labels = h.0 i; props = h.1 i })
    (λ h. (ap (λ (x : Node). x.labels) h, ap (λ (x : Node). x.props) h))
    (Decides-and (pointwise same_label m.labels n.labels) (pointwise same_entry m.props n.props)
    (slice_eq-Decides label_decides m.labels n.labels _ refl) (slice_eq-Decides entry_decides m.props n.props _ refl))

node_decides : (m n : NodeId × Node) → Decides (same_node m n) (m ≡ n)
node_decides m n =
    Decides-like (same_node m n) (λ h. λ i. (record { 0 = h.0 i }, h.1 i))
    (λ h. (ap (λ (x : NodeId × Node). x.0.0) h, ap (λ (x : NodeId × Node). x.1) h))
    (Decides-and (m.0.0 == n.0.0) (same_value m.1 n.1) (Decides-eqb m.0.0 n.0.0) (node_value_decides m.1 n.1))

id_decides : (m n : NodeId) → Decides (m.0 == n.0) (m ≡ n)
id_decides m n = Decides-like (m.0 == n.0) (λ h. λ i. record { 0 = h i }) (λ h. ap (λ (x : NodeId). x.0) h) (Decides-eqb m.0 n.0)

link_decides : (m n : Rel) → Decides (same_link m n) (m ≡ n)
link_decides m n =
    Decides-like (same_link m n) (λ h. λ i. record { source = h.0.0 i; target = h.0.1 i; kind = h.1.0 i; props = h.1.1 i })
    (λ h. ((ap (λ (x : Rel). x.source) h, ap (λ (x : Rel). x.target) h), (ap (λ (x : Rel). x.kind) h, ap (λ (x : Rel). x.props) h)))
    (Decides-and (same_ends m n) (bytes_eq m.kind n.kind && pointwise same_entry m.props n.props)
    (Decides-and (m.source.0 == n.source.0) (m.target.0 == n.target.0) (id_decides m.source n.source) (id_decides m.target n.target))
    (Decides-and (bytes_eq m.kind n.kind) (pointwise same_entry m.props n.props) (bytes_eq-Decides m.kind n.kind) (slice_eq-Decides entry_decides m.props n.props _ refl)))

relationship_decides : (m n : RelId × Rel) → Decides (same_relationship m n) (m ≡ n)
relationship_decides m n =
    Decides-like (same_relationship m n) (λ h. λ i. (record { 0 = h.0 i }, h.1 i))
    (λ h. (ap (λ (x : RelId × Rel). x.0.0) h, ap (λ (x : RelId × Rel). x.1) h))
    (Decides-and (m.0.0 == n.0.0) (same_link m.1 n.1) (Decides-eqb m.0.0 n.0.0) (link_decides m.1 n.1))

pub content_decides : (c d : Content) → Decides (same_content c d) (c ≡ d)
content_decides c d =
    Decides-like (same_content c d) (λ h. λ i. record { nodes = h.0 i; rels = h.1 i })
    (λ h. (ap (λ (x : Content). x.nodes) h, ap (λ (x : Content). x.rels) h))
    (Decides-and (pointwise same_node c.nodes d.nodes) (pointwise same_relationship c.rels d.rels)
    (slice_eq-Decides node_decides c.nodes d.nodes _ refl) (slice_eq-Decides relationship_decides c.rels d.rels _ refl))

pub tick_moves : (before after : Content) (tick : ℕ) → after ≢ before → tick_after before after tick ≡ next_tick tick
tick_moves before after tick differs =
    ⊎_elim
    (λ (yes : same_content before after ≡ true). absurd (differs (sym ((content_decides before after).0 yes))))
    (λ (no : same_content before after ≡ false). ap (λ (b : Bool). cond b (Ok tick) (next_tick tick)) no)
    (cases_Bool (same_content before after))

-- where the content stays, no view gets an entry
pub nothing_changed : (views : List View) (content : Content) (tick : ℕ) → AreEntries views content content tick []
nothing_changed [] content tick = refl
nothing_changed (view ∷ views) content tick = inl ((λ row. refl), nothing_changed views content tick)
