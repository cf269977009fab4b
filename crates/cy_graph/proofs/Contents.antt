-- What each call of the series does to the content of the graph.
use Rattle.std.proofs.Common.{◌≡◌, ℕ, ◌+◌, ◌<◌, ◌≤◌, Bool, true, false, cond, not, List, [], ◌∷◌, ◌++◌, Option, Some, None, IsTrue, IfSome, refl, sym, ap, ◌∙◌, arith}
use Rattle.std.specs.List.{AllByRecursion}
use Rattle.std.specs.Option.{option_map}
use Rattle.std.specs.Ordering.{nat_cmp, is_eq, eq_by_cmp}
use Rattle.std.specs.declared.cmp.Ordering.TheVariants.{Less, Equal, Greater}
use Rattle.std.specs.FinMap.Entries as entries
use Rattle.std.proofs.lemmas.Bool.{and_from, and_parts}
use Rattle.cy_values.specs.declared.numbers.NodeId.{NodeId}
use Rattle.cy_values.specs.declared.scalars.Value.{Value}
use Rattle.cy_graph.specs.declared.nodes.Node.{Node}
use Rattle.cy_graph.specs.declared.nodes.Rel.{Rel}
use Rattle.cy_graph.specs.Graph.{node_order, replaced, set_at, rel_set_at, with_label, without_label}
use Rattle.cy_graph.specs.Maps.{text_order, with_value}
use Rattle.cy_graph.specs.Stored.{is_storable, IsStorable}
use Rattle.cy_graph.specs.internal.Contents.{IsNode, IsRel}
use Rattle.cy_graph.specs.Model.{nodes_of}
use Rattle.cy_graph.specs.internal.Slots.{RiseFrom, value_under}
use Rattle.cy_graph.specs.internal.Versions.{put_under}
use Rattle.cy_graph.proofs.Places.{rises-with_value, rises-without}

-- a look-up
pub find_named : (id : NodeId) (es : List (ℕ × Node)) → entries.find node_order id (nodes_of es) ≡ value_under id.0 es
find_named id [] = refl
find_named id (e ∷ es) = ap (cond (is_eq (nat_cmp id.0 e.0)) (Some e.1)) (find_named id es)

-- one more node
pub named_push : (es : List (ℕ × Node)) (number : ℕ) (node : Node) → nodes_of (es ++ (number, node) ∷ []) ≡ nodes_of es ++ (record { 0 = number }, node) ∷ []
named_push [] number node = refl
named_push (e ∷ es) number node = ap (λ l. (record { 0 = e.0 }, e.1) ∷ l) (named_push es number node)

-- another node under a number
named_put : (id : NodeId) (node : Node) (es : List (ℕ × Node)) → nodes_of (entries.put nat_cmp id.0 node es) ≡ entries.put node_order id node (nodes_of es)
named_put id node [] = refl
named_put id node (e ∷ es) =
    let rest = named_put id node es in
    elim (nat_cmp id.0 e.0) as (λ o. nodes_of (entries.by_order o ((id.0, node) ∷ e ∷ es) ((e.0, node) ∷ es) (e ∷ entries.put nat_cmp id.0 node es))
    ≡ entries.by_order o ((id, node) ∷ nodes_of (e ∷ es)) ((record { 0 = e.0 }, node) ∷ nodes_of es) ((record { 0 = e.0 }, e.1) ∷ entries.put node_order id node (nodes_of es))) [
      | Less ↦ refl
      | Equal ↦ refl
      | Greater ↦ ap (λ l. (record { 0 = e.0 }, e.1) ∷ l) rest
    ]

named_put_under : (id : NodeId) (value : Option Node) (es : List (ℕ × Node)) → nodes_of (put_under id.0 value es) ≡ replaced id value (nodes_of es)
named_put_under id None es = refl
named_put_under id (Some node) es = named_put id node es

pub named_edited : (edited : Node → Node) (id : NodeId) (es : List (ℕ × Node))
    → nodes_of (put_under id.0 (option_map edited (value_under id.0 es)) es) ≡ replaced id (option_map edited (entries.find node_order id (nodes_of es))) (nodes_of es)
named_edited edited id es = named_put_under id (option_map edited (value_under id.0 es)) es ∙ ap (λ o. replaced id (option_map edited o) (nodes_of es)) (sym (find_named id es))

-- the nodes without one
pub named_where : (id : NodeId) (es : List (ℕ × Node)) → nodes_of (entries.where_key nat_cmp (λ k. not (eq_by_cmp nat_cmp id.0 k)) es) ≡ entries.where_key node_order (λ k. not (eq_by_cmp node_order id k)) (nodes_of es)
named_where id [] = refl
named_where id (e ∷ es) =
    let rest = named_where id es in
    elim (is_eq (nat_cmp id.0 e.0)) as (λ b. nodes_of (cond (not b) (e ∷ entries.where_key nat_cmp (λ k. not (eq_by_cmp nat_cmp id.0 k)) es) (entries.where_key nat_cmp (λ k. not (eq_by_cmp nat_cmp id.0 k)) es))
    ≡ cond (not b) ((record { 0 = e.0 }, e.1) ∷ entries.where_key node_order (λ k. not (eq_by_cmp node_order id k)) (nodes_of es)) (entries.where_key node_order (λ k. not (eq_by_cmp node_order id k)) (nodes_of es))) [
      | true ↦ rest
      | false ↦ ap (λ l. (record { 0 = e.0 }, e.1) ∷ l) rest
    ]

-- the numbers rise as those of the series do
named_below : (k : NodeId) (es : List (ℕ × Node)) → entries.below_all nat_cmp k.0 es ≡ true → entries.below_all node_order k (nodes_of es) ≡ true
named_below k [] below = refl
named_below k (e ∷ es) below = and_from _ _ (and_parts _ _ below).0 (named_below k es (and_parts _ _ below).1)

pub named_sorted : (es : List (ℕ × Node)) → IsTrue (entries.is_sorted nat_cmp es) → IsTrue (entries.is_sorted node_order (nodes_of es))
named_sorted [] up = refl
named_sorted (e ∷ es) up = and_from _ _ (named_below (record { 0 = e.0 }) es (and_parts _ _ up).0) (named_sorted es (and_parts _ _ up).1)

pub named_numbers : (low high : ℕ) (es : List (ℕ × Node)) → 1 ≤ low → RiseFrom low high es → AllByRecursion (λ (e : NodeId × Node). (1 ≤ e.0.0) × (e.0.0 < high)) (nodes_of es)
named_numbers low high [] le r = tt
named_numbers low high (e ∷ es) le r = ((omega (arith, r.0), r.1), named_numbers (e.0 + 1) high es (omega arith) r.2)

pub named_all : (P : Node → Type 0) (es : List (ℕ × Node)) → ((node : Node) → IsNode node → P node) → AllByRecursion (λ (e : ℕ × Node). IsNode e.1) es → AllByRecursion (λ (e : NodeId × Node). P e.1) (nodes_of es)
named_all P [] each all = tt
named_all P (e ∷ es) each all = (each e.1 all.0, named_all P es each all.1)

-- what holds of each value holds of each once one is set
storable_put : (key : List ℕ) (v : Value) (props : List (List ℕ × Value)) → IsTrue (is_storable v) → IsStorable props → IsStorable (with_value key v props)
storable_put key v [] here all = and_from _ _ here refl
storable_put key v (e ∷ es) here all =
    elim (text_order key e.0) as (λ o. IsStorable (entries.by_order o ((key, v) ∷ e ∷ es) ((e.0, v) ∷ es) (e ∷ with_value key v es))) [
      | Less ↦ and_from _ _ here all
      | Equal ↦ and_from _ _ here (and_parts _ _ all).1
      | Greater ↦ and_from _ _ (and_parts _ _ all).0 (storable_put key v es here (and_parts _ _ all).1)
    ]

storable_where : (test : List ℕ → Bool) (props : List (List ℕ × Value)) → IsStorable props → IsStorable (entries.where_key text_order test props)
storable_where test [] all = refl
storable_where test (e ∷ es) all =
    elim (test e.0) as (λ b. IsStorable (cond b (e ∷ entries.where_key text_order test es) (entries.where_key text_order test es))) [
      | true ↦ and_from _ _ (and_parts _ _ all).0 (storable_where test es (and_parts _ _ all).1)
      | false ↦ storable_where test es (and_parts _ _ all).1
    ]

-- an edited node may stand in a graph as well
pub node_set : (key : List ℕ) (value : Option Value) → IfSome value (λ v. IsTrue (is_storable v)) → (node : Node) → IsNode node → IsNode (set_at key value node)
node_set key None given node is = record { labels = is.labels; props = rises-without key node.props is.props; stored = storable_where _ node.props is.stored }
node_set key (Some v) given node is = record { labels = is.labels; props = rises-with_value key v node.props is.props; stored = storable_put key v node.props given is.stored }

pub node_labelled : (label : List ℕ) (node : Node) → IsNode node → IsNode (with_label label node)
node_labelled label node is = record { labels = rises-with_value label tt node.labels is.labels; props = is.props; stored = is.stored }

pub node_unlabelled : (label : List ℕ) (node : Node) → IsNode node → IsNode (without_label label node)
node_unlabelled label node is = record { labels = rises-without label node.labels is.labels; props = is.props; stored = is.stored }

pub rel_set : (key : List ℕ) (value : Option Value) → IfSome value (λ v. IsTrue (is_storable v)) → (rel : Rel) → IsRel rel → IsRel (rel_set_at key value rel)
rel_set key None given rel is = record { props = rises-without key rel.props is.props; stored = storable_where _ rel.props is.stored }
rel_set key (Some v) given rel is = record { props = rises-with_value key v rel.props is.props; stored = storable_put key v rel.props given is.stored }
