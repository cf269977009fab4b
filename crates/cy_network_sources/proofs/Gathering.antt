-- What is gathered of the touched entities leads from the one graph to the other.
use Rattle.std.proofs.Common.{◌≡◌, ◌≢◌, ℕ, Bool, true, false, cond, List, [], ◌∷◌, ◌++◌, Option, None, Some, IfSome, IsSome, Contains, map, inl, inr, refl, sym, ap, subst, ◌∙◌, nat_eq, arith}
use Rattle.std.specs.Prelude.{unwrap_or}
use Rattle.std.specs.List.{AllByRecursion, IsDistinct}
use Rattle.std.specs.Map.{keys_of, lookup}
use Rattle.std.proofs.lemmas.Map.Keys.{IsDistinct-cons, IsDistinct-head, IsDistinct-tail}
use Rattle.std.proofs.lemmas.Map.Made.{Contains-tail, lookup-map_values}
use Rattle.std.specs.Option.{option_map}
use Rattle.std.specs.declared.cmp.Ordering.{Ordering}
use Rattle.std.specs.Ordering.{eq_by_cmp}
use Rattle.std.specs.FinMap.Entries as entries
use Rattle.std.proofs.lemmas.Bool.{false≢true, true≢false, eqb-true}
use Rattle.std.proofs.lemmas.List.Elements.{Contains-append_right}
use Rattle.cy_values.specs.declared.numbers.NodeId.{NodeId}
use Rattle.cy_values.specs.declared.numbers.RelId.{RelId}
use Rattle.cy_values.specs.declared.numbers.Entity.TheVariants as entity
use Rattle.cy_values.proofs.Booleans.{itself_equal}
use Rattle.cy_graph.specs.declared.nodes.Node.{Node}
use Rattle.cy_graph.specs.declared.nodes.Rel.{Rel}
use Rattle.cy_graph.specs.contracts.nodes.NodePartialEq.TheImpl as node_eq
use Rattle.cy_graph.specs.contracts.nodes.RelPartialEq.TheImpl as rel_eq
use Rattle.cy_graph.specs.Graph.{IsGraph, State, Versions, empty_state, node_at, node_order, rel_at, rel_order}
use Rattle.cy_graph.specs.Touched.{Old, BeforeImage, AreTouched, value_of}
use Rattle.cy_graph.proofs.Same.{same_node, node_itself, same_rel, rel_itself}
use Rattle.cy_graph.proofs.Touching.{same_nodes, same_rels}
use Rattle.cy_network_sources.specs.Changes.{IsChange, IsImage, Touches, before_change, image_at}
use Rattle.cy_network_sources.specs.internal.Images.{node_of_old, rel_of_old, node_noted, rel_noted, nodes_noted, rels_noted}
use Rattle.cy_network_sources.specs.internal.Sources.{none_was}
use Rattle.cy_network_sources.proofs.Keys.{none_once, rising_once, same_by_order}

-- one more at the end
pub nodes_more : (n : ℕ) (es : List BeforeImage) (e : BeforeImage) (found : Option (Option Node)) → nodes_noted n (es ++ e ∷ []) found ≡ node_noted n e (nodes_noted n es found)
nodes_more n [] e found = refl
nodes_more n (x ∷ xs) e found = nodes_more n xs e (node_noted n x found)

pub rels_more : (n : ℕ) (es : List BeforeImage) (e : BeforeImage) (found : Option (Option Rel)) → rels_noted n (es ++ e ∷ []) found ≡ rel_noted n e (rels_noted n es found)
rels_more n [] e found = refl
rels_more n (x ∷ xs) e found = rels_more n xs e (rel_noted n x found)

-- what can't differ is the same
decided : {V : Type 0} (eq : V → V → Bool) → ((m n : V) → eq m n ≡ true → m ≡ n) → ((n : V) → eq n n ≡ true) → (m n : Option V) → (m ≢ n → ⊥) → m ≡ n
decided eq same itself None None e = refl
decided eq same itself None (Some n) e = absurd (e (λ x. cc))
decided eq same itself (Some m) None e = absurd (e (λ x. cc))
decided eq same itself (Some m) (Some n) e =
    elim (eq m n) as (λ b. eq m n ≡ b → Some m ≡ Some n) [
      | true ↦ λ h. ap Some (same m n h)
      | false ↦ λ h. absurd (e (λ x.
          let values : m ≡ n = cc x in
          let wrong : true ≡ false = sym (itself m) ∙ ap (λ k. eq m k) values ∙ h in
          cc))
    ] refl

-- an image is there, or the values are the same
image : {V : Type 0} (before now : Option V) (o : Option (Option V)) → IfSome o (λ was. (was ≡ before) × (before ≢ now)) → (o ≡ None → before ≡ now) → IsImage before now o
image before now None some none = none refl
image before now (Some was) some none = some

head_there : (e : BeforeImage) (es : List BeforeImage) → Contains (e ∷ es) e
head_there e es = (0, omega arith, refl)

later_there : (e x : BeforeImage) (es : List BeforeImage) → Contains es x → Contains (e ∷ es) x
later_there e x es there = Contains-append_right (e ∷ []) es x there

module _ (n : ℕ) where
  abbrev pub node : NodeId
  node = record { 0 = n }

  abbrev pub rel : RelId
  rel = record { 0 = n }

  -- what holds of each image of the number holds of the one that is noted
  node_holds : (P : Option Node → Type 0) (es : List BeforeImage) (found : Option (Option Node)) → IfSome found P
      → ((was : Option Old) → Contains es (entity.Node node, was) → P (node_of_old was)) → IfSome (nodes_noted n es found) P
  node_holds P [] found held each = held
  node_holds P ((entity.Node id, was) ∷ es) found held each =
      node_holds P es (node_noted n (entity.Node id, was) found) (step (nat_eq id.0 n) refl) (λ w there. each w (later_there (entity.Node id, was) (entity.Node node, w) es there))
    where
      step : (b : Bool) → nat_eq id.0 n ≡ b → IfSome (cond b (Some (node_of_old was)) found) P
      step true is =
          let same : id ≡ node = ap (λ (k : ℕ). let i : NodeId = record { 0 = k } in i) (eqb-true id.0 n is) in
          each was (subst (λ (i : NodeId). Contains ((entity.Node id, was) ∷ es) (entity.Node i, was)) same (head_there (entity.Node id, was) es))
      step false is = held
  node_holds P ((entity.Rel id, was) ∷ es) found held each =
      node_holds P es found held (λ w there. each w (later_there (entity.Rel id, was) (entity.Node node, w) es there))

  rel_holds : (P : Option Rel → Type 0) (es : List BeforeImage) (found : Option (Option Rel)) → IfSome found P
      → ((was : Option Old) → Contains es (entity.Rel rel, was) → P (rel_of_old was)) → IfSome (rels_noted n es found) P
  rel_holds P [] found held each = held
  rel_holds P ((entity.Rel id, was) ∷ es) found held each =
      rel_holds P es (rel_noted n (entity.Rel id, was) found) (step (nat_eq id.0 n) refl) (λ w there. each w (later_there (entity.Rel id, was) (entity.Rel rel, w) es there))
    where
      step : (b : Bool) → nat_eq id.0 n ≡ b → IfSome (cond b (Some (rel_of_old was)) found) P
      step true is =
          let same : id ≡ rel = ap (λ (k : ℕ). let i : RelId = record { 0 = k } in i) (eqb-true id.0 n is) in
          each was (subst (λ (i : RelId). Contains ((entity.Rel id, was) ∷ es) (entity.Rel i, was)) same (head_there (entity.Rel id, was) es))
      step false is = held
  rel_holds P ((entity.Node id, was) ∷ es) found held each =
      rel_holds P es found held (λ w there. each w (later_there (entity.Node id, was) (entity.Rel rel, w) es there))

  -- what was noted stays noted
  node_stays : (es : List BeforeImage) (found : Option (Option Node)) → IsSome found → IsSome (nodes_noted n es found)
  node_stays [] found some = some
  node_stays ((entity.Node id, was) ∷ es) found some = node_stays es (node_noted n (entity.Node id, was) found) (step (nat_eq id.0 n))
    where
      step : (b : Bool) → IsSome (cond b (Some (node_of_old was)) found)
      step true = refl
      step false = some
  node_stays ((entity.Rel id, was) ∷ es) found some = node_stays es found some

  rel_stays : (es : List BeforeImage) (found : Option (Option Rel)) → IsSome found → IsSome (rels_noted n es found)
  rel_stays [] found some = some
  rel_stays ((entity.Rel id, was) ∷ es) found some = rel_stays es (rel_noted n (entity.Rel id, was) found) (step (nat_eq id.0 n))
    where
      step : (b : Bool) → IsSome (cond b (Some (rel_of_old was)) found)
      step true = refl
      step false = some
  rel_stays ((entity.Node id, was) ∷ es) found some = rel_stays es found some

  -- an image that is there is noted
  node_there : (es : List BeforeImage) (found : Option (Option Node)) (was : Option Old) → Contains es (entity.Node node, was) → IsSome (nodes_noted n es found)
  node_there [] found was there = absurd (omega (arith, there.1))
  node_there ((entity.Node id, w) ∷ es) found was there = step (λ later. node_there es found was later) (nat_eq id.0 n) refl
    where
      step : (Contains es (entity.Node node, was) → IsSome (nodes_noted n es found)) → (b : Bool) → nat_eq id.0 n ≡ b → IsSome (nodes_noted n es (cond b (Some (node_of_old w)) found))
      step rest true is = node_stays es (Some (node_of_old w)) refl
      step rest false is =
          rest (Contains-tail (entity.Node id, w) es (entity.Node node, was) (λ same.
          let keys : entity.Node id ≡ entity.Node node = ap (λ (e : BeforeImage). e.0) same in
          let ids : id ≡ node = cc in
          true≢false (sym (itself_equal n) ∙ ap (λ (k : NodeId). nat_eq k.0 n) (sym ids) ∙ is)) there)
  node_there ((entity.Rel id, w) ∷ es) found was there =
      node_there es found was (Contains-tail (entity.Rel id, w) es (entity.Node node, was) (λ same.
      let keys : entity.Rel id ≡ entity.Node node = ap (λ (e : BeforeImage). e.0) same in
      cc) there)

  rel_there : (es : List BeforeImage) (found : Option (Option Rel)) (was : Option Old) → Contains es (entity.Rel rel, was) → IsSome (rels_noted n es found)
  rel_there [] found was there = absurd (omega (arith, there.1))
  rel_there ((entity.Rel id, w) ∷ es) found was there = step (λ later. rel_there es found was later) (nat_eq id.0 n) refl
    where
      step : (Contains es (entity.Rel rel, was) → IsSome (rels_noted n es found)) → (b : Bool) → nat_eq id.0 n ≡ b → IsSome (rels_noted n es (cond b (Some (rel_of_old w)) found))
      step rest true is = rel_stays es (Some (rel_of_old w)) refl
      step rest false is =
          rest (Contains-tail (entity.Rel id, w) es (entity.Rel rel, was) (λ same.
          let keys : entity.Rel id ≡ entity.Rel rel = ap (λ (e : BeforeImage). e.0) same in
          let ids : id ≡ rel = cc in
          true≢false (sym (itself_equal n) ∙ ap (λ (k : RelId). nat_eq k.0 n) (sym ids) ∙ is)) there)
  rel_there ((entity.Node id, w) ∷ es) found was there =
      rel_there es found was (Contains-tail (entity.Node id, w) es (entity.Rel rel, was) (λ same.
      let keys : entity.Node id ≡ entity.Rel rel = ap (λ (e : BeforeImage). e.0) same in
      cc) there)

  not_some : {A : Type 0} (o : Option A) → o ≡ None → IsSome o → ⊥
  not_some None is some = false≢true some
  not_some (Some x) is some = cc

  node_back : (o : Option Node) → node_of_old (option_map (λ (node : Node). let v : Old = inl node in v) o) ≡ o
  node_back None = refl
  node_back (Some found) = refl

  rel_back : (o : Option Rel) → rel_of_old (option_map (λ (rel : Rel). let v : Old = inr rel in v) o) ≡ o
  rel_back None = refl
  rel_back (Some found) = refl

  module _ (before now : State) (images : List BeforeImage) (touched : AreTouched before now images) where
    pub node_image_of : IsImage (node_at node before) (node_at node now) (nodes_noted n images None)
    node_image_of =
        image (node_at node before) (node_at node now) (nodes_noted n images None)
        (node_holds (λ was. (was ≡ node_at node before) × (node_at node before ≢ node_at node now)) images None tt (λ was there.
        let differs = touched.differ (entity.Node node, was) there in (
          ap node_of_old differs.0 ∙ node_back (node_at node before),
          λ same. differs.1 (ap (λ (o : Option Node). option_map (λ (node : Node). let v : Old = inl node in v) o) same),
        )))
        (λ none. decided (node_eq.eq-value).it same_node node_itself (node_at node before) (node_at node now) (λ differ.
        not_some (nodes_noted n images None) none (node_there images None (value_of (entity.Node node) before)
        (touched.all (entity.Node node) (λ same. differ (same_nodes (node_at node before) (node_at node now) same))))))

    pub rel_image_of : IsImage (rel_at rel before) (rel_at rel now) (rels_noted n images None)
    rel_image_of =
        image (rel_at rel before) (rel_at rel now) (rels_noted n images None)
        (rel_holds (λ was. (was ≡ rel_at rel before) × (rel_at rel before ≢ rel_at rel now)) images None tt (λ was there.
        let differs = touched.differ (entity.Rel rel, was) there in (
          ap rel_of_old differs.0 ∙ rel_back (rel_at rel before),
          λ same. differs.1 (ap (λ (o : Option Rel). option_map (λ (rel : Rel). let v : Old = inr rel in v) o) same),
        )))
        (λ none. decided (rel_eq.eq-value).it same_rel rel_itself (rel_at rel before) (rel_at rel now) (λ differ.
        not_some (rels_noted n images None) none (rel_there images None (value_of (entity.Rel rel) before)
        (touched.all (entity.Rel rel) (λ same. differ (same_rels (rel_at rel before) (rel_at rel now) same))))))

-- what was gathered of all of them
pub gathered : (graph : Versions) (images : List BeforeImage) → IsSome graph.was → IfSome graph.was (λ before. AreTouched before graph.now images)
    → IsGraph graph.now × IfSome graph.was (λ before. IsGraph before) → (touches : Touches)
    → ((n : ℕ) → image_at n touches.nodes ≡ nodes_noted n images None) → ((n : ℕ) → image_at n touches.rels ≡ rels_noted n images None)
    → IsDistinct nat_eq (keys_of touches.nodes) → IsDistinct nat_eq (keys_of touches.rels) → IsChange (before_change graph) graph.now touches
gathered graph images opened touched graphs touches nodes rels nodes_once rels_once = by graph.was opened touched graphs.1
  where
    by : (was : Option State) → IsSome was → IfSome was (λ before. AreTouched before graph.now images) → IfSome was (λ before. IsGraph before) → IsChange (unwrap_or was graph.now) graph.now touches
    by None opened touched is = absurd (false≢true opened)
    by (Some before) opened touched is = record {
      graph_before = is;
      graph_now = graphs.0;
      nodes_once = nodes_once;
      rels_once = rels_once;
      nodes = λ id. subst (IsImage (node_at id before) (node_at id graph.now)) (sym (nodes id.0)) (node_image_of id.0 before graph.now images touched);
      rels = λ id. subst (IsImage (rel_at id before) (rel_at id graph.now)) (sym (rels id.0)) (rel_image_of id.0 before graph.now images touched);
    }

-- a look-up among values that are mapped, once one more is there
pub added : {X V : Type 0} (g : X → V) (key number : ℕ) (value : X) (old new : List (ℕ × X)) → lookup (nat_eq number) new ≡ cond (nat_eq key number) (Some value) (lookup (nat_eq number) old)
    → lookup (nat_eq number) (map (λ e. (e.0, g e.1)) new) ≡ cond (nat_eq key number) (Some (g value)) (lookup (nat_eq number) (map (λ e. (e.0, g e.1)) old))
added g key number value old new is =
    lookup-map_values g (nat_eq number) new
    ∙ ap (option_map g) is
    ∙ step (nat_eq key number)
    ∙ ap (λ o. cond (nat_eq key number) (Some (g value)) o) (sym (lookup-map_values g (nat_eq number) old))
  where
    step : (b : Bool) → option_map g (cond b (Some value) (lookup (nat_eq number) old)) ≡ cond b (Some (g value)) (option_map g (lookup (nat_eq number) old))
    step true = refl
    step false = refl

-- ---- all entities of a graph, of which none was there

-- an entity is touched exactly where a look-up finds it
pub found_all : {K V W : Type 0} (R : K → K → Ordering) (number_of : K → ℕ) → ((j k : K) → eq_by_cmp R j k ≡ nat_eq (number_of j) (number_of k)) → (q : K) (es : List (K × V))
    → image_at {V = W} (number_of q) (none_was number_of es) ≡ option_map (λ v. None) (entries.find R q es)
found_all R number_of same q [] = refl
found_all {W = W} R number_of same q (e ∷ es) =
    ap (λ b. cond b (Some None) (image_at {V = W} (number_of q) (none_was number_of es))) (sym (same q e.0)) ∙ step (eq_by_cmp R q e.0) (found_all {W = W} R number_of same q es)
  where
    step : (b : Bool) → image_at {V = W} (number_of q) (none_was number_of es) ≡ option_map (λ v. None) (entries.find R q es)
        → cond b (Some None) (image_at {V = W} (number_of q) (none_was number_of es)) ≡ option_map (λ v. None) (cond b (Some e.1) (entries.find R q es))
    step true rest = refl
    step false rest = rest

-- keys that stand once have numbers that do
numbers_apart : {K V : Type 0} (W : Type 0) (R : K → K → Ordering) (number_of : K → ℕ) → ((j k : K) → eq_by_cmp R j k ≡ nat_eq (number_of j) (number_of k)) → (q : K) (es : List (K × V))
    → AllByRecursion (λ k. eq_by_cmp R q k ≡ false) (keys_of es) → AllByRecursion (λ n. nat_eq (number_of q) n ≡ false) (keys_of (none_was {W = W} number_of es))
numbers_apart W R number_of same q [] each = tt
numbers_apart W R number_of same q (e ∷ es) each = (sym (same q e.0) ∙ each.0, numbers_apart W R number_of same q es each.1)

numbers_once : {K V : Type 0} (W : Type 0) (R : K → K → Ordering) (number_of : K → ℕ) → ((j k : K) → eq_by_cmp R j k ≡ nat_eq (number_of j) (number_of k)) → (es : List (K × V))
    → IsDistinct (eq_by_cmp R) (keys_of es) → IsDistinct nat_eq (keys_of (none_was {W = W} number_of es))
numbers_once W R number_of same [] once = none_once nat_eq
numbers_once W R number_of same (e ∷ es) once =
    IsDistinct-cons nat_eq (number_of e.0) (keys_of (none_was {W = W} number_of es))
    (numbers_apart W R number_of same e.0 es (IsDistinct-head (eq_by_cmp R) e.0 (keys_of es) once))
    (numbers_once W R number_of same es (IsDistinct-tail (eq_by_cmp R) e.0 (keys_of es) once))

image_come : {V : Type 0} (now : Option V) (o : Option (Option V)) → o ≡ option_map (λ v. None) now → IsImage None now o
image_come {V = V} None o is = subst (IsImage {V = V} None None) (sym is) refl
image_come {V = V} (Some v) o is = subst (IsImage {V = V} None (Some v)) (sym is) (refl, λ same. cc)

empty_graph : IsGraph (empty_state 1 1)
empty_graph = record {
  rising = refl;
  numbered = tt;
  in_form = tt;
  stored = tt;
  rels_rising = refl;
  rels_numbered = tt;
  rels_in_form = tt;
  rels_stored = tt;
  ends = tt;
  node_range = (omega arith, omega arith);
  rel_range = (omega arith, omega arith);
}

node_found : (now : State) (id : NodeId) → image_at id.0 (none_was {W = Node} (λ (k : NodeId). k.0) now.content.nodes) ≡ option_map (λ v. None) (node_at id now)
node_found now id = found_all node_order (λ (k : NodeId). k.0) (λ j k. same_by_order j.0 k.0) id now.content.nodes

rel_found : (now : State) (id : RelId) → image_at id.0 (none_was {W = Rel} (λ (k : RelId). k.0) now.content.rels) ≡ option_map (λ v. None) (rel_at id now)
rel_found now id = found_all rel_order (λ (k : RelId). k.0) (λ j k. same_by_order j.0 k.0) id now.content.rels

-- so what stands under the number of one that was looked up
pub node_image : (now : State) (id : NodeId) (found : Option Node) → found ≡ node_at id now → option_map (λ v. None) found ≡ image_at id.0 (none_was {W = Node} (λ (k : NodeId). k.0) now.content.nodes)
node_image now id found is = ap (option_map (λ v. None)) is ∙ sym (node_found now id)

pub rel_image : (now : State) (id : RelId) (found : Option Rel) → found ≡ rel_at id now → option_map (λ v. None) found ≡ image_at id.0 (none_was {W = Rel} (λ (k : RelId). k.0) now.content.rels)
rel_image now id found is = ap (option_map (λ v. None)) is ∙ sym (rel_found now id)

pub all_come : (now : State) → IsGraph now
    → IsChange (empty_state 1 1) now (record { nodes = none_was (λ (k : NodeId). k.0) now.content.nodes; rels = none_was (λ (k : RelId). k.0) now.content.rels })
all_come now graph = record {
  graph_before = empty_graph;
  graph_now = graph;
  nodes_once = numbers_once Node node_order (λ (k : NodeId). k.0) (λ j k. same_by_order j.0 k.0) now.content.nodes (rising_once node_order now.content.nodes graph.rising);
  rels_once = numbers_once Rel rel_order (λ (k : RelId). k.0) (λ j k. same_by_order j.0 k.0) now.content.rels (rising_once rel_order now.content.rels graph.rels_rising);
  nodes = λ id. image_come (node_at id now) (image_at id.0 (none_was (λ (k : NodeId). k.0) now.content.nodes)) (node_found now id);
  rels = λ id. image_come (rel_at id now) (image_at id.0 (none_was (λ (k : RelId). k.0) now.content.rels)) (rel_found now id);
}
