-- DELETE as the code does it: which relationships go, which is the least that is left over, and what is left of the graph.
use Rattle.std.specs.FinMap.Entries as entries
use Rattle.std.proofs.Common.{◌≡◌, ℕ, ◌<◌, Bool, true, false, cond, not, ◌&&◌, eqb, ◌||◌, List, [], ◌∷◌, ◌++◌, map, filter, Option, Some, None, refl, sym, ap, subst, ◌∙◌, arith}
use Rattle.std.specs.Prelude.{◌==◌, nat_le, slice_get, Ok, Err}
use Rattle.std.specs.List.{AllByRecursion}
use Rattle.std.specs.Ordering.{is_lt}
use Rattle.std.proofs.lemmas.Bool.{and_parts}
use Rattle.std.proofs.lemmas.Bool.Decides.{nat_tests}
use Rattle.std.proofs.lemmas.List.Folds.{list_any-append}
use Rattle.std.proofs.lemmas.Option.{none-some, same_Some}
use Rattle.cy_values.specs.declared.numbers.NodeId.{NodeId}
use Rattle.cy_values.specs.declared.numbers.RelId.{RelId}
use Rattle.cy_values.specs.declared.numbers.Entity.{Entity}
use Rattle.cy_values.specs.declared.rows.Cell.{Cell}
use Rattle.cy_values.proofs.Booleans.{or_false, or_four}
use Rattle.cy_trees.specs.declared.expressions.Variable.{Variable}
use Rattle.cy_graph.specs.Graph.{State, IsGraph, rels_with, with_nodes, with_rels}
use Rattle.cy_graph.specs.internal.Ends.{rels_from, rels_into}
use Rattle.cy_graph.specs.declared.nodes.Node.{Node}
use Rattle.cy_graph.specs.declared.nodes.Rel.{Rel}
use Rattle.cy_updates_meaning.specs.declared.faults.UpdateFault.TheVariants.{StillConnected}
use Rattle.cy_updates_meaning.specs.Deleting.{deleted, is_going, is_left_over, is_node_of, lies_at, named, unless_left_over, without_set}
use Rattle.cy_updates.specs.internal.Deleting.{AreAmong, is_node_among, is_rel_among, lesser_of, lies_among, nodes_among, rels_among, rels_at, without_nodes, without_rels}
use Rattle.cy_updates_meaning.proofs.Deleted.{none_pass}
use Rattle.cy_updates.proofs.DeletedSets.{each_is, filter_both, lies_at_set, node_of_set, rel_of_set}
use Rattle.cy_updates_meaning.proofs.Entries.{Sorted, Below, order}
use Rattle.cy_updates_meaning.proofs.Graphs.{rel_number}
use Rattle.cy_updates_meaning.proofs.EntryCounts.{same_filtered as filter_alike}

abbrev pub Entry : Type 0
Entry = RelId × Rel

abbrev pub key : Entry → RelId
key e = e.0

abbrev pub keys_where : (Entry → Bool) → List Entry → List RelId
keys_where test es = map key (filter test es)

abbrev SortedRels : List Entry → Type 0
SortedRels es = Sorted rel_number es

lower : (k id : RelId) → is_lt (order rel_number k id) ≡ true → k.0 < id.0
lower k id h = grind (arith, nat_tests)

apart : (k id : RelId) → k.0 < id.0 → (k.0 == id.0) ≡ false
apart k id lt = grind (arith, nat_tests)

apart_back : (k id : RelId) → k.0 < id.0 → (id.0 == k.0) ≡ false
apart_back k id lt = grind (arith, nat_tests)

itself : (id : RelId) → (id.0 == id.0) ≡ true
itself id = grind (arith, nat_tests)

-- ---- the numbers of those that pass a test

absent_below : (test : Entry → Bool) (k : RelId) (es : List Entry) → Below rel_number k es → is_rel_among (keys_where test es) k ≡ false
absent_below test k [] below = refl
absent_below test k (e ∷ es) below =
    let parts = and_parts (is_lt (order rel_number k e.0)) (entries.below_all (order rel_number) k es) below in
    let rest = absent_below test k es parts.1 in
    elim (test e) as (λ b. is_rel_among (map key (cond b (e ∷ filter test es) (filter test es))) k ≡ false) [
      | true ↦ ap (λ b. b || is_rel_among (keys_where test es) k) (apart k e.0 (lower k e.0 parts.0)) ∙ rest
      | false ↦ rest
    ]

module _ (test : Entry → Bool) where
  later : (f : Entry) (fs es : List Entry) → Below rel_number f.0 es → AllByRecursion (λ e. is_rel_among (keys_where test fs) e.0 ≡ test e) es
      → AllByRecursion (λ e. is_rel_among (map key (cond (test f) (f ∷ filter test fs) (filter test fs))) e.0 ≡ test e) es
  later f fs [] below all = tt
  later f fs (e ∷ es) below all =
      let parts = and_parts (is_lt (order rel_number f.0 e.0)) (entries.below_all (order rel_number) f.0 es) below in (
        elim (test f) as (λ b. is_rel_among (map key (cond b (f ∷ filter test fs) (filter test fs))) e.0 ≡ test e) [
          | true ↦ ap (λ b. b || is_rel_among (keys_where test fs) e.0) (apart_back f.0 e.0 (lower f.0 e.0 parts.0)) ∙ all.0
          | false ↦ all.0
        ],
        later f fs es parts.1 all.1,
      )

  -- a number is among them just where its entry passes
  each_among : (es : List Entry) → SortedRels es → AllByRecursion (λ e. is_rel_among (keys_where test es) e.0 ≡ test e) es
  each_among [] sorted = tt
  each_among (f ∷ fs) sorted =
      let parts = and_parts (entries.below_all (order rel_number) f.0 fs) (entries.is_sorted (order rel_number) fs) sorted in (
        elim (test f) as (λ b. is_rel_among (map key (cond b (f ∷ filter test fs) (filter test fs))) f.0 ≡ b) [
          | true ↦ ap (λ b. b || is_rel_among (keys_where test fs) f.0) (itself f.0)
          | false ↦ absent_below test f.0 fs parts.0
        ],
        later f fs fs parts.0 (each_among fs parts.1),
      )

same_turned : (a b : ℕ) → eqb a b ≡ (b == a)
same_turned a b =
    elim (b == a) as (λ t. (b == a) ≡ t → eqb a b ≡ t) [
      | true ↦ λ h. grind (arith, nat_tests)
      | false ↦ λ h. grind (arith, nat_tests)
    ] refl

-- ---- the relationships at nodes

zipped : {A : Type 0} (P Q R : A → Type 0) → ((x : A) → P x → Q x → R x) → (xs : List A) → AllByRecursion P xs → AllByRecursion Q xs → AllByRecursion R xs
zipped P Q R step [] ps qs = tt
zipped P Q R step (x ∷ xs) ps qs = (step x ps.0 qs.0, zipped P Q R step xs ps.1 qs.1)

module _ (rels : List Entry) (sorted : SortedRels rels) where
  at_one : (id : NodeId) → AllByRecursion (λ e. is_rel_among (rels_from id rels ++ rels_into id rels) e.0 ≡ ((e.1.source.0 == id.0) || (e.1.target.0 == id.0))) rels
  at_one id =
      zipped (λ e. is_rel_among (rels_from id rels) e.0 ≡ eqb id.0 e.1.source.0) (λ e. is_rel_among (rels_into id rels) e.0 ≡ eqb id.0 e.1.target.0)
      (λ e. is_rel_among (rels_from id rels ++ rels_into id rels) e.0 ≡ ((e.1.source.0 == id.0) || (e.1.target.0 == id.0)))
      (λ e from into. list_any-append (λ (other : RelId). e.0.0 == other.0) (rels_from id rels) (rels_into id rels)
      ∙ (λ i. (from ∙ same_turned id.0 e.1.source.0) i || (into ∙ same_turned id.0 e.1.target.0) i))
      rels (each_among (λ e. eqb id.0 e.1.source.0) rels sorted) (each_among (λ e. eqb id.0 e.1.target.0) rels sorted)

  -- those at several nodes
  pub at_each : (ids : List NodeId) → AreAmong (lies_among ids) (rels_at ids rels) rels
  at_each [] = each_is (λ (e : Entry). is_rel_among (rels_at [] rels) e.0 ≡ lies_among [] e) (λ e. refl) rels
  at_each (id ∷ ids) =
      zipped (λ e. is_rel_among (rels_from id rels ++ rels_into id rels) e.0 ≡ ((e.1.source.0 == id.0) || (e.1.target.0 == id.0))) (λ e. is_rel_among (rels_at ids rels) e.0 ≡ lies_among ids e)
      (λ e. is_rel_among (rels_at (id ∷ ids) rels) e.0 ≡ lies_among (id ∷ ids) e)
      (λ e one others. list_any-append (λ (other : RelId). e.0.0 == other.0) (rels_from id rels ++ rels_into id rels) (rels_at ids rels)
      ∙ (λ i. one i || others i)
      ∙ or_four (e.1.source.0 == id.0) (e.1.target.0 == id.0) (is_node_among ids e.1.source) (is_node_among ids e.1.target))
      rels (at_one id) (at_each ids)

same_lies : (ids others : List NodeId) → ((id : NodeId) → is_node_among ids id ≡ is_node_among others id) → (e : Entry) → lies_among ids e ≡ lies_among others e
same_lies ids others same e = λ i. same e.1.source i || same e.1.target i

-- those that are named, with those at the nodes
pub with_those_at : (graph : State) → IsGraph graph → (named going : List RelId) (ids nodes : List NodeId) → ((id : NodeId) → is_node_among ids id ≡ is_node_among nodes id)
    → going ≡ named ++ rels_at ids graph.content.rels → AreAmong (λ e. is_rel_among named e.0 || lies_among nodes e) going graph.content.rels
with_those_at graph is named going ids nodes same are =
    let rels = graph.content.rels in
    zipped (λ (e : Entry). is_rel_among (rels_at ids rels) e.0 ≡ lies_among ids e) (λ e. Unit {0}) (λ e. is_rel_among going e.0 ≡ (is_rel_among named e.0 || lies_among nodes e))
    (λ e at none. ap (λ (l : List RelId). is_rel_among l e.0) are ∙ list_any-append (λ (other : RelId). e.0.0 == other.0) named (rels_at ids rels)
    ∙ ap (λ b. is_rel_among named e.0 || b) (at ∙ same_lies ids nodes same e))
    rels (at_each rels is.rels_rising ids) (each_is (λ (e : Entry). Unit {0}) (λ e. tt) rels)

-- without DETACH there are none but those that are named
pub named_alone : (named : List RelId) (nodes : List NodeId) (rels : List Entry) → AreAmong (λ e. is_rel_among named e.0 || (false && lies_among nodes e)) named rels
named_alone named nodes rels = each_is (λ (e : Entry). is_rel_among named e.0 ≡ (is_rel_among named e.0 || false)) (λ e. sym (or_false (is_rel_among named e.0))) rels

-- without the relationships that go, the others are left
pub remaining : (graph : State) (detach : Bool) (set : List Entity) (named : List RelId) → named ≡ rels_among set → (nodes : List NodeId) → nodes ≡ nodes_among set → (going : List RelId)
    → AreAmong (λ e. is_rel_among named e.0 || (detach && lies_among nodes e)) going graph.content.rels
    → (after : State) → after ≡ without_rels going graph → after ≡ with_rels (filter (λ e. not (is_going detach set e)) graph.content.rels) graph
remaining graph detach set named named_are nodes nodes_are going are after gone =
    gone
    ∙ ap (λ (es : List Entry). with_rels es graph)
    (filter_alike (λ e. not (is_rel_among going e.0)) (λ e. not (is_going detach set e)) graph.content.rels
    (zipped (λ (e : Entry). is_rel_among going e.0 ≡ (is_rel_among named e.0 || (detach && lies_among nodes e))) (λ e. Unit {0}) (λ e. not (is_rel_among going e.0) ≡ not (is_going detach set e))
    (λ e is none. ap not (is ∙ (λ i. is_rel_among (named_are i) e.0 || (detach && lies_among (nodes_are i) e)) ∙ (λ i. sym (rel_of_set set e.0) i || (detach && sym (lies_at_set set e) i))))
    graph.content.rels are (each_is (λ (e : Entry). Unit {0}) (λ e. tt) graph.content.rels)))

swapped : (a b : Bool) → (b && a) ≡ (a && b)
swapped true true = refl
swapped true false = refl
swapped false true = refl
swapped false false = refl

-- those of them that remain at a node of the set are left over
left_over : (rels : List Entry) (detach : Bool) (set : List Entity) (nodes : List NodeId) → ((e : Entry) → lies_among nodes e ≡ lies_at set e)
    → filter (lies_among nodes) (filter (λ e. not (is_going detach set e)) rels) ≡ filter (is_left_over detach set) rels
left_over rels detach set nodes are =
    filter_both (lies_among nodes) (λ e. not (is_going detach set e)) rels
    ∙ filter_alike (λ e. not (is_going detach set e) && lies_among nodes e) (is_left_over detach set) rels
    (each_is (λ (e : Entry). (not (is_going detach set e) && lies_among nodes e) ≡ is_left_over detach set e)
    (λ e. ap (λ b. not (is_going detach set e) && b) (are e) ∙ swapped (lies_at set e) (not (is_going detach set e))) rels)

-- ---- the whole

-- the nodes that go are those that are named
pub named_nodes : (set : List Entity) (found : List NodeId) → found ≡ nodes_among set → (nodes : List NodeId) → ((id : NodeId) → is_node_among nodes id ≡ is_node_among found id)
    → (id : NodeId) → is_node_among nodes id ≡ is_node_of set id
named_nodes set found are nodes same id = same id ∙ ap (λ (l : List NodeId). is_node_among l id) are ∙ sym (node_of_set set id)

first_stops : (es : List Entry) (rel : RelId) (graph : State) → slice_get (map key es) 0 ≡ Some rel → unless_left_over es graph ≡ Err (StillConnected rel)
first_stops [] rel graph is = absurd (none-some rel is)
first_stops (e ∷ es) rel graph is = ap (λ id. Err (StillConnected id)) (same_Some e.0 rel is)

none_first : (es : List Entry) → slice_get (map key es) 0 ≡ None → es ≡ []
none_first [] is = refl
none_first (e ∷ es) is = absurd (none-some e.0 (sym is))

module _ (graph : State) (detach : Bool) (variables : List Variable) (rows : List (List Cell)) (nodes : List NodeId) (nodes_are : (id : NodeId) → is_node_among nodes id ≡ is_node_of (named variables rows) id)
    (after : State) (gone : after ≡ with_rels (filter (λ e. not (is_going detach (named variables rows) e)) graph.content.rels) graph) where
  abbrev set : List Entity
  set = named variables rows

  first_left : filter (lies_among nodes) after.content.rels ≡ filter (is_left_over detach set) graph.content.rels
  first_left =
      ap (λ (g : State). filter (lies_among nodes) g.content.rels) gone
      ∙ left_over graph.content.rels detach set nodes (λ e. λ i. nodes_are e.1.source i || nodes_are e.1.target i)

  pub delete_refused : (rel : RelId) → Some rel ≡ slice_get (keys_where (lies_among nodes) after.content.rels) 0 → deleted graph detach variables rows ≡ Err (StillConnected rel)
  delete_refused rel first = first_stops (filter (is_left_over detach set) graph.content.rels) rel (without_set detach set graph) (ap (λ l. slice_get (map key l) 0) (sym first_left) ∙ sym first)

  pub delete_alone : None ≡ slice_get (keys_where (lies_among nodes) after.content.rels) 0 → filter (lies_among nodes) after.content.rels ≡ []
  delete_alone none = none_first (filter (lies_among nodes) after.content.rels) (sym none)

  same_left : without_nodes nodes after ≡ without_set detach set graph
  same_left =
      ap (without_nodes nodes) gone
      ∙ ap (λ (es : List (NodeId × Node)). with_rels (filter (λ e. not (is_going detach set e)) graph.content.rels) (with_nodes es graph))
      (filter_alike (λ (e : NodeId × Node). not (is_node_among nodes e.0)) (λ (e : NodeId × Node). not (is_node_of set e.0)) graph.content.nodes
      (each_is (λ (e : NodeId × Node). not (is_node_among nodes e.0) ≡ not (is_node_of set e.0)) (λ e. ap not (nodes_are e.0)) graph.content.nodes))

  pub delete_done : None ≡ slice_get (keys_where (lies_among nodes) after.content.rels) 0 → (left : State) → left ≡ without_nodes nodes after → deleted graph detach variables rows ≡ Ok left
  delete_done none left done =
      ap (λ l. unless_left_over l (without_set detach set graph)) (sym first_left ∙ delete_alone none) ∙ ap Ok (sym (done ∙ same_left))

-- ---- the least at one of the nodes

module _ (p q : Entry → Bool) where
  above_first : (test : Entry → Bool) (k : RelId) (es : List Entry) → Below rel_number k es → (id : RelId) → slice_get (keys_where test es) 0 ≡ Some id → k.0 < id.0
  above_first test k [] below id is = absurd (none-some id is)
  above_first test k (e ∷ es) below id is =
      let parts = and_parts (is_lt (order rel_number k e.0)) (entries.below_all (order rel_number) k es) below in
      elim (test e) as (λ b. slice_get (map key (cond b (e ∷ filter test es) (filter test es))) 0 ≡ Some id → k.0 < id.0) [
        | true ↦ λ h. subst (λ (other : RelId). k.0 < other.0) (same_Some e.0 id h) (lower k e.0 parts.0)
        | false ↦ λ h. above_first test k es parts.1 id h
      ] is

  below_is : (k id : RelId) → k.0 < id.0 → nat_le k.0 id.0 ≡ true
  below_is k id lt = grind (arith, nat_tests)

  above_is : (k id : RelId) → k.0 < id.0 → nat_le id.0 k.0 ≡ false
  above_is k id lt = grind (arith, nat_tests)

  lesser_first : (k : RelId) (o : Option RelId) → ((id : RelId) → o ≡ Some id → k.0 < id.0) → lesser_of (Some k) o ≡ Some k
  lesser_first k None up = refl
  lesser_first k (Some id) up = ap (λ b. Some (cond b k id)) (below_is k id (up id refl))

  lesser_second : (k : RelId) (o : Option RelId) → ((id : RelId) → o ≡ Some id → k.0 < id.0) → lesser_of o (Some k) ≡ Some k
  lesser_second k None up = refl
  lesser_second k (Some id) up = ap (λ b. Some (cond b id k)) (above_is k id (up id refl))

  lesser_itself : (k : RelId) → lesser_of (Some k) (Some k) ≡ Some k
  lesser_itself k = let P : Bool → Option RelId = λ b. Some (cond b k k) in elim (nat_le k.0 k.0) as (λ b. P b ≡ Some k) [ true ↦ refl | false ↦ refl ]

  pub first_of_either : (es : List Entry) → SortedRels es
      → slice_get (keys_where (λ e. p e || q e) es) 0 ≡ lesser_of (slice_get (keys_where p es) 0) (slice_get (keys_where q es) 0)
  first_of_either [] sorted = refl
  first_of_either (e ∷ es) sorted =
      let parts = and_parts (entries.below_all (order rel_number) e.0 es) (entries.is_sorted (order rel_number) es) sorted in
      elim (p e) as (λ b. slice_get (map key (cond (b || q e) (e ∷ filter (λ f. p f || q f) es) (filter (λ f. p f || q f) es))) 0
      ≡ lesser_of (slice_get (map key (cond b (e ∷ filter p es) (filter p es))) 0) (slice_get (keys_where q (e ∷ es)) 0)) [
        | true ↦ elim (q e) as (λ c. Some e.0 ≡ lesser_of (Some e.0) (slice_get (map key (cond c (e ∷ filter q es) (filter q es))) 0)) [
          | true ↦ sym (lesser_itself e.0)
          | false ↦ sym (lesser_first e.0 (slice_get (keys_where q es) 0) (above_first q e.0 es parts.0))
        ]
        | false ↦ elim (q e) as (λ c. slice_get (map key (cond c (e ∷ filter (λ f. p f || q f) es) (filter (λ f. p f || q f) es))) 0
            ≡ lesser_of (slice_get (keys_where p es) 0) (slice_get (map key (cond c (e ∷ filter q es) (filter q es))) 0)) [
              | true ↦ sym (lesser_second e.0 (slice_get (keys_where p es) 0) (above_first p e.0 es parts.0))
              | false ↦ first_of_either es parts.1
            ]
      ]

abbrev at_node : NodeId → Entry → Bool
at_node id e = eqb id.0 e.1.source.0 || eqb id.0 e.1.target.0

lies_last : (ids : List NodeId) (id : NodeId) (e : Entry) → lies_among (ids ++ id ∷ []) e ≡ (lies_among ids e || at_node id e)
lies_last ids id e =
    (λ i. (one e.1.source i) || (one e.1.target i))
    ∙ or_four (is_node_among ids e.1.source) (eqb id.0 e.1.source.0) (is_node_among ids e.1.target) (eqb id.0 e.1.target.0)
  where
    one : (k : NodeId) → is_node_among (ids ++ id ∷ []) k ≡ (is_node_among ids k || eqb id.0 k.0)
    one k = list_any-append (λ (other : NodeId). k.0 == other.0) ids (id ∷ []) ∙ ap (λ b. is_node_among ids k || b) (or_false (k.0 == id.0) ∙ sym (same_turned id.0 k.0))

-- one more node
pub least_more : (graph : State) → IsGraph graph → (ids : List NodeId) (id : NodeId) (items : List NodeId) → items ≡ ids ++ id ∷ [] → (least : Option RelId)
    → least ≡ slice_get (keys_where (lies_among ids) graph.content.rels) 0
    → lesser_of least (slice_get (rels_with id graph.content.rels) 0) ≡ slice_get (keys_where (lies_among items) graph.content.rels) 0
least_more graph is ids id items are least so_far =
    ap (λ o. lesser_of o (slice_get (rels_with id graph.content.rels) 0)) so_far
    ∙ sym (first_of_either (lies_among ids) (at_node id) graph.content.rels is.rels_rising)
    ∙ ap (λ l. slice_get (map key l) 0)
    (filter_alike (λ e. lies_among ids e || at_node id e) (lies_among (ids ++ id ∷ [])) graph.content.rels
    (each_is (λ (e : Entry). (lies_among ids e || at_node id e) ≡ lies_among (ids ++ id ∷ []) e) (λ e. sym (lies_last ids id e)) graph.content.rels))
    ∙ ap (λ l. slice_get (keys_where (lies_among l) graph.content.rels) 0) (sym are)

-- ---- nothing lies at nodes

pub passes_none : (test : Entry → Bool) (es : List Entry) → AllByRecursion (λ e. test e ≡ false) es → filter test es ≡ []
passes_none test [] all = refl
passes_none test (e ∷ es) all = ap (λ b. cond b (e ∷ filter test es) (filter test es)) all.0 ∙ passes_none test es all.1

first_false : (a b : Bool) → (a || b) ≡ false → a ≡ false
first_false true b h = cc
first_false false b h = refl

second_false : (a b : Bool) → (a || b) ≡ false → b ≡ false
second_false true b h = cc
second_false false b h = h

module _ (ids : List NodeId) (id : NodeId) (items : List NodeId) (are : items ≡ ids ++ id ∷ []) (rels : List Entry) (alone : filter (lies_among items) rels ≡ []) where
  none_at_last : AllByRecursion (λ e. (lies_among ids e || at_node id e) ≡ false) rels
  none_at_last =
      zipped (λ e. lies_among items e ≡ false) (λ e. Unit {0}) (λ e. (lies_among ids e || at_node id e) ≡ false)
      (λ e none u. sym (ap (λ l. lies_among l e) are ∙ lies_last ids id e) ∙ none) rels (none_pass (lies_among items) rels alone) (each_is (λ (e : Entry). Unit {0}) (λ e. tt) rels)

  -- the others are alone
  pub still_alone : filter (lies_among ids) rels ≡ []
  still_alone =
      passes_none (lies_among ids) rels
      (zipped (λ e. (lies_among ids e || at_node id e) ≡ false) (λ e. Unit {0}) (λ e. lies_among ids e ≡ false) (λ e none u. first_false (lies_among ids e) (at_node id e) none) rels none_at_last
      (each_is (λ (e : Entry). Unit {0}) (λ e. tt) rels))

  -- and so is this one
  pub last_alone : slice_get (rels_with id rels) 0 ≡ None
  last_alone =
      ap (λ l. slice_get (map key l) 0) (passes_none (at_node id) rels
      (zipped (λ e. (lies_among ids e || at_node id e) ≡ false) (λ e. Unit {0}) (λ e. at_node id e ≡ false) (λ e none u. second_false (lies_among ids e) (at_node id e) none) rels none_at_last
      (each_is (λ (e : Entry). Unit {0}) (λ e. tt) rels)))
