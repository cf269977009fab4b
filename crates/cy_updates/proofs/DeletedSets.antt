-- The set that DELETE removes as lists of numbers, and what is left when they are removed one after another.
use Rattle.std.specs.FinMap.Entries as entries
use Rattle.std.proofs.Common.{◌≡◌, ℕ, ◌+◌, ◌≤◌, Bool, true, false, cond, not, ◌&&◌, ◌||◌, List, [], ◌∷◌, ◌++◌, length, filter, append_assoc, Some, None, IsSome, refl, sym, ap, ◌∙◌, arith}
use Rattle.std.specs.Prelude.{◌==◌}
use Rattle.std.specs.List.{AllByRecursion, dedup, dedup_from, list_any}
use Rattle.std.specs.List.Sorted.{IsPermutation}
use Rattle.std.specs.Ordering.{eq_by_cmp, is_lt}
use Rattle.std.proofs.lemmas.Bool.{and_parts, false≢true}
use Rattle.std.proofs.lemmas.Bool.Decides.{nat_tests}
use Rattle.std.proofs.lemmas.List.Folds.{list_any-append}
use Rattle.std.proofs.lemmas.List.Sorted.{list_any-IsPermutation}
use Rattle.std.proofs.lemmas.Option.{none-some}
use Rattle.cy_values.specs.declared.numbers.NodeId.{NodeId}
use Rattle.cy_values.specs.declared.numbers.RelId.{RelId}
use Rattle.cy_values.specs.declared.numbers.Entity.{Entity}
use Rattle.cy_values.specs.declared.numbers.Entity.TheVariants as entity
use Rattle.cy_values.proofs.Booleans.{or_false}
use Rattle.cy_values.proofs.Lists.{all_passing}
use Rattle.cy_graph.specs.Graph.{State, IsGraph, rel_at, node_at, number_end, with_nodes, with_rels, without_node, without_rel}
use Rattle.cy_graph.specs.declared.nodes.Node.{Node}
use Rattle.cy_graph.specs.declared.nodes.Rel.{Rel}
use Rattle.cy_updates_meaning.specs.Deleting.{is_node_of, is_relationship_of, lies_at}
use Rattle.cy_updates.specs.internal.Deleting.{is_node_among, is_rel_among, lies_among, nodes_among, rels_among, without_nodes, without_rels}
use Rattle.cy_updates_meaning.proofs.Entries.{Sorted, Below, found, order}
use Rattle.cy_updates_meaning.proofs.EntryCounts.{few, same_filtered}
use Rattle.cy_updates_meaning.proofs.Graphs.{node_number, rel_number}

-- ---- tests

neither_is : (a b : Bool) → (not a && not b) ≡ not (b || a)
neither_is true true = refl
neither_is true false = refl
neither_is false true = refl
neither_is false false = refl

-- one test after another
pub filter_both : {A : Type 0} (p q : A → Bool) (xs : List A) → filter p (filter q xs) ≡ filter (λ x. q x && p x) xs
filter_both p q [] = refl
filter_both p q (x ∷ xs) =
    let rest = filter_both p q xs in
    elim (q x) as (λ b. filter p (cond b (x ∷ filter q xs) (filter q xs)) ≡ cond (b && p x) (x ∷ filter (λ y. q y && p y) xs) (filter (λ y. q y && p y) xs)) [
      | true ↦ elim (p x) as (λ b. cond b (x ∷ filter p (filter q xs)) (filter p (filter q xs)) ≡ cond b (x ∷ filter (λ y. q y && p y) xs) (filter (λ y. q y && p y) xs)) [
        | true ↦ ap (λ l. x ∷ l) rest
        | false ↦ rest
      ]
      | false ↦ rest
    ]

pub each_is : {A : Type 0} (P : A → Type 0) → ((x : A) → P x) → (xs : List A) → AllByRecursion P xs
each_is P every [] = tt
each_is P every (x ∷ xs) = (every x, each_is P every xs)

-- ---- entries whose numbers are among others

module _ {K : Type 0} (num : K → ℕ) where
  abbrev pub among : List K → K → Bool
  among ids id = list_any (λ (other : K). num id == num other) ids

  same_test : (id k : K) → eq_by_cmp (order num) id k ≡ (num k == num id)
  same_test id k =
      elim (num k == num id) as (λ b. (num k == num id) ≡ b → eq_by_cmp (order num) id k ≡ b) [
        | true ↦ λ h. grind (arith, nat_tests)
        | false ↦ λ h. grind (arith, nat_tests)
      ] refl

  among_last : (ids : List K) (id k : K) → among (ids ++ id ∷ []) k ≡ (among ids k || (num k == num id))
  among_last ids id k = list_any-append (λ (other : K). num k == num other) ids (id ∷ []) ∙ ap (λ b. among ids k || b) (or_false (num k == num id))

  module _ {V : Type 0} where
    abbrev pub removed : K → List (K × V) → List (K × V)
    removed id es = entries.where_key (order num) (λ k. not (eq_by_cmp (order num) id k)) es

    abbrev pub left_of : List K → List (K × V) → List (K × V)
    left_of ids es = filter (λ (e : K × V). not (among ids e.0)) es

    -- one of them was removed
    pub one_removed : (ids : List K) (id : K) (es : List (K × V)) → left_of ids (removed id es) ≡ left_of (ids ++ id ∷ []) es
    one_removed ids id es =
        filter_both (λ (e : K × V). not (among ids e.0)) (λ (e : K × V). not (eq_by_cmp (order num) id e.0)) es
        ∙ same_filtered (λ (e : K × V). not (eq_by_cmp (order num) id e.0) && not (among ids e.0)) (λ (e : K × V). not (among (ids ++ id ∷ []) e.0)) es
        (each_is (λ (e : K × V). (not (eq_by_cmp (order num) id e.0) && not (among ids e.0)) ≡ not (among (ids ++ id ∷ []) e.0))
        (λ e. ap (λ b. not b && not (among ids e.0)) (same_test id e.0) ∙ neither_is (num e.0 == num id) (among ids e.0) ∙ ap not (sym (among_last ids id e.0))) es)

    others : (id : K) (es : List (K × V)) → found num id es ≡ None → AllByRecursion (λ (e : K × V). eq_by_cmp (order num) id e.0 ≡ false) es
    others id [] none = tt
    others id (e ∷ es) none =
        elim (eq_by_cmp (order num) id e.0) as (λ b. eq_by_cmp (order num) id e.0 ≡ b → cond b (Some e.1) (found num id es) ≡ None → (eq_by_cmp (order num) id e.0 ≡ false) × AllByRecursion (λ (f : K × V). eq_by_cmp (order num) id f.0 ≡ false) es) [
          | true ↦ λ h some. absurd (none-some e.1 (sym some))
          | false ↦ λ h rest. (h, others id es rest)
        ] refl none

    kept_whole : (id : K) (es : List (K × V)) → AllByRecursion (λ (e : K × V). eq_by_cmp (order num) id e.0 ≡ false) es → removed id es ≡ es
    kept_whole id [] all = refl
    kept_whole id (e ∷ es) all = ap (λ b. cond (not b) (e ∷ removed id es) (removed id es)) all.0 ∙ ap (λ l. e ∷ l) (kept_whole id es all.1)

    -- one of them wasn't there
    pub none_removed : (ids : List K) (id : K) (es : List (K × V)) → found num id es ≡ None → left_of ids es ≡ left_of (ids ++ id ∷ []) es
    none_removed ids id es none = ap (left_of ids) (sym (kept_whole id es (others id es none))) ∙ one_removed ids id es

    -- a number is there once
    pub one_less : (id : K) (es : List (K × V)) → Sorted num es → IsSome (found num id es) → length (removed id es) + 1 ≡ length es
    one_less id [] sorted there = absurd (false≢true there)
    one_less id (e ∷ es) sorted there =
        let parts = and_parts (entries.below_all (order num) e.0 es) (entries.is_sorted (order num) es) sorted in
        elim (eq_by_cmp (order num) id e.0) as (λ b. eq_by_cmp (order num) id e.0 ≡ b → IsSome (cond b (Some e.1) (found num id es)) → length (cond (not b) (e ∷ removed id es) (removed id es)) + 1 ≡ length (e ∷ es)) [
          | true ↦ λ h here. let same : length (removed id es) ≡ length es = ap length (kept_whole id es (tied_above id e.0 es h parts.0)) in omega (arith, same)
          | false ↦ λ h here. let rest : length (removed id es) + 1 ≡ length es = one_less id es parts.1 here in omega (arith, rest)
        ] refl there
      where
        tied_above : (id k : K) (fs : List (K × V)) → eq_by_cmp (order num) id k ≡ true → Below num k fs → AllByRecursion (λ (f : K × V). eq_by_cmp (order num) id f.0 ≡ false) fs
        tied_above id k [] h below = tt
        tied_above id k (f ∷ fs) h below =
            let parts = and_parts (is_lt (order num k f.0)) (entries.below_all (order num) k fs) below in
            let up : is_lt (order num k f.0) ≡ true = parts.0 in
            ((grind (arith, nat_tests)), tied_above id k fs h parts.1)

-- ---- the store's calls

pub rels_one : (ids : List RelId) (id : RelId) (items : List RelId) (graph : State) → items ≡ ids ++ id ∷ [] → without_rels ids (without_rel id graph) ≡ without_rels items graph
rels_one ids id items graph are =
    ap (λ es. with_rels es graph) (one_removed rel_number ids id graph.content.rels) ∙ ap (λ l. without_rels l graph) (sym are)

pub rels_none : (ids : List RelId) (id : RelId) (items : List RelId) (graph : State) → items ≡ ids ++ id ∷ [] → rel_at id graph ≡ None → without_rels ids graph ≡ without_rels items graph
rels_none ids id items graph are none =
    ap (λ es. with_rels es graph) (none_removed rel_number ids id graph.content.rels none) ∙ ap (λ l. without_rels l graph) (sym are)

pub nodes_one : (ids : List NodeId) (id : NodeId) (items : List NodeId) (graph : State) → items ≡ ids ++ id ∷ [] → without_nodes ids (without_node id graph) ≡ without_nodes items graph
nodes_one ids id items graph are =
    ap (λ es. with_nodes es graph) (one_removed node_number ids id graph.content.nodes) ∙ ap (λ l. without_nodes l graph) (sym are)

pub nodes_none : (ids : List NodeId) (id : NodeId) (items : List NodeId) (graph : State) → items ≡ ids ++ id ∷ [] → node_at id graph ≡ None → without_nodes ids graph ≡ without_nodes items graph
nodes_none ids id items graph are none =
    ap (λ es. with_nodes es graph) (none_removed node_number ids id graph.content.nodes none) ∙ ap (λ l. without_nodes l graph) (sym are)

pub without_no_rels : (graph : State) → without_rels [] graph ≡ graph
without_no_rels graph = ap (λ es. with_rels es graph) (all_passing (λ (e : RelId × Rel). true) graph.content.rels (each_is (λ (e : RelId × Rel). true ≡ true) (λ e. refl) graph.content.rels))

pub without_no_nodes : (graph : State) → without_nodes [] graph ≡ graph
without_no_nodes graph = ap (λ es. with_nodes es graph) (all_passing (λ (e : NodeId × Node). true) graph.content.nodes (each_is (λ (e : NodeId × Node). true ≡ true) (λ e. refl) graph.content.nodes))

-- ---- sorted, and each once

or_twice : (a b : Bool) → (a || b) ≡ (a || (a || b))
or_twice true b = refl
or_twice false b = refl

module _ {A : Type 0} (same : A → A → Bool) (p : A → Bool) (alike : (x y : A) → same x y ≡ true → p x ≡ p y) where
  any_from : (k : A) (xs : List A) → list_any p (dedup_from same k xs) ≡ (p k || list_any p xs)
  any_from k [] = refl
  any_from k (x ∷ xs) =
      elim (same x k) as (λ b. same x k ≡ b → list_any p (cond b (dedup_from same k xs) (k ∷ dedup_from same x xs)) ≡ (p k || (p x || list_any p xs))) [
        | true ↦ λ h. any_from k xs ∙ or_twice (p k) (list_any p xs) ∙ ap (λ b. p k || (b || list_any p xs)) (sym (alike x k h))
        | false ↦ λ h. ap (λ b. p k || b) (any_from x xs)
      ] refl

  any_once : (xs : List A) → list_any p (dedup same xs) ≡ list_any p xs
  any_once [] = refl
  any_once (x ∷ xs) = any_from x xs

pub nodes_once : (same : NodeId → NodeId → Bool) → ((x y : NodeId) → same x y ≡ true → x.0 ≡ y.0) → (ids sorted once : List NodeId) → IsPermutation ids sorted → once ≡ dedup same sorted
    → (id : NodeId) → is_node_among once id ≡ is_node_among ids id
nodes_once same alike ids sorted once permuted are id =
    let p : NodeId → Bool = λ other. id.0 == other.0 in
    ap (list_any p) are ∙ any_once same p (λ x y h. ap (λ n. id.0 == n) (alike x y h)) sorted ∙ sym (list_any-IsPermutation p ids sorted permuted)

-- ---- entities

pub node_of_set : (set : List Entity) (id : NodeId) → is_node_of set id ≡ is_node_among (nodes_among set) id
node_of_set [] id = refl
node_of_set (entity.Node other ∷ set) id = ap (λ b. (id.0 == other.0) || b) (node_of_set set id)
node_of_set (entity.Rel other ∷ set) id = node_of_set set id

pub rel_of_set : (set : List Entity) (id : RelId) → is_relationship_of set id ≡ is_rel_among (rels_among set) id
rel_of_set [] id = refl
rel_of_set (entity.Node other ∷ set) id = rel_of_set set id
rel_of_set (entity.Rel other ∷ set) id = ap (λ b. (id.0 == other.0) || b) (rel_of_set set id)

pub lies_at_set : (set : List Entity) (e : RelId × Rel) → lies_at set e ≡ lies_among (nodes_among set) e
lies_at_set set e = λ i. node_of_set set e.1.source i || node_of_set set e.1.target i

pub nodes_among-append : (some others : List Entity) → nodes_among (some ++ others) ≡ nodes_among some ++ nodes_among others
nodes_among-append [] others = refl
nodes_among-append (entity.Node id ∷ some) others = ap (λ l. id ∷ l) (nodes_among-append some others)
nodes_among-append (entity.Rel id ∷ some) others = nodes_among-append some others

pub rels_among-append : (some others : List Entity) → rels_among (some ++ others) ≡ rels_among some ++ rels_among others
rels_among-append [] others = refl
rels_among-append (entity.Node id ∷ some) others = rels_among-append some others
rels_among-append (entity.Rel id ∷ some) others = ap (λ l. id ∷ l) (rels_among-append some others)

-- some more after those so far
pub nodes_pushed : (old new : List NodeId) (here rest : List Entity) (all : List NodeId) → new ≡ old ++ nodes_among here → old ++ nodes_among (here ++ rest) ≡ all → new ++ nodes_among rest ≡ all
nodes_pushed old new here rest all is leads =
    ap (λ l. l ++ nodes_among rest) is ∙ append_assoc old (nodes_among here) (nodes_among rest) ∙ ap (λ l. old ++ l) (sym (nodes_among-append here rest)) ∙ leads

pub rels_pushed : (old new : List RelId) (here rest : List Entity) (all : List RelId) → new ≡ old ++ rels_among here → old ++ rels_among (here ++ rest) ≡ all → new ++ rels_among rest ≡ all
rels_pushed old new here rest all is leads =
    ap (λ l. l ++ rels_among rest) is ∙ append_assoc old (rels_among here) (rels_among rest) ∙ ap (λ l. old ++ l) (sym (rels_among-append here rest)) ∙ leads

-- ---- there are no more of them than numbers

pub few_rels : (graph : State) → IsGraph graph → length graph.content.rels + 1 ≤ number_end
few_rels graph is =
    let less : length graph.content.rels + 1 ≤ graph.next_rel = few rel_number graph.next_rel 1 graph.content.rels is.rels_rising is.rels_numbered is.rel_range.0 in
    let most : graph.next_rel ≤ number_end = is.rel_range.1 in
    omega (arith, less, most)

pub few_nodes : (graph : State) → IsGraph graph → length graph.content.nodes + 1 ≤ number_end
few_nodes graph is =
    let less : length graph.content.nodes + 1 ≤ graph.next_node = few node_number graph.next_node 1 graph.content.nodes is.rising is.numbered is.node_range.0 in
    let most : graph.next_node ≤ number_end = is.node_range.1 in
    omega (arith, less, most)
