-- The entries of what differs in the series are those of what differs in the graph.
use Rattle.std.proofs.Common.{◌≡◌, ◌≢◌, ℕ, true, List, [], ◌∷◌, ◌++◌, map, Option, None, Some, IfSome, inl, inr, refl, sym, ap, subst, ◌∙◌}
use Rattle.cy_values.specs.declared.numbers.NodeId.{NodeId}
use Rattle.cy_values.specs.declared.numbers.RelId.{RelId}
use Rattle.cy_values.specs.declared.numbers.Entity.{Entity}
use Rattle.cy_values.specs.declared.numbers.Entity.TheVariants as entity
use Rattle.cy_graph.specs.declared.adjacency.Adjacency.{Adjacency}
use Rattle.cy_graph.specs.declared.nodes.Node.{Node}
use Rattle.cy_graph.specs.declared.nodes.Rel.{Rel}
use Rattle.cy_graph.specs.Graph.{State, Versions, node_at, rel_at, IsGraph}
use Rattle.cy_graph.specs.Touched.{Old, BeforeImage, Differs, AreApart, AreTouched, value_of}
use Rattle.std.specs.Option.{option_map, ForSome}
use Rattle.cy_graph.specs.internal.Contents.{AreValues, AreVersions}
use Rattle.cy_graph.specs.internal.Differences.{IsIn, IsDifference, AreNumbersApart, AreDifferences}
use Rattle.cy_graph.specs.internal.BeforeImages.{node_image, rel_image}
use Rattle.cy_graph.specs.internal.Slots.{value_under}
use Rattle.cy_graph.specs.internal.Versions.{IsNumbered}
use Rattle.cy_graph.specs.Model.{Numbered, SeriesVersions, state_of, before_of, versions_of}
use Rattle.cy_graph.proofs.Contents.{find_named}
use Rattle.cy_graph.proofs.RelContents.{find_rel}
use Rattle.cy_graph.proofs.Graphs.{graph_of}
use Rattle.cy_graph.proofs.Elements.{all_in, all_of, contains_from_in, in_from_place, in_parts, in_left, in_right, origin, in_mapped}

-- ---- the values that entities had, by kind

-- two nodes that are the same as values of entities are the same
pub same_nodes : (a b : Option Node) → option_map (λ (node : Node). let o : Old = inl node in o) a ≡ option_map (λ (node : Node). let o : Old = inl node in o) b → a ≡ b
same_nodes None None e = refl
same_nodes None (Some n) e = cc
same_nodes (Some m) None e = cc
same_nodes (Some m) (Some n) e = cc

pub same_rels : (a b : Option Rel) → option_map (λ (rel : Rel). let o : Old = inr rel in o) a ≡ option_map (λ (rel : Rel). let o : Old = inr rel in o) b → a ≡ b
same_rels None None e = refl
same_rels None (Some n) e = cc
same_rels (Some m) None e = cc
same_rels (Some m) (Some n) e = cc

same_number : (m n : ℕ) (e : Entity) → entity.Node (record { 0 = m }) ≡ e → entity.Node (record { 0 = n }) ≡ e → m ≡ n
same_number m n e p q =
    let both : entity.Node (record { 0 = m }) ≡ entity.Node (record { 0 = n }) = p ∙ sym q in
    let one : NodeId = record { 0 = m } in
    let other : NodeId = record { 0 = n } in
    let ids : one ≡ other = cc in
    ap (λ (k : NodeId). k.0) ids

same_rel_number : (m n : ℕ) (e : Entity) → entity.Rel (record { 0 = m }) ≡ e → entity.Rel (record { 0 = n }) ≡ e → m ≡ n
same_rel_number m n e p q =
    let both : entity.Rel (record { 0 = m }) ≡ entity.Rel (record { 0 = n }) = p ∙ sym q in
    let one : RelId = record { 0 = m } in
    let other : RelId = record { 0 = n } in
    let ids : one ≡ other = cc in
    ap (λ (k : RelId). k.0) ids

-- ---- each entity stands once

rels_apart : (found : List (ℕ × Option Rel)) → AreNumbersApart found → AreApart (map rel_image found)
rels_apart [] apart = tt
rels_apart (e ∷ es) apart = (
  all_in (λ (f : BeforeImage). (rel_image e).0 ≢ f.0) (map rel_image es) (λ f i same.
      let s = origin rel_image (λ _. true) es f i in
      all_of (λ (h : ℕ × Option Rel). e.0 ≢ h.0) es s.from apart.0 s.there (same_rel_number e.0 s.from.0 f.0 same (ap (λ (x : BeforeImage). x.0) s.gives))),
  rels_apart es apart.1,
)

entries_apart : (nodes : List (ℕ × Option Node)) (rels : List (ℕ × Option Rel)) → AreNumbersApart nodes → AreNumbersApart rels → AreApart (map node_image nodes ++ map rel_image rels)
entries_apart [] rels apart rels_are = rels_apart rels rels_are
entries_apart (e ∷ es) rels apart rels_are = (
  all_in (λ (f : BeforeImage). (node_image e).0 ≢ f.0) (map node_image es ++ map rel_image rels) (λ f i same.
      elim (in_parts f (map node_image es) (map rel_image rels) i) [
        | inl a ↦
            let s = origin node_image (λ _. true) es f a in
            all_of (λ (h : ℕ × Option Node). e.0 ≢ h.0) es s.from apart.0 s.there (same_number e.0 s.from.0 f.0 same (ap (λ (x : BeforeImage). x.0) s.gives))
        | inr b ↦
            let s = origin rel_image (λ _. true) rels f b in
            let clash : entity.Rel (record { 0 = s.from.0 }) ≡ entity.Node (record { 0 = e.0 }) = ap (λ (x : BeforeImage). x.0) s.gives ∙ sym same in
            cc
      ]),
  entries_apart es rels apart.1 rels_are,
)

-- ---- where the series differ the graphs do

module _ (before now : Numbered Node) (rels_before rels_now : Numbered Rel) where
  abbrev old_state : State
  old_state = state_of before rels_before

  abbrev new_state : State
  new_state = state_of now rels_now

  node_differs : (e : ℕ × Option Node) → IsDifference before now e → Differs old_state new_state (node_image e)
  node_differs e is =
      let id : NodeId = record { 0 = e.0 } in (
        ap (λ (o : Option Node). option_map (λ (node : Node). let v : Old = inl node in v) o) (is.0 ∙ sym (find_named id before.entries)),
        λ same. is.1 (sym (find_named id before.entries) ∙ same_nodes (node_at id old_state) (node_at id new_state) same ∙ find_named id now.entries),
      )

  rel_differs : (e : ℕ × Option Rel) → IsDifference rels_before rels_now e → Differs old_state new_state (rel_image e)
  rel_differs e is =
      let id : RelId = record { 0 = e.0 } in (
        ap (λ (o : Option Rel). option_map (λ (rel : Rel). let v : Old = inr rel in v) o) (is.0 ∙ sym (find_rel id rels_before.entries)),
        λ same. is.1 (sym (find_rel id rels_before.entries) ∙ same_rels (rel_at id old_state) (rel_at id new_state) same ∙ find_rel id rels_now.entries),
      )

  module _ (found : List (ℕ × Option Node)) (rels_found : List (ℕ × Option Rel)) (nodes_are : AreDifferences before now found) (rels_are : AreDifferences rels_before rels_now rels_found) where
    abbrev all_entries : List BeforeImage
    all_entries = map node_image found ++ map rel_image rels_found

    listed_differs : (e : BeforeImage) → IsIn e all_entries → Differs old_state new_state e
    listed_differs e i =
        elim (in_parts e (map node_image found) (map rel_image rels_found) i) [
          | inl a ↦
              let s = origin node_image (λ _. true) found e a in
              subst (Differs old_state new_state) s.gives (node_differs s.from (nodes_are.differ s.from s.there))
          | inr b ↦
              let s = origin rel_image (λ _. true) rels_found e b in
              subst (Differs old_state new_state) s.gives (rel_differs s.from (rels_are.differ s.from s.there))
        ]

    differing_listed : (e : Entity) → value_of e old_state ≢ value_of e new_state → IsIn (e, value_of e old_state) all_entries
    differing_listed (entity.Node id) other =
        let there = nodes_are.all id.0 (λ same. other (ap (λ (o : Option Node). option_map (λ (node : Node). let v : Old = inl node in v) o) (find_named id before.entries ∙ same ∙ sym (find_named id now.entries)))) in
        let entry = in_mapped node_image (λ _. true) found (id.0, value_under id.0 before.entries) there in
        subst (λ (o : Option Node). IsIn (entity.Node id, option_map (λ (node : Node). let v : Old = inl node in v) o) all_entries) (sym (find_named id before.entries)) (in_left _ (map node_image found) (map rel_image rels_found) entry)
    differing_listed (entity.Rel id) other =
        let there = rels_are.all id.0 (λ same. other (ap (λ (o : Option Rel). option_map (λ (rel : Rel). let v : Old = inr rel in v) o) (find_rel id rels_before.entries ∙ same ∙ sym (find_rel id rels_now.entries)))) in
        let entry = in_mapped rel_image (λ _. true) rels_found (id.0, value_under id.0 rels_before.entries) there in
        subst (λ (o : Option Rel). IsIn (entity.Rel id, option_map (λ (rel : Rel). let v : Old = inr rel in v) o) all_entries) (sym (find_rel id rels_before.entries)) (in_right _ (map node_image found) (map rel_image rels_found) entry)

    pub are_touched : AreTouched old_state new_state all_entries
    are_touched = record {
      once = entries_apart found rels_found nodes_are.once rels_are.once;
      differ = λ e c. listed_differs e (in_from_place e all_entries c.0 c.1 c.2);
      all = λ e other. contains_from_in (e, value_of e old_state) all_entries (differing_listed e other);
    }

-- ---- and so with the versions of a graph

pub versions_touched : (nodes : SeriesVersions Node) (rels : SeriesVersions Rel) (versions : Versions) (found : List (ℕ × Option Node)) (rels_found : List (ℕ × Option Rel)) (entries : List BeforeImage) → versions_of nodes rels ≡ versions
    → entries ≡ map node_image found ++ map rel_image rels_found → IfSome nodes.was (λ before. AreDifferences before nodes.now found) → IfSome rels.was (λ before. AreDifferences before rels.now rels_found)
    → IfSome versions.was (λ before. AreTouched before versions.now entries)
versions_touched nodes rels versions found rels_found entries view is differences rel_differences =
    subst (λ (v : Versions). IfSome v.was (λ before. AreTouched before v.now entries)) view (touched_of nodes.was rels.was differences rel_differences)
  where
    touched_of : (was : Option (Numbered Node)) (rels_was : Option (Numbered Rel)) → IfSome was (λ before. AreDifferences before nodes.now found) → IfSome rels_was (λ before. AreDifferences before rels.now rels_found)
        → IfSome (before_of was rels_was) (λ before. AreTouched before (state_of nodes.now rels.now) entries)
    touched_of None rels_was d rd = tt
    touched_of (Some before) None d rd = tt
    touched_of (Some before) (Some rels_before) d rd = subst (AreTouched (state_of before rels_before) (state_of nodes.now rels.now)) (sym is) (are_touched before nodes.now rels_before rels.now found rels_found d rd)

pub versions_graphs : (nodes : SeriesVersions Node) (rels : SeriesVersions Rel) (outgoing incoming : Adjacency) (versions : Versions) → versions_of nodes rels ≡ versions → AreVersions nodes rels outgoing incoming
    → IsNumbered nodes.now × IfSome nodes.was IsNumbered → IsNumbered rels.now × IfSome rels.was IsNumbered → IsGraph versions.now × IfSome versions.was (λ before. IsGraph before)
versions_graphs nodes rels outgoing incoming versions view all numbered rels_numbered =
    subst (λ (v : Versions). IsGraph v.now × IfSome v.was (λ before. IsGraph before)) view (
      graph_of nodes.now rels.now numbered.0 rels_numbered.0 all.now,
      graph_before nodes.was rels.was numbered.1 rels_numbered.1 all.was,
    )
  where
    graph_before : (was : Option (Numbered Node)) (rels_was : Option (Numbered Rel)) → IfSome was IsNumbered → IfSome rels_was IsNumbered → ForSome was (λ before. ForSome rels_was (AreValues before))
        → IfSome (before_of was rels_was) (λ before. IsGraph before)
    graph_before None rels_was numbers rel_numbers all_values = tt
    graph_before (Some before) None numbers rel_numbers all_values = tt
    graph_before (Some before) (Some rels_before) numbers rel_numbers all_values = graph_of before rels_before numbers rel_numbers (all_values before refl rels_before refl)
