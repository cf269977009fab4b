-- What a list at a node gives: the relationships of which the node is an end.
use Rattle.std.proofs.Common.{◌≡◌, ℕ, ◌+◌, ◌<◌, true, false, cond, eqb, List, [], ◌∷◌, filter, Some, None, is_some, refl, sym, ap, ◌∙◌, arith}
use Rattle.std.specs.List.{AllByRecursion}
use Rattle.std.specs.Ordering.{is_eq}
use Rattle.cy_values.specs.declared.numbers.RelId.{RelId}
use Rattle.cy_graph.specs.declared.nodes.Rel.{Rel}
use Rattle.cy_graph.specs.internal.Adjacency.{is_live}
use Rattle.cy_graph.specs.internal.Contents.{ids_by, IsListOf}
use Rattle.cy_graph.specs.internal.Listed.{listed, with_first}
use Rattle.cy_graph.specs.internal.Slots.{RiseFrom, value_under}
use Rattle.cy_graph.specs.internal.Versions.{IsNumbered}
use Rattle.cy_graph.specs.Model.{Numbered, rels_of}
use Rattle.cy_graph.proofs.Joining.{id_of, ids_from}
use Rattle.cy_graph.proofs.Slots.{above, tied}

-- numbers without a value give nothing
listed_live : (es : List (ℕ × Rel)) (ids : List RelId) → listed es ids ≡ listed es (filter (is_live es) ids)
listed_live es [] = refl
listed_live es (id ∷ ids) =
    let rest = listed_live es ids in
    elim (value_under id.0 es) as (λ o. value_under id.0 es ≡ o → with_first id o (listed es ids) ≡ listed es (cond (is_some o) (id ∷ filter (is_live es) ids) (filter (is_live es) ids))) [
      | None ↦ λ is. rest
      | Some rel ↦ λ is. ap (λ l. (id, rel) ∷ l) rest ∙ sym (ap (λ o. with_first id o (listed es (filter (is_live es) ids))) is)
    ] refl

-- one more value with a smaller number is none of theirs
listed_after : (k : ℕ) (rel : Rel) (es : List (ℕ × Rel)) (ids : List RelId) → AllByRecursion (λ (y : RelId). k < y.0) ids → listed ((k, rel) ∷ es) ids ≡ listed es ids
listed_after k rel es [] all = refl
listed_after k rel es (id ∷ ids) all =
    ap (λ o. with_first id (cond (is_eq o) (Some rel) (value_under id.0 es)) (listed ((k, rel) ∷ es) ids)) (above id.0 k all.0) ∙ ap (with_first id (value_under id.0 es)) (listed_after k rel es ids all.1)

module _ (end : Rel → ℕ) (node : ℕ) where
  listed_by : (low high : ℕ) (es : List (ℕ × Rel)) → RiseFrom low high es → listed es (ids_by end node es) ≡ filter (λ (e : RelId × Rel). eqb node (end e.1)) (rels_of es)
  listed_by low high [] r = refl
  listed_by low high (e ∷ es) r =
      let rest = listed_after e.0 e.1 es (ids_by end node es) (ids_from end node (e.0 + 1) high es e.0 (omega arith) r.2) ∙ listed_by (e.0 + 1) high es r.2 in
      elim (eqb node (end e.1)) as (λ b. listed (e ∷ es) (cond b (id_of e.0 ∷ ids_by end node es) (ids_by end node es))
      ≡ cond b ((id_of e.0, e.1) ∷ filter (λ (x : RelId × Rel). eqb node (end x.1)) (rels_of es)) (filter (λ (x : RelId × Rel). eqb node (end x.1)) (rels_of es))) [
        | true ↦ ap (λ o. with_first (id_of e.0) (cond (is_eq o) (Some e.1) (value_under e.0 es)) (listed (e ∷ es) (ids_by end node es))) (tied e.0 e.0 refl) ∙ ap (λ l. (id_of e.0, e.1) ∷ l) rest
        | false ↦ rest
      ]

  pub listed_at : (rels : Numbered Rel) (ids : List RelId) → IsNumbered rels → IsListOf end node rels ids → listed rels.entries ids ≡ filter (λ (e : RelId × Rel). eqb node (end e.1)) (rels_of rels.entries)
  listed_at rels ids numbered is = listed_live rels.entries ids ∙ ap (listed rels.entries) is.live ∙ listed_by 1 rels.next rels.entries numbered.rising
