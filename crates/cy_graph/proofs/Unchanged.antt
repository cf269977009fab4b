-- Edits of a map that leave it as it is.
use Rattle.std.proofs.Common.{◌≡◌, ℕ, Bool, true, false, cond, not, List, Option, Some, None, is_some, IsTrue, refl, sym, ap, ◌∙◌}
use Rattle.std.specs.Cmp.{IsTotalOrder}
use Rattle.std.specs.Option.{option_map}
use Rattle.std.specs.Ordering.{nat_cmp, eq_by_cmp}
use Rattle.std.specs.declared.cmp.Ordering.{Ordering}
use Rattle.std.specs.declared.cmp.Ordering.TheVariants.{Equal}
use Rattle.std.specs.FinMap.Entries as entries
use Rattle.std.proofs.lemmas.Cmp.{nat_cmp_total, nat_list_cmp_total}
use Rattle.std.proofs.lemmas.Map.Lookups.{exact_bytes, exact_unsigned}
use Rattle.cy_values.specs.declared.scalars.Value.{Value}
use Rattle.cy_values.proofs.SameRows.{equal_order}
use Rattle.cy_graph.specs.declared.nodes.Node.{Node}
use Rattle.cy_graph.specs.Graph.{set_or_removed, with_label, without_label}
use Rattle.cy_graph.specs.Maps.{text_order, rises, value_at, with_value, without}
use Rattle.cy_graph.specs.internal.Versions.{IsNumbered, put_under, with_edited}
use Rattle.cy_graph.specs.Model.{Numbered}
use Rattle.cy_graph.specs.internal.Slots.{value_under}
use Rattle.cy_graph.proofs.Places.{held}
use Rattle.cy_graph.proofs.Slots.{sorted}

module _ {K X : Type 0} (R : K → K → Ordering) (o : IsTotalOrder R) (exact : (x y : K) → R x y ≡ Equal → x ≡ y) where
  -- to set the value that is there
  put_same : (k : K) (v : X) (es : List (K × X)) → IsTrue (entries.is_sorted R es) → entries.find R k es ≡ Some v → entries.put R k v es ≡ es
  put_same k v es up is =
      entries.same_entries R o exact (entries.put R k v es) es (entries.is_sorted-put R o k v es (held _ up)) (held _ up) (λ q.
      entries.find-put R o q k v es ∙ elim (eq_by_cmp R q k) as (λ b. eq_by_cmp R q k ≡ b → cond b (Some v) (entries.find R q es) ≡ entries.find R q es) [
        | true ↦ λ t. sym is ∙ entries.find_tied R o q k (equal_order (R q k) t) es
        | false ↦ λ t. refl
      ] refl)

  -- to remove what is not there
  where_same : (k : K) (es : List (K × X)) → IsTrue (entries.is_sorted R es) → entries.find R k es ≡ None → entries.where_key R (λ q. not (eq_by_cmp R k q)) es ≡ es
  where_same k es up none =
      entries.same_entries R o exact (entries.where_key R (λ q. not (eq_by_cmp R k q)) es) es (entries.is_sorted-where_key R (λ q. not (eq_by_cmp R k q)) es (held _ up)) (held _ up) (λ q.
      entries.find-where_key R (λ x. not (eq_by_cmp R k x)) q (λ x e. ap (λ y. not (eq_by_cmp R k y)) (sym (exact q x e))) es
      ∙ elim (eq_by_cmp R k q) as (λ b. eq_by_cmp R k q ≡ b → cond (not b) (entries.find R q es) None ≡ entries.find R q es) [
        | true ↦ λ t. sym none ∙ sym (entries.find_tied R o k q (equal_order (R k q) t) es)
        | false ↦ λ t. refl
      ] refl)

pub value_same : {V : Type 0} (key : List ℕ) (v : V) (es : List (List ℕ × V)) → IsTrue (rises es) → value_at key es ≡ Some v → with_value key v es ≡ es
value_same key v es up is = put_same text_order nat_list_cmp_total exact_bytes key v es up is

pub without_same : {V : Type 0} (key : List ℕ) (es : List (List ℕ × V)) → IsTrue (rises es) → value_at key es ≡ None → without key es ≡ es
without_same key es up none = where_same text_order nat_list_cmp_total exact_bytes key es up none

pub prop_same : (key : List ℕ) (value : Option Value) (props : List (List ℕ × Value)) → IsTrue (rises props) → value_at key props ≡ value → set_or_removed key value props ≡ props
prop_same key None props up is = without_same key props up is
prop_same key (Some v) props up is = value_same key v props up is

-- an edit that leaves the value leaves the series
pub edited_same : {V : Type 0} (edited : V → V) (number : ℕ) (value : V) (now : Numbered V) → IsNumbered now → value_under number now.entries ≡ Some value → edited value ≡ value → with_edited edited number now ≡ now
edited_same {V} edited number value now numbered is same =
    ap (λ es. let n : Numbered V = record { entries = es; next = now.next } in n)
    (ap (λ (o : Option V). put_under number (option_map edited o) now.entries) is ∙ ap (λ v. entries.put nat_cmp number v now.entries) same
    ∙ put_same nat_cmp nat_cmp_total exact_unsigned number value now.entries (sorted 1 now.next now.entries numbered.rising) is)

-- to add a label that is there
pub label_there : {A : Type 0} {f : A → Unit {0}} (label : List ℕ) (node : Node) → IsTrue (rises node.labels) → (found : Option A) → value_at label node.labels ≡ option_map f found → (none : Bool) → is_some found ≡ not none → IsTrue (not none) → with_label label node ≡ node
label_there label node up (Some x) is none e passes =
    ap (λ labels. let n : Node = record node { labels = labels } in n) (value_same label tt node.labels up is)
label_there label node up None is none e passes = let clash : false ≡ true = e ∙ passes in cc

-- and to drop one that is not there
pub label_gone : {A : Type 0} {f : A → Unit {0}} (label : List ℕ) (node : Node) → IsTrue (rises node.labels) → (found : Option A) → value_at label node.labels ≡ option_map f found → (some : Bool) → some ≡ is_some found → IsTrue (not some) → without_label label node ≡ node
label_gone label node up None is some e passes =
    ap (λ labels. let n : Node = record node { labels = labels } in n) (without_same label node.labels up is)
label_gone label node up (Some x) is some e passes = let clash : false ≡ true = sym (ap not e) ∙ passes in cc
