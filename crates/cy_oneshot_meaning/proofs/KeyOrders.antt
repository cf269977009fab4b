-- The orders of numbers, of cells, of keys and of rows with keys are total.
use Rattle.std.proofs.Common.{◌≡◌, Bool, true, false, cond, List, [], ◌∷◌, refl, subst}
use Rattle.std.specs.Cmp.{IsTotalOrder}
use Rattle.std.specs.declared.cmp.Ordering.{Ordering}
use Rattle.std.specs.declared.cmp.Ordering.TheVariants.{Less, Equal, Greater}
use Rattle.std.specs.Ordering.{ordering_then, ordering_reverse, on, then_cmp}
use Rattle.std.proofs.lemmas.Cmp.{nat_cmp_total, on_total, then_total, back_total}
use Rattle.cy_values.specs.declared.numbers.NodeId.{NodeId}
use Rattle.cy_values.specs.declared.numbers.RelId.{RelId}
use Rattle.cy_values.specs.declared.rows.Cell.{Cell}
use Rattle.cy_values.specs.Order.{cell_order, row_cmp}
use Rattle.cy_values.proofs.Identity.{same_rows}
use Rattle.cy_graph.specs.Graph.{node_order, rel_order}
use Rattle.cy_oneshot_meaning.specs.Order.{Keyed, keys_order, keyed_order}

pub nodes_total : IsTotalOrder node_order
nodes_total = on_total (λ (n : NodeId). n.0) nat_cmp_total

pub rels_total : IsTotalOrder rel_order
rels_total = on_total (λ (r : RelId). r.0) nat_cmp_total

then_equal : (o : Ordering) → ordering_then o Equal ≡ o
then_equal Less = refl
then_equal Equal = refl
then_equal Greater = refl

pub cells_total : IsTotalOrder row_cmp → IsTotalOrder cell_order
cells_total total = subst IsTotalOrder (λ i x y. then_equal (cell_order x y) i) (on_total (λ (c : Cell). c ∷ []) total)

-- the order of a key, turned round or not
abbrev key_order : Bool → Cell → Cell → Ordering
key_order descending k l = cond descending (ordering_reverse (cell_order k l)) (cell_order k l)

key_total : IsTotalOrder row_cmp → (descending : Bool) → IsTotalOrder (key_order descending)
key_total total true =
    let cells : IsTotalOrder cell_order = cells_total total in
    subst IsTotalOrder (λ i k l. cells.antisymm l k i) (back_total cells)
key_total total false = cells_total total

-- a key and those after it
abbrev first_then : Bool → List Bool → Cell × List Cell → Cell × List Cell → Ordering
first_then descending flags = then_cmp (on (λ (p : Cell × List Cell). p.0) (key_order descending)) (on (λ (p : Cell × List Cell). p.1) (keys_order flags))

first_total : IsTotalOrder row_cmp → (descending : Bool) (flags : List Bool) → IsTotalOrder (keys_order flags) → IsTotalOrder (first_then descending flags)
first_total total descending flags rest =
    then_total (on_total (λ (p : Cell × List Cell). p.0) (key_total total descending)) (on_total (λ (p : Cell × List Cell). p.1) rest)

module _ (descending : Bool) (flags : List Bool) (first : IsTotalOrder (first_then descending flags)) where
  turned_keys : (ks ls : List Cell) → keys_order (descending ∷ flags) ks ls ≡ ordering_reverse (keys_order (descending ∷ flags) ls ks)
  turned_keys [] [] = refl
  turned_keys [] (l ∷ ls) = refl
  turned_keys (k ∷ ks) [] = refl
  turned_keys (k ∷ ks) (l ∷ ls) = first.antisymm (k, ks) (l, ls)

  less_keys : (ks ls ms : List Cell) → keys_order (descending ∷ flags) ks ls ≡ Less → keys_order (descending ∷ flags) ls ms ≡ Less
      → keys_order (descending ∷ flags) ks ms ≡ Less
  less_keys [] [] ms p q = cc
  less_keys [] (l ∷ ls) [] p q = cc
  less_keys [] (l ∷ ls) (m ∷ ms) p q = refl
  less_keys (k ∷ ks) [] ms p q = cc
  less_keys (k ∷ ks) (l ∷ ls) [] p q = cc
  less_keys (k ∷ ks) (l ∷ ls) (m ∷ ms) p q = first.trans (k, ks) (l, ls) (m, ms) p q

  tied_keys : (ks ls ms : List Cell) → keys_order (descending ∷ flags) ks ls ≡ Equal
      → keys_order (descending ∷ flags) ks ms ≡ keys_order (descending ∷ flags) ls ms
  tied_keys [] [] ms p = refl
  tied_keys [] (l ∷ ls) ms p = cc
  tied_keys (k ∷ ks) [] ms p = cc
  tied_keys (k ∷ ks) (l ∷ ls) [] p = refl
  tied_keys (k ∷ ks) (l ∷ ls) (m ∷ ms) p = first.congr (k, ks) (l, ls) (m, ms) p

pub keys_total : IsTotalOrder row_cmp → (flags : List Bool) → IsTotalOrder (keys_order flags)
keys_total total [] = record { antisymm = λ ks ls. refl; trans = λ ks ls ms p q. p; congr = λ ks ls ms p. refl }
keys_total total (descending ∷ flags) =
    let first : IsTotalOrder (first_then descending flags) = first_total total descending flags (keys_total total flags) in
    record {
      antisymm = turned_keys descending flags first;
      trans = less_keys descending flags first;
      congr = tied_keys descending flags first;
    }

pub keyed_total : IsTotalOrder row_cmp → (flags : List Bool) → IsTotalOrder (keyed_order flags)
keyed_total total flags = then_total (on_total (λ (k : Keyed). k.keys) (keys_total total flags)) (on_total (λ (k : Keyed). k.row) total)

second : (o p : Ordering) → ordering_then o p ≡ Equal → p ≡ Equal
second Less p h = cc
second Equal p h = h
second Greater p h = cc

-- rows that tie are the same, whatever their keys
pub tied_rows : (flags : List Bool) (x y : Keyed) → keyed_order flags x y ≡ Equal → x.row ≡ y.row
tied_rows flags x y h = same_rows x.row y.row (second (keys_order flags x.keys y.keys) (row_cmp x.row y.row) h)
