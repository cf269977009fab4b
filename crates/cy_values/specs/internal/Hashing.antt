-- What a cell gives to a hasher.
use Rattle.std.specs.Prelude.{◌≡◌, ℕ, List, ◌∷◌}
use Rattle.std.specs.Bool.{IsTrue}
use Rattle.std.specs.Hash as fed
use Rattle.std.specs.Hash.{items_Alike}
use Rattle.std.specs.Cmp.Rules.{hashing}
use Rattle.std.proofs.Common.{rules, ap}
use Rattle.cy_values.specs.declared.scalars.Value.{Value}
use Rattle.cy_values.specs.declared.rows.Cell.{Cell}
use Rattle.cy_values.specs.declared.rows.Cell.TheVariants as cell
use Rattle.cy_values.specs.declared.scalars.Scalar.{Scalar}
use Rattle.cy_values.specs.declared.scalars.Scalar.TheVariants as scalar
use Rattle.cy_values.specs.declared.scalars.Value.TheVariants as value
use Rattle.cy_values.specs.contracts.scalars.ScalarHash.TheImpl as scalars
use Rattle.cy_values.specs.contracts.scalars.ScalarPartialEq.TheImpl as equal_scalars
use Rattle.cy_values.specs.contracts.scalars.ValueHash.TheImpl as values
use Rattle.cy_values.specs.contracts.scalars.ValuePartialEq.TheImpl as equal_values
use Rattle.cy_values.specs.declared.numbers.RelId.{RelId}
use Rattle.cy_values.specs.contracts.numbers.RelIdPartialEq.TheImpl as rels
use Rattle.cy_values.specs.contracts.rows.CellPartialEq.TheImpl as cells

-- what a cell gives: its number, its numbers or its value, without a word on which it is
abbrev pub cell_input : Cell → List (List ℕ)
cell_input (cell.Node n) = fed.u64 n.0
cell_input (cell.Rel r) = fed.u64 r.0
cell_input (cell.Rels rs) = fed.slice (λ r. fed.u64 r.0) rs
cell_input (cell.Value v) = values.ghosts.hash_input v

-- equal numbers give the same
pub rels_alike : (r s : RelId) → IsTrue (rels.ghosts.eq r s) → fed.u64 r.0 ≡ fed.u64 s.0
rels_alike r s e = Prim.search (hashing, rules)

-- equal scalars give the same
pub scalars_alike : (s t : Scalar) → IsTrue (equal_scalars.ghosts.eq s t) → scalars.ghosts.hash_input s ≡ scalars.ghosts.hash_input t
scalars_alike (scalar.Text s) (scalar.Text t) e = Prim.search (hashing, rules)
scalars_alike (scalar.Bool a) (scalar.Bool b) e = Prim.search (hashing, rules)
scalars_alike (scalar.Int m) (scalar.Int n) e = Prim.search (hashing, rules)
scalars_alike _ _ e = Prim.search rules

-- equal values give the same
pub values_alike : (v w : Value) → IsTrue (equal_values.ghosts.eq v w) → values.ghosts.hash_input v ≡ values.ghosts.hash_input w
values_alike (value.List vs) (value.List ws) e = ap (λ xs. fed.le_bytes 8 0 ∷ xs) ((items_Alike (record { fed = scalars_alike })).fed vs ws e)
values_alike (value.Text s) (value.Text t) e = Prim.search (hashing, rules)
values_alike (value.Bool a) (value.Bool b) e = Prim.search (hashing, rules)
values_alike (value.Int m) (value.Int n) e = Prim.search (hashing, rules)
values_alike _ _ e = Prim.search rules

-- equal cells give the same
pub cells_alike : (x y : Cell) → IsTrue (cells.ghosts.eq x y) → cell_input x ≡ cell_input y
cells_alike (cell.Node m) (cell.Node n) e = Prim.search (hashing, rules)
cells_alike (cell.Rel r) (cell.Rel s) e = rels_alike r s e
cells_alike (cell.Rels rs) (cell.Rels ss) e = (items_Alike (record { fed = rels_alike })).fed rs ss e
cells_alike (cell.Value v) (cell.Value w) e = values_alike v w e
cells_alike _ _ e = Prim.search rules
