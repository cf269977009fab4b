-- The cell that is lent or made, and answers with one. (own)
use Rattle.std.specs.Prelude.{◌≡◌, ◌⊎◌, Result, Ok, Err, MatchResult}
use Rattle.cy_values.specs.declared.rows.Cell.{Cell}
use Rattle.cy_values.specs.declared.rows.Cell.TheVariants as cell
use Rattle.cy_values.specs.Compare.{lent}
use Rattle.cy_expr.specs.declared.faults.EvalFault.{EvalFault}
use Rattle.cy_expr.specs.declared.faults.EvalFault.TheVariants.{NoMemory}
use Rattle.cy_expr.specs.declared.held.Held.{Held}
use Rattle.cy_expr.specs.declared.held.Held.TheVariants as held
use Rattle.cy_expr.specs.declared.views.CellView.{CellView}
use Rattle.cy_expr.specs.declared.views.CellView.TheVariants as view

abbrev pub lent_cell : CellView → Cell
lent_cell (view.Node n) = cell.Node n
lent_cell (view.Rel r) = cell.Rel r
lent_cell (view.Rels rs) = cell.Rels rs.now
lent_cell (view.Value v) = cell.Value (lent v)

-- the cell that is lent or made
abbrev pub held_cell : Held → Cell
held_cell (held.Lent c) = lent_cell c
held_cell (held.Made v) = cell.Value v

-- an answer with this cell or this fault
abbrev pub Gives : Result Held EvalFault → Result Cell EvalFault → Type 0
Gives answer outcome = MatchResult answer (λ h. outcome ≡ Ok (held_cell h)) (λ fault. outcome ≡ Err fault)

-- an answer with this cell or this fault, or out of memory
abbrev pub GivesOrWants : Result Held EvalFault → Result Cell EvalFault → Type 0
GivesOrWants answer outcome = MatchResult answer (λ h. outcome ≡ Ok (held_cell h)) (λ fault. (outcome ≡ Err fault) ⊎ (fault ≡ NoMemory))
