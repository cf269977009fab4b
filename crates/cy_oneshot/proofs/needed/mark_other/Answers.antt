use Rattle.std.proofs.Common.{◌≡◌, ◌<◌, ◌≤◌, ℕ, length, sym, ap, subst, ◌∙◌, arith, ⊎_elim}
use Rattle.std.specs.Prelude.{slice_get}
use Rattle.std.proofs.lemmas.Bool.{cases_lt}
use Rattle.cy_oneshot.specs.Carried.{is_needed}
use Rattle.cy_oneshot.proofs.Marked.{known_column, still_alike_at, still_nothing, still_then}
use Rattle.cy_oneshot.proofs.needed.mark_other.Goals as goal

pub loop-column-init : goal.loop-column-init
loop-column-init c = record { alike = λ column less not. absurd (omega (arith, less)); still = still_nothing c.args.needed.now.items }

pub loop-column-preserved : goal.loop-column-preserved
loop-column-preserved c =
    let before = c.loop-column.needed.items in
    let after = c.mark_if_other.new.needed.items in
    let marked = c.mark_if_other.ensures in
    record {
      alike = λ column less not.
          ⊎_elim (λ (earlier : column < c.loop-column.column). c.loop-column.invariant.alike column earlier (still_alike_at before after marked.still column not))
          (λ (here : c.loop-column.column ≤ column).
          let same : column ≡ c.loop-column.column = omega (arith, less, here) in
          subst (λ (n : ℕ). slice_get c.args.row.now n ≡ slice_get c.args.first.now n) (sym same) (marked.alike (ap (is_needed after) (sym same) ∙ not)))
          (cases_lt column c.loop-column.column);
      still = still_then c.args.needed.now.items before after c.loop-column.invariant.still marked.still;
    }

pub returns-clause-alike : goal.returns-clause-alike
returns-clause-alike c =
    λ column not.
    let known : column < length c.loop-column.needed.items = known_column c.loop-column.needed.items column not in
    let many : length c.loop-column.needed.items ≡ length c.args.needed.now.items = c.loop-column.invariant.still.1 in
    c.loop-column.invariant.alike column (omega (arith, known, many)) not

pub returns-clause-still : goal.returns-clause-still
returns-clause-still c = c.loop-column.invariant.still
