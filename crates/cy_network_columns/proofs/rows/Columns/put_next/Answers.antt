use Rattle.std.proofs.Common.{◌≡◌, ◌≤◌, ℕ, List, Option, Some, IfSome, Result, Ok, Err, OnOk, length, map, slice_get, take, sym, ap, subst, ◌∙◌}
use Rattle.std.proofs.lemmas.List.{length-map}
use Rattle.cy_values.specs.declared.rows.Cell.{Cell}
use Rattle.cy_network_columns.specs.internal.Columns.{AreKept, FilledTo, cell_at, next_in, rows_below}
use Rattle.cy_network_columns.proofs.Keeping.{next_is, put_kept, put_rows, trimmed_long, wider_kept, wider_rows}
use Rattle.cy_network_columns.proofs.Elements.{back}
use Rattle.cy_network_columns.proofs.rows.Columns.put_next.Goals as goal

on_ok : {X E P Q : Type 0} (r : Result X E) → OnOk r P → (P → Q) → OnOk r Q
on_ok (Ok x) p f = f p
on_ok (Err e) p f = tt

pub widen-requires : goal.widen-requires
widen-requires c =
    let columns = c.self.inside.columns.items in
    let count = c.self.inside.count in
    let cut = back c.self.inside.columns.len c.trim.new.columns columns (ap length c.trim.ensures ∙ length-map c.deref_mut.result.now (take {A = Option Cell} count) ∙ c.deref_mut.ensures.len)
    (ap length (sym c.deref_mut.ensures.value) ∙ c.deref_mut.ensures.len) ∙ c.trim.ensures ∙ ap (map (take {A = Option Cell} count)) c.deref_mut.ensures.value in
    subst (λ (cs : List (List (Option Cell))). (place : ℕ) → IfSome (slice_get cs place) (λ column. length column ≡ count)) (sym cut) (trimmed_long count columns c.self.invariant.long)

pub invariant_of-self : goal.invariant_of-self
invariant_of-self c =
    let columns = c.self.inside.columns.items in
    let count = c.self.inside.count in
    let cut = back c.self.inside.columns.len c.trim.new.columns columns (ap length c.trim.ensures ∙ length-map c.deref_mut.result.now (take {A = Option Cell} count) ∙ c.deref_mut.ensures.len)
    (ap length (sym c.deref_mut.ensures.value) ∙ c.deref_mut.ensures.len) ∙ c.trim.ensures ∙ ap (map (take {A = Option Cell} count)) c.deref_mut.ensures.value in
    let wider = c.widen.new.columns.items in
    let cells : (place number : ℕ) → cell_at c.widen.new.columns.items place number ≡ cell_at (map (take {A = Option Cell} count) columns) place number =
    λ place number. c.in_err-widen.ensures.cells place number ∙ ap (λ (cs : List (List (Option Cell))). cell_at cs place number) cut in
    wider_kept columns wider count c.self.invariant c.in_err-widen.ensures.long cells

pub returns-in_err-widen-clause-rows : goal.returns-in_err-widen-clause-rows
returns-in_err-widen-clause-rows c =
    let columns = c.self.inside.columns.items in
    let count = c.self.inside.count in
    let cut = back c.self.inside.columns.len c.trim.new.columns columns (ap length c.trim.ensures ∙ length-map c.deref_mut.result.now (take {A = Option Cell} count) ∙ c.deref_mut.ensures.len)
    (ap length (sym c.deref_mut.ensures.value) ∙ c.deref_mut.ensures.len) ∙ c.trim.ensures ∙ ap (map (take {A = Option Cell} count)) c.deref_mut.ensures.value in
    let wider = c.widen.new.columns.items in
    let cells : (place number : ℕ) → cell_at c.widen.new.columns.items place number ≡ cell_at (map (take {A = Option Cell} count) columns) place number =
    λ place number. c.in_err-widen.ensures.cells place number ∙ ap (λ (cs : List (List (Option Cell))). cell_at cs place number) cut in
    rw (← c.self.view_is) (wider_rows columns wider count c.self.invariant c.in_err-widen.ensures.long cells)

pub invariant_of-self-2 : goal.invariant_of-self-2
invariant_of-self-2 c =
    let columns = c.self.inside.columns.items in
    let count = c.self.inside.count in
    let cut = back c.self.inside.columns.len c.trim.new.columns columns (ap length c.trim.ensures ∙ length-map c.deref_mut.result.now (take {A = Option Cell} count) ∙ c.deref_mut.ensures.len)
    (ap length (sym c.deref_mut.ensures.value) ∙ c.deref_mut.ensures.len) ∙ c.trim.ensures ∙ ap (map (take {A = Option Cell} count)) c.deref_mut.ensures.value in
    let wider = c.widen.new.columns.items in
    let cells : (place number : ℕ) → cell_at c.widen.new.columns.items place number ≡ cell_at (map (take {A = Option Cell} count) columns) place number =
    λ place number. c.in_ok-widen.ensures.cells place number ∙ ap (λ (cs : List (List (Option Cell))). cell_at cs place number) cut in
    let new = c.fill.new.columns in
    let fill = subst (λ (cs : List (List (Option Cell))). FilledTo c.fill.ensures.0 c.as_slice-cells.result.now cs c.fill.new.columns) c.deref_mut-2.ensures.value c.fill.ensures.1 in
    let came = back c.widen.new.columns.len new wider (c.fill.ensures.1.as_many ∙ c.deref_mut-2.ensures.len) (ap length (sym c.deref_mut-2.ensures.value) ∙ c.deref_mut-2.ensures.len) in
    subst (λ (x : List (List (Option Cell))). AreKept x count) (sym came) (put_kept columns wider count c.self.invariant c.in_ok-widen.ensures.long cells new c.as_slice-cells.result.now c.fill.ensures.0 fill)

pub returns-clause-rows : goal.returns-clause-rows
returns-clause-rows c =
    let columns = c.self.inside.columns.items in
    let count = c.self.inside.count in
    let cut = back c.self.inside.columns.len c.trim.new.columns columns (ap length c.trim.ensures ∙ length-map c.deref_mut.result.now (take {A = Option Cell} count) ∙ c.deref_mut.ensures.len)
    (ap length (sym c.deref_mut.ensures.value) ∙ c.deref_mut.ensures.len) ∙ c.trim.ensures ∙ ap (map (take {A = Option Cell} count)) c.deref_mut.ensures.value in
    let wider = c.widen.new.columns.items in
    let cells : (place number : ℕ) → cell_at c.widen.new.columns.items place number ≡ cell_at (map (take {A = Option Cell} count) columns) place number =
    λ place number. c.in_ok-widen.ensures.cells place number ∙ ap (λ (cs : List (List (Option Cell))). cell_at cs place number) cut in
    let new = c.fill.new.columns in
    let fill = subst (λ (cs : List (List (Option Cell))). FilledTo c.fill.ensures.0 c.as_slice-cells.result.now cs c.fill.new.columns) c.deref_mut-2.ensures.value c.fill.ensures.1 in
    let came = back c.widen.new.columns.len new wider (c.fill.ensures.1.as_many ∙ c.deref_mut-2.ensures.len) (ap length (sym c.deref_mut-2.ensures.value) ∙ c.deref_mut-2.ensures.len) in
    rw (← c.self.view_is) (ap (λ (x : List (List (Option Cell))). rows_below x count) came
    ∙ put_rows columns wider count c.self.invariant c.in_ok-widen.ensures.long cells new c.as_slice-cells.result.now c.fill.ensures.0 fill)

pub returns-clause-next : goal.returns-clause-next
returns-clause-next c =
    let count = c.self.inside.count in
    let wider = c.widen.new.columns.items in
    let new = c.fill.new.columns in
    let fill = subst (λ (cs : List (List (Option Cell))). FilledTo c.fill.ensures.0 c.as_slice-cells.result.now cs c.fill.new.columns) c.deref_mut-2.ensures.value c.fill.ensures.1 in
    let came = back c.widen.new.columns.len new wider (c.fill.ensures.1.as_many ∙ c.deref_mut-2.ensures.len) (ap length (sym c.deref_mut-2.ensures.value) ∙ c.deref_mut-2.ensures.len) in
    let same = ap length c.deref_mut-2.ensures.value in
    on_ok c.fill.result c.fill.ensures.2 (λ all. ap (λ (x : List (List (Option Cell))). next_in x count) came
    ∙ next_is wider new c.as_slice-cells.result.now count c.fill.ensures.0 c.in_ok-widen.ensures.long fill (subst (λ (n : ℕ). n ≤ c.fill.ensures.0) same all) c.in_ok-widen.ensures.wide
    ∙ ap (λ (r : List Cell). Some r) c.as_slice-cells.ensures)
