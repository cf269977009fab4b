use Rattle.std.proofs.Common.{◌++◌, append_assoc, refl, sym, ap, subst, ◌∙◌, arith}
use Rattle.std.specs.List.{All}
use Rattle.std.proofs.lemmas.List.{append-nil}
use Rattle.cy_network_operators.specs.Deltas.{IsBounded, row_delta_between, deltas_of}
use Rattle.cy_network_sources.proofs.Recounting.{bounded_next}
use Rattle.cy_network_sources.proofs.Replaced.{after_others, both_changed, none_changed}
use Rattle.cy_network_sources.proofs.ThroughScans.{on_ok_then}
use Rattle.cy_network_sources.proofs.recounts.add_exchanged.Goals as goal

pub returns-then-eq-clause-recounted : goal.returns-then-eq-clause-recounted
returns-then-eq-clause-recounted c = λ row.
    sym (ap (λ made. deltas_of row c.args.deltas.now.items ++ made) (none_changed row c.args.old c.args.new (sym (c.rows_equal.ensures c.args.old c.args.new) ∙ sym c.eq.ensures ∙ c.if-eq.true)) ∙ append-nil (deltas_of row c.args.deltas.now.items))

pub returns-clause-recounted : goal.returns-clause-recounted
returns-clause-recounted c =
    on_ok_then _ _ c.add_row_delta-2.result
    (λ made row.
    ap (deltas_of row) made
    ∙ after_others row c.add_row_delta.new.deltas.items (row_delta_between c.args.new 0 1) (deltas_of row (row_delta_between c.args.new 0 1)) refl
    ∙ ap (λ first. first ++ deltas_of row (row_delta_between c.args.new 0 1))
    (ap (deltas_of row) c.in_ok-add_row_delta.ensures ∙ after_others row c.args.deltas.now.items (row_delta_between c.args.old 1 0) (deltas_of row (row_delta_between c.args.old 1 0)) refl)
    ∙ append_assoc (deltas_of row c.args.deltas.now.items) (deltas_of row (row_delta_between c.args.old 1 0)) (deltas_of row (row_delta_between c.args.new 0 1))
    ∙ ap (λ rest. deltas_of row c.args.deltas.now.items ++ rest) (both_changed row c.args.old c.args.new (sym (c.rows_equal.ensures c.args.old c.args.new) ∙ sym c.eq.ensures ∙ c.if-eq.false)))
    c.add_row_delta-2.ensures

pub returns-clause-bounded : goal.returns-clause-bounded
returns-clause-bounded c =
    on_ok_then _ _ c.add_row_delta-2.result
    (λ made all.
    subst (All IsBounded) (sym made) (bounded_next c.args.new c.add_row_delta.new.deltas.items 0 1 (omega arith) (omega arith)
    (subst (All IsBounded) (sym c.in_ok-add_row_delta.ensures) (bounded_next c.args.old c.args.deltas.now.items 1 0 (omega arith) (omega arith) all))))
    c.add_row_delta-2.ensures
