use Rattle.std.proofs.Common.{◌++◌, ap, sym, subst, ◌∙◌, min, arith}
use Rattle.std.specs.Prelude.{flat_map}
use Rattle.std.specs.List.{All}
use Rattle.std.proofs.lemmas.List.{map-id}
use Rattle.std.proofs.lemmas.Iterator.Consumers.{YieldsList-end}
use Rattle.std.proofs.lemmas.Iterator.Adapters.{YieldsList-from_vec}
use Rattle.cy_network_memory.specs.declared.memory.RowDelta.{RowDelta}
use Rattle.cy_network_operators.specs.Deltas.{IsBounded, row_delta_between}
use Rattle.cy_network_operators.proofs.Parts.{distinct_delta}
use Rattle.cy_network_operators.proofs.DeltaLemmas.{any_row_delta, made_more, recounted, recounted_bounded}
use Rattle.cy_network_operators.proofs.distinct_rows.distinct.Goals as goal

pub loop-row_delta-preserved : goal.loop-row_delta-preserved
loop-row_delta-preserved c =
    c.in_ok-add_row_delta.ensures
    ∙ ap (λ n. c.loop-row_delta.changed.items ++ row_delta_between c.in-Some.row_delta.row n c.min-in-loop-row_delta.result) c.min.ensures
    ∙ ap (λ n. c.loop-row_delta.changed.items ++ row_delta_between c.in-Some.row_delta.row (min c.in-Some.row_delta.before 1) n) c.min-in-loop-row_delta.ensures
    ∙ ap (λ made. made ++ recounted (λ row n. min n 1) c.in-Some.row_delta) c.loop-row_delta.invariant
    ∙ sym (made_more (recounted (λ row n. min n 1)) c.loop-row_delta.yielded c.in-Some.row_delta)

pub returns-clause-once : goal.returns-clause-once
returns-clause-once c =
    let gives = c.into_iter-row_delta-iterator.ensures.into_iter_gives in
    let seen = YieldsList-end (YieldsList-from_vec {s = c.into_iter-row_delta-iterator.result} c.args.deltas.items gives.0 (gives.1 ∙ c.args.deltas.ok.0)) c.loop-row_delta.yielded c.loop-row_delta.row_delta-iterator c.loop-row_delta.yielded_by c.next.result c.next.new.self c.in-None.is c.next.ensures.steps in
    λ before after delta. distinct_delta before after c.args.deltas.items c.loop-row_delta.changed.items
    (c.loop-row_delta.invariant ∙ ap (flat_map (recounted (λ row n. min n 1))) (sym (map-id c.loop-row_delta.yielded) ∙ seen.0)) delta

pub returns-clause-bounded : goal.returns-clause-bounded
returns-clause-bounded c =
    subst (All IsBounded) (sym c.loop-row_delta.invariant)
    (recounted_bounded (λ row n. min n 1) (λ (s : RowDelta). Unit {0}) (λ s any. (omega arith, omega arith)) c.loop-row_delta.yielded (any_row_delta c.loop-row_delta.yielded))
