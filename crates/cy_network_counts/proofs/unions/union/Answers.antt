use Rattle.std.proofs.Common.{◌++◌, ap, sym, ◌∙◌}
use Rattle.std.proofs.lemmas.List.{map-id}
use Rattle.std.proofs.lemmas.Iterator.Consumers.{YieldsList-end}
use Rattle.std.proofs.lemmas.Iterator.Adapters.{YieldsList-from_vec}
use Rattle.cy_network_memory.specs.Counts.{greatest_count}
use Rattle.cy_network_counts.proofs.ChangedRows.{union_held, union_staged, union_delta, union_too_many}
use Rattle.cy_network_counts.proofs.unions.union.Goals as goal

pub merge-requires-clause-held : goal.merge-requires-clause-held
merge-requires-clause-held g c =
    let gives = c.into_iter-row_delta-iterator.ensures.into_iter_gives in
    let seen = YieldsList-end (YieldsList-from_vec {s = c.into_iter-row_delta-iterator.result} c.args.right.items gives.0 (gives.1 ∙ c.args.right.ok.0)) c.loop-row_delta.yielded c.loop-row_delta.row_delta-iterator c.loop-row_delta.yielded_by c.next.result c.next.new.self c.in-None.is c.next.ensures.steps in
    union_held (g.M.Memory.key_columns c.args.memory.now) (g.M.Memory.was c.args.memory.now) c.args.left.items c.args.right.items c.loop-row_delta.changes.items
    (c.loop-row_delta.invariant ∙ ap (λ xs. c.args.left.items ++ xs) (sym (map-id c.loop-row_delta.yielded) ∙ seen.0)) c.requires.held.0 c.requires.held.1.0 c.requires.held.1.1

pub returns-clause-delta : goal.returns-clause-delta
returns-clause-delta g c =
    let gives = c.into_iter-row_delta-iterator.ensures.into_iter_gives in
    let seen = YieldsList-end (YieldsList-from_vec {s = c.into_iter-row_delta-iterator.result} c.args.right.items gives.0 (gives.1 ∙ c.args.right.ok.0)) c.loop-row_delta.yielded c.loop-row_delta.row_delta-iterator c.loop-row_delta.yielded_by c.next.result c.next.new.self c.in-None.is c.next.ensures.steps in
    union_delta (g.M.Memory.key_columns c.args.memory.now) (g.M.Memory.was c.args.memory.now) c.args.left.items c.args.right.items c.loop-row_delta.changes.items
    (c.loop-row_delta.invariant ∙ ap (λ xs. c.args.left.items ++ xs) (sym (map-id c.loop-row_delta.yielded) ∙ seen.0)) (g.M.Memory.staged c.merge.new.memory) c.merge.result (λ made. made.items) c.merge.ensures.delta c.merge.ensures.staged

pub returns-clause-staged : goal.returns-clause-staged
returns-clause-staged g c =
    let gives = c.into_iter-row_delta-iterator.ensures.into_iter_gives in
    let seen = YieldsList-end (YieldsList-from_vec {s = c.into_iter-row_delta-iterator.result} c.args.right.items gives.0 (gives.1 ∙ c.args.right.ok.0)) c.loop-row_delta.yielded c.loop-row_delta.row_delta-iterator c.loop-row_delta.yielded_by c.next.result c.next.new.self c.in-None.is c.next.ensures.steps in
    union_staged (g.M.Memory.key_columns c.args.memory.now) (g.M.Memory.was c.args.memory.now) c.args.left.items c.args.right.items c.loop-row_delta.changes.items
    (c.loop-row_delta.invariant ∙ ap (λ xs. c.args.left.items ++ xs) (sym (map-id c.loop-row_delta.yielded) ∙ seen.0)) (g.M.Memory.staged c.merge.new.memory) c.merge.result c.merge.ensures.staged

pub returns-clause-too_many : goal.returns-clause-too_many
returns-clause-too_many g c =
    let gives = c.into_iter-row_delta-iterator.ensures.into_iter_gives in
    let seen = YieldsList-end (YieldsList-from_vec {s = c.into_iter-row_delta-iterator.result} c.args.right.items gives.0 (gives.1 ∙ c.args.right.ok.0)) c.loop-row_delta.yielded c.loop-row_delta.row_delta-iterator c.loop-row_delta.yielded_by c.next.result c.next.new.self c.in-None.is c.next.ensures.steps in
    union_too_many (g.M.Memory.key_columns c.args.memory.now) (g.M.Memory.was c.args.memory.now) c.args.left.items c.args.right.items c.loop-row_delta.changes.items
    (c.loop-row_delta.invariant ∙ ap (λ xs. c.args.left.items ++ xs) (sym (map-id c.loop-row_delta.yielded) ∙ seen.0)) greatest_count c.merge.result c.merge.ensures.too_many
