use Rattle.std.proofs.Common.{List, sym, subst}
use Rattle.std.specs.List.{AllByRecursion}
use Rattle.cy_values.specs.declared.rows.Cell.{Cell}
use Rattle.cy_values.specs.Order.{row_cmp}
use Rattle.cy_trees.specs.TreeModels.{clause_of}
use Rattle.cy_oneshot_meaning.specs.Reading.{AreInGraph, IsInGraph}
use Rattle.cy_oneshot_meaning.proofs.Each.{each_in_order}
use Rattle.cy_updates.specs.declared.clauses.Updated.{Updated}
use Rattle.cy_updates_meaning.specs.Statements.{rows_taken}
use Rattle.cy_updates_meaning.specs.internal.Answers.{IsAnswer, graph_table}
use Rattle.cy_updates.proofs.clauses.update.Goals as goal

pub take_rows-requires-clause-there : goal.take_rows-requires-clause-there
take_rows-requires-clause-there c =
    subst (λ (rows : List (List Cell)). AreInGraph c.args.store.now.graph.now.content rows) (sym c.sort_rows.ensures)
    (each_in_order (AllByRecursion (IsInGraph c.args.store.now.graph.now.content)) row_cmp c.args.table.rows.items c.requires.there)

pub returns-clause-meaning : goal.returns-clause-meaning
returns-clause-meaning c =
    subst (λ (rows : List (List Cell)). IsAnswer c.take_rows.result (λ (after : Updated). graph_table c.take_rows.new.store.graph.now after.table.rows.items) (rows_taken c.args.store.now.graph.now (clause_of c.args.clause.now) rows))
    c.sort_rows.ensures c.take_rows.ensures.meaning
