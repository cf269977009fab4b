use Rattle.std.proofs.Common.{◌≡◌, ℕ, List, true, arith, rules}
use Rattle.std.proofs.lemmas.Grind.{common_steps}
use Rattle.cy_trees.specs.Trees.{Expression}
use Rattle.cy_trees.specs.TreeModels.{expression_of}
use Rattle.cy_scope_kinds.specs.Scopes.{Scope}
use Rattle.cy_scope_kinds.specs.Sure.{is_sure_flag}
use Rattle.cy_planner_pushdown.specs.internal.Conditions.{asks_of}
use Rattle.cy_planner_pushdown.proofs.ConditionsOnCells.{made_on_cells, made_test}
use Rattle.cy_planner_pushdown.proofs.conditions.cells_test.Goals as goal

pub returns-in-Ok-clause-good : goal.returns-in-Ok-clause-good
returns-in-Ok-clause-good c =
    let test : Expression = expression_of c.args.test.now in
    let scope : Scope = c.args.reading.now.scope in
    let sure : is_sure_flag scope test ≡ true = first_of (search rules, grind (arith, common_steps)) in
    made_test c.new-none.result scope test (expression_of c.in_ok-copy-in-Ok.field-0) (expression_of c.resolved.result)
    c.new-none.ensures c.in_ok-copy-in-Ok.ensures c.resolved.ensures c.in-Ok.ensures.0 sure

pub returns-in-Ok-clause-same : goal.returns-in-Ok-clause-same
returns-in-Ok-clause-same c =
    let test : Expression = expression_of c.args.test.now in
    let scope : Scope = c.args.reading.now.scope in
    let columns : List ℕ = c.args.reading.now.written.items in
    let asks : asks_of scope columns test ≡ true = first_of (search rules, grind (arith, common_steps)) in
    made_on_cells c.new-none.result scope test (expression_of c.in_ok-copy-in-Ok.field-0) (expression_of c.resolved.result)
    c.new-none.ensures c.in_ok-copy-in-Ok.ensures c.resolved.ensures columns c.requires asks
