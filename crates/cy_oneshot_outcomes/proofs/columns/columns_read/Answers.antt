use Rattle.std.proofs.Common.{ℕ, List, ◌++◌, ap, ◌∙◌}
use Rattle.cy_trees.specs.TreeModels.{expression_of}
use Rattle.cy_oneshot_outcomes.specs.Columns.{columns_read}
use Rattle.cy_oneshot_outcomes.proofs.Collecting.{collected}
use Rattle.cy_oneshot_outcomes.proofs.columns.columns_read.Goals as goal

pub returns : goal.returns
returns c =
    let e = expression_of c.args.expression.now in
    c.in_ok-add_columns.ensures ∙ collected c.new-columns.result.items e ∙ ap (λ (cs : List ℕ). cs ++ columns_read e) c.new-columns.ensures.items
