use Rattle.cy_trees.specs.TreeModels.{expression_of}
use Rattle.cy_planner_algebra.specs.PlanModels.{plan_of}
use Rattle.cy_network_relevance.proofs.Rules.{left_out, unchanged_absent_filter}
use Rattle.cy_network_relevance.proofs.parts.is_left_out.Goals as goal

pub returns-then-looks_labels_up-clause-absent : goal.returns-then-looks_labels_up-clause-absent
returns-then-looks_labels_up-clause-absent c = λ yes.
    let found = c.in-Some.ensures in
    left_out c.args.entity (plan_of c.args.below.now) (expression_of c.args.test.now) found.0 c.in-Some.label.now (c.looks_labels_up.ensures c.if-looks_labels_up.true) found.1.0 found.1.1 (c.lacks_label.ensures yes)

pub returns-then-looks_labels_up-clause-unchanged : goal.returns-then-looks_labels_up-clause-unchanged
returns-then-looks_labels_up-clause-unchanged c = λ yes.
    let found = c.in-Some.ensures in
    unchanged_absent_filter c.args.entity (plan_of c.args.below.now) (expression_of c.args.test.now)
    (left_out c.args.entity (plan_of c.args.below.now) (expression_of c.args.test.now) found.0 c.in-Some.label.now (c.looks_labels_up.ensures c.if-looks_labels_up.true) found.1.0 found.1.1 (c.lacks_label.ensures yes))
