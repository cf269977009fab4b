use Rattle.cy_trees.specs.TreeModels.{expression_of}
use Rattle.cy_planner_algebra.specs.PlanModels.{plan_of}
use Rattle.cy_network_relevance.proofs.Labelled.{needs_label}
use Rattle.cy_network_relevance.proofs.masks.conditions.label_asked.Goals as goal

pub returns-in-Some : goal.returns-in-Some
returns-in-Some c = needs_label (plan_of c.args.below.now) (expression_of c.args.test.now) c.in-Some.label.now (c.has_labels.ensures c.if-has_labels.true) c.in-Some.ensures
