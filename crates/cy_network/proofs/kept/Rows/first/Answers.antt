use Rattle.std.proofs.Common.{rules}
use Rattle.cy_planner_algebra.specs.declared.operators.Operator.{the_lemmas}
use Rattle.cy_network.proofs.Elsewhere.{place_else}
use Rattle.cy_network.proofs.kept.Rows.first.Goals as goal

pub returns-in_default-clause-place : goal.returns-in_default-clause-place
returns-in_default-clause-place c = search (rules, the_lemmas, place_else, c.in_default.not-Project, c.in_default.not-Distinct, c.in_default.not-Union)
