-- What can stand in place of a plan serves the query that this serves.
use Rattle.std.proofs.Common.{sym, subst}
use Rattle.std.specs.Prelude.{Ok}
use Rattle.cy_trees.specs.Trees.{Statement}
use Rattle.cy_oneshot_patterns.specs.Outcomes.{IsSameOutcome}
use Rattle.cy_oneshot_meaning.specs.Queries.{statement_rows}
use Rattle.cy_planner_algebra.specs.Plans.{Plan}
use Rattle.cy_planner.specs.internal.Standing.{StandsFor}
use Rattle.cy_planner.specs.Serves.{Serves}
use Rattle.cy_planner.specs.WideTables.{wide_tables}

pub serves_standing : (p q : Plan) (query : Statement) → Serves p query → StandsFor p q → Serves q query
serves_standing p q query serves is = record {
  well_formed = is.well_formed serves.well_formed;
  sure = λ graph good. is.sure graph good (serves.sure graph good);
  rows = λ graph good. subst (λ rows. IsSameOutcome (Ok rows) (statement_rows graph.content query)) (sym (is.rows graph good)) (serves.rows graph good);
  bounded = λ graph good. is.bounded graph (wide_tables graph.content query) good (serves.bounded graph good);
}
