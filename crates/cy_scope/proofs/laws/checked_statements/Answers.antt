use Rattle.cy_scope.proofs.Queries.{each_checked, same_columns, checked_kinded, each_view}
use Rattle.cy_scope.proofs.RowsLemmas.{column-fits}
use Rattle.cy_scope.proofs.laws.checked_statements.Goals as goal

pub returns-clause-each : goal.returns-clause-each
returns-clause-each c = λ tree is. each_checked tree is

pub returns-clause-columns : goal.returns-clause-columns
returns-clause-columns c = λ tree is p q has_p has_q. same_columns tree is p q has_p has_q

pub returns-clause-kinded : goal.returns-clause-kinded
returns-clause-kinded c = λ q is. checked_kinded q is

pub returns-clause-views : goal.returns-clause-views
returns-clause-views c = λ tree is. each_view tree is

pub returns-clause-cells : goal.returns-clause-cells
returns-clause-cells c = λ scope row column name k fits is. column-fits scope row column name k fits is
