-- What is needed for the clauses after the first, with what it reads, is enough for all of them.
use Rattle.std.proofs.Common.{true, List, map, refl, subst, sym}
use Rattle.std.specs.Prelude.{IfOk}
use Rattle.cy_trees.specs.declared.clauses.Clause as coded
use Rattle.cy_trees.specs.TreeModels.{clause_of}
use Rattle.cy_oneshot.specs.Carried.{IsEnough}
use Rattle.cy_oneshot.proofs.Marked.{enough_then}
use Rattle.cy_oneshot.proofs.needed.+needed_ahead.Goals as goal

pub returns-clause-enough : goal.returns-clause-enough
returns-clause-enough t c =
    let clause = c.in-Some.clause.now in
    let others = c.in-Some.others.now in
    subst (λ (cs : List coded.Clause). IfOk c.with_read-2.result (λ needed. IsEnough true needed.items (map clause_of cs))) (sym c.in-Some.ensures.cases.0)
    (enough_then (λ flags. flags.items) true c.in_ok-needed.needed.items (clause_of clause) (map clause_of others) (λ updates. refl) c.in_ok-needed.ensures.enough c.with_read-2.result
    c.with_read-2.ensures.read c.with_read-2.ensures.still)
