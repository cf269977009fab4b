use Rattle.std.proofs.Common.{◌≡◌, IsSome, Option, Ok, Err, ap, refl, sym, subst, ◌∙◌}
use Rattle.cy_trees.specs.TreeModels.{statement_of}
use Rattle.cy_graph.specs.Graph.{State}
use Rattle.cy_index.specs.Index.{StoreState}
use Rattle.cy_updates_meaning.specs.Statements.{statement_outcome}
use Rattle.cy_updates.specs.Answers.{outcome_seen}
use Rattle.cy_updates.proofs.Changes.{as_before, left_open}
use Rattle.cy_updates_meaning.proofs.InTurn.{or_wants}
use Rattle.cy_updates.proofs.statements.execute.Goals as goal

pub execute_in_change-requires : goal.execute_in_change-requires
execute_in_change-requires c = subst (λ (s : StoreState). IsSome s.graph.was) (sym c.begin.ensures) refl

pub returns-in-Ok-clause-meaning : goal.returns-in-Ok-clause-meaning
returns-in-Ok-clause-meaning c =
    subst (λ (s : StoreState). statement_outcome s.graph.now (statement_of c.args.checked.now) ≡ Ok (outcome_seen c.execute_in_change.new.store.graph.now c.in-Ok.outcome)) c.begin.ensures c.in-Ok.ensures.meaning

pub returns-in-Ok-clause-open : goal.returns-in-Ok-clause-open
returns-in-Ok-clause-open c = left_open c.args.store.now c.begin.new.self c.execute_in_change.new.store c.begin.ensures c.in-Ok.ensures.open c.in-Ok.ensures.indexes

pub rollback-requires : goal.rollback-requires
rollback-requires c = subst (λ (o : Option State). IsSome o) (sym (c.in-Err.ensures.open ∙ ap (λ (s : StoreState). s.graph.was) c.begin.ensures)) refl

pub returns-in-Err-clause-fault : goal.returns-in-Err-clause-fault
returns-in-Err-clause-fault c =
    or_wants c.in-Err.why (subst (λ (s : StoreState). statement_outcome s.graph.now (statement_of c.args.checked.now) ≡ Err c.in-Err.why) c.begin.ensures) c.in-Err.ensures.meaning

pub returns-in-Err-clause-rolled_back : goal.returns-in-Err-clause-rolled_back
returns-in-Err-clause-rolled_back c = as_before c.args.store.now c.begin.new.self c.execute_in_change.new.store c.rollback.new.self c.requires c.begin.ensures c.in-Err.ensures.open c.in-Err.ensures.indexes c.rollback.ensures
