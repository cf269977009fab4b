use Rattle.std.proofs.Common.{List, subst}
use Rattle.std.proofs.lemmas.List.{take_all}
use Rattle.std.specs.List.{AllByRecursion}
use Rattle.cy_trees.specs.declared.expressions.Variable.{Variable}
use Rattle.cy_oneshot.specs.Carried.{IsVariableRead}
use Rattle.cy_oneshot.proofs.Marked.{each_more_same, still_nothing, still_then, still_variable}
use Rattle.cy_oneshot.proofs.needed.mark_variables.Goals as goal

pub loop-variable-init : goal.loop-variable-init
loop-variable-init c = record { read = tt; still = still_nothing c.args.needed.now.items }

pub loop-variable-preserved : goal.loop-variable-preserved
loop-variable-preserved c =
    let before = c.loop-variable.needed.items in
    let after = c.mark_variable.new.needed.items in
    let marked = c.mark_variable.ensures in
    record {
      read = each_more_same IsVariableRead before after c.args.variables.now c.loop-variable.variable-index c.variable-item.result c.loop-variable-test.true c.variable-item.is (still_variable before after marked.still) c.loop-variable.invariant.read marked.read;
      still = still_then c.args.needed.now.items before after c.loop-variable.invariant.still marked.still;
    }

pub returns-clause-read : goal.returns-clause-read
returns-clause-read c = subst (λ (xs : List Variable). AllByRecursion (IsVariableRead c.loop-variable.needed.items) xs) (take_all c.loop-variable.variable-index c.args.variables.now c.loop-variable-test.false) c.loop-variable.invariant.read

pub returns-clause-still : goal.returns-clause-still
returns-clause-still c = c.loop-variable.invariant.still
