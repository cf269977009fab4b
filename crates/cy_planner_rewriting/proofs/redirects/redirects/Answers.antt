use Rattle.std.proofs.Common.{List, sym, subst}
use Rattle.std.specs.List.{AllByRecursion}
use Rattle.cy_planner_algebra.specs.declared.operators.KeyColumns.{KeyColumns}
use Rattle.cy_planner_rewriting.specs.internal.Redirected.{IsRedirect}
use Rattle.cy_planner_rewriting.proofs.Redirecting.{key_there}
use Rattle.cy_planner_rewriting.proofs.redirects.redirects.Goals as goal

pub loop-key-preserved : goal.loop-key-preserved
loop-key-preserved c =
    let keys : List KeyColumns = c.args.keys.now in
    subst (λ n. AllByRecursion (IsRedirect keys n) c.add_redirect.new.made.items) c.width-left_width.ensures
    (c.in_ok-add_redirect.ensures keys (key_there keys c.loop-key.key-index _ c.loop-key-test.true)
    (subst (λ n. AllByRecursion (IsRedirect keys n) c.loop-key.made.items) (sym c.width-left_width.ensures) c.loop-key.invariant))
