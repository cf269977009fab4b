use Rattle.std.proofs.Common.{◌+◌, refl, sym, subst, inl}
use Rattle.std.specs.List.{AllByRecursion}
use Rattle.cy_planner_rewriting.specs.internal.Redirected.{IsRedirect}
use Rattle.cy_planner_rewriting.proofs.Redirecting.{each_pushed}
use Rattle.cy_planner_rewriting.proofs.redirects.add_redirect.Goals as goal

pub returns-in_ok-push : goal.returns-in_ok-push
returns-in_ok-push c keys there each =
    subst (AllByRecursion (IsRedirect keys c.args.left_width)) (sym c.in_ok-push.ensures.items)
    (each_pushed (IsRedirect keys c.args.left_width) c.args.made.now.items (record { from = c.args.key.left; to = c.args.left_width + c.args.key.right }) each (c.args.key, there, inl (refl, refl)))
