use Rattle.std.proofs.Common.{◌++◌, ap, sym, ◌∙◌, is_some}
use Rattle.cy_scope_kinds.proofs.ScopesLemmas.{added_seen, added_fresh}
use Rattle.cy_scope.proofs.pattern_checks.see_name.Goals as goal

pub returns-then-is_some : goal.returns-then-is_some
returns-then-is_some c =
    added_seen c.args.before.now c.args.fresh.now c.args.kind c.args.name.now (ap is_some (sym c.find_kind.ensures) ∙ sym c.is_some.ensures ∙ c.if-is_some.true)

pub returns : goal.returns
returns c =
    let unbound = ap is_some (sym c.find_kind.ensures) ∙ sym c.is_some.ensures ∙ c.if-is_some.false in
    ap (λ s. c.args.before.now ++ s) c.in_ok-add_name.ensures ∙ added_fresh c.args.before.now c.args.fresh.now c.args.kind c.args.name.now unbound
