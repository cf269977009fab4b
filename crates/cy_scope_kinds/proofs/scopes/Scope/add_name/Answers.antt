use Rattle.std.proofs.Common.{true, is_some, ap, sym, ◌∙◌}
use Rattle.cy_scope_kinds.proofs.ScopesLemmas.{added_when}
use Rattle.cy_scope_kinds.proofs.scopes.Scope.add_name.Goals as goal

pub returns-then-is_some : goal.returns-then-is_some
returns-then-is_some c =
    sym (added_when c.args.self.now c.args.kind c.args.name.now true (ap is_some (sym c.find_kind.ensures) ∙ sym c.is_some.ensures ∙ c.if-is_some.true))
