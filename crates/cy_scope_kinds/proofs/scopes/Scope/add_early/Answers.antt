use Rattle.std.proofs.Common.{◌<◌, [], ◌∷◌, ◌++◌, length, ap, sym, subst, ◌∙◌}
use Rattle.cy_scope_kinds.specs.internal.Maps.{few, variables_of, AreColumns}
use Rattle.cy_scope_kinds.proofs.ScopeColumns.{early_added}
use Rattle.cy_scope_kinds.proofs.ScopesLemmas.{pushed}
use Rattle.cy_scope_kinds.proofs.scopes.Scope.add_early.Goals as goal

-- the new variable is the last one
pub invariant_of-self-2 : goal.invariant_of-self-2
invariant_of-self-2 c =
    let scope = variables_of c.self.inside.variables.items in
    let short = subst (λ s. length s < few) (sym c.self.view_is) c.requires in
    let grown =
    ap variables_of c.in_ok-push.ensures.items
    ∙ pushed c.self.inside.variables.items c.in_ok-own_name.own_name c.args.kind c.args.name.now c.in_ok-own_name.ensures.ok in
    subst (AreColumns c.self.inside.columns) (sym grown) (early_added c.self.inside.columns scope c.args.kind c.args.name.now short c.self.invariant)

pub returns : goal.returns
returns c =
    ap variables_of c.in_ok-push.ensures.items
    ∙ pushed c.self.inside.variables.items c.in_ok-own_name.own_name c.args.kind c.args.name.now c.in_ok-own_name.ensures.ok
    ∙ ap (λ s. s ++ (c.args.name.now, c.args.kind) ∷ []) c.self.view_is
