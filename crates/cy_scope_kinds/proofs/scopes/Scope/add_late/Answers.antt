use Rattle.std.proofs.Common.{◌≡◌, ◌≤◌, [], ◌∷◌, ◌++◌, Some, length, ap, sym, subst, ◌∙◌}
use Rattle.std.specs.BTreeMap.{UpdatesBy}
use Rattle.std.specs.String.{string_cmp}
use Rattle.cy_scope_kinds.specs.Scopes.{is_bound}
use Rattle.cy_scope_kinds.specs.internal.Maps.{few, variables_of, AreColumns}
use Rattle.cy_scope_kinds.proofs.ScopeColumns.{late_added}
use Rattle.cy_scope_kinds.proofs.ScopesLemmas.{variables_count, pushed}
use Rattle.cy_scope_kinds.proofs.scopes.Scope.add_late.Goals as goal

grown : (c : goal.After-push_reserved) → variables_of c.push_reserved.new.self.items ≡ variables_of c.self.inside.variables.items ++ (c.args.name.now, c.args.kind) ∷ []
grown c =
    ap variables_of (c.push_reserved.ensures.items ∙ ap (λ vs. vs ++ (c.in_ok-own_name.own_name, c.args.kind) ∷ []) c.in_ok-reserve.ensures.items)
    ∙ pushed c.self.inside.variables.items c.in_ok-own_name.own_name c.args.kind c.args.name.now c.in_ok-own_name.ensures.ok

pub invariant_of-self-2 : goal.invariant_of-self-2
invariant_of-self-2 c =
    let scope = variables_of c.self.inside.variables.items in
    let name = c.args.name.now in
    let before = c.self.inside.columns in
    let after = c.insert.new.self in
    let key = c.in_ok-key.key in
    let updates = subst (λ n. UpdatesBy string_cmp (string_cmp key) before after (Some n)) (c.len-column.ensures ∙ variables_count c.self.inside.variables) c.in_ok-insert.ensures.updates in
    let new = ap (λ s. is_bound s name) c.self.view_is ∙ c.requires.unbound in
    let long = subst (λ s. few ≤ length s) (sym c.self.view_is) c.requires.late in
    subst (AreColumns after) (sym (grown c)) (late_added before after scope c.args.kind name key c.in_ok-key.ensures.ok long c.self.invariant new updates)

pub returns : goal.returns
returns c = grown c ∙ ap (λ s. s ++ (c.args.name.now, c.args.kind) ∷ []) c.self.view_is
