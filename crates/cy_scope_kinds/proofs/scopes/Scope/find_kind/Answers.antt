use Rattle.std.proofs.Common.{◌≡◌, Some, None, ap, sym, ◌∙◌}
use Rattle.std.proofs.lemmas.Option.{slice_get-get_or, slice_get_past}
use Rattle.std.specs.Prelude.{slice_get}
use Rattle.cy_scope_kinds.proofs.ScopesLemmas.{kind_at, kind_found, kind_read}
use Rattle.cy_scope_kinds.proofs.scopes.Scope.find_kind.Goals as goal

pub returns-in_err-column : goal.returns-in_err-column
returns-in_err-column c =
    c.from_residual.ensures ∙ ap (kind_at c.args.self.now) c.in_err-column.ensures.value ∙ kind_found c.args.self.now c.args.name.now

pub returns-in_err-kind : goal.returns-in_err-kind
returns-in_err-kind c =
    let items = c.self.inside.variables.items in
    let column = c.in_ok-column.column in
    let none : slice_get items column ≡ None =
    ap (λ vs. slice_get vs column) (sym c.deref.ensures.value) ∙ slice_get_past c.deref.result.now column c.in_err-kind.ensures.lookup.3 in
    c.from_residual-in_err-kind.ensures ∙ kind_read items c.args.self.now c.args.name.now column None c.self.view_is c.in_ok-column.ensures.value none

pub returns : goal.returns
returns c =
    let items = c.self.inside.variables.items in
    let column = c.in_ok-column.column in
    let variable = c.in_ok-kind.field-0.now in
    let found : slice_get items column ≡ Some variable =
    ap (λ vs. slice_get vs column) (sym c.deref.ensures.value)
    ∙ slice_get-get_or c.deref.result.now column variable c.in_ok-kind.ensures.lookup.3.0 ∙ ap Some (sym c.in_ok-kind.ensures.lookup.1) in
    kind_read items c.args.self.now c.args.name.now column (Some variable) c.self.view_is c.in_ok-column.ensures.value found
