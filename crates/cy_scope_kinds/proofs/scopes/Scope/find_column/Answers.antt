use Rattle.std.proofs.Common.{arith, ◌+◌, ◌<◌, ◌∙◌, ap, length, sym}
use Rattle.std.specs.Str.{bytes_eq}
use Rattle.cy_scope_kinds.specs.Scopes.{find_column}
use Rattle.cy_scope_kinds.specs.internal.Maps.{variables_of}
use Rattle.cy_scope_kinds.proofs.ScopesLemmas.{position_inside, variables_count}
use Rattle.cy_scope_kinds.proofs.scopes.Scope.find_column.Goals as goal

pub prove-unreachable-requires : goal.prove-unreachable-requires
prove-unreachable-requires c =
    let scope = variables_of c.self.inside.variables.items in
    let column = c.in_ok-column.column in
    let inside : column < 0 + length scope =
    position_inside (λ v. bytes_eq c.args.name.now v.0) 0 scope column (ap (λ s. find_column s c.args.name.now) c.self.view_is ∙ sym c.in_ok-column.ensures) in
    omega (arith, c.if-prove.true, c.len.ensures, variables_count c.self.inside.variables)
