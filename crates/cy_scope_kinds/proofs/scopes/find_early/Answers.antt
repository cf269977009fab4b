use Rattle.std.proofs.Common.{◌∙◌}
use Rattle.cy_scope_kinds.proofs.ScopeColumns.{early_column}
use Rattle.cy_scope_kinds.proofs.scopes.find_early.Goals as goal

pub returns : goal.returns
returns c = c.place_of.ensures ∙ early_column c.args.name.now c.args.variables.now c.min.result c.min.ensures
