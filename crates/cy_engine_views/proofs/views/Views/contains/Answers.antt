use Rattle.std.proofs.Common.{◌∙◌}
use Rattle.cy_engine_views.proofs.Named.{is_there}
use Rattle.cy_engine_views.proofs.views.Views.contains.Goals as goal

pub returns : goal.returns
returns c = c.contains_key.ensures ∙ is_there c.args.name.now c.args.self.now.registered.entries
