use Rattle.std.proofs.Common.{is_some, ap, ◌∙◌}
use Rattle.cy_index.proofs.Found.{has_found}
use Rattle.cy_index.proofs.store.Store.has_index.Goals as goal

pub returns : goal.returns
returns c = c.is_some.ensures ∙ ap is_some c.place_of.ensures ∙ has_found c.args.label.now c.args.key.now c.args.self.now.chosen
