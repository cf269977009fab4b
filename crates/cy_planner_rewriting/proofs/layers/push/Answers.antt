use Rattle.std.proofs.Common.{◌++◌, ◌∷◌, []}
use Rattle.cy_planner_rewriting.proofs.Layering.{same_layers}
use Rattle.cy_planner_rewriting.proofs.layers.push.Goals as goal

pub returns : goal.returns
returns c p = same_layers (c.args.layers.now.items ++ c.args.layer ∷ []) c.push.new.self.items p c.in_ok-push.ensures.items
