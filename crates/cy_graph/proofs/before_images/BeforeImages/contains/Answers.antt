use Rattle.std.proofs.Common.{is_some, ap, ◌∙◌}
use Rattle.cy_graph.proofs.Slots.{same_look_up}
use Rattle.cy_graph.proofs.before_images.BeforeImages.contains.Goals as goal

-- the map finds it by `==`
pub returns-in-Many : goal.returns-in-Many
returns-in-Many g c = rw (← c.self.view_is, c.in-Many.is) (c.contains_key.ensures ∙ ap is_some (same_look_up c.args.number c.in-Many.map.entries))
