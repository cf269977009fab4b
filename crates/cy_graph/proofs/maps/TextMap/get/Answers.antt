use Rattle.std.proofs.Common.{◌<◌, length, rules, sym, ap, Some, ◌∙◌}
use Rattle.cy_graph.specs.internal.Place.{IsAt}
use Rattle.cy_graph.proofs.Places.{at_within, value_at-place, value_at-gap}
use Rattle.cy_graph.proofs.maps.TextMap.get.Goals as goal

-- the place that was found is within the list
pub index-requires : goal.index-requires
index-requires g c =
    let here : IsAt c.args.key.now c.self.inside.entries.items c.in-Ok.at = rw c.self.view_is c.in-Ok.ensures.found in
    let within : c.in-Ok.at < length c.self.inside.entries.items = at_within c.args.key.now c.self.inside.entries.items c.in-Ok.at here in
    search rules

-- the entry there has the key's value
pub returns-in-Ok : goal.returns-in-Ok
returns-in-Ok g c =
    let here : IsAt c.args.key.now c.self.inside.entries.items c.in-Ok.at = rw c.self.view_is c.in-Ok.ensures.found in
    rw (← c.self.view_is) (ap (λ e. Some e.1) c.index.ensures ∙ sym (value_at-place c.args.key.now c.self.inside.entries.items c.in-Ok.at c.index.result.now here))

-- the key is not there
pub returns-in-Err : goal.returns-in-Err
returns-in-Err g c = sym (value_at-gap c.args.key.now c.args.self.now c.in-Err.field-0 c.in-Err.ensures.absent)
