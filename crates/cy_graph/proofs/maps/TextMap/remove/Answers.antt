use Rattle.std.proofs.Common.{◌<◌, length, rules, sym, subst, IsTrue, ◌∙◌}
use Rattle.cy_graph.specs.Maps.{rises}
use Rattle.cy_graph.specs.internal.Place.{IsAt}
use Rattle.cy_graph.proofs.Places.{at_within, without-place, without-gap, rises-without}
use Rattle.cy_graph.proofs.maps.TextMap.remove.Goals as goal

-- the place that was found is within the list
pub remove-requires : goal.remove-requires
remove-requires g c =
    let here : IsAt c.args.key.now c.self.inside.entries.items c.in-Ok.at = rw c.self.view_is c.in-Ok.ensures.found in
    let within : c.in-Ok.at < length c.self.inside.entries.items = at_within c.args.key.now c.self.inside.entries.items c.in-Ok.at here in
    search rules

-- the entry there goes
pub returns-in-Ok : goal.returns-in-Ok
returns-in-Ok g c =
    let here : IsAt c.args.key.now c.self.inside.entries.items c.in-Ok.at = rw c.self.view_is c.in-Ok.ensures.found in
    rw (← c.self.view_is) (c.remove.ensures.items ∙ sym (without-place c.args.key.now c.self.inside.entries.items c.self.invariant c.in-Ok.at here))

pub invariant_of-self : goal.invariant_of-self
invariant_of-self g c =
    let here : IsAt c.args.key.now c.self.inside.entries.items c.in-Ok.at = rw c.self.view_is c.in-Ok.ensures.found in
    subst (λ l. IsTrue (rises l)) (without-place c.args.key.now c.self.inside.entries.items c.self.invariant c.in-Ok.at here ∙ sym c.remove.ensures.items) (rises-without c.args.key.now c.self.inside.entries.items c.self.invariant)

-- nothing goes where the key is not there
pub returns-in_default : goal.returns-in_default
returns-in_default g c = sym (without-gap c.args.key.now c.args.self.now c.in_default.field-0 c.in_default.ensures.absent)
