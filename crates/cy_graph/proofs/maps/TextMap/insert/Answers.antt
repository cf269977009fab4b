use Rattle.std.proofs.Common.{◌<◌, ◌≤◌, length, rules, sym, subst, IsTrue, ◌∙◌}
use Rattle.std.proofs.lemmas.Bool.{false≢true}
use Rattle.cy_graph.specs.Maps.{rises}
use Rattle.cy_graph.specs.internal.Place.{IsAt, IsGapFor}
use Rattle.cy_graph.proofs.Places.{at_within, gap_within, with_value-place, with_value-gap, rises-with_value, value_at-gap}
use Rattle.cy_graph.proofs.maps.TextMap.insert.Goals as goal

-- the place that was found is within the list
pub index_mut-requires : goal.index_mut-requires
index_mut-requires g c =
    let here : IsAt c.as_str.result.now c.self.inside.entries.items c.in-Ok.at = rw c.self.view_is c.in-Ok.ensures.found in
    let within : c.in-Ok.at < length c.self.inside.entries.items = at_within c.as_str.result.now c.self.inside.entries.items c.in-Ok.at here in
    search rules

-- so is the place where the key would go
pub insert-requires : goal.insert-requires
insert-requires g c =
    let gap : IsGapFor c.as_str.result.now c.self.inside.entries.items c.in-Err.at = rw c.self.view_is c.in-Err.ensures.absent in
    let within : c.in-Err.at ≤ length c.self.inside.entries.items = gap_within c.as_str.result.now c.self.inside.entries.items c.in-Err.at gap in
    search rules

-- the entry there is written over
pub returns-in-Ok-clause-ok : goal.returns-in-Ok-clause-ok
returns-in-Ok-clause-ok g c =
    let here : IsAt c.args.key c.self.inside.entries.items c.in-Ok.at = rw (← c.as_str.ensures, c.self.view_is) c.in-Ok.ensures.found in
    rw (← c.self.view_is) (sym (with_value-place c.args.key c.args.value c.self.inside.entries.items c.in-Ok.at here))

pub invariant_of-self : goal.invariant_of-self
invariant_of-self g c =
    let here : IsAt c.args.key c.self.inside.entries.items c.in-Ok.at = rw (← c.as_str.ensures, c.self.view_is) c.in-Ok.ensures.found in
    subst (λ l. IsTrue (rises l)) (with_value-place c.args.key c.args.value c.self.inside.entries.items c.in-Ok.at here) (rises-with_value c.args.key c.args.value c.self.inside.entries.items c.self.invariant)

-- the entry goes into the gap
pub returns-in_ok-insert-in-Err-clause-ok : goal.returns-in_ok-insert-in-Err-clause-ok
returns-in_ok-insert-in-Err-clause-ok g c =
    let gap : IsGapFor c.args.key c.self.inside.entries.items c.in-Err.at = rw (← c.as_str.ensures, c.self.view_is) c.in-Err.ensures.absent in
    rw (← c.self.view_is) (c.in_ok-insert-in-Err.ensures.items ∙ sym (with_value-gap c.args.key c.args.value c.self.inside.entries.items c.in-Err.at gap))

pub invariant_of-self-in-Err : goal.invariant_of-self-in-Err
invariant_of-self-in-Err g c =
    let gap : IsGapFor c.args.key c.self.inside.entries.items c.in-Err.at = rw (← c.as_str.ensures, c.self.view_is) c.in-Err.ensures.absent in
    subst (λ l. IsTrue (rises l)) (with_value-gap c.args.key c.args.value c.self.inside.entries.items c.in-Err.at gap ∙ sym c.in_ok-insert-in-Err.ensures.items) (rises-with_value c.args.key c.args.value c.self.inside.entries.items c.self.invariant)

-- memory fails only for a key that was not there
pub returns-in_err-insert-in-Err-clause-overwrite_succeeds : goal.returns-in_err-insert-in-Err-clause-overwrite_succeeds
returns-in_err-insert-in-Err-clause-overwrite_succeeds g c found =
    let gap : IsGapFor c.args.key c.args.self.now c.in-Err.at = rw (← c.as_str.ensures) c.in-Err.ensures.absent in
    let none = value_at-gap c.args.key c.args.self.now c.in-Err.at gap in
    absurd (false≢true (rw none at found))
