use Rattle.std.proofs.Common.{Some, map, ap, sym, ◌∙◌}
use Rattle.std.specs.Option.{option_copied}
use Rattle.cy_planner_algebra.specs.PlanModels.{plan_of}
use Rattle.cy_network_sources.specs.internal.Rows.{rel_rows}
use Rattle.cy_network_sources.specs.internal.Through.{attribute_in, rel_made, through}
use Rattle.cy_network_sources.specs.declared.entities.EntityValue.TheVariants as entity
use Rattle.cy_network_sources.proofs.SameEnds.{rows_alike}
use Rattle.cy_network_sources.proofs.alike.are_alike_rels.Goals as goal

pub returns-then-have_same_ends : goal.returns-then-have_same_ends
returns-then-have_same_ends c = λ yes types orientation number.
    let ps = map (λ part. plan_of part.now) c.args.parts.now in
    let old = c.in-Some-Some.old in
    let new = c.in-Some-Some.new in
    ap (λ o. rel_made types orientation ps number (option_copied o)) c.in-Some-Some.is-0
    ∙ c.are_alike.ensures yes (rel_rows types orientation number (Some old.now))
    ∙ ap (through (attribute_in (entity.Rel new)) ps) (rows_alike old.now new.now (c.have_same_ends.ensures c.if-have_same_ends.true) types orientation number)
    ∙ sym (ap (λ o. rel_made types orientation ps number (option_copied o)) c.in-Some-Some.is-1)
