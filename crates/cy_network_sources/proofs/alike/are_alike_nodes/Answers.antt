use Rattle.std.proofs.Common.{Some, map, ap, sym, ◌∙◌}
use Rattle.std.specs.Option.{option_copied}
use Rattle.cy_planner_algebra.specs.PlanModels.{plan_of}
use Rattle.cy_network_sources.specs.internal.Rows.{node_rows}
use Rattle.cy_network_sources.specs.internal.Through.{node_made}
use Rattle.cy_network_sources.proofs.alike.are_alike_nodes.Goals as goal

pub returns-in-Some-Some : goal.returns-in-Some-Some
returns-in-Some-Some c = λ yes number.
    let ps = map (λ part. plan_of part.now) c.args.parts.now in
    ap (λ o. node_made ps number (option_copied o)) c.in-Some-Some.is-0
    ∙ c.are_alike.ensures yes (node_rows number (Some c.in-Some-Some.old.now))
    ∙ sym (ap (λ o. node_made ps number (option_copied o)) c.in-Some-Some.is-1)
