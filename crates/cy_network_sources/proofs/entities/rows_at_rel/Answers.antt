use Rattle.std.proofs.Common.{List, sym, subst, map}
use Rattle.std.specs.Option.{option_copied}
use Rattle.cy_values.specs.declared.rows.Cell.{Cell}
use Rattle.cy_planner_algebra.specs.PlanModels.{plan_of}
use Rattle.cy_network_sources.specs.declared.entities.EntityValue.TheVariants as entity
use Rattle.cy_network_sources.specs.internal.Through.{AreFit, IsRelFit, attribute_in}
use Rattle.cy_network_sources.proofs.entities.rows_at_rel.Goals as goal

pub rows_through-requires : goal.rows_through-requires
rows_through-requires c =
    let ps = map (λ part. plan_of part.now) c.args.parts.now in
    subst (λ (rows : List (List Cell)). AreFit (attribute_in (entity.Rel c.in-Some.rel)) ps rows) (sym c.in_ok-rows.ensures)
    (subst (λ o. IsRelFit c.args.types.now c.args.orientation ps c.args.id.0 (option_copied o)) c.in-Some.is c.requires)
