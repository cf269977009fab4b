use Rattle.std.proofs.Common.{◌≡◌, List, [], ◌∷◌, take, sym, ap, subst, ◌∙◌, map, arith}
use Rattle.std.specs.Option.{option_copied}
use Rattle.std.proofs.lemmas.Grind.{common_steps}
use Rattle.std.proofs.lemmas.List.{take-map}
use Rattle.std.proofs.lemmas.Result.{IfOk-weaker}
use Rattle.cy_values.specs.declared.rows.Cell.{Cell}
use Rattle.cy_values.specs.declared.rows.Cell.TheVariants as cell
use Rattle.cy_planner_algebra.specs.Plans.{Plan}
use Rattle.cy_planner_algebra.specs.PlanModels.{plan_of}
use Rattle.cy_network_sources.specs.declared.entities.EntityValue.TheVariants as entity
use Rattle.cy_network_sources.specs.internal.Through.{AreFit, IsNodeFit, attribute_in, node_made, through}
use Rattle.cy_network_sources.proofs.ThroughSteps.{fit_split, through_split}
use Rattle.cy_network_sources.proofs.entities.row_at_node.Goals as goal

pub row_through-requires : goal.row_through-requires
row_through-requires c =
    let ps = map (λ part. plan_of part.now) c.args.parts.now in
    let values = attribute_in (entity.Node c.in-Some.node) in
    let left = c.parts_left-left.result in
    let own : List (List Cell) = (cell.Node c.args.id ∷ []) ∷ [] in
    let row : c.new.result ≡ cell.Node c.args.id ∷ [] = grind (arith, common_steps) in
    let fit : AreFit values ps own = subst (λ o. IsNodeFit ps c.args.id.0 (option_copied o)) c.in-Some.is c.requires in
    let above : AreFit values (take left ps) own = subst (AreFit values (take left ps)) (c.parts_left-left.ensures.same c.args.id.0) (fit_split values ps left own fit) in
    subst (λ (r : List Cell). AreFit values (map (λ part. plan_of part.now) (take left c.args.parts.now)) (r ∷ [])) (sym row)
    (subst (λ (qs : List Plan). AreFit values qs own) (take-map (λ part. plan_of part.now) left c.args.parts.now) above)

pub returns : goal.returns
returns c =
    let ps = map (λ part. plan_of part.now) c.args.parts.now in
    let values = attribute_in (entity.Node c.in-Some.node) in
    let left = c.parts_left-left.result in
    let own : List (List Cell) = (cell.Node c.args.id ∷ []) ∷ [] in
    let row : c.new.result ≡ cell.Node c.args.id ∷ [] = grind (arith, common_steps) in
    let whole : through values (map (λ part. plan_of part.now) (take left c.args.parts.now)) own ≡ node_made ps c.args.id.0 (option_copied c.args.node) =
    ap (λ (qs : List Plan). through values qs own) (sym (take-map (λ part. plan_of part.now) left c.args.parts.now))
    ∙ ap (through values (take left ps)) (sym (c.parts_left-left.ensures.same c.args.id.0))
    ∙ sym (through_split values ps left own)
    ∙ ap (λ o. node_made ps c.args.id.0 (option_copied o)) (sym c.in-Some.is) in
    IfOk-weaker c.row_through.result _ _
    (λ made makes. makes ∙ ap (λ (r : List Cell). through values (map (λ part. plan_of part.now) (take left c.args.parts.now)) (r ∷ [])) row ∙ whole) c.row_through.ensures
