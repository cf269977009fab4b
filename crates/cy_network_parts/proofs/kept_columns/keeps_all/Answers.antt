use Rattle.std.proofs.Common.{◌<◌, map, ap, sym, subst, ◌∙◌}
use Rattle.std.specs.List.{list_all}
use Rattle.std.proofs.lemmas.List.{length-map}
use Rattle.cy_planner_algebra.specs.PlanModels.{output_of}
use Rattle.cy_network_parts.proofs.Kept.{all_flags, too_few}
use Rattle.cy_network_parts.proofs.kept_columns.keeps_all.Goals as goal

pub returns-then-outputs-number : goal.returns-then-outputs-number
returns-then-outputs-number c =
    sym (too_few c.args.number (map output_of c.args.outputs.now) (subst (λ n. n < c.args.number) (sym (length-map c.args.outputs.now output_of)) c.if-outputs-number.true))

pub returns : goal.returns
returns c = c.are_all_set.ensures ∙ ap (list_all (λ flag. flag)) (c.deref.ensures.value ∙ c.in_ok-flags.ensures) ∙ all_flags c.args.number (map output_of c.args.outputs.now)
