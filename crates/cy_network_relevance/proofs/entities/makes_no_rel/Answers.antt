use Rattle.std.proofs.Common.{sym, subst}
use Rattle.std.specs.Option.{option_copied}
use Rattle.cy_planner_algebra.specs.Plans as plan
use Rattle.cy_network_relevance.specs.declared.entities.Entity.{Entity}
use Rattle.cy_network_relevance.specs.internal.Kept.{NoRows}
use Rattle.cy_network_relevance.proofs.Rules.{none_of_types}
use Rattle.cy_network_relevance.proofs.entities.makes_no_rel.Goals as goal

pub returns-then-is_of_another : goal.returns-then-is_of_another
returns-then-is_of_another c = λ yes orientation.
    let types = c.args.types.now in
    subst (λ (e : Entity). NoRows e (plan.rels types orientation)) (sym c.in-Rel.is) (λ other_types other_orientation leaf number. (
      none_of_types types (option_copied c.in-Rel.old) (c.is_of_another.ensures c.if-is_of_another.true) orientation other_types other_orientation leaf number,
      none_of_types types (option_copied c.in-Rel.new) (c.is_of_another-then-is_of_another.ensures yes) orientation other_types other_orientation leaf number,
    ))
