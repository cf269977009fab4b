use Rattle.std.proofs.Common.{inl, refl, ap, ◌∙◌}
use Rattle.cy_scope_kinds.specs.declared.functions.Function.TheVariants.{Count}
use Rattle.cy_oneshot_meaning.specs.Groups.{aggregate}
use Rattle.cy_oneshot_projections.proofs.AggregateAnswers.{counts_alike}
use Rattle.cy_oneshot_projections.proofs.aggregates.aggregate_of.Goals as goal

pub returns-then-is_count : goal.returns-then-is_count
returns-then-is_count c =
    inl (counts_alike c.args.cells.items c.count.result c.args.function c.args.distinct (c.if-is_count.ensures refl) c.if-not-distinct.true
    (c.count.ensures ∙ ap (aggregate Count) (c.deref.ensures.value ∙ c.without_nulls-counted.ensures)))
