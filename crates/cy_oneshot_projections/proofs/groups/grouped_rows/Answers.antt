use Rattle.std.proofs.Common.{◌∷◌, List, map, refl, sym, ap, subst, ◌∙◌}
use Rattle.std.specs.Prelude.{Result}
use Rattle.std.specs.Vec.Iter.{into_iter_items}
use Rattle.std.proofs.lemmas.List.{nil_from_length}
use Rattle.cy_values.specs.declared.rows.Cell.{Cell}
use Rattle.cy_trees.specs.TreeModels.{expression_of}
use Rattle.cy_expr.specs.declared.faults.EvalFault.{EvalFault}
use Rattle.cy_oneshot_meaning.specs.Reading.{AreInGraph}
use Rattle.cy_oneshot_meaning.specs.internal.Answers.{sifted}
use Rattle.cy_oneshot_projections.specs.internal.Grouping.{grouped_by, with_key}
use Rattle.cy_oneshot_projections.specs.internal.Keys.{grouped_of}
use Rattle.cy_oneshot_meaning.proofs.Together.{answered}
use Rattle.cy_oneshot_projections.proofs.groups.grouped_rows.Goals as goal

pub loop-row-init : goal.loop-row-init
loop-row-init c = rw (c.in_ok-grouped.ensures.items, c.into_iter-row-iterator.ensures.into_iter_gives.0) (refl, c.requires)

pub key_on-key-requires : goal.key_on-key-requires
key_on-key-requires c = (subst (λ (l : List (List Cell)). AreInGraph c.args.store.now.graph.now.content l) c.in-Some.ensures.steps.0 c.loop-row.invariant.1).0

pub loop-row-preserved : goal.loop-row-preserved
loop-row-preserved c =
    let graph = c.args.store.now.graph.now.content in
    let of = grouped_by graph (map (λ e. expression_of e.now) c.args.keys.now) (map (λ e. expression_of e.now) c.args.arguments.now) in
    let rest = into_iter_items c.next.new.self in
    let gs = map grouped_of c.loop-row.grouped.items in
    let keyed = answered (λ cells. cells.items) c.key_on-key.result _ c.key_on-key.ensures c.in_ok-add_keyed.ensures.settled in (
      c.in_ok-add_keyed.ensures.ok (map of rest)
          ∙ ap (λ (key : Result (List Cell) EvalFault). sifted gs c.loop-row.fault (with_key c.in-Some.row key ∷ map of rest)) keyed
          ∙ ap (λ (l : List (List Cell)). sifted gs c.loop-row.fault (map of l)) (sym c.in-Some.ensures.steps.0)
          ∙ c.loop-row.invariant.0,
      (subst (λ (l : List (List Cell)). AreInGraph graph l) c.in-Some.ensures.steps.0 c.loop-row.invariant.1).1,
    )

pub returns-clause-sifted : goal.returns-clause-sifted
returns-clause-sifted c =
    let of = grouped_by c.args.store.now.graph.now.content (map (λ e. expression_of e.now) c.args.keys.now) (map (λ e. expression_of e.now) c.args.arguments.now) in
    let left = into_iter_items c.loop-row.row-iterator in
    let none = nil_from_length left (sym c.loop-row.row-iterator.rest.ok.0 ∙ c.in-None.ensures.steps.0) in
    sym c.loop-row.invariant.0 ∙ ap (λ (l : List (List Cell)). sifted (map grouped_of c.loop-row.grouped.items) c.loop-row.fault (map of l)) none
