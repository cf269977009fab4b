use Rattle.std.proofs.Common.{◌≡◌, List, length, map, sym, ap, subst, ◌∙◌}
use Rattle.std.specs.Prelude.{[], None}
use Rattle.std.proofs.lemmas.Bool.{eqb-false, eqb-true}
use Rattle.std.proofs.lemmas.List.{nil_from_length}
use Rattle.cy_trees.specs.Trees.{Expression}
use Rattle.cy_trees.specs.TreeModels.{expression_of, item_of}
use Rattle.cy_oneshot_meaning.specs.Groups.{arguments, grouping}
use Rattle.cy_oneshot_patterns.specs.Outcomes.{gathered}
use Rattle.cy_oneshot_meaning.specs.internal.Answers.{sifted}
use Rattle.cy_oneshot_projections.specs.internal.Grouping.{grouped_by}
use Rattle.cy_oneshot_projections.specs.internal.Keys.{group_of, grouped_of}
use Rattle.cy_oneshot_projections.proofs.Aggregated.{aggregated_is, row_of}
use Rattle.cy_oneshot_meaning.proofs.Each.{each_before}
use Rattle.cy_oneshot_projections.proofs.GroupAnswers.{and_also_answers, groups_alike, no_grouping, some_grouping}
use Rattle.cy_oneshot_projections.proofs.RowsThere.{GroupThere, grouped_there, groups_there}
use Rattle.cy_oneshot_meaning.proofs.SeenRows.{expressions}
use Rattle.cy_oneshot_projections.proofs.groups.aggregated.Goals as goal

pub group_rows-requires : goal.group_rows-requires
group_rows-requires c =
    let graph = c.args.store.now.graph.now.content in
    let rows = c.args.rows.items in
    let gs = map grouped_of c.in_ok-grouped.grouped.items in
    each_before (GroupThere graph) group_of c.in_ok-groups.groups.items
    (groups_there graph c.is_empty.result gs (map group_of c.in_ok-groups.groups.items) c.in_ok-groups.ensures
    (grouped_there graph (map (λ e. expression_of e.now) c.deref.result.now) (map (λ e. expression_of e.now) c.deref-2.result.now) rows gs c.in_ok-grouped.fault c.in_ok-grouped.ensures.sifted c.requires))

pub returns : goal.returns
returns c =
    let total = c.row_order_laws.ensures.total in
    let graph = c.args.store.now.graph.now.content in
    let items = map item_of c.args.items.now in
    let rows = c.args.rows.items in
    let keys = c.in_ok-keys.keys in
    let gs = map grouped_of c.in_ok-grouped.grouped.items in
    let fault = c.in_ok-grouped.fault in
    let groups = map group_of c.in_ok-groups.groups.items in
    let are : map (λ e. expression_of e.now) keys.items ≡ expressions (grouping items) = c.in_ok-keys.ensures in
    let sifts : sifted [] None (map (grouped_by graph (expressions (grouping items)) (arguments items)) rows) ≡ (gs, fault) =
    subst (λ (es : List Expression). sifted [] None (map (grouped_by graph (expressions (grouping items)) es) rows) ≡ (gs, fault)) (ap (map (λ e. expression_of e.now)) c.deref-2.ensures.value ∙ c.in_ok-arguments.ensures)
    (subst (λ (es : List Expression). sifted [] None (map (grouped_by graph es (map (λ e. expression_of e.now) c.deref-2.result.now)) rows) ≡ (gs, fault)) (ap (map (λ e. expression_of e.now)) c.deref.ensures.value ∙ are) c.in_ok-grouped.ensures.sifted) in
    let alike = groups_alike total graph items c.is_empty.result
    (λ h. no_grouping (λ e. expression_of e.now) keys.items (grouping items) are (nil_from_length keys.items (sym keys.ok.0 ∙ eqb-true _ _ (sym c.is_empty.ensures ∙ h))))
    (λ h none. eqb-false _ _ (sym c.is_empty.ensures ∙ h) (keys.ok.0 ∙ ap length (some_grouping (λ e. expression_of e.now) keys.items (grouping items) are none)))
    rows gs fault sifts groups c.in_ok-groups.ensures in
    and_also_answers (λ made. made.items) fault c.group_rows.result c.and_also.result (gathered (map (row_of graph items) groups)) _ c.group_rows.ensures c.and_also.ensures.both c.and_also.ensures.memory
    (aggregated_is graph items rows gs fault (gathered (map (row_of graph items) groups)) sifts alike)
