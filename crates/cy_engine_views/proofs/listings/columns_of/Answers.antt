use Rattle.std.proofs.Common.{List, [], map, sym, ap, ◌∙◌}
use Rattle.std.specs.Prelude.{slice_get}
use Rattle.cy_trees.specs.declared.clauses.Clause as coded
use Rattle.cy_trees.specs.declared.clauses.Query as coded_query
use Rattle.cy_trees.specs.TreeModels.{clause_of}
use Rattle.cy_scope.specs.Views.{ends_with_return}
use Rattle.cy_oneshot_meaning.specs.Queries.{columns_after_all}
use Rattle.cy_engine_views.proofs.Columns.{first_columns, first_returns}
use Rattle.cy_engine_views.proofs.listings.columns_of.Goals as goal

pub returned_columns-requires : goal.returned_columns-requires
returned_columns-requires c =
    let first = c.in-Some.first.now in
    let queries = c.deref.ensures.value ∙ ap (λ s. s.queries.items) (c.statement.ensures.tree ∙ c.checked.ensures.same) in
    let at = ap (λ (qs : List coded_query.Query). slice_get qs 0) (sym queries) ∙ sym c.in-Some.ensures.value in
    ap (λ (cs : List coded.Clause). ends_with_return (map clause_of cs)) c.deref-2.ensures.value
    ∙ first_returns c.args.query.now first c.checked.ensures.query at

pub returns : goal.returns
returns c =
    let first = c.in-Some.first.now in
    let queries = c.deref.ensures.value ∙ ap (λ s. s.queries.items) (c.statement.ensures.tree ∙ c.checked.ensures.same) in
    let at = ap (λ (qs : List coded_query.Query). slice_get qs 0) (sym queries) ∙ sym c.in-Some.ensures.value in
    c.in_ok-returned_columns.ensures ∙ ap (λ (cs : List coded.Clause). columns_after_all [] (map clause_of cs)) c.deref-2.ensures.value
    ∙ sym (first_columns c.args.query.now first at)
