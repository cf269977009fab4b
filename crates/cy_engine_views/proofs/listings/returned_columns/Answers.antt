use Rattle.std.proofs.Common.{List, map, sym, ap, ◌∙◌}
use Rattle.cy_trees.specs.declared.clauses.Item as coded_item
use Rattle.cy_trees.specs.Trees.{Item}
use Rattle.cy_trees.specs.TreeModels.{clause_of, item_of, projection_of}
use Rattle.cy_engine_views.proofs.Columns.{last_returns, returned_columns}
use Rattle.cy_engine_views.proofs.listings.returned_columns.Goals as goal

pub returns-in_ok-names_of-in-Return : goal.returns-in_ok-names_of-in-Return
returns-in_ok-names_of-in-Return c =
    c.in_ok-names_of-in-Return.ensures ∙ ap (λ (is : List coded_item.Item). map (λ (i : Item). i.column) (map item_of is)) c.deref.ensures.value
    ∙ sym (returned_columns c.args.clauses.now c.in-Some.last.now (projection_of c.in-Return.projection) (sym c.in-Some.ensures.value) (ap clause_of c.in-Return.is))

pub returns-in_default-last : goal.returns-in_default-last
returns-in_default-last c = absurd (last_returns c.args.clauses.now c.in-Some.last.now c.requires (sym c.in-Some.ensures.value) c.in_default-last.not-Return)
