use Rattle.cy_trees.specs.TreeModels.{projection_of}
use Rattle.cy_oneshot_meaning.specs.Projection.{projection_rows}
use Rattle.cy_oneshot_projections.proofs.Unordered.{as_alike}
use Rattle.cy_oneshot_projections.proofs.projection.unordered_rows.Goals as goal

pub returns-then-is_ordered : goal.returns-then-is_ordered
returns-then-is_ordered c =
    as_alike (λ made. made.items) c.projection_rows.result (projection_rows c.args.store.now.graph.now.content (projection_of c.args.projection.now) c.args.rows.items) c.projection_rows.ensures
