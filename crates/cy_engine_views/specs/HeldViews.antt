-- A view as the engine holds it, and the view that this is (own).
use Rattle.std.specs.Prelude.{ℕ, List}
use Rattle.cy_trees.specs.declared.clauses.Statement as coded
use Rattle.cy_trees.specs.TreeModels.{statement_of}
use Rattle.cy_feeds.specs.Feeds.{History, new_history}
use Rattle.cy_planner_algebra.specs.declared.operators.Operator.{Operator}
use Rattle.cy_engine_views.specs.RegisteredViews.{View}

-- a view with its upkeep, and with its query and its plan as the code has them
pub record Held : Type 0 where
  pub name : List ℕ
  pub query : coded.Statement
  pub plan : Operator
  pub made : ℕ
  pub feed : History
  pub steps : ℕ

abbrev pub view_of : Held → View
view_of h = record { name = h.name; query = statement_of h.query; made = h.made; feed = h.feed }

-- a view that is made now
abbrev pub new_held : List ℕ → coded.Statement → Operator → ℕ → ℕ → Held
new_held name query plan made history = record { name = name; query = query; plan = plan; made = made; feed = new_history history made; steps = 0 }
