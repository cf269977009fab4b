-- Views, the rows that they mean, and what a line changes in these (own).
use Rattle.std.specs.Prelude.{◌≡◌, ◌⊎◌, ⊤, ℕ, not, List, [], ◌∷◌, filter, find, Option, None, Some}
use Rattle.std.specs.Option.{option_map, option_map_or}
use Rattle.std.specs.Result.{result_unwrap_or}
use Rattle.std.specs.Str.{bytes_eq}
use Rattle.cy_trees.specs.Trees.{Statement}
use Rattle.cy_values.specs.declared.rows.Cell.{Cell}
use Rattle.cy_values.specs.Bag.{IsBagOf, IsCanonical, IsSameBag}
use Rattle.cy_graph.specs.Graph.{Content}
use Rattle.cy_oneshot_meaning.specs.Queries.{statement_columns, statement_rows}
use Rattle.cy_bags.specs.Difference.{IsDifference}
use Rattle.cy_bags.specs.declared.changes.Entry.{Entry}
use Rattle.cy_feeds.specs.Feeds.{History, pushed}
use Rattle.cy_engine_views.specs.declared.listings.ViewListing.{ViewListing}

-- a view: its name, its query, the tick at which it was made, and its feed: the last entries that lines made for it. Its rows are no
-- part of it: they are what its query means on the graph
pub record View : Type 0 where
  pub name : List ℕ
  pub query : Statement
  pub made : ℕ
  pub feed : History

-- The rows that the query of a view means on a graph, as a bag. Such a query has rows on every graph, and no fault: that is a law
-- of queries (`view_queries`), and part of the headline.
abbrev pub rows_of : Statement → Content → List (List Cell)
rows_of query graph = result_unwrap_or (statement_rows graph query) []

-- how many views there may be
abbrev pub view_limit : ℕ
view_limit = 256

-- the view of a name
abbrev pub view_among : List ℕ → List View → Option View
view_among name views = find (λ v. bytes_eq name v.name) views

-- the views without the one of a name
abbrev pub without : List ℕ → List View → List View
without name views = filter (λ v. not (bytes_eq name v.name)) views

-- the columns, the tick made and the name of a view
abbrev pub listed : View → ViewListing
listed view = record { columns = statement_columns view.query; made = view.made; name = view.name }

-- the rows, each once, in canonical order, with their counts, that a view's query means on a graph
pub record AreRowsOf (query : Statement) (graph : Content) (rows : List (List Cell × ℕ)) : Type 0 where
  pub bag : IsBagOf (rows_of query graph) rows
  pub canonical : IsCanonical rows

-- those of the view of a name, where there is one
abbrev pub AreShown : Option View → Content → Option (List (List Cell × ℕ)) → Type 0
AreShown None graph None = ⊤
AreShown None graph (Some rows) = ⊥
AreShown (Some view) graph None = ⊥
AreShown (Some view) graph (Some rows) = AreRowsOf view.query graph rows

-- ---- what a line changes

-- the entries that a line made, each with the name of its view, in the order in which the views were made
abbrev pub Entries : Type 0
Entries = List (List ℕ × Entry)

-- the entry of the view of a name, if there is one
abbrev pub entry_at : List ℕ → Entries → Option Entry
entry_at name entries = option_map (λ e. e.1) (find (λ e. bytes_eq name e.0) entries)

-- what a line changed in the rows of a query: they are another bag, and the change is the difference
pub record IsEntry (query : Statement) (before after : Content) (tick : ℕ) (entry : Entry) : Type 0 where
  pub differs : ¬ (IsSameBag (rows_of query before) (rows_of query after))
  pub tick_is : entry.tick ≡ tick
  pub difference : IsDifference (rows_of query before) (rows_of query after) entry.change

-- the entries that views get, in the order of the views: one for each view whose rows are another bag, and none else
abbrev pub AreEntries : List View → Content → Content → ℕ → Entries → Type 0
AreEntries [] before after tick entries = entries ≡ []
AreEntries (view ∷ views) before after tick entries =
    (IsSameBag (rows_of view.query before) (rows_of view.query after) × AreEntries views before after tick entries)
    ⊎ ((entry : Entry) × (others : Entries) × (entries ≡ (view.name, entry) ∷ others)
    × IsEntry view.query before after tick entry × AreEntries views before after tick others)

-- a view with the entry that it gets, if it gets one, in its feed
abbrev pub fed : Entries → View → View
fed entries view = option_map_or (λ entry. record view { feed = pushed entry view.feed }) (entry_at view.name entries) view
