-- The entries of views that are ready for the end of a change.
use Rattle.std.proofs.Common.{◌≡◌, ◌≤◌, ℕ, [], ◌∷◌, ◌++◌, length, map, Some, None, Option, string_bytes, refl, sym, ap, subst, ◌∙◌, arith, inl, inr}
use Rattle.cy_trees.specs.TreeModels.{statement_of}
use Rattle.cy_graph.specs.Graph.{State}
use Rattle.cy_bags.specs.declared.changes.Change.{Change}
use Rattle.cy_engine_views.specs.Upkeep.{AreNamed, AreReady, IsItsChange, IsReady, Registry, entries_in, entry_if, held, views_in}
use Rattle.cy_engine_views.specs.RegisteredViews.{AreEntries, Entries, rows_of, view_limit}
use Rattle.cy_engine_views.specs.declared.views.Views.{Views}
use Rattle.cy_engine_views.proofs.Going.{All}
use Rattle.cy_engine_views.proofs.Named.{views}

-- what is to go into the feeds are the entries
pub are_entries : (before after : State) (tick : ℕ) (entries : Registry) → All (λ view. IsReady view before after tick) entries → AreEntries (views entries) before.content after.content tick (entries_in tick entries)
are_entries before after tick [] ready = refl
are_entries before after tick (e ∷ entries) ready = from (are_entries before after tick entries ready.1) e.1.change ready.0.change
  where
    from : AreEntries (views entries) before.content after.content tick (entries_in tick entries) → (o : Option Change) → IsItsChange o (rows_of (statement_of e.1.rows.query) before.content) (rows_of (statement_of e.1.rows.query) after.content)
        → AreEntries (views (e ∷ entries)) before.content after.content tick (entry_if (string_bytes e.0) tick o ++ entries_in tick entries)
    from rest None same = inl (same, rest)
    from rest (Some change) (differs, difference) = inr (
      record { tick = tick; change = change },
      entries_in tick entries,
      refl,
      record { differs = differs; tick_is = refl; difference = difference },
      rest,
    )

-- where there are no views, they are ready, and there are no entries
module _ (held_views : Views) (none : length held_views.registered.entries ≡ 0) (before after : State) (tick : ℕ) (entries : Entries) (is : entries ≡ []) where
  no_views : (registry : Registry) → length registry ≡ 0 → registry ≡ []
  no_views [] long = refl
  no_views (e ∷ registry) long = absurd (omega (arith, long))

  none_are : held_views.registered.entries ≡ []
  none_are = no_views held_views.registered.entries none

  pub none_ready : AreReady held_views before after tick entries
  none_ready = record {
    ready = subst (All (λ view. IsReady view before after tick)) (sym none_are) tt;
    named = subst (λ (es : Registry). AreNamed (views es)) (sym none_are) tt;
    few = subst (λ (es : Registry). length (map held es) ≤ view_limit) (sym none_are) (omega arith);
    are = is ∙ ap (entries_in tick) (sym none_are);
  }

  pub none_changed : AreEntries (views_in held_views) before.content after.content tick entries
  none_changed = subst (λ (es : Registry). AreEntries (views es) before.content after.content tick entries) (sym none_are) is
