-- A view that is prepared for the end of a change, and one that is abandoned.
use Rattle.std.proofs.Common.{◌≡◌, ◌<◌, ◌⊎◌, ℕ, true, false, Option, None, Some, sym, subst, ◌∙◌, arith, inl, inr}
use Rattle.std.specs.Prelude.{IfSome}
use Rattle.std.specs.Cmp.{IsTotalOrder}
use Rattle.cy_trees.specs.TreeModels.{statement_of}
use Rattle.cy_values.specs.Order.{row_cmp}
use Rattle.cy_graph.specs.Graph.{Content, State}
use Rattle.cy_bags.specs.declared.changes.Change.{Change}
use Rattle.cy_bags.specs.Difference.{IsDifference, is_nothing}
use Rattle.cy_feeds.specs.Feeds.{History, IsReserved, Kept, latest}
use Rattle.cy_network_sources.specs.Changes.{IsChange, Touches}
use Rattle.cy_engine_views.specs.declared.registered.Registered.{Registered}
use Rattle.cy_engine_views.specs.Upkeep.{IsItsChange, IsPrepared, IsReady, IsUntil, Rests, StandsFor}
use Rattle.cy_engine_views.specs.RegisteredViews.{rows_of}
use Rattle.cy_engine_views.specs.internal.Loops.{CanRest, IsPreparedAt}
use Rattle.cy_engine_views.proofs.Served.{nothing_changes, something_changes}
use Rattle.cy_engine_views.proofs.Still.{same_bags}

-- a view whose rows are prepared, where this is what is pending
module _ (view next : Registered) (before after : State) (change : Change) (prepared : IsPrepared next.rows before after) (marked : next.prepared ≡ true)
    (pending : (b a : State) → IsPrepared next.rows b a → IsDifference (rows_of (statement_of next.rows.query) b.content) (rows_of (statement_of next.rows.query) a.content) change) where
  -- nothing changes, and nothing is to go into its feed
  pub ready_unchanged : is_nothing change ≡ true → next.change ≡ view.change → next.feed ≡ view.feed → (last tick : ℕ) → Rests view before.content last → last < tick → IsReady next before after tick
  ready_unchanged nothing same feed last tick rests below =
      let idle : next.change ≡ None = same ∙ rests.idle in
      record {
        rows = inl (marked, prepared);
        change = subst (λ (o : Option Change). IsItsChange o (rows_of (statement_of next.rows.query) before.content) (rows_of (statement_of next.rows.query) after.content)) (sym idle)
            (nothing_changes (rows_of (statement_of next.rows.query) before.content) (rows_of (statement_of next.rows.query) after.content) change (pending before after prepared) nothing);
        reserved = subst (λ (o : Option Change). IfSome o (λ _. IsReserved next.feed)) (sym idle) tt;
        later = subst (λ (f : Kept). latest f.history.base f.history.entries < tick) (sym feed) (omega (arith, below, rests.in_time));
      }

  -- something changes, and its feed has room for it
  pub ready_changed : IsTotalOrder row_cmp → is_nothing change ≡ false → next.change ≡ Some change → IsReserved next.feed → next.feed.history ≡ view.feed.history
      → (last tick : ℕ) → Rests view before.content last → last < tick → IsReady next before after tick
  ready_changed total some is reserved feed last tick rests below = record {
    rows = inl (marked, prepared);
    change = subst (λ (o : Option Change). IsItsChange o (rows_of (statement_of next.rows.query) before.content) (rows_of (statement_of next.rows.query) after.content)) (sym is)
        (something_changes (rows_of (statement_of next.rows.query) before.content) (rows_of (statement_of next.rows.query) after.content) change (pending before after prepared) total
        (λ nothing. let wrong : true ≡ false = sym nothing ∙ some in absurd (cc)));
    reserved = subst (λ (o : Option Change). IfSome o (λ _. IsReserved next.feed)) (sym is) reserved;
    later = subst (λ (h : History). latest h.base h.entries < tick) (sym feed) (omega (arith, below, rests.in_time));
  }

-- a view that a change doesn't concern is ready as it is
pub ready_unconcerned : (view : Registered) (before after : State) (touches : Touches) → IsChange before after touches → (StandsFor view.rows before.content → StandsFor view.rows after.content)
    → (last tick : ℕ) → Rests view before.content last → last < tick → IsReady view before after tick
ready_unconcerned view before after touches change still last tick rests below =
    let stands = still rests.rows in
    record {
      rows = inr (record {
        unprepared = rests.unprepared;
        idle = rests.idle;
        stands = rests.rows;
        still = stands;
        steps = record { touches = touches; change = change; within = omega arith };
      });
      change = subst (λ (o : Option Change). IsItsChange o (rows_of (statement_of view.rows.query) before.content) (rows_of (statement_of view.rows.query) after.content)) (sym rests.idle)
          (same_bags view.rows before after rests.rows stands);
      reserved = subst (λ (o : Option Change). IfSome o (λ _. IsReserved view.feed)) (sym rests.idle) tt;
      later = omega (arith, below, rests.in_time);
    }

-- a view that was prepared rests once it is abandoned
pub abandoned_rests : (view next : Registered) → view.prepared ≡ true → ((before after : State) → IsPrepared view.rows before after → StandsFor next.rows before.content) → next.prepared ≡ false → next.change ≡ None
    → next.feed ≡ view.feed → (graph : Content) (last : ℕ) → CanRest view graph last → Rests next graph last
abandoned_rests view next was_prepared stands unprepared idle feed graph last can = record {
  rows = from can.rows;
  unprepared = unprepared;
  idle = idle;
  in_time = subst (λ (f : Kept). IsUntil last f) (sym feed) can.in_time;
}
  where
    from : ((view.prepared ≡ false) × (view.change ≡ None) × StandsFor view.rows graph) ⊎ ((view.prepared ≡ true) × IsPreparedAt graph view.rows) → StandsFor next.rows graph
    from (inl (not_prepared, none, rows)) = let wrong : true ≡ false = sym was_prepared ∙ not_prepared in absurd (cc)
    from (inr (is, at)) = subst (λ (g : Content). StandsFor next.rows g) at.from_graph (stands at.before at.after at.prepared)
