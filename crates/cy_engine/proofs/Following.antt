-- The rows of a view are those that it had when it was made, changed by its later entries.
use Rattle.std.proofs.Common.{◌≡◌, ◌⊎◌, ℕ, ◌+◌, ◌-◌, cond, not, true, false, List, [], ◌∷◌, map, Option, None, Some, Result, Ok, Err, refl, sym, ap, subst, ◌∙◌, arith, inl, inr}
use Rattle.std.specs.Prelude.{IsOk}
use Rattle.std.specs.List.{AllByRecursion}
use Rattle.std.specs.Result.{result_unwrap_or}
use Rattle.std.specs.Str.{bytes_eq}
use Rattle.cy_values.specs.declared.rows.Cell.{Cell}
use Rattle.cy_values.specs.Bag.{count_of, weight_of}
use Rattle.cy_graph.specs.Graph.{Content, State}
use Rattle.cy_expr.specs.declared.faults.EvalFault.{EvalFault}
use Rattle.cy_trees.specs.Trees.{Statement}
use Rattle.cy_scope.specs.Checked.{IsViewQuery}
use Rattle.cy_oneshot_meaning.specs.Queries.{statement_columns, statement_rows}
use Rattle.cy_bags.specs.declared.changes.Entry.{Entry}
use Rattle.cy_feeds.specs.Feeds.{History, new_history}
use Rattle.cy_engine_lines.specs.declared.replies.Reply.TheVariants as reply
use Rattle.cy_engine.specs.Headline.{AreItsEntries, AsksForView, HeadlineHolds, IsItsEntry, IsMaintained, Leads, Moment, counts_in, entries_of, followed, moment_of, with_entries, with_entry}
use Rattle.cy_engine.specs.Runs.{Event, OnlySo, Run, accepted}
use Rattle.cy_engine_lines.specs.State.{EngineState, empty_engine}
use Rattle.cy_engine_views.specs.RegisteredViews.{AreEntries, Entries, View, entry_at, fed, rows_of, without}
use Rattle.cy_engine_lines.specs.EngineStep.{Answer, EngineStep}
use Rattle.cy_engine_views.specs.Upkeep.{AreNamed}
use Rattle.cy_engine.proofs.Building.{run_builds, step_leads}
use Rattle.cy_engine.proofs.EachEntry.{each_entry}
use Rattle.cy_engine_lines.proofs.Effects.{Effects, effects, exact}
use Rattle.cy_engine.proofs.Making.{step_asked}
use Rattle.cy_engine.proofs.Names.{Among, among_from, among_either, found}
use Rattle.cy_engine.proofs.StepNames.{effects_named, fed_name, fed_query}
use Rattle.cy_engine.proofs.ToldRows.{with_one}

abbrev Counts : Type 0
Counts = List Cell → ℕ

followed_alike : (f g : Counts) (es : List Entry) → ((row : List Cell) → f row ≡ g row) → (row : List Cell) → followed f es row ≡ followed g es row
followed_alike f g [] same row = same row
followed_alike f g (e ∷ es) same row =
    followed_alike (λ r. (f r - weight_of r e.change.removed) + weight_of r e.change.added) (λ r. (g r - weight_of r e.change.removed) + weight_of r e.change.added) es
    (λ r. ap (λ n. (n - weight_of r e.change.removed) + weight_of r e.change.added) (same r)) row

-- a line, and then what follows
then_followed : (query : Statement) (old mid : Moment) (first : Option Entry) (rest : List Entry) → IsItsEntry query old mid first → (row : List Cell)
    → followed (counts_in query mid.graph) rest row ≡ followed (counts_in query old.graph) (with_entry first rest) row
then_followed query old mid None rest is row = followed_alike (counts_in query mid.graph) (counts_in query old.graph) rest (λ r. sym (is r)) row
then_followed query old mid (Some e) rest is row =
    followed_alike (counts_in query mid.graph) (λ r. (counts_in query old.graph r - weight_of r e.change.removed) + weight_of r e.change.added) rest
    (λ r. omega (arith, is.difference.removed.counts r, is.difference.added.counts r)) row

-- ---- what a view was before a line

-- with another feed
abbrev fed_with : View → History → View
fed_with view feed = record view { feed = feed }

-- a view that stands after a line stood before it with the feed that its entry then went into
record Stood (old : EngineState) (entries : Entries) (mid : EngineState) (view : View) : Type 0 where
  feed : History
  there : Among (fed_with view feed) old.views
  feeds : view.feed ≡ with_entries (with_entry (entry_at view.name entries) []) feed
  entry : IsItsEntry view.query (moment_of old) (moment_of mid) (entry_at view.name entries)

among_holds : (P : View → Type 0) (view : View) (views : List View) → AllByRecursion P views → Among view views → P view
among_holds P view [] all here = absurd here
among_holds P view (v ∷ views) all (inl is) = subst P is all.0
among_holds P view (v ∷ views) all (inr here) = among_holds P view views all.1 here

among_without : (name : List ℕ) (view : View) (views : List View) → Among view (without name views) → Among view views
among_without name view [] here = here
among_without name view (v ∷ views) here =
    let later = among_without name view views in
    elim (bytes_eq name v.name) as (λ b. Among view (cond (not b) (v ∷ without name views) (without name views)) → Among view (v ∷ views)) [
      | true ↦ λ there. inr (later there)
      | false ↦ λ there. from later there
    ] here
  where
    from : (Among view (without name views) → Among view views) → Among view (v ∷ without name views) → Among view (v ∷ views)
    from later (inl is) = inl is
    from later (inr there) = inr (later there)

among_fed : (entries : Entries) (view : View) (views : List View) → Among view (map (fed entries) views) → (was : View) × Among was views × (fed entries was ≡ view)
among_fed entries view [] here = absurd here
among_fed entries view (v ∷ views) (inl is) = (v, inl refl, is)
among_fed entries view (v ∷ views) (inr later) = let was = among_fed entries view views later in (was.0, inr was.1, was.2)

-- the feed before an entry, and after it
unfed : (was : View) (o : Option Entry) → fed_with (with_one was o) was.feed ≡ was
unfed was None = refl
unfed was (Some e) = refl

feed_after : (was : View) (o : Option Entry) → (with_one was o).feed ≡ with_entries (with_entry o []) was.feed
feed_after was None = refl
feed_after was (Some e) = refl

module _ (old : EngineState) (answer : Answer) (entries : Entries) (mid : EngineState) (view : View) where
  quiet_stood : entries ≡ [] → mid.graph ≡ old.graph → Among view old.views → Stood old entries mid view
  quiet_stood none same there =
      let no_entry : entry_at view.name entries ≡ None = ap (entry_at view.name) none in
      record {
        feed = view.feed;
        there = there;
        feeds = ap (λ (o : Option Entry). with_entries (with_entry o []) view.feed) (sym no_entry);
        entry = subst (IsItsEntry view.query (moment_of old) (moment_of mid)) (sym no_entry) (λ row. ap (λ (g : State). count_of row (rows_of view.query g.content)) (sym same));
      }

  executed_stood : AreNamed old.views → AreEntries old.views old.graph.content mid.graph.content mid.tick entries → (was : View) → Among was old.views → fed entries was ≡ view → Stood old entries mid view
  executed_stood named are was there is =
      let o = entry_at was.name entries in
      let named_so : was.name ≡ view.name = sym (fed_name entries was) ∙ ap (λ (v : View). v.name) is in
      let asks : was.query ≡ view.query = sym (fed_query entries was) ∙ ap (λ (v : View). v.query) is in
      let all = each_entry old.graph.content mid.graph.content mid.tick (λ v o. IsItsEntry v.query (moment_of old) (moment_of mid) o) (λ v same. same) (λ v e is. is) old.views entries named are in
      let its : IsItsEntry was.query (moment_of old) (moment_of mid) o = among_holds (λ v. IsItsEntry v.query (moment_of old) (moment_of mid) (entry_at v.name entries)) was old.views all there in
      record {
        feed = was.feed;
        there = subst (λ (v : View). Among v old.views) (sym (ap (λ (v : View). fed_with v was.feed) (sym is) ∙ unfed was o)) there;
        feeds = ap (λ (v : View). v.feed) (sym is) ∙ feed_after was o ∙ ap (λ (n : List ℕ). with_entries (with_entry (entry_at n entries) []) was.feed) named_so;
        entry =
            subst (λ (n : List ℕ). IsItsEntry view.query (moment_of old) (moment_of mid) (entry_at n entries)) named_so
            (subst (λ (q : Statement). IsItsEntry q (moment_of old) (moment_of mid) o) asks its);
      }

  -- the line asked for the view, and made it
  record WasMade (line : List ℕ) : Type 0 where
    asks : AsksForView line view.name view.query
    checked : IsViewQuery view.query
    feeds : view.feed ≡ new_history old.history view.made
    ticks : mid.tick ≡ view.made
    answered : answer ≡ Ok (reply.Made (statement_columns view.query) view.made view.name)

  stood_or_made : (line : List ℕ) → EngineStep old line answer entries mid → Effects old answer entries mid → AreNamed old.views → Among view mid.views → Stood old entries mid view ⊎ WasMade line
  stood_or_made line step (inl (left, none)) named there = inl (quiet_stood none (ap (λ (s : EngineState). s.graph) left) (subst (λ (s : EngineState). Among view s.views) left there))
  stood_or_made line step (inr (inl (executed, timed, a))) named there =
      let was = among_fed entries view old.views (subst (λ (s : EngineState). Among view s.views) a.state there) in
      inl (executed_stood named (exact old answer entries mid (inr (inl (executed, timed, a)))) was.0 was.1 was.2)
  stood_or_made line step (inr (inr (inl (made, fresh, a)))) named there = from (among_either view made old.views (subst (λ (s : EngineState). Among view s.views) a.state there))
    where
      from : Among view old.views ⊎ (made ≡ view) → Stood old entries mid view ⊎ WasMade line
      from (inl before) = inl (quiet_stood a.no_entries (ap (λ (s : EngineState). s.graph) a.state) before)
      from (inr is) = inr (record {
        asks = subst (λ (v : View). AsksForView line v.name v.query) is (step_asked line old answer entries mid made a step);
        checked = subst (λ (v : View). IsViewQuery v.query) is fresh.query;
        feeds = subst (λ (v : View). v.feed ≡ new_history old.history v.made) is fresh.feed;
        ticks = ap (λ (s : EngineState). s.tick) a.state ∙ ap (λ (v : View). v.made) is;
        answered = a.answered ∙ ap (λ (v : View). Ok (reply.Made (statement_columns v.query) v.made v.name)) is;
      })
  stood_or_made line step (inr (inr (inr (inl (gone, at, a))))) named there =
      inl (quiet_stood a.no_entries (ap (λ (s : EngineState). s.graph) a.state) (among_without gone.name view old.views (subst (λ (s : EngineState). Among view s.views) a.state there)))
  stood_or_made line step (inr (inr (inr (inr (pair, a))))) named there =
      inl (quiet_stood a.no_entries (ap (λ (s : EngineState). s.graph) a.state) (subst (λ (s : EngineState). Among view s.views) a.state there))

  same_history : Effects old answer entries mid → mid.history ≡ old.history
  same_history (inl (left, none)) = ap (λ (s : EngineState). s.history) left
  same_history (inr (inl (executed, timed, a))) = ap (λ (s : EngineState). s.history) a.state
  same_history (inr (inr (inl (made, fresh, a)))) = ap (λ (s : EngineState). s.history) a.state
  same_history (inr (inr (inr (inl (gone, at, a))))) = ap (λ (s : EngineState). s.history) a.state
  same_history (inr (inr (inr (inr (pair, a))))) = ap (λ (s : EngineState). s.history) a.state

-- ---- all lines

-- the queries of views have rows
abbrev pub HaveRows : Type 0
HaveRows = (graph : Content) (query : Statement) → IsViewQuery query → IsOk (statement_rows graph query)

has_rows : (r : Result (List (List Cell)) EvalFault) → IsOk r → r ≡ Ok (result_unwrap_or r [])
has_rows (Ok rows) is = refl
has_rows (Err why) is = cc

-- a view that stands at the end stood at the beginning, with a feed into which its entries then went
record Kept (old : EngineState) (events : List Event) (new : EngineState) (view : View) : Type 0 where
  feed : History
  there : Among (fed_with view feed) old.views
  feeds : view.feed ≡ with_entries (entries_of view.name events) feed
  entries : AreItsEntries view (moment_of old) events (moment_of new)
  replayed : (row : List Cell) → counts_in view.query new.graph row ≡ followed (counts_in view.query old.graph) (entries_of view.name events) row

more_entries : (o : Option Entry) (rest : List Entry) (feed : History) → with_entries rest (with_entries (with_entry o []) feed) ≡ with_entries (with_entry o rest) feed
more_entries None rest feed = refl
more_entries (Some e) rest feed = refl

module _ (have : HaveRows) (view : View) where
  kept_or_made : (history : ℕ) (old new : EngineState) (events : List Event) → Run old events new → old.history ≡ history → AreNamed old.views → Among view new.views
      → Kept old events new view ⊎ IsMaintained (moment_of old) history events new view
  kept_or_made history old new [] run same named here = inl (record {
    feed = view.feed;
    there = subst (λ (s : EngineState). Among view s.views) run here;
    feeds = refl;
    entries = ap moment_of run;
    replayed = λ row. ap (λ (s : EngineState). counts_in view.query s.graph row) run;
  })
  kept_or_made history old new (e ∷ events) (mid, step, run) same named here =
      from (kept_or_made history mid new events run (same_history old e.answer e.entries mid view does ∙ same) (effects_named old e.answer e.entries mid does named) here)
    where
      does : Effects old e.answer e.entries mid
      does = effects old e.answer e.entries mid e.line step

      leads : Leads e.line e.answer (moment_of old) (moment_of mid)
      leads = step_leads e.line old e.answer e.entries mid step

      now_kept : (kept : Kept mid events new view) → Stood old e.entries mid (fed_with view kept.feed) → Kept old (e ∷ events) new view
      now_kept kept stood = record {
        feed = stood.feed;
        there = stood.there;
        feeds = kept.feeds ∙ ap (with_entries (entries_of view.name events)) stood.feeds ∙ more_entries (entry_at view.name e.entries) (entries_of view.name events) stood.feed;
        entries = (moment_of mid, leads, stood.entry, kept.entries);
        replayed = λ row. kept.replayed row ∙ then_followed view.query (moment_of old) (moment_of mid) (entry_at view.name e.entries) (entries_of view.name events) stood.entry row;
      }

      -- the moment at which it was made
      made_at : (kept : Kept mid events new view) → WasMade old e.answer e.entries mid (fed_with view kept.feed) e.line → (let m : Moment = record { graph = mid.graph; tick = view.made } in m) ≡ moment_of mid
      made_at kept made = ap (λ (tick : ℕ). let m : Moment = record { graph = mid.graph; tick = tick } in m) (sym made.ticks)

      now_made : (kept : Kept mid events new view) → WasMade old e.answer e.entries mid (fed_with view kept.feed) e.line → IsMaintained (moment_of old) history (e ∷ events) new view
      now_made kept made = record {
        before = [];
        making = e;
        after = events;
        graph = mid.graph;
        are = refl;
        asks = made.asks;
        answered = made.answered;
        made_on = (moment_of mid, leads, made_at kept made);
        means = has_rows (statement_rows new.graph.content view.query) (have new.graph.content view.query made.checked);
        shown = λ rows are row. are.bag row;
        entries = subst (λ (m : Moment). AreItsEntries view m events (moment_of new)) (sym (made_at kept made)) kept.entries;
        feed = kept.feeds ∙ ap (with_entries (entries_of view.name events)) (made.feeds ∙ ap (λ (h : ℕ). new_history h view.made) same);
        replayed = kept.replayed;
      }

      one : (kept : Kept mid events new view) → Stood old e.entries mid (fed_with view kept.feed) ⊎ WasMade old e.answer e.entries mid (fed_with view kept.feed) e.line
          → Kept old (e ∷ events) new view ⊎ IsMaintained (moment_of old) history (e ∷ events) new view
      one kept (inl stood) = inl (now_kept kept stood)
      one kept (inr made) = inr (now_made kept made)

      from : Kept mid events new view ⊎ IsMaintained (moment_of mid) history events new view → Kept old (e ∷ events) new view ⊎ IsMaintained (moment_of old) history (e ∷ events) new view
      from (inl kept) = one kept (stood_or_made old e.answer e.entries mid (fed_with view kept.feed) e.line step does named kept.there)
      from (inr was) = inr (record {
        before = e ∷ was.before;
        making = was.making;
        after = was.after;
        graph = was.graph;
        are = ap (λ (es : List Event). e ∷ es) was.are;
        asks = was.asks;
        answered = was.answered;
        made_on = (moment_of mid, leads, was.made_on);
        means = was.means;
        shown = was.shown;
        entries = was.entries;
        feed = was.feed;
        replayed = was.replayed;
      })

run_named : (old new : EngineState) (events : List Event) → Run old events new → AreNamed old.views → AreNamed new.views
run_named old new [] run named = subst (λ (s : EngineState). AreNamed s.views) (sym run) named
run_named old new (e ∷ events) (mid, step, run) named = run_named mid new events run (effects_named old e.answer e.entries mid (effects old e.answer e.entries mid e.line step) named)

module _ (have : HaveRows) (no_trace : (old new : EngineState) (events : List Event) → Run old events new → OnlySo old (accepted events) new) where
  pub headline_holds : HeadlineHolds
  headline_holds history events now run = record {
    graph = run_builds (empty_engine history) now events run;
    views = λ view here.
        let there : Among view now.views = among_from now.views view here.0 here.1 here.2 in
        (found now.views view (run_named (empty_engine history) now events run tt) there, made view (kept_or_made have view history (empty_engine history) now events run refl tt there));
    no_trace = no_trace (empty_engine history) now events run;
  }
    where
      made : (view : View) → Kept (empty_engine history) events now view ⊎ IsMaintained (moment_of (empty_engine history)) history events now view → IsMaintained (moment_of (empty_engine history)) history events now view
      made view (inl kept) = absurd kept.there
      made view (inr was) = was
