-- In a run from an empty engine the feed of each view tells its rows.
use Rattle.std.proofs.Common.{◌≡◌, ℕ, ◌+◌, ◌≤◌, cond, true, false, not, List, [], ◌∷◌, ◌++◌, map, Option, None, Some, sym, ap, subst, ◌∙◌, arith, inl, inr}
use Rattle.std.specs.List.{AllByRecursion}
use Rattle.std.specs.Option.{option_map_or}
use Rattle.std.specs.Str.{bytes_eq}
use Rattle.cy_values.specs.declared.rows.Cell.{Cell}
use Rattle.cy_values.specs.Bag.{IsSameBag, count_of}
use Rattle.cy_graph.specs.Graph.{Content}
use Rattle.cy_bags.specs.declared.changes.Entry.{Entry}
use Rattle.cy_feeds.specs.Feeds.{History, IsRising, latest, pushed}
use Rattle.cy_feeds.specs.Following.{NewFeedsTell, PushedFeedsTell, QuietFeedsTell, Tells as TellsRows}
use Rattle.cy_feeds.proofs.Pushes.{latest_pushed}
use Rattle.cy_trees.specs.Trees.{Statement}
use Rattle.cy_engine_lines.specs.State.{EngineState}
use Rattle.cy_engine_views.specs.RegisteredViews.{AreEntries, Entries, IsEntry, View, entry_at, fed, rows_of, without}
use Rattle.cy_engine_lines.specs.EngineStep.{Answer}
use Rattle.cy_engine_views.specs.Upkeep.{AreNamed}
use Rattle.cy_engine_lines.proofs.Effects.{Effects, exact}
use Rattle.cy_engine.proofs.EachEntry.{each_entry}
use Rattle.cy_engine.proofs.Ticks.{Moves, moves}

-- the rows of a query at each tick
abbrev pub rows_at : (ℕ → Content) → Statement → ℕ → List (List Cell)
rows_at content query tick = rows_of query (content tick)

-- the feed of a view tells its rows up to now
pub record IsTold (content : ℕ → Content) (now : ℕ) (view : View) : Type 0 where
  pub tells : TellsRows view.feed (rows_at content view.query) now
  pub based : view.feed.base ≤ now

abbrev pub AllTold : (ℕ → Content) → ℕ → List View → Type 0
AllTold content now views = AllByRecursion (IsTold content now) views

-- a view with the entry that it gets, if it gets one
abbrev pub with_one : View → Option Entry → View
with_one view o = option_map_or (λ entry. record view { feed = pushed entry view.feed }) o view

module _ (new_tell : NewFeedsTell) (pushed_tell : PushedFeedsTell) (quiet_tell : QuietFeedsTell) (content : ℕ → Content) where
  -- a tick more, in which the bag stays
  quiet : (now : ℕ) (view : View) → IsSameBag (rows_at content view.query now) (rows_at content view.query (now + 1)) → IsTold content now view → IsTold content (now + 1) view
  quiet now view same told = record { tells = quiet_tell view.feed (rows_at content view.query) now told.tells same; based = omega (arith, told.based) }

  low_latest : (base : ℕ) (es : List Entry) → IsRising base es → base ≤ latest base es
  low_latest base [] rising = omega arith
  low_latest base (e ∷ es) rising = omega (arith, rising.0, low_latest e.tick es rising.1)

  -- a tick more, in which the view gets an entry
  told_more : (now : ℕ) (view : View) (entry : Entry) → IsEntry view.query (content now) (content (now + 1)) (now + 1) entry → IsTold content now view
      → IsTold content (now + 1) (record view { feed = pushed entry view.feed })
  told_more now view entry is told =
      let tells : TellsRows (pushed entry view.feed) (rows_at content view.query) (now + 1) = pushed_tell view.feed (rows_at content view.query) now entry told.tells told.based is.tick_is is.difference in
      record {
        tells = tells;
        based = omega (arith, low_latest (pushed entry view.feed).base (pushed entry view.feed).entries tells.rising, latest_pushed entry view.feed, is.tick_is);
      }

  -- ---- all views

  told_all : (now next : ℕ) → ((view : View) → IsTold content now view → IsTold content next view) → (views : List View) → AllTold content now views → AllTold content next views
  told_all now next each [] all = tt
  told_all now next each (v ∷ views) all = (each v all.0, told_all now next each views all.1)

  told_last : (now : ℕ) (view : View) (views : List View) → AllTold content now views → IsTold content now view → AllTold content now (views ++ view ∷ [])
  told_last now view [] all one = (one, tt)
  told_last now view (v ∷ views) all one = (all.0, told_last now view views all.1 one)

  told_without : (now : ℕ) (name : List ℕ) (views : List View) → AllTold content now views → AllTold content now (without name views)
  told_without now name [] all = tt
  told_without now name (v ∷ views) all =
      elim (bytes_eq name v.name) as (λ b. AllTold content now (cond (not b) (v ∷ without name views) (without name views))) [
        | true ↦ told_without now name views all.1
        | false ↦ (all.0, told_without now name views all.1)
      ]

  told_fed : (now next : ℕ) (entries : Entries) (views : List View) → AllByRecursion (λ (v : View). IsTold content now v → IsTold content next (with_one v (entry_at v.name entries))) views
      → AllTold content now views → AllTold content next (map (fed entries) views)
  told_fed now next entries [] each all = tt
  told_fed now next entries (v ∷ views) each all = (each.0 all.0, told_fed now next entries views each.1 all.1)

  module _ (old : EngineState) (answer : Answer) (entries : Entries) (new : EngineState) (first : content old.tick ≡ old.graph.content) (then_is : content new.tick ≡ new.graph.content) where
    abbrev Gets : View → Option Entry → Type 0
    Gets view o = IsTold content old.tick view → IsTold content new.tick (with_one view o)

    executed_told : Moves old new → AreNamed old.views → AreEntries old.views old.graph.content new.graph.content new.tick entries → AllTold content old.tick old.views
        → AllTold content new.tick (map (fed entries) old.views)
    executed_told moved named are all =
        told_fed old.tick new.tick entries old.views
        (each_entry old.graph.content new.graph.content new.tick Gets (λ v same. stays v moved same) (λ v e is. gets v e moved is) old.views entries named are) all
      where
        stays : (v : View) → Moves old new → IsSameBag (rows_of v.query old.graph.content) (rows_of v.query new.graph.content) → Gets v None
        stays v (inr (same_tick, same)) bag told = subst (λ (t : ℕ). IsTold content t v) (sym same_tick) told
        stays v (inl rises) bag told =
            let after : content (old.tick + 1) ≡ new.graph.content = ap content (sym rises) ∙ then_is in
            subst (λ (t : ℕ). IsTold content t v) (sym rises)
            (quiet old.tick v (subst (λ (c : Content). IsSameBag (rows_of v.query (content old.tick)) (rows_of v.query c)) (sym after)
            (subst (λ (c : Content). IsSameBag (rows_of v.query c) (rows_of v.query new.graph.content)) (sym first) bag)) told)

        gets : (v : View) (e : Entry) → Moves old new → IsEntry v.query old.graph.content new.graph.content new.tick e → Gets v (Some e)
        gets v e (inr (same_tick, same)) is told = absurd (is.differs (λ row. ap (λ (c : Content). count_of row (rows_of v.query c)) (sym same)))
        gets v e (inl rises) is told =
            let after : content (old.tick + 1) ≡ new.graph.content = ap content (sym rises) ∙ then_is in
            let is_next : IsEntry v.query (content old.tick) (content (old.tick + 1)) (old.tick + 1) e =
            subst (λ (c : Content). IsEntry v.query (content old.tick) c (old.tick + 1) e) (sym after)
            (subst (λ (c : Content). IsEntry v.query c new.graph.content (old.tick + 1) e) (sym first)
            (subst (λ (t : ℕ). IsEntry v.query old.graph.content new.graph.content t e) rises is))
            in
            subst (λ (t : ℕ). IsTold content t (record v { feed = pushed e v.feed })) (sym rises) (told_more old.tick v e is_next told)

    pub told_step : Effects old answer entries new → AreNamed old.views → AllTold content old.tick old.views → AllTold content new.tick new.views
    told_step (inl (left, none)) named all = subst (λ (s : EngineState). AllTold content s.tick s.views) (sym left) all
    told_step (inr (inl (executed, timed, a))) named all =
        let does : Effects old answer entries new = inr (inl (executed, timed, a)) in
        subst (λ (vs : List View). AllTold content new.tick vs) (sym (ap (λ (s : EngineState). s.views) a.state))
        (executed_told (moves old answer entries new does) named (exact old answer entries new does) all)
    told_step (inr (inr (inl (view, fresh, a)))) named all =
        let rises : new.tick ≡ old.tick + 1 = ap (λ (s : EngineState). s.tick) a.state ∙ fresh.made in
        let same : content old.tick ≡ content (old.tick + 1) = first ∙ sym (ap content (sym rises) ∙ then_is ∙ ap (λ (s : EngineState). s.graph.content) a.state) in
        let next : IsTold content view.made view = record {
          tells = subst (λ (h : History). TellsRows h (rows_at content view.query) view.made) (sym fresh.feed) (new_tell old.history view.made (rows_at content view.query));
          based = subst (λ (h : History). h.base ≤ view.made) (sym fresh.feed) (omega arith);
        } in
        subst (λ (s : EngineState). AllTold content s.tick s.views) (sym a.state)
        (told_last view.made view old.views
        (subst (λ (t : ℕ). AllTold content t old.views) (sym fresh.made) (told_all old.tick (old.tick + 1) (λ v told. quiet old.tick v (λ row. ap (λ (c : Content). count_of row (rows_of v.query c)) same) told) old.views all)) next)
    told_step (inr (inr (inr (inl (view, at, a))))) named all = subst (λ (s : EngineState). AllTold content s.tick s.views) (sym a.state) (told_without old.tick view.name old.views all)
    told_step (inr (inr (inr (inr (pair, a))))) named all = subst (λ (s : EngineState). AllTold content s.tick s.views) (sym a.state) all
