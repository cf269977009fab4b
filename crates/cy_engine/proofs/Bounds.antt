-- In a run from an empty engine no row of a view counted above the limit, from the base of its feed on.
use Rattle.std.proofs.Common.{◌≡◌, ℕ, ◌-◌, ◌<◌, ◌≤◌, nat_le, true, false, cond, not, List, [], ◌∷◌, ◌++◌, length, map, Option, None, Some, IfSome, refl, sym, ap, subst, arith, inl, inr}
use Rattle.std.specs.List.{AllByRecursion}
use Rattle.std.specs.Str.{bytes_eq}
use Rattle.std.proofs.lemmas.Bool.Decides.{nat_tests}
use Rattle.cy_values.specs.declared.rows.Cell.{Cell}
use Rattle.cy_values.specs.Bag.{count_of}
use Rattle.cy_graph.specs.Graph.{Content}
use Rattle.cy_trees.specs.Trees.{Statement}
use Rattle.cy_bags.specs.declared.changes.Entry.{Entry}
use Rattle.cy_feeds.specs.Feeds.{History, latest}
use Rattle.cy_feeds.specs.Following.{last_count}
use Rattle.cy_feeds.proofs.Pushes.{rising_more}
use Rattle.cy_feeds.proofs.Telling.{latest_above, latest_in_time}
use Rattle.cy_engine_views.specs.Upkeep.{AreNamed}
use Rattle.cy_engine_views.specs.RegisteredViews.{Entries, IsEntry, View, entry_at, fed, rows_of, without}
use Rattle.cy_engine_lines.specs.State.{EngineState}
use Rattle.cy_engine_lines.specs.EngineStep.{Answer, AreBounded}
use Rattle.cy_engine.proofs.EachEntry.{each_entry}
use Rattle.cy_engine_lines.proofs.Effects.{Effects, exact}
use Rattle.cy_engine.proofs.StepNames.{fed_query}
use Rattle.cy_engine.proofs.Ticks.{Moves, moves}
use Rattle.cy_engine.proofs.ToldRows.{AllTold, IsTold, rows_at, with_one}

module _ (content : ℕ → Content) where
  -- no row of a query counts above the limit at a tick
  abbrev pub IsBounded : Statement → ℕ → Type 0
  IsBounded query tick = (row : List Cell) → count_of row (rows_at content query tick) ≤ last_count

  -- nor at any tick from the base of a view's feed to now
  abbrev pub IsLimited : ℕ → View → Type 0
  IsLimited now view = (tick : ℕ) → view.feed.base ≤ tick → tick ≤ now → IsBounded view.query tick

  abbrev pub AllLimited : ℕ → List View → Type 0
  AllLimited now views = AllByRecursion (IsLimited now) views

  -- the base of a feed only rises
  pub base_rises : (now : ℕ) (view : View) (o : Option Entry) → IsTold content now view → IfSome o (λ e. now < e.tick) → view.feed.base ≤ (with_one view o).feed.base
  base_rises now view None told later = omega arith
  base_rises now view (Some e) told later =
      let all = view.feed.entries ++ e ∷ [] in
      let above : latest view.feed.base view.feed.entries < e.tick = omega (arith, later, latest_in_time view.feed.base now view.feed.entries told.based told.tells.in_time) in
      latest_above view.feed.base (length all - view.feed.limit) all (rising_more view.feed.base view.feed.entries e told.tells.rising above)

  limited_without : (now : ℕ) (name : List ℕ) (views : List View) → AllLimited now views → AllLimited now (without name views)
  limited_without now name [] all = tt
  limited_without now name (v ∷ views) all =
      elim (bytes_eq name v.name) as (λ b. AllLimited now (cond (not b) (v ∷ without name views) (without name views))) [
        | true ↦ limited_without now name views all.1
        | false ↦ (all.0, limited_without now name views all.1)
      ]

  module _ (old : EngineState) (answer : Answer) (entries : Entries) (new : EngineState) where
    -- an entry is of a later tick
    abbrev pub IsLater : View → Type 0
    IsLater v = IfSome (entry_at v.name entries) (λ e. old.tick < e.tick)

    pub later_entries : Effects old answer entries new → AreNamed old.views → AllByRecursion IsLater old.views
    later_entries does named =
        each_entry old.graph.content new.graph.content new.tick (λ v o. IfSome o (λ e. old.tick < e.tick)) (λ v same. tt) (gets (moves old answer entries new does)) old.views entries named
        (exact old answer entries new does)
      where
        gets : Moves old new → (v : View) (e : Entry) → IsEntry v.query old.graph.content new.graph.content new.tick e → old.tick < e.tick
        gets (inl rises) v e is = omega (arith, rises, is.tick_is)
        gets (inr (stays, same)) v e is = absurd (is.differs (λ row. ap (λ (c : Content). count_of row (rows_of v.query c)) (sym same)))

    -- so it holds up to the new tick where it holds up to the old one, and at the new one
    at_tick : Moves old new → (query : Statement) (base : ℕ) → ((tick : ℕ) → base ≤ tick → tick ≤ old.tick → IsBounded query tick) → IsBounded query new.tick
        → (tick : ℕ) → base ≤ tick → tick ≤ new.tick → IsBounded query tick
    at_tick moved query base before last tick from until =
        elim (nat_le tick old.tick) as (λ b. nat_le tick old.tick ≡ b → IsBounded query tick) [
          | true ↦ λ low. before tick from (grind (arith, nat_tests))
          | false ↦ λ high. subst (IsBounded query) (sym (reached moved (grind (arith, nat_tests)))) last
        ] refl
      where
        reached : Moves old new → old.tick < tick → tick ≡ new.tick
        reached (inl rises) past = omega (arith, rises, past, until)
        reached (inr (stays, same)) past = absurd (omega (arith, stays, past, until))

    one_fed : Moves old new → (v : View) → IsTold content old.tick v → IsLimited old.tick v → IsLater v → IsBounded (fed entries v).query new.tick → IsLimited new.tick (fed entries v)
    one_fed moved v told limited later last =
        let base : v.feed.base ≤ (fed entries v).feed.base = base_rises old.tick v (entry_at v.name entries) told later in
        at_tick moved (fed entries v).query (fed entries v).feed.base
        (λ tick from until. subst (λ (q : Statement). IsBounded q tick) (sym (fed_query entries v)) (limited tick (omega (arith, base, from)) until)) last

    limited_fed : Moves old new → (views : List View) → AllTold content old.tick views → AllLimited old.tick views → AllByRecursion IsLater views → AreBounded (content new.tick) (map (fed entries) views)
        → AllLimited new.tick (map (fed entries) views)
    limited_fed moved [] told all later last = tt
    limited_fed moved (v ∷ views) told all later last = (one_fed moved v told.0 all.0 later.0 last.0, limited_fed moved views told.1 all.1 later.1 last.1)

    limited_last : Moves old new → (view : View) → new.tick ≤ view.feed.base → (views : List View) → AllLimited old.tick views → AreBounded (content new.tick) (views ++ view ∷ [])
        → AllLimited new.tick (views ++ view ∷ [])
    limited_last moved view base [] all last = (λ tick from until. subst (IsBounded view.query) (omega (arith, base, from, until)) last.0, tt)
    limited_last moved view base (v ∷ views) all last = (at_tick moved v.query v.feed.base all.0 last.0, limited_last moved view base views all.1 last.1)

    pub limited_step : content new.tick ≡ new.graph.content → Effects old answer entries new → AreNamed old.views → AllTold content old.tick old.views → AllLimited old.tick old.views
        → AllLimited new.tick new.views
    limited_step then_is (inl (left, none)) named told all = subst (λ (s : EngineState). AllLimited s.tick s.views) (sym left) all
    limited_step then_is (inr (inl (executed, timed, a))) named told all =
        let does : Effects old answer entries new = inr (inl (executed, timed, a)) in
        let views : new.views ≡ map (fed entries) old.views = ap (λ (s : EngineState). s.views) a.state in
        let last : AreBounded (content new.tick) (map (fed entries) old.views) =
        subst (λ (c : Content). AreBounded c (map (fed entries) old.views)) (sym then_is) (subst (λ (vs : List View). AreBounded new.graph.content vs) views a.bounded)
        in
        subst (λ (vs : List View). AllLimited new.tick vs) (sym views) (limited_fed (moves old answer entries new does) old.views told all (later_entries does named) last)
    limited_step then_is (inr (inr (inl (view, fresh, a)))) named told all =
        let does : Effects old answer entries new = inr (inr (inl (view, fresh, a))) in
        let views : new.views ≡ old.views ++ view ∷ [] = ap (λ (s : EngineState). s.views) a.state in
        let last : AreBounded (content new.tick) (old.views ++ view ∷ []) =
        subst (λ (c : Content). AreBounded c (old.views ++ view ∷ [])) (sym then_is) (subst (λ (vs : List View). AreBounded new.graph.content vs) views a.bounded)
        in
        let made : new.tick ≡ view.made = ap (λ (s : EngineState). s.tick) a.state in
        let base : view.feed.base ≡ view.made = ap (λ (h : History). h.base) fresh.feed in
        subst (λ (vs : List View). AllLimited new.tick vs) (sym views) (limited_last (moves old answer entries new does) view (omega (arith, made, base)) old.views all last)
    limited_step then_is (inr (inr (inr (inl (view, at, a))))) named told all = subst (λ (s : EngineState). AllLimited s.tick s.views) (sym a.state) (limited_without old.tick view.name old.views all)
    limited_step then_is (inr (inr (inr (inr (pair, a))))) named told all = subst (λ (s : EngineState). AllLimited s.tick s.views) (sym a.state) all
