-- Once a change is committed, what is to go into the feeds of the views goes there.
use Rattle.std.proofs.Common.{◌≡◌, ◌⊎◌, inl, inr, ℕ, true, false, ◌≤◌, ◌<◌, cond, List, [], ◌∷◌, ◌++◌, map, find, Option, None, Some, IfSome, string_bytes, refl, sym, ap, subst, ◌∙◌, arith}
use Rattle.std.specs.Option.{option_map, option_map_or}
use Rattle.std.specs.Str.{bytes_eq}
use Rattle.cy_trees.specs.TreeModels.{statement_of}
use Rattle.cy_graph.specs.Graph.{State}
use Rattle.cy_bags.specs.declared.changes.Change.{Change}
use Rattle.cy_bags.specs.declared.changes.Entry.{Entry}
use Rattle.cy_feeds.specs.Feeds.{History, IsReserved, latest, pushed}
use Rattle.cy_feeds.proofs.Pushes.{latest_pushed}
use Rattle.cy_planner_algebra.specs.PlanModels.{plan_of}
use Rattle.cy_engine_views.specs.declared.registered.Registered.{Registered}
use Rattle.cy_engine_views.specs.declared.rows.QueryRows.{QueryRows}
use Rattle.cy_engine_views.specs.HeldViews.{view_of}
use Rattle.cy_engine_views.specs.Upkeep.{AreKeptUp, AreNamed, IsNew, IsPrepared, IsReady, IsUnconcerned, IsWithinCost, Registry, Rests, StandsFor, entries_in, entry_if, held, network_of, upkeep_of}
use Rattle.cy_engine_views.specs.RegisteredViews.{Entries, View, entry_at, fed}
use Rattle.cy_engine_views.specs.internal.Loops.{AllAreSettled, IsSettledFrom, Takes, with_change}
use Rattle.cy_engine_views.proofs.Going.{All}
use Rattle.cy_engine_views.proofs.Named.{itself, turned, views}

until_fed : (tick : ℕ) (o : Option Change) (feed : History) → latest feed.base feed.entries < tick → latest (with_change tick o feed).base (with_change tick o feed).entries ≤ tick
until_fed tick None feed lt = omega (arith, lt)
until_fed tick (Some change) feed lt = omega (arith, latest_pushed (record { tick = tick; change = change }) feed)

-- a view that is settled rests
pub settled_rests : (before after : State) (tick : ℕ) (view next : Registered) → IsReady view before after tick → IsSettledFrom tick view next → Rests next after.content tick
settled_rests before after tick view next ready settled = record {
  rows = by ready.rows;
  unprepared = settled.unprepared;
  idle = settled.idle;
  in_time = subst (λ (h : History). latest h.base h.entries ≤ tick) (sym settled.feed) (until_fed tick view.change view.feed.history ready.later);
}
  where
    by : ((view.prepared ≡ true) × IsPrepared view.rows before after) ⊎ IsUnconcerned view before after → StandsFor next.rows after.content
    by (inl (marked, prepared)) = settled.rows marked before after prepared
    by (inr idle) = subst (λ (r : QueryRows). StandsFor r after.content) (sym (settled.same idle.unprepared)) idle.still

-- a view that is ready can take its entry
pub ready_takes : (before after : State) (tick : ℕ) (view : Registered) → IsReady view before after tick → Takes tick view
ready_takes before after tick view ready = record { rows = prepared_at ready.rows; idle = idle_at ready.rows; room = from view.change ready.reserved }
  where
    prepared_at : ((view.prepared ≡ true) × IsPrepared view.rows before after) ⊎ IsUnconcerned view before after
        → view.prepared ≡ true → (first : State) × ((last : State) × IsPrepared view.rows first last)
    prepared_at (inl (marked, prepared)) is_marked = (before, (after, prepared))
    prepared_at (inr idle) is_marked = let wrong : true ≡ false = sym is_marked ∙ idle.unprepared in absurd (cc)

    idle_at : ((view.prepared ≡ true) × IsPrepared view.rows before after) ⊎ IsUnconcerned view before after → view.prepared ≡ false → view.change ≡ None
    idle_at (inl (marked, prepared)) unmarked = let wrong : true ≡ false = sym marked ∙ unmarked in absurd (cc)
    idle_at (inr idle) unmarked = idle.idle

    from : (o : Option Change) → IfSome o (λ _. IsReserved view.feed) → IfSome o (λ _. IsReserved view.feed × (latest view.feed.history.base view.feed.history.entries < tick))
    from None reserved = tt
    from (Some change) reserved = (reserved, ready.later)

-- ---- the views with what they are fed

abbrev at_name : List ℕ → Entries → Option (List ℕ × Entry)
at_name name es = find (λ e. bytes_eq name e.0) es

-- a name that none of the views has gets no entry
none_in : (name : List ℕ) (tick : ℕ) (entries : Registry) → IsNew name (views entries) → at_name name (entries_in tick entries) ≡ None
none_in name tick [] new = refl
none_in name tick (e ∷ entries) new = past (none_in name tick entries new.1) e.1.change
  where
    past : at_name name (entries_in tick entries) ≡ None → (o : Option Change) → at_name name (entry_if (string_bytes e.0) tick o ++ entries_in tick entries) ≡ None
    past rest None = rest
    past rest (Some change) =
        ap (λ b. cond b (Some (string_bytes e.0, record { tick = tick; change = change })) (at_name name (entries_in tick entries))) (turned (string_bytes e.0) name new.0)
        ∙ rest

module _ (name : List ℕ) (tick : ℕ) (rest : Entries) where
  -- the view that comes first gets what is to go into its feed
  abbrev with_first : Option Change → Entries
  with_first o = entry_if name tick o ++ rest

  fed_first : (view : View) (o : Option Change) → view.name ≡ name → at_name name rest ≡ None → fed (with_first o) view ≡ record view { feed = with_change tick o view.feed }
  fed_first view o named none =
      subst (λ (n : List ℕ). option_map_or (λ entry. record view { feed = pushed entry view.feed }) (entry_at n (with_first o)) view ≡ record view { feed = with_change tick o view.feed }) (sym named) (from o)
    where
      gets : Entries → View
      gets es = option_map_or (λ entry. record view { feed = pushed entry view.feed }) (entry_at name es) view

      from : (o : Option Change) → gets (with_first o) ≡ record view { feed = with_change tick o view.feed }
      from None = ap (λ (e : Option (List ℕ × Entry)). option_map_or (λ entry. record view { feed = pushed entry view.feed }) (option_map (λ (p : List ℕ × Entry). p.1) e) view) none
      from (Some change) =
          let entry : Entry = record { tick = tick; change = change } in
          ap (λ b. option_map_or (λ e. record view { feed = pushed e view.feed }) (option_map (λ (q : List ℕ × Entry). q.1) (cond b (Some (name, entry)) (at_name name rest))) view) (itself name)

  -- and the others what they get without it
  fed_others : (o : Option Change) (vs : List View) → IsNew name vs → map (fed (with_first o)) vs ≡ map (fed rest) vs
  fed_others o [] new = refl
  fed_others o (v ∷ vs) new = λ i. option_map_or (λ entry. record v { feed = pushed entry v.feed }) (option_map (λ (e : List ℕ × Entry). e.1) (past o i)) v ∷ fed_others o vs new.1 i
    where
      past : (o : Option Change) → at_name v.name (with_first o) ≡ at_name v.name rest
      past None = refl
      past (Some change) = ap (λ b. cond b (Some (name, record { tick = tick; change = change })) (at_name v.name rest)) new.0

-- the views once they are settled
pub views_fed : (tick : ℕ) (entries now : Registry) → AllAreSettled tick entries now → AreNamed (views entries) → views now ≡ map (fed (entries_in tick entries)) (views entries)
views_fed tick [] now settled named = ap views settled
views_fed tick (e ∷ entries) now (next, others, is, one, settled) named =
    let name = string_bytes e.0 in
    let rest = entries_in tick entries in
    let o = e.1.change in
    let view : View = view_of (held e) in
    let first : fed (entry_if name tick o ++ rest) view ≡ record view { feed = with_change tick o view.feed } = fed_first name tick rest view o refl (none_in name tick entries named.0) in
    let next_is : view_of (held (e.0, next)) ≡ record view { feed = with_change tick o view.feed } =
    λ i. record { name = name; query = statement_of (one.query i); made = one.made i; feed = one.feed i }
    in
    ap views is ∙ (λ i. (next_is ∙ sym first) i ∷ (views_fed tick entries others settled named.1 ∙ sym (fed_others name tick rest o (views entries) named.0)) i)

-- and how they are kept up
pub kept_up : (before after : State) (tick : ℕ) (entries now : Registry) → AllAreSettled tick entries now → All (λ view. IsReady view before after tick) entries
    → AreKeptUp before after (map upkeep_of (map held entries)) (map upkeep_of (map held now))
kept_up before after tick [] now settled ready = ap (λ (es : Registry). map upkeep_of (map held es)) settled
kept_up before after tick (e ∷ entries) now (next, others, is, one, settled) ready = by (kept_up before after tick entries others settled ready.1) ready.0.rows
  where
    with_steps : AreKeptUp before after (map upkeep_of (map held entries)) (map upkeep_of (map held others)) → (steps : ℕ) → next.steps ≡ steps → IsWithinCost before after (upkeep_of (held e)).plan steps
        → AreKeptUp before after (map upkeep_of (map held (e ∷ entries))) (map upkeep_of (map held now))
    with_steps rest steps same within =
        let next_is : upkeep_of (held (e.0, next)) ≡ record (upkeep_of (held e)) { steps = steps } = λ i. record { name = string_bytes e.0; plan = plan_of (one.plan i); steps = same i } in (
          steps,
          map upkeep_of (map held others),
          ap (λ (es : Registry). map upkeep_of (map held es)) is ∙ ap (λ u. u ∷ map upkeep_of (map held others)) next_is,
          within,
          rest,
        )

    by : AreKeptUp before after (map upkeep_of (map held entries)) (map upkeep_of (map held others)) → ((e.1.prepared ≡ true) × IsPrepared e.1.rows before after) ⊎ IsUnconcerned e.1 before after
        → AreKeptUp before after (map upkeep_of (map held (e ∷ entries))) (map upkeep_of (map held now))
    by rest (inl (marked, prepared)) = with_steps rest (network_of e.1.rows).steps (one.steps marked) prepared.steps
    by rest (inr idle) = with_steps rest 0 (one.none idle.unprepared) idle.steps

-- all can take their entries
pub all_take : (before after : State) (tick : ℕ) (entries : Registry) → All (λ view. IsReady view before after tick) entries → All (Takes tick) entries
all_take before after tick [] ready = tt
all_take before after tick (e ∷ entries) ready = (ready_takes before after tick e.1 ready.0, all_take before after tick entries ready.1)

-- and keep their names
new_settled : (name : List ℕ) (tick : ℕ) (entries now : Registry) → AllAreSettled tick entries now → IsNew name (views entries) → IsNew name (views now)
new_settled name tick [] now settled new = subst (λ (es : Registry). IsNew name (views es)) (sym settled) tt
new_settled name tick (e ∷ entries) now (next, others, is, one, settled) new = subst (λ (es : Registry). IsNew name (views es)) (sym is) (new.0, new_settled name tick entries others settled new.1)

pub settled_named : (tick : ℕ) (entries now : Registry) → AllAreSettled tick entries now → AreNamed (views entries) → AreNamed (views now)
settled_named tick [] now settled named = subst (λ (es : Registry). AreNamed (views es)) (sym settled) tt
settled_named tick (e ∷ entries) now (next, others, is, one, settled) named =
    subst (λ (es : Registry). AreNamed (views es)) (sym is) (new_settled (string_bytes e.0) tick entries others settled named.0, settled_named tick entries others settled named.1)
