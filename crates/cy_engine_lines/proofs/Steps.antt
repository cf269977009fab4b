-- What the parts of the engine's work on a line come to.
use Rattle.std.proofs.Common.{◌≡◌, ◌⊎◌, ℕ, ◌<◌, ◌≤◌, true, false, nat_le, nat_lt, length, map, is_some, arith, List, [], ◌∷◌, ◌++◌, Option, Some, None, Ok, Err, refl, ap, ◌∙◌, inl, inr}
use Rattle.std.proofs.lemmas.Bool.{false_from_ne_true}
use Rattle.std.proofs.lemmas.Bool.Decides.{nat_tests}
use Rattle.std.proofs.lemmas.List.{map-append}
use Rattle.cy_lexer.specs.declared.tokens.Token.{Token}
use Rattle.cy_parser.specs.declared.faults.ParseFault.{ParseFault}
use Rattle.cy_trees.specs.Trees.{Statement}
use Rattle.cy_trees.specs.declared.clauses.Statement as coded
use Rattle.cy_trees.specs.TreeModels.{statement_of}
use Rattle.cy_graph.specs.Graph.{State}
use Rattle.cy_index.specs.Index.{StoreState, has_pair}
use Rattle.cy_index.specs.declared.faults.IndexFault.{IndexFault}
use Rattle.cy_index.specs.declared.faults.IndexFault.TheVariants as index
use Rattle.cy_oneshot_meaning.specs.Queries.{statement_columns}
use Rattle.cy_feeds.specs.Feeds.{new_history}
use Rattle.cy_planner_algebra.specs.declared.operators.Operator.{Operator}
use Rattle.cy_planner_algebra.specs.PlanModels.{plan_of}
use Rattle.cy_planner.specs.Serves.{Serves}
use Rattle.cy_planner.specs.Weight.{greatest_weight, weight}
use Rattle.cy_updates_meaning.specs.Faults.{◌>>=◌}
use Rattle.cy_updates_meaning.specs.Statements.{Outcome, statement_outcome}
use Rattle.cy_updates_meaning.specs.declared.faults.UpdateFault.{UpdateFault}
use Rattle.cy_updates_meaning.specs.declared.faults.UpdateFault.TheVariants as update
use Rattle.cy_engine_views.specs.declared.faults.UpkeepFault.{UpkeepFault}
use Rattle.cy_engine_views.specs.declared.faults.UpkeepFault.TheVariants as upkeep
use Rattle.cy_engine_views.specs.declared.views.Views.{Views}
use Rattle.cy_engine_views.specs.HeldViews.{new_held, view_of}
use Rattle.cy_engine_views.specs.Upkeep.{IsUnkept, StandFor, held_in, upkeep_of}
use Rattle.cy_engine_views.specs.RegisteredViews.{Entries, View, view_limit}
use Rattle.cy_engine_lines.specs.Faults.{of_index, of_update, of_upkeep}
use Rattle.cy_engine_lines.specs.declared.faults.Fault.{Fault}
use Rattle.cy_engine_lines.specs.declared.faults.Fault.TheVariants as fault
use Rattle.cy_engine_lines.specs.declared.replies.Reply.{Reply}
use Rattle.cy_engine_lines.specs.declared.replies.Reply.TheVariants as reply
use Rattle.cy_engine_lines.specs.Fields.{machine_of}
use Rattle.cy_engine_lines.specs.internal.Stages.{HasTree, Fails, AnswersKept, AnswersOrWants}
use Rattle.cy_engine_lines.specs.Requests.{IndexOf, StatementOf, ViewOf}
use Rattle.cy_engine_lines.specs.State.{EngineState, view_at}
use Rattle.cy_engine_lines.specs.EngineStep.{Answer, IsExecuted, IsMade, IsRefused, WouldMake}
use Rattle.cy_engine_lines.specs.KeptStep.{HasTooMany, IsPlanned, KeptState, ViewHasTooMany, kept_state_of}
use Rattle.cy_engine_lines.specs.Verdicts.{Executed, execution_verdict, making_verdict, needs, next_tick, query_verdict, scope_verdict, tick_after, passes, view_verdict}
use Rattle.cy_engine_lines.proofs.Keeping.{keeps_said}
use Rattle.cy_engine_lines.proofs.Limits.{stand_bounded, stand_within}
use Rattle.cy_engine_lines.proofs.Refusals.{execution_other, is_against, making_other, query_other, scope_other, wants_memory}

-- ---- what executing a statement comes to

module _ (resolved : Statement) (graph : State) (tick : ℕ) where
  pub executed : (outcome : Outcome) (after : ℕ) → statement_outcome graph resolved ≡ Ok outcome → tick_after graph.content outcome.graph.content tick ≡ Ok after
      → execution_verdict resolved graph tick ≡ Ok (record { outcome = outcome; tick = after })
  executed outcome after means ticks = rw (means, ticks) refl

  pub carry_late : (outcome : Outcome) (why : Fault) → statement_outcome graph resolved ≡ Ok outcome → tick_after graph.content outcome.graph.content tick ≡ Err why
      → execution_verdict resolved graph tick ≡ Err why
  carry_late outcome why means ticks = rw (means, ticks) refl

  pub execution_refused : (why : UpdateFault) → (why ≡ update.NoMemory) ⊎ (statement_outcome graph resolved ≡ Err why) → (of_update why ≡ fault.NoMemory) ⊎ (execution_verdict resolved graph tick ≡ Err (of_update why))
  execution_refused why (inl wants) = inl (ap of_update wants)
  execution_refused why (inr means) = inr (rw means refl)

-- ---- refusals

-- the state where views are held as before
pub held_alike : (store : StoreState) (views left : Views) (tick history : ℕ) (last after : Entries) → held_in left ≡ held_in views
    → kept_state_of (machine_of store left tick history after) ≡ kept_state_of (machine_of store views tick history last)
held_alike store views left tick history last after same = λ i. record {
  engine = record { graph = store.graph.now; indexes = store.chosen; views = map view_of (same i); tick = tick; history = history };
  upkeep = map upkeep_of (same i);
}

refused : (why : Fault) (old : KeptState) (entries : Entries) (new : KeptState) → entries ≡ [] → new ≡ old → IsRefused why old.engine (Err why) entries new.engine
refused why old entries new none same = record { answered = refl; no_entries = none; state = ap (λ (s : KeptState). s.engine) same }

module _ (line : List ℕ) (tokens : List Token) (old : KeptState) (entries : Entries) (new : KeptState) (none : entries ≡ []) (same : new ≡ old) where
  unparsed : (why : Fault) (parsed : ParseFault) → why ≡ fault.Parse parsed → IsRefused (fault.Parse parsed) old.engine (Err why) entries new.engine
  unparsed why parsed is = record { answered = ap Err is; no_entries = none; state = ap (λ (s : KeptState). s.engine) same }

  -- a statement that isn't checked
  pub no_statement : (why : Fault) → Fails scope_verdict line tokens why → AnswersKept line (StatementOf tokens) old (Err why) entries new
  no_statement why (inl wants) = wants_memory line (StatementOf tokens) old entries new none same why wants
  no_statement why (inr (inl (parsed, unspelt, is))) =
      is_against line (StatementOf tokens) old entries new none same why (λ many. cc) (inr (parsed, unspelt, unparsed why parsed is))
  no_statement why (inr (inr tree)) =
      is_against line (StatementOf tokens) old entries new none same why (scope_other tree.tree why tree.that) (inl (tree.tree, tree.spelt, rw tree.that (refused why old entries new none same)))

  -- a query that isn't one of a view
  pub no_query : (name : List ℕ) (why : Fault) → Fails query_verdict line tokens why → AnswersKept line (ViewOf name tokens) old (Err why) entries new
  no_query name why (inl wants) = wants_memory line (ViewOf name tokens) old entries new none same why wants
  no_query name why (inr (inl (parsed, unspelt, is))) =
      is_against line (ViewOf name tokens) old entries new none same why (λ many. cc) (inr (parsed, unspelt, unparsed why parsed is))
  no_query name why (inr (inr tree)) =
      is_against line (ViewOf name tokens) old entries new none same why (query_other tree.tree why tree.that) (inl (tree.tree, tree.spelt, rw tree.that (refused why old entries new none same)))

  -- a statement that isn't executed
  pub statement_refused : (resolved : Statement) (why : Fault) → HasTree line tokens (λ tree. scope_verdict tree ≡ Ok resolved)
      → (why ≡ fault.NoMemory) ⊎ (execution_verdict resolved old.engine.graph old.engine.tick ≡ Err why) → AnswersKept line (StatementOf tokens) old (Err why) entries new
  statement_refused resolved why tree (inl wants) = wants_memory line (StatementOf tokens) old entries new none same why wants
  statement_refused resolved why tree (inr verdict) =
      is_against line (StatementOf tokens) old entries new none same why (execution_other resolved old.engine.graph old.engine.tick why verdict)
      (inl (tree.tree, tree.spelt, rw (tree.that, verdict) (refused why old entries new none same)))

  -- a view that isn't made
  pub view_refused : (name : List ℕ) (query : Statement) (why : Fault) → HasTree line tokens (λ tree. query_verdict tree ≡ Ok query)
      → making_verdict name old.engine ≡ Err why → AnswersKept line (ViewOf name tokens) old (Err why) entries new
  view_refused name query why tree verdict =
      is_against line (ViewOf name tokens) old entries new none same why (making_other name old.engine why verdict)
      (inl (tree.tree, tree.spelt, rw (tree.that, verdict) (refused why old entries new none same)))

-- ---- what is done

module _ (line : List ℕ) (tokens : List Token) (old : EngineState) (answer : Answer) (entries : Entries) (new : EngineState) where
  pub statement_executed : (resolved : Statement) (executed : Executed) → HasTree line tokens (λ tree. scope_verdict tree ≡ Ok resolved)
      → execution_verdict resolved old.graph old.tick ≡ Ok executed → IsExecuted executed old answer entries new → AnswersOrWants line (StatementOf tokens) old answer entries new
  statement_executed resolved executed tree verdict is = inr (inr (inl (tree.tree, tree.spelt, rw (tree.that, verdict) is)))

-- ---- whether a view may be made

-- no view has the name
pub name_free : (o : Option View) → is_some o ≡ false → o ≡ None
name_free None none = refl
name_free (Some v) none = cc

module _ (name : List ℕ) (state : EngineState) where
  pub name_taken : is_some (view_at name state) ≡ true → making_verdict name state ≡ Err fault.ViewNameTaken
  name_taken some =
      elim (view_at name state) as (λ o. is_some o ≡ true → (passes (λ _. fault.ViewNameTaken) o >>= λ _. needs (nat_lt (length state.views) view_limit) fault.TooManyViews >>= λ _. next_tick state.tick) ≡ Err fault.ViewNameTaken) [
        | Some v ↦ λ h. refl
        | None ↦ λ h. cc
      ] some

  pub many_views : view_at name state ≡ None → view_limit ≤ length state.views → making_verdict name state ≡ Err fault.TooManyViews
  many_views free many =
      let few : nat_lt (length state.views) view_limit ≡ false = grind (arith, nat_tests) in
      rw (free, few) refl

  pub may_make : view_at name state ≡ None → length state.views < view_limit → making_verdict name state ≡ next_tick state.tick
  may_make free room =
      let few : nat_lt (length state.views) view_limit ≡ true = grind (arith, nat_tests) in
      rw (free, few) refl

-- ---- a view that is made, or isn't

module _ (line : List ℕ) (tokens : List Token) (store : StoreState) (views : Views) (tick history : ℕ) (last : Entries) (name : List ℕ) (query : coded.Statement) (made : ℕ)
    (tree : HasTree line tokens (λ tree. query_verdict tree ≡ Ok (statement_of query))) where
  abbrev start : KeptState
  start = kept_state_of (machine_of store views tick history last)

  module _ (may : making_verdict name start.engine ≡ Ok made) where
    abbrev view : View
    view = record { name = name; query = statement_of query; made = made; feed = new_history history made }

    light_verdict : weight (statement_of query) ≤ greatest_weight → view_verdict tree.tree name start.engine ≡ Ok view
    light_verdict light =
        let few : nat_le (weight (statement_of query)) greatest_weight ≡ true = grind (arith, nat_tests) in
        rw (tree.that, may, few) refl

    pub view_done : (left : Views) (plan : Operator) (entries after : Entries) (answer : Reply) → weight (statement_of query) ≤ greatest_weight → Serves (plan_of plan) (statement_of query) → entries ≡ []
        → answer ≡ reply.Made (statement_columns (statement_of query)) made name → held_in left ≡ held_in views ++ new_held name query plan made history ∷ [] → StandFor left store.graph.now.content made
        → AnswersKept line (ViewOf name tokens) start (Ok answer) entries (kept_state_of (machine_of store left made history after))
    view_done left plan entries after answer light serves none answered added stand =
        let end : KeptState = kept_state_of (machine_of store left made history after) in
        let views_are : map view_of (held_in left) ≡ map view_of (held_in views) ++ view ∷ [] = ap (map view_of) added ∙ map-append view_of (held_in views) (new_held name query plan made history ∷ []) in
        let is : IsMade view start.engine (Ok answer) entries end.engine = record {
          answered = ap Ok answered;
          no_entries = none;
          bounded = stand_bounded left store.graph.now.content made stand;
          state = λ i. record { graph = store.graph.now; indexes = store.chosen; views = views_are i; tick = made; history = history };
        } in
        let planned : IsPlanned name start end = record {
          view = view;
          plan = plan_of plan;
          views = views_are;
          serves = serves;
          upkeep = ap (map upkeep_of) added ∙ map-append upkeep_of (held_in views) (new_held name query plan made history ∷ []);
          within = stand_within left store.graph.now.content made stand;
        } in
        record {
          answers = inr (inr (inl (tree.tree, tree.spelt, rw (light_verdict light) is)));
          upkeep = keeps_said (HasTooMany line (ViewOf name tokens) start) answer (reply.Made (statement_columns (statement_of query)) made name) start end answered planned;
        }

    -- its query has no rows that are kept
    module _ (left : Views) (after entries : Entries) (none : entries ≡ []) (held : held_in left ≡ held_in views) where
      abbrev still : KeptState
      still = kept_state_of (machine_of store left tick history after)

      same : still ≡ start
      same = held_alike store views left tick history last after held

      pub view_unkept : (why : UpkeepFault) → IsUnkept (statement_of query) store.graph.now.content why → AnswersKept line (ViewOf name tokens) start (Err (of_upkeep why)) entries still
      view_unkept upkeep.PlanTooLarge heavy =
          let many : nat_le (weight (statement_of query)) greatest_weight ≡ false = grind (arith, nat_tests) in
          let verdict : view_verdict tree.tree name start.engine ≡ Err fault.PlanTooLarge = rw (tree.that, may, many) refl in
          is_against line (ViewOf name tokens) start entries still none same fault.PlanTooLarge (λ is. cc) (inl (tree.tree, tree.spelt, rw verdict (refused fault.PlanTooLarge start entries still none same)))
      view_unkept upkeep.TooManyRows (light, (plan, serves, many)) =
          let would : WouldMake line name tokens start.engine = record { tree = tree.tree; view = view; spelt = tree.spelt; verdict = light_verdict light } in
          let has : ViewHasTooMany line name tokens start = record { would = would; plan = plan; serves = serves; many = many } in
          record {
            answers = inr (inl (would, refused fault.TooManyRows start entries still none same));
            upkeep = record { many = has; same = ap (λ (s : KeptState). s.upkeep) same };
          }
      view_unkept upkeep.NoMemory wants = wants_memory line (ViewOf name tokens) start entries still none same fault.NoMemory refl

-- an index that is made, and one that isn't
module _ (store new : StoreState) (views : Views) (tick history : ℕ) (before after : Entries) (line label key : List ℕ) where
  abbrev kept : StoreState → Entries → KeptState
  kept s entries = kept_state_of (machine_of s views tick history entries)

  pub index_made : (has_pair label key store.chosen ≡ true → ⊥) → new ≡ record store { chosen = store.chosen ++ (record { label = label; key = key }) ∷ [] }
      → AnswersKept line (IndexOf label key) (kept store before) (Ok (reply.Index label key)) [] (kept new after)
  index_made free is = record {
    answers = inr (inr (rw (false_from_ne_true (has_pair label key store.chosen) free) (record { answered = refl; no_entries = refl; state = ap (λ (s : StoreState). (kept s after).engine) is })));
    upkeep = refl;
  }

  pub index_refused : (why : IndexFault) → (why ≡ index.IndexThere → has_pair label key store.chosen ≡ true) → new ≡ store
      → AnswersKept line (IndexOf label key) (kept store before) (Err (of_index why)) [] (kept new after)
  index_refused index.IndexThere there same =
      let alike : kept new after ≡ kept store before = ap (λ (s : StoreState). kept s after) same in
      is_against line (IndexOf label key) (kept store before) [] (kept new after) refl alike fault.IndexThere (λ is. cc)
      (rw (there refl) (refused fault.IndexThere (kept store before) [] (kept new after) refl alike))
  index_refused index.NoMemory there same =
      wants_memory line (IndexOf label key) (kept store before) [] (kept new after) refl (ap (λ (s : StoreState). kept s after) same) fault.NoMemory refl
