-- The queries of views: what the verdicts say of them.
use Rattle.std.proofs.Common.{◌≡◌, ℕ, ◌+◌, ◌==◌, List, Bool, true, false, cond, nat_le, nat_lt, length, Option, Some, None, Result, Ok, Err, refl, sym, subst}
use Rattle.cy_trees.specs.Trees.{Statement}
use Rattle.cy_scope_kinds.specs.declared.faults.ScopeFault.{ScopeFault}
use Rattle.cy_scope_kinds.specs.declared.faults.ViewFault.{ViewFault}
use Rattle.cy_scope.specs.Checked.{IsChecked, IsViewQuery}
use Rattle.cy_scope.specs.ClauseFaults.{statement_fault}
use Rattle.cy_scope.specs.Resolved.{resolved_statement}
use Rattle.cy_scope.specs.Views.{view_fault}
use Rattle.cy_feeds.specs.Feeds.{new_history}
use Rattle.cy_updates_meaning.specs.Faults.{◌>>=◌}
use Rattle.cy_planner.specs.Weight.{greatest_weight, weight}
use Rattle.cy_engine_lines.specs.declared.faults.Fault.{Fault}
use Rattle.cy_engine_lines.specs.declared.faults.Fault.TheVariants as fault
use Rattle.cy_engine_lines.specs.State.{EngineState, last_tick, view_at}
use Rattle.cy_engine_views.specs.RegisteredViews.{View, view_limit}
use Rattle.cy_engine_lines.specs.Verdicts.{making_verdict, needs, next_tick, query_verdict, scope_verdict, passes, view_verdict}

pub bind_ok : {A B : Type 0} (r : Result A Fault) (f : A → Result B Fault) (y : B) → (r >>= f) ≡ Ok y → (x : A) × (r ≡ Ok x) × (f x ≡ Ok y)
bind_ok (Ok x) f y is = (x, refl, is)
bind_ok (Err why) f y is = cc

pub same_ok : {A : Type 0} (a b : A) → (let r : Result A Fault = Ok a in r) ≡ Ok b → a ≡ b
same_ok a b is = cc

-- a statement with a verdict of scope is checked
checked : (tree resolved : Statement) → scope_verdict tree ≡ Ok resolved → IsChecked resolved
checked tree resolved is = from (statement_fault tree) refl is
  where
    from : (o : Option ScopeFault) → statement_fault tree ≡ o → (passes fault.Scope o >>= λ _. Ok (resolved_statement tree)) ≡ Ok resolved → IsChecked resolved
    from None good is = (tree, good, sym (same_ok (resolved_statement tree) resolved is))
    from (Some why) bad is = cc

query_checked : (tree query : Statement) → query_verdict tree ≡ Ok query → IsViewQuery query
query_checked tree query is =
    let scoped = bind_ok (scope_verdict tree) (λ resolved. passes fault.View (view_fault resolved) >>= λ _. Ok resolved) query is in
    from scoped.0 (checked tree scoped.0 scoped.1) (view_fault scoped.0) refl scoped.2
  where
    from : (resolved : Statement) → IsChecked resolved → (o : Option ViewFault) → view_fault resolved ≡ o → (passes fault.View o >>= λ _. Ok resolved) ≡ Ok query → IsViewQuery query
    from resolved of None good is = subst IsViewQuery (same_ok resolved query is) (of, good)
    from resolved of (Some why) bad is = cc

-- the tick after one that isn't the last
pub risen : (tick after : ℕ) → next_tick tick ≡ Ok after → after ≡ tick + 1
risen tick after is =
    elim (tick == last_tick) as (λ b. (let r : Result ℕ Fault = cond b (Err fault.Full) (Ok (tick + 1)) in r) ≡ Ok after → after ≡ tick + 1) [
      | true ↦ λ h. absurd (cc)
      | false ↦ λ h. cc
    ] is

-- what holds where a view may be made now
module _ (name : List ℕ) (state : EngineState) (made : ℕ) (is : making_verdict name state ≡ Ok made) where
  at_limit : (view_at name state ≡ None) × (nat_lt (length state.views) view_limit ≡ true) × (made ≡ state.tick + 1)
  at_limit = from (view_at name state) refl is
    where
      room : (b : Bool) → nat_lt (length state.views) view_limit ≡ b → (needs b fault.TooManyViews >>= λ _. next_tick state.tick) ≡ Ok made
          → (nat_lt (length state.views) view_limit ≡ true) × (made ≡ state.tick + 1)
      room true few is = (few, risen state.tick made is)
      room false few is = cc

      from : (o : Option View) → view_at name state ≡ o → (passes (λ _. fault.ViewNameTaken) o >>= λ _. needs (nat_lt (length state.views) view_limit) fault.TooManyViews >>= λ _. next_tick state.tick) ≡ Ok made
          → (view_at name state ≡ None) × (nat_lt (length state.views) view_limit ≡ true) × (made ≡ state.tick + 1)
      from None free is = let limit = room (nat_lt (length state.views) view_limit) refl is in (free, limit.0, limit.1)
      from (Some v) taken is = cc

  pub made_free : view_at name state ≡ None
  made_free = at_limit.0

  pub made_few : nat_lt (length state.views) view_limit ≡ true
  made_few = at_limit.1

  pub made_rises : made ≡ state.tick + 1
  made_rises = at_limit.2

-- a view may be made: none has its name, its query is one of a view, its tick is the next one, and its feed is new
pub record IsFresh (old : EngineState) (view : View) : Type 0 where
  pub free : view_at view.name old ≡ None
  pub query : IsViewQuery view.query
  pub made : view.made ≡ old.tick + 1
  pub feed : view.feed ≡ new_history old.history view.made

-- what a verdict on a view that is made has said
pub record AreParts (tree : Statement) (name : List ℕ) (old : EngineState) (view : View) : Type 0 where
  pub query : Statement
  pub made : ℕ
  pub asked : query_verdict tree ≡ Ok query
  pub may : making_verdict name old ≡ Ok made
  pub light : nat_le (weight query) greatest_weight ≡ true
  pub same : (let v : View = record { name = name; query = query; made = made; feed = new_history old.history made } in v) ≡ view

pub view_parts : (tree : Statement) (name : List ℕ) (old : EngineState) (view : View) → view_verdict tree name old ≡ Ok view → AreParts tree name old view
view_parts tree name old view is =
    let query = bind_ok (query_verdict tree) (λ q. making_verdict name old >>= λ made. needs (nat_le (weight q) greatest_weight) fault.PlanTooLarge >>= λ _. let v : View = record { name = name; query = q; made = made; feed = new_history old.history made } in Ok v) view is in
    let made = bind_ok (making_verdict name old) (λ tick. needs (nat_le (weight query.0) greatest_weight) fault.PlanTooLarge >>= λ _. let v : View = record { name = name; query = query.0; made = tick; feed = new_history old.history tick } in Ok v) view query.2 in
    let rest = light (nat_le (weight query.0) greatest_weight) (record { name = name; query = query.0; made = made.0; feed = new_history old.history made.0 }) made.2 in
    record { query = query.0; made = made.0; asked = query.1; may = made.1; light = rest.0; same = rest.1 }
  where
    light : (b : Bool) (v : View) → (needs b fault.PlanTooLarge >>= λ _. let r : Result View Fault = Ok v in r) ≡ Ok view → (b ≡ true) × (v ≡ view)
    light true v is = (refl, same_ok v view is)
    light false v is = cc

pub view_made : (tree : Statement) (name : List ℕ) (old : EngineState) (view : View) → view_verdict tree name old ≡ Ok view → IsFresh old view
view_made tree name old view is =
    let parts = view_parts tree name old view is in
    subst (IsFresh old) parts.same
    (record { free = made_free name old parts.made parts.may; query = query_checked tree parts.query parts.asked; made = made_rises name old parts.made parts.may; feed = refl })
