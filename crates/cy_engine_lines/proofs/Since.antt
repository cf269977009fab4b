-- What is answered to `:since`.
use Rattle.std.proofs.Common.{◌≡◌, ◌⊎◌, ◌<◌, ◌≤◌, ℕ, true, false, nat_le, List, Global, Vec, Option, Some, None, Result, Ok, Err, refl, sym, ap, ◌∙◌, inl, inr, arith}
use Rattle.std.proofs.lemmas.Bool.Decides.{nat_tests}
use Rattle.std.specs.Prelude.{IfErr, IfOk, IsOk, IsSome}
use Rattle.std.specs.Option.{ok_or, option_map}
use Rattle.cy_values.specs.declared.rows.Cell.{Cell}
use Rattle.cy_graph.specs.Graph.{Content}
use Rattle.cy_feeds.specs.declared.feeds.Answer.{Answer}
use Rattle.cy_feeds.specs.declared.feeds.Answer.TheVariants.{Lagged}
use Rattle.cy_feeds.specs.Feeds.{answer_since}
use Rattle.cy_engine_lines.specs.State.{EngineState, view_at}
use Rattle.cy_engine_views.specs.RegisteredViews.{AreRowsOf, AreShown, View}
use Rattle.cy_engine_lines.specs.Verdicts.{since_verdict, there}
use Rattle.cy_engine_lines.specs.declared.faults.Fault.{Fault}
use Rattle.cy_engine_lines.specs.declared.faults.Fault.TheVariants as fault
use Rattle.cy_engine_lines.specs.declared.replies.Reply.{Reply}
use Rattle.cy_engine_lines.specs.declared.replies.Reply.TheVariants as reply
use Rattle.cy_engine_lines.specs.internal.Stages.{ShowsRows, ShowsSince}
use Rattle.cy_engine_lines.proofs.Queries.{same_ok}

module _ (name : List ℕ) (since : ℕ) (state : EngineState) where
  pub no_view : view_at name state ≡ None → since_verdict name since state ≡ Err fault.NoSuchView
  no_view none = rw none refl

  module _ (view : View) (found : view_at name state ≡ Some view) where
    pub no_tick : state.tick < since → since_verdict name since state ≡ Err fault.FutureTick
    no_tick late =
        let above : nat_le since state.tick ≡ false = grind (arith, nat_tests) in
        rw (found, above) refl

    pub is_known : since ≤ state.tick → since_verdict name since state ≡ Ok view
    is_known past =
        let known : nat_le since state.tick ≡ true = grind (arith, nat_tests) in
        rw (found, known) refl

    -- where entries may be gone, the rows are shown
    pub lagged : since ≤ state.tick → answer_since since view.feed ≡ Lagged → (answer : Result Reply Fault) → ShowsRows state name answer → ShowsSince state name since answer
    lagged past lags (Ok reply.Nothing) shows = absurd shows
    lagged past lags (Ok (reply.Statement changed columns rows)) shows = absurd shows
    lagged past lags (Ok (reply.Made columns tick of)) shows = absurd shows
    lagged past lags (Ok (reply.Rows rows tick of)) (shown, is, are, ticks, named) =
        let same : view ≡ shown = same_ok view shown (sym (ap (there fault.NoSuchView) found) ∙ is) in
        (shown, is_known past ∙ ap (λ (v : View). let r : Result View Fault = Ok v in r) same, (ap (λ (v : View). answer_since since v.feed) (sym same) ∙ lags, are, ticks, named))
    lagged past lags (Ok (reply.Entries changes tick of)) shows = absurd shows
    lagged past lags (Ok (reply.Dropped of)) shows = absurd shows
    lagged past lags (Ok (reply.Views views)) shows = absurd shows
    lagged past lags (Ok (reply.Steps steps)) shows = absurd shows
    lagged past lags (Ok (reply.Index label key)) shows = absurd shows
    lagged past lags (Err why) (inl wants) = inl wants
    lagged past lags (Err why) (inr is) = let wrong : (let r : Result View Fault = Ok view in r) ≡ Err why = sym (ap (there fault.NoSuchView) found) ∙ is in absurd (cc)

-- ---- the rows of a view that is there, or isn't

pub rows_shown : (o : Option View) (graph : Content) (rows : List (List Cell × ℕ)) → AreShown o graph (Some rows) → (found : View) × (there fault.NoSuchView o ≡ Ok found) × AreRowsOf found.query graph rows
rows_shown None graph rows are = absurd are
rows_shown (Some view) graph rows are = (view, refl, are)

pub none_shown : (o : Option View) (graph : Content) → AreShown o graph None → there fault.NoSuchView o ≡ Err fault.NoSuchView
none_shown None graph are = refl
none_shown (Some view) graph are = absurd are

-- what the feed of a view that is there says
pub told : (o : Option View) (since : ℕ) (answer : Answer) → (let a : Option Answer = Some answer in a) ≡ option_map (λ view. answer_since since view.feed) o → (found : View) × (o ≡ Some found) × (answer ≡ answer_since since found.feed)
told None since answer is = cc
told (Some view) since answer is = (view, refl, cc)

pub untold : (o : Option View) (since : ℕ) → (let a : Option Answer = None in a) ≡ option_map (λ view. answer_since since view.feed) o → o ≡ None
untold None since is = refl
untold (Some view) since is = cc

-- ---- the rows of the view of a name, or none

pub found_rows : (o : Option View) (graph : Content) (shown : Option (Vec (List Cell × ℕ) Global)) → AreShown o graph (option_map (λ r. r.items) shown)
    → (r : Result (Vec (List Cell × ℕ) Global) Fault) → r ≡ ok_or shown fault.NoSuchView
    → IfOk r (λ rows. (found : View) × (there fault.NoSuchView o ≡ Ok found) × AreRowsOf found.query graph rows.items)
found_rows o graph None are r is = rw is tt
found_rows o graph (Some rows) are r is = rw is (rows_shown o graph rows.items are)

pub missing_rows : (o : Option View) (graph : Content) (shown : Option (Vec (List Cell × ℕ) Global)) → AreShown o graph (option_map (λ r. r.items) shown)
    → (r : Result (Vec (List Cell × ℕ) Global) Fault) → r ≡ ok_or shown fault.NoSuchView
    → IfErr r (λ why. (there fault.NoSuchView o ≡ Err why) ⊎ ((why ≡ fault.NoMemory) × IsOk (there fault.NoSuchView o)))
missing_rows o graph None are r is = rw is (inl (none_shown o graph are))
missing_rows o graph (Some rows) are r is = rw is tt

pub is_found : (o : Option View) → IsSome o → IsOk (there fault.NoSuchView o)
is_found None some = cc
is_found (Some view) some = refl
