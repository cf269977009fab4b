-- Followers agree: what holds of a follower's copy, line by line.
use Rattle.std.proofs.Common.{◌≡◌, ◌⊎◌, ℕ, ◌+◌, ◌≤◌, nat_le, Bool, true, false, cond, not, List, [], ◌∷◌, ◌++◌, find, map, Option, None, Some, Result, Ok, Err, refl, sym, ap, subst, ◌∙◌, arith, inl, inr}
use Rattle.std.specs.List.{AllByRecursion}
use Rattle.std.specs.Str.{bytes_eq}
use Rattle.std.proofs.lemmas.Bool.Decides.{nat_tests}
use Rattle.std.proofs.lemmas.Slice.Eq.{bytes_eq-Decides}
use Rattle.cy_lexer.specs.declared.faults.LexFault.{LexFault}
use Rattle.cy_lexer.specs.declared.tokens.Token.{Token}
use Rattle.cy_values.specs.declared.rows.Cell.{Cell}
use Rattle.cy_graph.specs.Graph.{Content}
use Rattle.cy_feeds.specs.declared.feeds.Answer.TheVariants.{Entries as Since, Lagged}
use Rattle.cy_feeds.specs.Feeds.{History, entries_after}
use Rattle.cy_feeds.specs.Following.{FollowersGoOn, IsCopy, NewFeedsTell, PushedFeedsTell, QuietFeedsTell}
use Rattle.cy_updates_meaning.specs.Faults.{◌>>=◌}
use Rattle.cy_engine_lines.specs.declared.faults.Fault.{Fault}
use Rattle.cy_engine_lines.specs.declared.faults.Fault.TheVariants as fault
use Rattle.cy_engine_lines.specs.declared.replies.Reply.TheVariants as reply
use Rattle.cy_engine.specs.Followers.{Copy, FollowersAgree, IsCurrent, IsLedBy, IsPoll, IsServed, TakesOver, no_copy}
use Rattle.cy_engine_lines.specs.Requests.{Asks, Request, RowsOf, SinceOf}
use Rattle.cy_engine.specs.Runs.{Event, Run}
use Rattle.cy_engine_lines.specs.State.{EngineState, empty_engine, view_at}
use Rattle.cy_engine_views.specs.RegisteredViews.{Entries, View, entry_at, fed, rows_of, without}
use Rattle.cy_engine_lines.specs.EngineStep.{Answer, Answers, AreRows, ShowsAnswer, IsRefused, Lexed, Shows, EngineStep, AnswersSince}
use Rattle.cy_engine_lines.specs.Verdicts.{needs, there}
use Rattle.cy_engine_views.specs.Upkeep.{AreNamed}
use Rattle.cy_trees.specs.Trees.{Statement}
use Rattle.cy_engine.proofs.Bounds.{AllLimited, IsLater, base_rises, later_entries, limited_step}
use Rattle.cy_engine_lines.proofs.Effects.{Effects, effects}
use Rattle.cy_engine.proofs.StepNames.{effects_named, fed_name, fed_query}
use Rattle.cy_engine.proofs.Ticks.{content_at, content_first, content_next, later, moves}
use Rattle.cy_engine.proofs.ToldRows.{AllTold, IsTold, rows_at, told_step}

-- ---- what holds of a copy between lines

module _ (content : ℕ → Content) (name : List ℕ) where
  -- the copy is right at its tick for a view of the name whose feed goes back so far
  abbrev pub FitsView : Copy → View → Type 0
  FitsView copy view = view.feed.base ≤ copy.tick → IsCopy copy.rows (rows_at content view.query copy.tick)

  abbrev pub IsRight : EngineState → Option Copy → Type 0
  IsRight state None = Unit {0}
  IsRight state (Some copy) = (copy.tick ≤ state.tick) × ((view : View) → view_at name state ≡ Some view → FitsView copy view)

-- ---- a poll, and what is answered to it

-- a line that asks for something is answered as it asks, or refused
pub asked_step : (line : List ℕ) (asked : Request) (old : EngineState) (answer : Answer) (entries : Entries) (new : EngineState) → Asks line asked → EngineStep old line answer entries new
    → ((why : Fault) × IsRefused why old answer entries new) ⊎ Answers line asked old answer entries new
asked_step line asked old answer entries new asks (inl (why, lacks, a)) = inl (why, a)
asked_step line asked old answer entries new asks (inr lexed) =
    inr (subst (λ (q : Request). Answers line q old answer entries new) asks.is
    (subst (λ (r : Result (List Token) LexFault). Lexed line r old answer entries new) asks.lexed lexed))

module _ (go_on : FollowersGoOn) (content : ℕ → Content) (name : List ℕ) (old : EngineState) (answer : Answer) (entries : Entries) (new : EngineState) (held next : Option Copy) where
  -- the copy is served, and right again
  abbrev Served : Type 0
  Served = IsServed name new answer held next × IsRight content name new next

  -- the copy after an answer
  after_refusal : (why : Fault) → IsRefused why old answer entries new → IsRight content name old held → TakesOver held answer next → Served
  after_refusal why refused right takes =
      let same : next ≡ held = left held (subst (λ (a : Answer). TakesOver held a next) refused.answered takes) in (
        subst (λ (a : Answer). IsServed name new a held next) (sym refused.answered) same,
        subst (λ (s : EngineState). IsRight content name s next) (sym refused.state) (subst (IsRight content name old) (sym same) right),
      )
    where
      left : (h : Option Copy) → TakesOver h (Err why) next → next ≡ h
      left None is = is
      left (Some copy) is = is

  module _ (first : content old.tick ≡ old.graph.content) (view : View) (at : view_at name old ≡ Some view) where
    same_view : (other : View) → view_at name old ≡ Some other → view ≡ other
    same_view other is = let both : (let o : Option View = Some view in o) ≡ Some other = sym at ∙ is in cc

    -- the copy is what the view has now
    current : (rows : List (List Cell × ℕ)) → AreRows old view rows → new ≡ old → next ≡ Some (record { rows = rows; tick = old.tick })
        → IsCurrent name new next × IsRight content name new next
    current rows are left is =
        subst (λ (s : EngineState). IsCurrent name s next × IsRight content name s next) (sym left) (
          record { view = view; copy = record { rows = rows; tick = old.tick }; there = at; has = is; rows = are; tick = refl },
          subst (IsRight content name old) (sym is) (omega arith, λ other found low. right other (same_view other found)),
        )
      where
        right : (other : View) → view ≡ other → IsCopy rows (rows_at content other.query old.tick)
        right other same =
            subst (λ (v : View). IsCopy rows (rows_at content v.query old.tick)) same
            (subst (λ (c : Content). IsCopy rows (rows_of view.query c)) (sym first) (record { bag = are.bag; canonical = are.canonical }))

    shown : Shows name (Ok view) old answer entries new → TakesOver held answer next → Served
    shown (rows, are, replied) takes =
        let is : next ≡ Some (record { rows = rows; tick = old.tick }) = taken held (subst (λ (a : Answer). TakesOver held a next) replied.answered takes) in
        let now = current rows are replied.state is in
        (subst (λ (a : Answer). IsServed name new a held next) (sym replied.answered) now.0, now.1)
      where
        taken : (h : Option Copy) → TakesOver h (Ok (reply.Rows rows old.tick name)) next → next ≡ Some (record { rows = rows; tick = old.tick })
        taken None is = is
        taken (Some copy) is = is

    -- the entries above the tick of the copy lead to the rows of now
    module _ (told : IsTold content old.tick view) (copy : Copy) (has : held ≡ Some copy) (in_time : copy.tick ≤ old.tick) (fits : FitsView content name copy view) where
      followed : (base : view.feed.base ≤ copy.tick) → ShowsAnswer name view (Since (entries_after copy.tick view.feed.entries)) old answer entries new → TakesOver held answer next → Served
      followed base replied takes =
          let changed = subst (λ (h : Option Copy). TakesOver h (Ok (reply.Entries (entries_after copy.tick view.feed.entries) old.tick name)) next) has
          (subst (λ (a : Answer). TakesOver held a next) replied.answered takes) in
          let right : IsCopy changed.0 (rows_at content view.query old.tick) =
          go_on view.feed (rows_at content view.query) old.tick copy.tick copy.rows changed.0 told.tells base in_time (fits base) changed.1
          in
          let on_graph : IsCopy changed.0 (rows_of view.query old.graph.content) = subst (λ (c : Content). IsCopy changed.0 (rows_of view.query c)) first right in
          let now = current changed.0 (record { bag = on_graph.bag; canonical = on_graph.canonical }) replied.state changed.2 in
          (subst (λ (a : Answer). IsServed name new a held next) (sym replied.answered) now.0, now.1)

      told_since : AnswersSince name copy.tick (Ok view) old answer entries new → TakesOver held answer next → Served
      told_since tells takes =
          elim (nat_le view.feed.base copy.tick) as (λ b. nat_le view.feed.base copy.tick ≡ b → ShowsAnswer name view (cond b (Since (entries_after copy.tick view.feed.entries)) Lagged) old answer entries new → Served) [
            | true ↦ λ h answers. followed (grind (arith, nat_tests)) answers takes
            | false ↦ λ h answers. shown answers takes
          ] refl tells

-- ---- one line, for the copy

module _ (new_tell : NewFeedsTell) (pushed_tell : PushedFeedsTell) (quiet_tell : QuietFeedsTell) (go_on : FollowersGoOn) (content : ℕ → Content) (name : List ℕ) where
  -- what is known between lines
  pub record Known (state : EngineState) (held : Option Copy) : Type 0 where
    pub named : AreNamed state.views
    pub told : AllTold content state.tick state.views
    pub limited : AllLimited content state.tick state.views
    pub now : content state.tick ≡ state.graph.content
    pub right : IsRight content name state held

  -- what holds of each view holds of the one that has the name
  pub found_each : (P : View → Type 0) (views : List View) (view : View) → find (λ v. bytes_eq name v.name) views ≡ Some view → AllByRecursion P views → P view
  found_each P [] view is all = cc
  found_each P (v ∷ views) view is all =
      elim (bytes_eq name v.name) as (λ b. cond b (Some v) (find (λ w. bytes_eq name w.name) views) ≡ Some view → P view) [
        | true ↦ λ here. let one : v ≡ view = cc in subst P one all.0
        | false ↦ λ there. found_each P views view there all.1
      ] is

  -- a poll of the follower
  polled : (old : EngineState) (line : List ℕ) (answer : Answer) (entries : Entries) (new : EngineState) (held next : Option Copy) → Known old held → IsPoll name held line → EngineStep old line answer entries new
      → TakesOver held answer next → IsServed name new answer held next × IsRight content name new next
  polled old line answer entries new held next known poll step takes = from held refl poll
    where
      by_rows : Asks line (RowsOf name) → IsServed name new answer held next × IsRight content name new next
      by_rows asks = answered (asked_step line (RowsOf name) old answer entries new asks step)
        where
          at_name : (o : Option View) → view_at name old ≡ o → Shows name (there fault.NoSuchView o) old answer entries new → IsServed name new answer held next × IsRight content name new next
          at_name None is refused = after_refusal go_on content name old answer entries new held next fault.NoSuchView refused known.right takes
          at_name (Some view) is shows = shown go_on content name old answer entries new held next known.now view is shows takes

          answered : ((why : Fault) × IsRefused why old answer entries new) ⊎ Answers line (RowsOf name) old answer entries new → IsServed name new answer held next × IsRight content name new next
          answered (inl (why, refused)) = after_refusal go_on content name old answer entries new held next why refused known.right takes
          answered (inr shows) = at_name (view_at name old) refl shows

      by_since : (copy : Copy) → held ≡ Some copy → Asks line (SinceOf name copy.tick) → IsServed name new answer held next × IsRight content name new next
      by_since copy has asks = answered (asked_step line (SinceOf name copy.tick) old answer entries new asks step)
        where
          in_time : (b : Bool) → (view : View) → view_at name old ≡ Some view → AnswersSince name copy.tick (needs b fault.FutureTick >>= λ _. Ok view) old answer entries new
              → IsServed name new answer held next × IsRight content name new next
          in_time false view is refused = after_refusal go_on content name old answer entries new held next fault.FutureTick refused known.right takes
          in_time true view is tells =
              let right = subst (IsRight content name old) has known.right in
              told_since go_on content name old answer entries new held next known.now view is (found_each (IsTold content old.tick) old.views view is known.told) copy has right.0 (right.1 view is) tells takes

          at_name : (o : Option View) → view_at name old ≡ o → AnswersSince name copy.tick (there fault.NoSuchView o >>= λ view. needs (nat_le copy.tick old.tick) fault.FutureTick >>= λ _. Ok view) old answer entries new
              → IsServed name new answer held next × IsRight content name new next
          at_name None is refused = after_refusal go_on content name old answer entries new held next fault.NoSuchView refused known.right takes
          at_name (Some view) is tells = in_time (nat_le copy.tick old.tick) view is tells

          answered : ((why : Fault) × IsRefused why old answer entries new) ⊎ Answers line (SinceOf name copy.tick) old answer entries new → IsServed name new answer held next × IsRight content name new next
          answered (inl (why, refused)) = after_refusal go_on content name old answer entries new held next why refused known.right takes
          answered (inr tells) = at_name (view_at name old) refl tells

      from : (h : Option Copy) → held ≡ h → IsPoll name h line → IsServed name new answer held next × IsRight content name new next
      from None has asks = by_rows asks
      from (Some copy) has (inl asks) = by_rows asks
      from (Some copy) has (inr asks) = by_since copy has asks

  -- ---- one line, whoever sent it

  -- the view that has a name once entries went into the feeds had it before
  before_fed : (entries : Entries) (views : List View) (view : View) → find (λ v. bytes_eq name v.name) (map (fed entries) views) ≡ Some view
      → (was : View) × (find (λ v. bytes_eq name v.name) views ≡ Some was) × (fed entries was ≡ view)
  before_fed entries [] view is = cc
  before_fed entries (v ∷ views) view is =
      elim (bytes_eq name v.name) as (λ b. cond b (Some (fed entries v)) (find (λ w. bytes_eq name w.name) (map (fed entries) views)) ≡ Some view
      → (was : View) × (cond b (Some v) (find (λ w. bytes_eq name w.name) views) ≡ Some was) × (fed entries was ≡ view)) [
        | true ↦ λ here. (v, refl, some_same (fed entries v) view here)
        | false ↦ λ there. before_fed entries views view there
      ] (ap (λ b. cond b (Some (fed entries v)) (find (λ w. bytes_eq name w.name) (map (fed entries) views))) (ap (λ (n : List ℕ). bytes_eq name n) (sym (fed_name entries v))) ∙ is)
    where
      some_same : (a b : View) → (let o : Option View = Some a in o) ≡ Some b → a ≡ b
      some_same a b e = cc

  -- one that has it where a view was added had it before, or is the one that was added
  before_made : (views : List View) (made view : View) → find (λ v. bytes_eq name v.name) (views ++ made ∷ []) ≡ Some view → (find (λ v. bytes_eq name v.name) views ≡ Some view) ⊎ (made ≡ view)
  before_made [] made view is =
      elim (bytes_eq name made.name) as (λ b. (let o : Option View = cond b (Some made) None in o) ≡ Some view → ((let o : Option View = None in o) ≡ Some view) ⊎ (made ≡ view)) [
        | true ↦ λ here. inr (cc)
        | false ↦ λ there. inl there
      ] is
  before_made (v ∷ views) made view is =
      elim (bytes_eq name v.name) as (λ b. cond b (Some v) (find (λ w. bytes_eq name w.name) (views ++ made ∷ [])) ≡ Some view → (cond b (Some v) (find (λ w. bytes_eq name w.name) views) ≡ Some view) ⊎ (made ≡ view)) [
        | true ↦ λ here. inl here
        | false ↦ λ there. before_made views made view there
      ] is

  none_without : (views : List View) → find (λ v. bytes_eq name v.name) (without name views) ≡ None
  none_without [] = refl
  none_without (v ∷ views) =
      elim (bytes_eq name v.name) as (λ b. bytes_eq name v.name ≡ b → find (λ w. bytes_eq name w.name) (cond (not b) (v ∷ without name views) (without name views)) ≡ None) [
        | true ↦ λ _. none_without views
        | false ↦ λ other. ap (λ b. cond b (Some v) (find (λ w. bytes_eq name w.name) (without name views))) other ∙ none_without views
      ] refl

  -- one that has it where views of another name are gone had it before
  before_dropped : (gone : List ℕ) (views : List View) (view : View) → find (λ v. bytes_eq name v.name) (without gone views) ≡ Some view → find (λ v. bytes_eq name v.name) views ≡ Some view
  before_dropped gone [] view is = is
  before_dropped gone (v ∷ views) view is =
      elim (bytes_eq gone v.name) as (λ b. bytes_eq gone v.name ≡ b → find (λ w. bytes_eq name w.name) (cond (not b) (v ∷ without gone views) (without gone views)) ≡ Some view
      → cond (bytes_eq name v.name) (Some v) (find (λ w. bytes_eq name w.name) views) ≡ Some view) [
        | true ↦ λ same there.
            elim (bytes_eq name v.name) as (λ b. bytes_eq name v.name ≡ b → cond b (Some v) (find (λ w. bytes_eq name w.name) views) ≡ Some view) [
              | true ↦ λ here.
                  let one : gone ≡ name = (bytes_eq-Decides gone v.name).0 same ∙ sym ((bytes_eq-Decides name v.name).0 here) in
                  let none : (let o : Option View = None in o) ≡ Some view = sym (none_without views) ∙ subst (λ (n : List ℕ). find (λ w. bytes_eq name w.name) (without n views) ≡ Some view) one there in
                  absurd (cc)
              | false ↦ λ _. before_dropped gone views view there
            ] refl
        | false ↦ λ other there.
            elim (bytes_eq name v.name) as (λ b. cond b (Some v) (find (λ w. bytes_eq name w.name) (without gone views)) ≡ Some view → cond b (Some v) (find (λ w. bytes_eq name w.name) views) ≡ Some view) [
              | true ↦ λ here. here
              | false ↦ λ later. before_dropped gone views view later
            ] there
      ] refl is

  -- a copy stays right
  module _ (old : EngineState) (answer : Answer) (entries : Entries) (new : EngineState) where
    right_step : Effects old answer entries new → (held : Option Copy) → Known old held → IsRight content name new held
    right_step does None known = tt
    right_step does (Some copy) known = (omega (arith, known.right.0, later old new (moves old answer entries new does)), λ view at. fits does view at)
      where
        was_right : (view : View) → view_at name old ≡ Some view → FitsView content name copy view
        was_right view at = known.right.1 view at

        fits : Effects old answer entries new → (view : View) → view_at name new ≡ Some view → FitsView content name copy view
        fits (inl (left, none)) view at low = was_right view (subst (λ (s : EngineState). view_at name s ≡ Some view) left at) low
        fits (inr (inl (executed, timed, a))) view at low =
            let was = before_fed entries old.views view (subst (λ (s : EngineState). view_at name s ≡ Some view) a.state at) in
            let told = found_each (IsTold content old.tick) old.views was.0 was.1 known.told in
            let rises : was.0.feed.base ≤ (fed entries was.0).feed.base = base_rises content old.tick was.0 (entry_at was.0.name entries) told (found_each (IsLater content old answer entries new) old.views was.0 was.1 (later_entries content old answer entries new stepped known.named)) in
            let base : was.0.feed.base ≤ copy.tick = omega (arith, rises, ap (λ (v : View). v.feed.base) was.2, low) in
            subst (λ (q : Statement). IsCopy copy.rows (rows_at content q copy.tick)) (sym (fed_query entries was.0) ∙ ap (λ (v : View). v.query) was.2) (was_right was.0 was.1 base)
          where
            stepped : Effects old answer entries new
            stepped = inr (inl (executed, timed, a))
        fits (inr (inr (inl (made, fresh, a)))) view at low = either (before_made old.views made view (subst (λ (s : EngineState). view_at name s ≡ Some view) a.state at))
          where
            either : (find (λ v. bytes_eq name v.name) old.views ≡ Some view) ⊎ (made ≡ view) → IsCopy copy.rows (rows_at content view.query copy.tick)
            either (inl before) = was_right view before low
            either (inr is) =
                let base : view.feed.base ≡ old.tick + 1 = ap (λ (v : View). v.feed.base) (sym is) ∙ ap (λ (h : History). h.base) fresh.feed ∙ fresh.made in
                absurd (omega (arith, base, low, known.right.0))
        fits (inr (inr (inr (inl (gone, found, a))))) view at low =
            was_right view (before_dropped gone.name old.views view (subst (λ (s : EngineState). view_at name s ≡ Some view) a.state at)) low
        fits (inr (inr (inr (inr (pair, a))))) view at low = was_right view (subst (λ (s : EngineState). view_at name s ≡ Some view) a.state at) low

    known_step : Effects old answer entries new → content new.tick ≡ new.graph.content → (held : Option Copy) → Known old held → Known new held
    known_step does then_is held known = record {
      named = effects_named old answer entries new does known.named;
      told = told_step new_tell pushed_tell quiet_tell content old answer entries new known.now then_is does known.named known.told;
      limited = limited_step content old answer entries new then_is does known.named known.told known.limited;
      now = then_is;
      right = right_step does held known;
    }

  -- ---- all lines

  -- the contents are those of a run, from its first tick on
  abbrev pub Agrees : (old new : EngineState) (events : List Event) → Run old events new → Type 0
  Agrees old new events run = (tick : ℕ) → old.tick ≤ tick → content tick ≡ content_at old events new run tick

  module _ (old mid new : EngineState) (e : Event) (events : List Event) (step : EngineStep old e.line e.answer e.entries mid) (run : Run mid events new) (agrees : Agrees old new (e ∷ events) (mid, step, run)) where
    does : Effects old e.answer e.entries mid
    does = effects old e.answer e.entries mid e.line step

    agrees_on : Agrees mid new events run
    agrees_on tick past =
        let low : old.tick ≤ mid.tick = later old mid (moves old e.answer e.entries mid does) in
        agrees tick (omega (arith, low, past)) ∙ content_next old mid new events run (moves old e.answer e.entries mid does) tick past

    stepped : (h : Option Copy) → Known old h → Known mid h
    stepped h k = known_step old e.answer e.entries mid does (agrees_on mid.tick (omega arith) ∙ content_first mid events new run) h k

    -- after a poll of the follower the new copy is known
    served : (held next : Option Copy) → Known old held → IsPoll name held e.line → TakesOver held e.answer next → Known mid next
    served held next known poll takes =
        let after = stepped held known in
        record { named = after.named; told = after.told; limited = after.limited; now = after.now; right = (polled old e.line e.answer e.entries mid held next known poll step takes).1 }

  -- what is known after a run
  pub known_run : (old new : EngineState) (events : List Event) (run : Run old events new) → Agrees old new events run → (held last : Option Copy) → IsLedBy name events held last → Known old held → Known new last
  known_run old new [] run agrees held last led known = subst (λ (h : Option Copy). Known new h) (sym led) (subst (λ (s : EngineState). Known s held) (sym run) known)
  known_run old new (e ∷ events) (mid, step, run) agrees held last (inl others) known =
      known_run mid new events run (agrees_on old mid new e events step run agrees) held last others (stepped old mid new e events step run agrees held known)
  known_run old new (e ∷ events) (mid, step, run) agrees held last (inr (poll, next, takes, led)) known =
      known_run mid new events run (agrees_on old mid new e events step run agrees) next last led (served old mid new e events step run agrees held next known poll takes)

module _ (new_tell : NewFeedsTell) (pushed_tell : PushedFeedsTell) (quiet_tell : QuietFeedsTell) (go_on : FollowersGoOn) where
  pub followers_agree : FollowersAgree
  followers_agree history events before after poll name held next run step led polls takes =
      let content = content_at (empty_engine history) events before run in
      let known =
      known_run new_tell pushed_tell quiet_tell go_on content name (empty_engine history) before events run (λ tick low. refl) no_copy held led
      (record { named = tt; told = tt; limited = tt; now = content_first (empty_engine history) events before run; right = tt })
      in
      (polled new_tell pushed_tell quiet_tell go_on content name before poll.line poll.answer poll.entries after held next known polls step takes).0
