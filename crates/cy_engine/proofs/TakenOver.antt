-- What a follower is answered can be taken over.
use Rattle.std.proofs.Common.{◌≡◌, ◌⊎◌, ℕ, ◌-◌, ◌<◌, ◌≤◌, nat_le, nat_lt, Bool, true, false, cond, List, [], ◌∷◌, Option, None, Some, Ok, Err, refl, sym, ap, subst, ◌∙◌, arith, inl, inr}
use Rattle.std.proofs.lemmas.Bool.Decides.{nat_tests}
use Rattle.cy_values.specs.declared.rows.Cell.{Cell}
use Rattle.cy_values.specs.Bag.{count_of, weight_of}
use Rattle.cy_graph.specs.Graph.{Content}
use Rattle.cy_bags.specs.declared.changes.Entry.{Entry}
use Rattle.cy_feeds.specs.declared.feeds.Answer.TheVariants.{Entries as Since, Lagged}
use Rattle.cy_feeds.specs.Feeds.{IsRising, entries_after}
use Rattle.cy_feeds.specs.Following.{FollowersGoOn, IsCopy, NewFeedsTell, PushedFeedsTell, QuietFeedsTell, count_after, has_tick, last_count}
use Rattle.cy_feeds.proofs.GoingOn.{Differ, InTime, Silent, copies_change, goes_on_after, other_tick, none_before}
use Rattle.cy_updates_meaning.specs.Faults.{◌>>=◌}
use Rattle.cy_engine_views.specs.RegisteredViews.{View}
use Rattle.cy_engine_lines.specs.declared.faults.Fault.{Fault}
use Rattle.cy_engine_lines.specs.declared.faults.Fault.TheVariants as fault
use Rattle.cy_engine_lines.specs.declared.replies.Reply.TheVariants as reply
use Rattle.cy_engine.specs.Followers.{CanFollow, EntriesCanBeTaken, no_copy}
use Rattle.cy_engine_lines.specs.Requests.{Asks, RowsOf, SinceOf}
use Rattle.cy_engine_lines.specs.State.{empty_engine, view_at}
use Rattle.cy_engine_lines.specs.EngineStep.{Answer, Answers, ShowsAnswer, IsRefused, Shows, AnswersSince}
use Rattle.cy_engine_lines.specs.Verdicts.{needs, there}
use Rattle.cy_engine.proofs.Bounds.{IsLimited}
use Rattle.cy_engine.proofs.Polls.{Known, asked_step, found_each, known_run}
use Rattle.cy_engine.proofs.Ticks.{content_at, content_first}
use Rattle.cy_engine.proofs.ToldRows.{IsTold, rows_at}

-- all of a rising list are above where it begins
all_after : (tick from : ℕ) (es : List Entry) → IsRising from es → tick ≤ from → entries_after tick es ≡ es
all_after tick from [] rising le = refl
all_after tick from (e ∷ es) rising le =
    let above : from < e.tick = rising.0 in
    let later : entries_after tick es ≡ es = all_after tick e.tick es rising.1 (omega (arith, above, le)) in
    elim (nat_lt tick e.tick) as (λ b. nat_lt tick e.tick ≡ b → cond b (e ∷ entries_after tick es) (entries_after tick es) ≡ e ∷ es) [
      | true ↦ λ h. ap (λ (fs : List Entry). e ∷ fs) later
      | false ↦ λ h. absurd (grind (arith, nat_tests, above))
    ] refl

-- rows that are told up to now
module _ (rows : ℕ → List (List Cell)) (now : ℕ) where
  abbrev Bounded : ℕ → Type 0
  Bounded from = (tick : ℕ) → from < tick → tick ≤ now → (row : List Cell) → count_of row (rows tick) ≤ last_count

  can_go : (from : ℕ) (es : List Entry) (copy : List (List Cell × ℕ)) → IsRising from es → Differ rows now es → Silent rows now from es → InTime rows now es → Bounded from
      → IsCopy copy (rows from) → CanFollow copy es
  can_go from [] copy rising differ silent in_time bounded is = tt
  can_go from (e ∷ es) copy rising differ silent in_time bounded is = (
    record {
      rows = is.canonical;
      removed = differ.0.removed.canonical;
      added = differ.0.added.canonical;
      held = λ row. (changes row).0;
      bounded = λ row. subst (λ (n : ℕ). n ≤ last_count) (sym (changes row).1) (bounded e.tick above until row);
    },
    λ next changed.
        can_go e.tick es next rising.1 differ.1 (λ tick low high none. silent tick (omega (arith, above, low)) high (other_tick e tick es (λ same. omega (arith, same, low)) none)) in_time.1
        (λ tick low high. bounded tick (omega (arith, above, low)) high)
        (record { bag = λ row. changed.counts row ∙ (changes row).1; canonical = changed.canonical }),
  )
    where
      above : from < e.tick
      above = rising.0

      until : e.tick ≤ now
      until = in_time.0

      not_yet : (tick : ℕ) → tick < e.tick → has_tick tick (e ∷ es) ≡ false
      not_yet tick less = other_tick e tick es (λ same. omega (arith, same, less)) (none_before tick e.tick es rising.1 (omega (arith, less)))

      before : IsCopy copy (rows (e.tick - 1))
      before =
          goes_on_after rows (e.tick - 1) from from [] copy copy (omega arith) tt tt (λ tick low high none. silent tick low (omega (arith, high, above, until)) (not_yet tick (omega (arith, above, high)))) tt
          (omega (arith, above)) is refl

      changes : (row : List Cell) → (weight_of row e.change.removed ≤ weight_of row copy) × (count_after row copy e.change ≡ count_of row (rows e.tick))
      changes = copies_change (rows (e.tick - 1)) (rows e.tick) copy e.change before differ.0

  can_go_after : (tick from : ℕ) (es : List Entry) (copy : List (List Cell × ℕ)) → from ≤ tick → IsRising from es → Differ rows now es → Silent rows now from es → InTime rows now es → Bounded tick
      → IsCopy copy (rows tick) → CanFollow copy (entries_after tick es)
  can_go_after tick from [] copy low rising differ silent in_time bounded is = tt
  can_go_after tick from (e ∷ es) copy low rising differ silent in_time bounded is =
      elim (nat_lt tick e.tick) as (λ b. nat_lt tick e.tick ≡ b → CanFollow copy (cond b (e ∷ entries_after tick es) (entries_after tick es))) [
        | true ↦ λ h.
            let less : tick < e.tick = grind (arith, nat_tests) in
            subst (λ (fs : List Entry). CanFollow copy (e ∷ fs)) (sym (all_after tick e.tick es rising.1 (omega (arith, less))))
            (can_go tick (e ∷ es) copy (less, rising.1) differ (λ t above high none. silent t (omega (arith, above, low)) high none) in_time bounded is)
        | false ↦ λ h.
            let reached : e.tick ≤ tick = grind (arith, nat_tests) in
            let above : from < e.tick = rising.0 in
            can_go_after tick e.tick es copy reached rising.1 differ.1
            (λ t past high none. silent t (omega (arith, above, past)) high (other_tick e t es (λ same. omega (arith, same, past)) none)) in_time.1 bounded is
      ] refl

-- ---- one poll

-- a refusal is no answer with entries
no_refusal : (why : Fault) (entries : List Entry) (tick : ℕ) (view : List ℕ) (answer : Answer) → answer ≡ Err why → answer ≡ Ok (reply.Entries entries tick view) → ⊥
no_refusal why entries tick view answer refused is = let wrong : (let a : Answer = Err why in a) ≡ Ok (reply.Entries entries tick view) = sym refused ∙ is in cc

-- nor are rows
no_rows : (rows : List (List Cell × ℕ)) (now : ℕ) (name : List ℕ) (entries : List Entry) (tick : ℕ) (view : List ℕ) (answer : Answer) → answer ≡ Ok (reply.Rows rows now name)
    → answer ≡ Ok (reply.Entries entries tick view) → ⊥
no_rows rows now name entries tick view answer shown is = let wrong : (let a : Answer = Ok (reply.Rows rows now name) in a) ≡ Ok (reply.Entries entries tick view) = sym shown ∙ is in cc

same_entries : (found entries : List Entry) (now tick : ℕ) (name view : List ℕ) → (let a : Answer = Ok (reply.Entries found now name) in a) ≡ Ok (reply.Entries entries tick view) → found ≡ entries
same_entries found entries now tick name view is = cc

module _ (new_tell : NewFeedsTell) (pushed_tell : PushedFeedsTell) (quiet_tell : QuietFeedsTell) (go_on : FollowersGoOn) where
  pub entries_can_be_taken : EntriesCanBeTaken
  entries_can_be_taken history events old after poll name view copy entries tick run step led polls is = from polls
    where
      content : ℕ → Content
      content = content_at (empty_engine history) events old run

      known : Known new_tell pushed_tell quiet_tell go_on content name old (Some copy)
      known =
          known_run new_tell pushed_tell quiet_tell go_on content name (empty_engine history) old events run (λ tick low. refl) no_copy (Some copy) led
          (record { named = tt; told = tt; limited = tt; now = content_first (empty_engine history) events old run; right = tt })

      shown : (o : Option View) → Shows name (there fault.NoSuchView o) old poll.answer poll.entries after → CanFollow copy.rows entries
      shown None refused = absurd (no_refusal fault.NoSuchView entries tick view poll.answer refused.answered is)
      shown (Some found) (rows, are, replied) = absurd (no_rows rows old.tick name entries tick view poll.answer replied.answered is)

      told : (found : View) → view_at name old ≡ Some found → (b : Bool) → nat_le found.feed.base copy.tick ≡ b
          → ShowsAnswer name found (cond b (Since (entries_after copy.tick found.feed.entries)) Lagged) old poll.answer poll.entries after → CanFollow copy.rows entries
      told found at true low replied =
          let base : found.feed.base ≤ copy.tick = grind (arith, nat_tests) in
          let tells = (found_each new_tell pushed_tell quiet_tell go_on content name (IsTold content old.tick) old.views found at known.told).tells in
          let limited = found_each new_tell pushed_tell quiet_tell go_on content name (IsLimited content old.tick) old.views found at known.limited in
          subst (CanFollow copy.rows) (same_entries _ entries old.tick tick name view (sym replied.answered ∙ is))
          (can_go_after (rows_at content found.query) old.tick copy.tick found.feed.base found.feed.entries copy.rows base tells.rising tells.differences tells.silent tells.in_time
          (λ t past until. limited t (omega (arith, base, past)) until) (known.right.1 found at base))
      told found at false low (rows, are, replied) = absurd (no_rows rows old.tick name entries tick view poll.answer replied.answered is)

      in_time : (found : View) → view_at name old ≡ Some found → (b : Bool) → AnswersSince name copy.tick (needs b fault.FutureTick >>= λ _. Ok found) old poll.answer poll.entries after → CanFollow copy.rows entries
      in_time found at false refused = absurd (no_refusal fault.FutureTick entries tick view poll.answer refused.answered is)
      in_time found at true tells = told found at (nat_le found.feed.base copy.tick) refl tells

      since : (o : Option View) → view_at name old ≡ o → AnswersSince name copy.tick (there fault.NoSuchView o >>= λ v. needs (nat_le copy.tick old.tick) fault.FutureTick >>= λ _. Ok v) old poll.answer poll.entries after
          → CanFollow copy.rows entries
      since None at refused = absurd (no_refusal fault.NoSuchView entries tick view poll.answer refused.answered is)
      since (Some found) at tells = in_time found at (nat_le copy.tick old.tick) tells

      by_rows : ((why : Fault) × IsRefused why old poll.answer poll.entries after) ⊎ Answers poll.line (RowsOf name) old poll.answer poll.entries after → CanFollow copy.rows entries
      by_rows (inl (why, refused)) = absurd (no_refusal why entries tick view poll.answer refused.answered is)
      by_rows (inr shows) = shown (view_at name old) shows

      by_since : ((why : Fault) × IsRefused why old poll.answer poll.entries after) ⊎ Answers poll.line (SinceOf name copy.tick) old poll.answer poll.entries after → CanFollow copy.rows entries
      by_since (inl (why, refused)) = absurd (no_refusal why entries tick view poll.answer refused.answered is)
      by_since (inr tells) = since (view_at name old) refl tells

      from : Asks poll.line (RowsOf name) ⊎ Asks poll.line (SinceOf name copy.tick) → CanFollow copy.rows entries
      from (inl asks) = by_rows (asked_step poll.line (RowsOf name) old poll.answer poll.entries after asks step)
      from (inr asks) = by_since (asked_step poll.line (SinceOf name copy.tick) old poll.answer poll.entries after asks step)
