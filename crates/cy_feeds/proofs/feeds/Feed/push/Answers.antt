use Rattle.std.proofs.Common.{◌≤◌, ◌<◌, ℕ, arith, sym, subst, deque_capacity, deque_len}
use Rattle.cy_feeds.specs.declared.feeds.Feed.TheInside.{Inside}
use Rattle.cy_feeds.specs.Feeds.{IsRising, latest}
use Rattle.cy_feeds.proofs.Pushes.{fewer, latest_tail, rising_more, rising_tail}
use Rattle.cy_feeds.proofs.feeds.Feed.push.Goals as goal
use Rattle.cy_feeds.proofs.feeds.Feed.push.Goals.{then-len-self+in-Some, then-len-self+in_default, else-len-self}

-- there is room for an entry of this tick
abbrev IsOpen : ℕ → Inside → Type 0
IsOpen tick f = (1 ≤ f.history) × (deque_capacity f.entries ≤ f.history) × (deque_len f.entries < deque_capacity f.entries) × IsRising f.base f.entries.items × (latest f.base f.entries.items < tick)

pub invariant_of-self : goal.invariant_of-self
invariant_of-self c =
    let kept = c.self.inside in
    let now = c.if-len-self.self-inside in
    let tick = c.args.entry.tick in
    let reserved = rw (← c.self.view_is) at c.requires.reserved in
    let above = rw (← c.self.view_is) at c.requires.rising in
    let rising = c.self.invariant.2 in
    let ready : IsOpen tick now = elim c.if-len-self.branch [
      | then-len-self+in-Some w ↦
          let fewer_now = fewer w.pop_front.result (deque_len kept.entries) (deque_len w.pop_front.new.self) w.pop_front.ensures.cases (omega (arith, w.if-len-self.true, c.len.ensures, c.self.invariant.0)) in
          let rises = rw w.in-Some.ensures.items at rising in
          let latest_is = rw w.in-Some.ensures.items at above in
          subst (IsOpen tick) (sym w.self-inside-is)
          (c.self.invariant.0, omega (arith, w.pop_front.ensures.capacity, c.self.invariant.1), omega (arith, w.pop_front.ensures.capacity, fewer_now, reserved, w.if-len-self.true, c.len.ensures, kept.entries.ok.0), rises.1, latest_is)
      | then-len-self+in_default w ↦
          let fewer_now = fewer w.pop_front.result (deque_len kept.entries) (deque_len w.pop_front.new.self) w.pop_front.ensures.cases (omega (arith, w.if-len-self.true, c.len.ensures, c.self.invariant.0)) in
          subst (IsOpen tick) (sym w.self-inside-is) (
            c.self.invariant.0,
            omega (arith, w.pop_front.ensures.capacity, c.self.invariant.1),
            omega (arith, w.pop_front.ensures.capacity, fewer_now, reserved, w.if-len-self.true, c.len.ensures, kept.entries.ok.0),
            rw w.pop_front.ensures.rest (rising_tail kept.base kept.entries.items rising),
            rw w.pop_front.ensures.rest (latest_tail kept.base tick kept.entries.items rising above),
          )
      | else-len-self w ↦
          subst (IsOpen tick) (sym w.self-inside-is)
          (c.self.invariant.0, c.self.invariant.1, omega (arith, reserved, w.if-len-self.false, c.len.ensures, kept.entries.ok.0, kept.entries.small.1, c.self.invariant.1), rising, above)
    ] in
    let items = rw c.unwrap.ensures at c.push_back.ensures.items in
    (ready.0, omega (arith, ready.1, c.push_back.ensures.in_place ready.2), rw items (rising_more now.base now.entries.items c.args.entry ready.3 ready.4))
