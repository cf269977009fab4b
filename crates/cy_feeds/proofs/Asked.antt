-- The entries above a tick stand at the end of a feed.
use Rattle.std.proofs.Common.{◌≡◌, ℕ, zero, suc, ◌<◌, ◌≤◌, nat_lt, nat_le, Bool, true, false, cond, List, [], ◌∷◌, ◌++◌, length, get_or, drop, refl, sym, ap, subst, ◌∙◌, arith}
use Rattle.std.specs.List.Sorted.{IsPartitionPoint, IsPartitionedBy}
use Rattle.std.proofs.lemmas.Bool.Decides.{nat_tests}
use Rattle.std.proofs.lemmas.List.{append-nil}
use Rattle.cy_bags.specs.declared.changes.Entry.{Entry}
use Rattle.cy_feeds.specs.declared.feeds.Answer.TheVariants.{Entries, Lagged}
use Rattle.cy_feeds.specs.Feeds.{History, IsRising, answer_since, entries_after}

-- whether an entry is at a tick or below it
abbrev pub is_until : ℕ → Entry → Bool
is_until tick e = nat_le e.tick tick

-- all of a rising list are above where it begins
above_start : (base : ℕ) (es : List Entry) → IsRising base es → (i : ℕ) (d : Entry) → i < length es → base < (get_or es i d).tick
above_start base [] rising i d lt = absurd (omega arith)
above_start base (e ∷ es) rising zero d lt = rising.0
above_start base (e ∷ es) rising (suc i) d lt = omega (arith, rising.0, above_start e.tick es rising.1 i d (omega arith))

rises : (base : ℕ) (es : List Entry) → IsRising base es → (i j : ℕ) (d : Entry) → i ≤ j → j < length es → (get_or es i d).tick ≤ (get_or es j d).tick
rises base [] rising i j d le lt = absurd (omega arith)
rises base (e ∷ es) rising zero zero d le lt = omega arith
rises base (e ∷ es) rising zero (suc j) d le lt = omega (arith, above_start e.tick es rising.1 j d (omega arith))
rises base (e ∷ es) rising (suc i) zero d le lt = absurd (omega arith)
rises base (e ∷ es) rising (suc i) (suc j) d le lt = rises e.tick es rising.1 i j d (omega arith) (omega arith)

pub parted : (base tick : ℕ) (es : List Entry) → IsRising base es → IsPartitionedBy (is_until tick) es
parted base tick es rising i j d le lt until =
    let order : (get_or es i d).tick ≤ (get_or es j d).tick = rises base es rising i j d le lt in
    grind (arith, nat_tests, order, until)

-- a tick that tests find
turned : (tick : ℕ) (e : Entry) → is_until tick e ≡ true → nat_lt tick e.tick ≡ false
turned tick e h = grind (arith, nat_tests)

kept : (tick : ℕ) (e : Entry) → is_until tick e ≡ false → nat_lt tick e.tick ≡ true
kept tick e h = grind (arith, nat_tests)

all_kept : (tick : ℕ) (es : List Entry) → ((i : ℕ) (d : Entry) → i < length es → is_until tick (get_or es i d) ≡ false) → entries_after tick es ≡ es
all_kept tick [] all = refl
all_kept tick (e ∷ es) all = ap (λ b. cond b (e ∷ entries_after tick es) (entries_after tick es)) (kept tick e (all 0 e (omega arith))) ∙ ap (λ (fs : List Entry). e ∷ fs) (all_kept tick es (λ i d lt. all (suc i) d (omega arith)))

pub after_point : (tick start : ℕ) (es : List Entry) → start ≤ length es → ((i : ℕ) (d : Entry) → i < start → is_until tick (get_or es i d) ≡ true) → ((i : ℕ) (d : Entry) → start ≤ i → i < length es → is_until tick (get_or es i d) ≡ false)
    → entries_after tick es ≡ drop start es
after_point tick zero es le low high = all_kept tick es (λ i d lt. high i d (omega arith) lt)
after_point tick (suc start) [] le low high = refl
after_point tick (suc start) (e ∷ es) le low high =
    ap (λ b. cond b (e ∷ entries_after tick es) (entries_after tick es)) (turned tick e (low 0 e (omega arith)))
    ∙ after_point tick start es (omega arith) (λ i d lt. low (suc i) d (omega arith)) (λ i d from lt. high (suc i) d (omega arith) (omega arith))

pub answered : (feed : History) (tick : ℕ) (found : List Entry) → feed.base ≤ tick → found ≡ entries_after tick feed.entries → Entries found ≡ answer_since tick feed
answered feed tick found low is =
    let yes : nat_le feed.base tick ≡ true = grind (arith, nat_tests) in
    ap Entries is ∙ sym (ap (λ b. cond b (Entries (entries_after tick feed.entries)) Lagged) yes)

nothing_left : (at : ℕ) (es : List Entry) → length es ≤ at → drop at es ≡ []
nothing_left zero [] le = refl
nothing_left (suc at) [] le = refl
nothing_left zero (e ∷ es) le = absurd (omega arith)
nothing_left (suc at) (e ∷ es) le = nothing_left at es (omega arith)

-- the entries from the point on are the answer
pub answered_from : (feed : History) (tick start at : ℕ) (found : List Entry) → feed.base ≤ tick → start ≤ length feed.entries → length feed.entries ≤ at → found ++ drop at feed.entries ≡ drop start feed.entries
    → IsPartitionPoint (λ e. is_until tick e ≡ true) (λ e. is_until tick e ≡ false) feed.entries start → Entries found ≡ answer_since tick feed
answered_from feed tick start at found low within over is point =
    let all : found ++ [] ≡ drop start feed.entries = subst (λ (es : List Entry). found ++ es ≡ drop start feed.entries) (nothing_left at feed.entries over) is in
    let same : entries_after tick feed.entries ≡ drop start feed.entries = after_point tick start feed.entries within (λ i d lt. point.0 i d (omega arith) lt) (λ i d from lt. point.1 i d from lt) in
    answered feed tick found low (sym (append-nil found) ∙ all ∙ sym same)
