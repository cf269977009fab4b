-- Where lines are cut.
use Rattle.std.proofs.Common.{◌≡◌, ℕ, suc, ◌+◌, ◌≤◌, ◌<◌, ◌==◌, List, [], ◌∷◌, ◌++◌, length, take, drop, Bool, true, false, cond, subst, Some, None, refl, sym, ◌∙◌, ap, append_assoc, arith}
use Rattle.std.proofs.lemmas.Bool.{ltb-true, ltb-false}
use Rattle.std.proofs.lemmas.List.{append-nil}
use Rattle.std.proofs.lemmas.Option.{cond_some}
use Rattle.std.specs.List.{position, position_or_len}
use Rattle.cy_shell.specs.Lines.{line_feed, ended_lines, begun_line}

abbrev pub is_end : ℕ → Bool
is_end c = c == line_feed

-- lines in a longer text
ended_at : (b : Bool) (begun : List ℕ) (x : ℕ) (xs ys : List ℕ) → is_end x ≡ b
    → ((line : List ℕ) → ended_lines line (xs ++ ys) ≡ ended_lines line xs ++ ended_lines (begun_line line xs) ys)
    → ended_lines begun (x ∷ (xs ++ ys)) ≡ ended_lines begun (x ∷ xs) ++ ended_lines (begun_line begun (x ∷ xs)) ys
ended_at true begun x xs ys e more = rw e (ap (λ ls. begun ∷ ls) (more []))
ended_at false begun x xs ys e more = rw e (more (begun ++ x ∷ []))

pub ended-append : (begun xs ys : List ℕ) → ended_lines begun (xs ++ ys) ≡ ended_lines begun xs ++ ended_lines (begun_line begun xs) ys
ended-append begun [] ys = refl
ended-append begun (x ∷ xs) ys = ended_at (is_end x) begun x xs ys refl (λ line. ended-append line xs ys)

begun_at : (b : Bool) (begun : List ℕ) (x : ℕ) (xs ys : List ℕ) → is_end x ≡ b
    → ((line : List ℕ) → begun_line line (xs ++ ys) ≡ begun_line (begun_line line xs) ys)
    → begun_line begun (x ∷ (xs ++ ys)) ≡ begun_line (begun_line begun (x ∷ xs)) ys
begun_at true begun x xs ys e more = rw e (more [])
begun_at false begun x xs ys e more = rw e (more (begun ++ x ∷ []))

pub begun-append : (begun xs ys : List ℕ) → begun_line begun (xs ++ ys) ≡ begun_line (begun_line begun xs) ys
begun-append begun [] ys = refl
begun-append begun (x ∷ xs) ys = begun_at (is_end x) begun x xs ys refl (λ line. begun-append line xs ys)

-- a line ends at this index
pub record EndsAt (begun xs : List ℕ) (at : ℕ) : Type 0 where
  pub within : at < length xs
  pub ended : ended_lines begun xs ≡ (begun ++ take at xs) ∷ ended_lines [] (drop (suc at) xs)
  pub begun_next : begun_line begun xs ≡ begun_line [] (drop (suc at) xs)

-- no line ends
pub record EndsNowhere (begun xs : List ℕ) : Type 0 where
  pub ended : ended_lines begun xs ≡ []
  pub begun_more : begun_line begun xs ≡ begun ++ xs

one_more : (n : ℕ) → 1 + n ≡ suc n
one_more n = omega arith

ends_at_front : (b : Bool) (begun : List ℕ) (x : ℕ) (xs : List ℕ) → is_end x ≡ b → position_or_len is_end (x ∷ xs) < length (x ∷ xs)
    → ((line : List ℕ) → position_or_len is_end xs < length xs → EndsAt line xs (position_or_len is_end xs))
    → EndsAt begun (x ∷ xs) (position_or_len is_end (x ∷ xs))
ends_at_front true begun x xs e within more = rw e (record {
  within = omega arith;
  ended = rw e (ap (λ line. line ∷ ended_lines [] xs) (sym (append-nil begun)));
  begun_next = rw e refl;
})
ends_at_front false begun x xs e within more =
    let next : EndsAt (begun ++ x ∷ []) xs (position_or_len is_end xs) = more (begun ++ x ∷ []) (let w = rw e at within in omega (arith, w)) in
    rw (e, one_more) (record {
      within = let w = rw e at within in omega (arith, w);
      ended = rw e (next.ended ∙ ap (λ line. line ∷ ended_lines [] (drop (suc (position_or_len is_end xs)) xs)) (append_assoc begun (x ∷ []) _));
      begun_next = rw e next.begun_next;
    })

ends_at_position : (begun xs : List ℕ) → position_or_len is_end xs < length xs → EndsAt begun xs (position_or_len is_end xs)
ends_at_position begun [] within = absurd (omega arith)
ends_at_position begun (x ∷ xs) within = ends_at_front (is_end x) begun x xs refl within (λ line. ends_at_position line xs)

pub ends_at : (begun xs : List ℕ) (at : ℕ) → position is_end xs ≡ Some at → EndsAt begun xs at
ends_at begun xs at is =
    let parts = cond_some _ _ _ is in
    subst (EndsAt begun xs) parts.1 (ends_at_position begun xs (ltb-true _ _ parts.0))

nowhere_front : (b : Bool) (begun : List ℕ) (x : ℕ) (xs : List ℕ) → is_end x ≡ b → length (x ∷ xs) ≤ position_or_len is_end (x ∷ xs)
    → ((line : List ℕ) → length xs ≤ position_or_len is_end xs → EndsNowhere line xs) → EndsNowhere begun (x ∷ xs)
nowhere_front true begun x xs e past more = absurd (let p = rw e at past in omega (arith, p))
nowhere_front false begun x xs e past more =
    let next : EndsNowhere (begun ++ x ∷ []) xs = more (begun ++ x ∷ []) (let p = rw e at past in omega (arith, p)) in record {
      ended = rw e next.ended;
      begun_more = rw e (next.begun_more ∙ append_assoc begun (x ∷ []) xs);
    }

nowhere_past : (begun xs : List ℕ) → length xs ≤ position_or_len is_end xs → EndsNowhere begun xs
nowhere_past begun [] past = record { ended = refl; begun_more = sym (append-nil begun) }
nowhere_past begun (x ∷ xs) past = nowhere_front (is_end x) begun x xs refl past (λ line. nowhere_past line xs)

cond_none : (b : Bool) (n : ℕ) → cond b (Some n) None ≡ None → b ≡ false
cond_none true n is = cc
cond_none false n is = refl

pub ends_nowhere : (begun xs : List ℕ) → position is_end xs ≡ None → EndsNowhere begun xs
ends_nowhere begun xs is = nowhere_past begun xs (ltb-false _ _ (cond_none _ _ is))
