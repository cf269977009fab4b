-- How far a piece of the input is served.
use Rattle.std.proofs.Common.{◌≡◌, ℕ, suc, List, [], ◌∷◌, ◌++◌, take, drop, Option, Some, None, refl, sym, ◌∙◌, ap, subst, append_assoc}
use Rattle.std.proofs.lemmas.List.{append-nil}
use Rattle.std.specs.List.{position}
use Rattle.cy_shell.specs.Lines.{ended_lines, begun_line}
use Rattle.cy_shell.specs.internal.Lines.{buffered}
use Rattle.cy_shell.specs.Runs.{Serving, WritesRun, WritesBeginning}
use Rattle.cy_shell.proofs.Chains.{no_lines, more_lines, breaks_later, breaks_before}
use Rattle.cy_shell.proofs.Cuts.{is_end, EndsAt, ends_at, ends_nowhere}

-- the lines that have ended in a piece are answered, up to this rest of it
pub record Served (begun piece : List ℕ) (start : Serving) (line : Option (List ℕ)) (rest : List ℕ) (engine : Serving) (before after : Option (List ℕ)) : Type 0 where
  pub now : List ℕ
  pub lines : List (List ℕ)
  pub keeps : line ≡ buffered now
  pub ended : ended_lines begun piece ≡ lines ++ ended_lines now rest
  pub next : begun_line begun piece ≡ begun_line now rest
  pub written : WritesRun start lines engine before after

pub served_first : (begun piece : List ℕ) (engine : Serving) (line : Option (List ℕ)) (known : Option (List ℕ)) → line ≡ buffered begun → Served begun piece engine line piece engine known known
served_first begun piece engine line known keeps = record {
  now = begun;
  lines = [];
  keeps = keeps;
  ended = refl;
  next = refl;
  written = no_lines engine known;
}

ended_one_more : (begun piece now rest : List ℕ) (lines : List (List ℕ)) (at : ℕ) → ended_lines begun piece ≡ lines ++ ended_lines now rest → EndsAt now rest at
    → ended_lines begun piece ≡ (lines ++ (now ++ take at rest) ∷ []) ++ ended_lines [] (drop (suc at) rest)
ended_one_more begun piece now rest lines at ended end =
    ended ∙ ap (λ ls. lines ++ ls) end.ended ∙ sym (append_assoc lines ((now ++ take at rest) ∷ []) (ended_lines [] (drop (suc at) rest)))

-- one more line
pub served_more : (begun piece : List ℕ) (start mid new : Serving) (line line' : Option (List ℕ)) (rest rest' : List ℕ) (at : ℕ) (before between after : Option (List ℕ))
    → Served begun piece start line rest mid before between → position is_end rest ≡ Some at → rest' ≡ drop (suc at) rest
    → ((now : List ℕ) → line ≡ buffered now → WritesRun mid ((now ++ take at rest) ∷ []) new between after) → line' ≡ buffered []
    → Served begun piece start line' rest' new before after
served_more begun piece start mid new line line' rest rest' at before between after served is behind answered keeps =
    let end = ends_at served.now rest at is in record {
      now = [];
      lines = served.lines ++ (served.now ++ take at rest) ∷ [];
      keeps = keeps;
      ended = ended_one_more begun piece served.now rest served.lines at served.ended end
          ∙ ap (λ bytes. (served.lines ++ (served.now ++ take at rest) ∷ []) ++ ended_lines [] bytes) (sym behind);
      next = served.next ∙ end.begun_next ∙ ap (begun_line []) (sym behind);
      written = more_lines start mid new served.lines ((served.now ++ take at rest) ∷ []) before between after served.written (answered served.now served.keeps);
    }

-- one line that was broken off
pub served_broken : (begun piece : List ℕ) (start mid : Serving) (line : Option (List ℕ)) (rest : List ℕ) (at : ℕ) (before between after : Option (List ℕ))
    → Served begun piece start line rest mid before between → position is_end rest ≡ Some at
    → ((now : List ℕ) → line ≡ buffered now → WritesBeginning mid ((now ++ take at rest) ∷ []) between after)
    → WritesBeginning start (ended_lines begun piece) before after
served_broken begun piece start mid line rest at before between after served is answered =
    let end = ends_at served.now rest at is in
    let lines = served.lines ++ (served.now ++ take at rest) ∷ [] in
    subst (λ ls. WritesBeginning start ls before after) (sym (ended_one_more begun piece served.now rest served.lines at served.ended end))
    (breaks_before start lines (ended_lines [] (drop (suc at) rest)) before after
    (breaks_later start mid served.lines ((served.now ++ take at rest) ∷ []) before between after served.written (answered served.now served.keeps)))

-- no line ends in the rest
pub served_last_line : (begun piece : List ℕ) (start engine : Serving) (line line' : Option (List ℕ)) (rest : List ℕ) (before after : Option (List ℕ))
    → Served begun piece start line rest engine before after → position is_end rest ≡ None
    → ((now : List ℕ) → line ≡ buffered now → line' ≡ buffered (now ++ rest)) → line' ≡ buffered (begun_line begun piece)
served_last_line begun piece start engine line line' rest before after served is grows =
    let none = ends_nowhere served.now rest is in
    grows served.now served.keeps ∙ ap buffered (sym (served.next ∙ none.begun_more))

pub served_all : (begun piece : List ℕ) (start engine : Serving) (line : Option (List ℕ)) (rest : List ℕ) (before after : Option (List ℕ))
    → Served begun piece start line rest engine before after → position is_end rest ≡ None
    → WritesRun start (ended_lines begun piece) engine before after
served_all begun piece start engine line rest before after served is =
    let none = ends_nowhere served.now rest is in
    subst (λ ls. WritesRun start ls engine before after) (sym (served.ended ∙ ap (λ ls. served.lines ++ ls) none.ended ∙ append-nil served.lines)) served.written
