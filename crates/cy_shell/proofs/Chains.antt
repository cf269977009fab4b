-- Printed runs, one after another.
use Rattle.std.proofs.Common.{◌≡◌, ℕ, ◌≤◌, List, [], ◌∷◌, ◌++◌, length, Option, Result, Ok, Err, Bool, true, false, refl, sym, ◌∙◌, ap, subst, append_assoc, inl, inr}
use Rattle.std.proofs.lemmas.Bool.{leb-true, leb-false}
use Rattle.std.proofs.lemmas.List.{append-nil}
use lib.Dec.{leb}
use Rattle.std.proofs.lemmas.Str.{IsUtf8-from_is_utf8, is_utf8-from_IsUtf8}
use Rattle.std.specs.Str.{IsUtf8, is_utf8}
use Rattle.cy_lexer.specs.declared.faults.LexFault.{LexFault}
use Rattle.cy_lexer.specs.declared.tokens.Token.{Token}
use Rattle.cy_lexer.specs.Tokens.{tokens_of}
use Rattle.cy_engine_lines.specs.declared.faults.Fault.TheVariants as fault
use Rattle.cy_shell.specs.Lines.{line_limit}
use Rattle.cy_shell.specs.Printed.{no_memory_text, IsAnswerText, IsFeedText, IsLineText, fed}
use Rattle.cy_engine_lines.specs.declared.faults.Fault.{Fault}
use Rattle.cy_engine_lines.specs.declared.replies.Reply.{Reply}
use Rattle.cy_engine_lines.specs.declared.replies.Reply.TheVariants as reply
use Rattle.cy_engine_lines.specs.EngineStep.{Lexed}
use Rattle.cy_shell.specs.Runs.{Serving, Answered, TooLong, NotUtf8, Executed, PrintedRun, WritesRun, WritesBeginning}
use Rattle.cy_shell.specs.Streams.{appended}
use Rattle.cy_shell.specs.internal.Writing.{AppendsFront}
use Rattle.cy_shell.proofs.Appends.{appended-nil, appended-appended}

pub run_append : (old mid new : Serving) (xs ys : List (List ℕ)) (a b : List ℕ) → PrintedRun old xs a mid → PrintedRun mid ys b new → PrintedRun old (xs ++ ys) (a ++ b) new
run_append old mid new [] ys a b left right = subst (λ t. PrintedRun old ys t new) (ap (λ t. t ++ b) (sym left.0)) (subst (λ s. PrintedRun s ys b new) left.1 right)
run_append old mid new (x ∷ xs) ys a b (next, first, rest, is, answered, run) right =
    (next, first, rest ++ b, ap (λ t. t ++ b) is ∙ append_assoc first rest b, answered, run_append next mid new xs ys rest b run right)

run_one : (old new : Serving) (line text : List ℕ) → Answered old line text new → PrintedRun old (line ∷ []) text new
run_one old new line text answered = (new, text, [], sym (append-nil text), answered, (refl, refl))

-- Every line may be answered so that the engine stays as it is.
abbrev HasAnswer : Serving → List ℕ → Type 0
HasAnswer state line = (text : List ℕ) × Answered state line text state

nothing_fed : (feed : Bool) → IsFeedText (fed feed []) []
nothing_fed true = refl
nothing_fed false = refl

-- without entries, the text of the answer is that of the line
no_feed : (feed : Bool) (result : Result Reply Fault) (text : List ℕ) → IsAnswerText result text → IsLineText feed result [] text
no_feed feed result text answered = record { answer = text; entry_texts = []; is = sym (append-nil text); answered = answered; feeds = nothing_fed feed }

-- being out of memory may refuse it, unless it has no tokens
left_answer : (state : Serving) (line : List ℕ) → length line ≤ line_limit → IsUtf8 line → HasAnswer state line
left_answer state line short utf8 = from (tokens_of line) refl
  where
    refused : (tokens_of line ≡ Ok [] → ⊥) → HasAnswer state line
    refused some =
        (no_memory_text, Executed (Err fault.NoMemory) [] short utf8 (record { step = inl (fault.NoMemory, inl (refl, short, some), record { answered = refl; no_entries = refl; state = refl }); upkeep = refl }) refl (no_feed state.feed (Err fault.NoMemory) no_memory_text (inr refl)))

    from : (lexed : Result (List Token) LexFault) → tokens_of line ≡ lexed → HasAnswer state line
    from (Err why) is = refused (λ none. let wrong : (let r : Result (List Token) LexFault = Err why in r) ≡ Ok [] = sym is ∙ none in cc)
    from (Ok (t ∷ ts)) is = refused (λ none. let wrong : (let r : Result (List Token) LexFault = Ok (t ∷ ts) in r) ≡ Ok [] = sym is ∙ none in cc)
    from (Ok []) is = (
      [],
      Executed (Ok reply.Nothing) [] short utf8
          (record { step = inr (subst (λ (r : Result (List Token) LexFault). Lexed line r state.engine.engine (Ok reply.Nothing) [] state.engine.engine) (sym is) (record { answered = refl; no_entries = refl; state = refl })); upkeep = refl }) refl
          (no_feed state.feed (Ok reply.Nothing) [] refl),
    )

short_answer : (state : Serving) (line : List ℕ) → length line ≤ line_limit → (b : Bool) → is_utf8 line ≡ b → HasAnswer state line
short_answer state line short true is = left_answer state line short (IsUtf8-from_is_utf8 line is)
short_answer state line short false is =
    (no_memory_text, NotUtf8 short (λ utf8. let opposite : true ≡ false = sym (is_utf8-from_IsUtf8 line utf8) ∙ is in cc) (inr refl))

some_answer_at : (state : Serving) (line : List ℕ) (b : Bool) → leb (length line) line_limit ≡ b → HasAnswer state line
some_answer_at state line true is = short_answer state line (leb-true _ _ is) (is_utf8 line) refl
some_answer_at state line false is = (no_memory_text, TooLong (leb-false _ _ is) (inr refl))

some_answer : (state : Serving) (line : List ℕ) → HasAnswer state line
some_answer state line = some_answer_at state line (leb (length line) line_limit) refl

some_run : (state : Serving) (lines : List (List ℕ)) → (text : List ℕ) × PrintedRun state lines text state
some_run state [] = ([], (refl, refl))
some_run state (line ∷ lines) =
    let first = some_answer state line in
    let more = some_run state lines in
    (first.0 ++ more.0, (state, first.0, more.0, refl, first.1, more.1))

pub no_lines : (state : Serving) (known : Option (List ℕ)) → WritesRun state [] state known known
no_lines state known = record { text = []; run = (refl, refl); is = appended-nil known }

pub one_line : (old new : Serving) (line text : List ℕ) (before after : Option (List ℕ)) → Answered old line text new → after ≡ appended before text → WritesRun old (line ∷ []) new before after
one_line old new line text before after answered is = record { text = text; run = run_one old new line text answered; is = is }

pub one_line_begun : (old new : Serving) (line text : List ℕ) (before after : Option (List ℕ)) → Answered old line text new → AppendsFront before after text → WritesBeginning old (line ∷ []) before after
one_line_begun old new line text before after answered front = record {
  text = front.front;
  unwritten = front.rest;
  new = new;
  run = subst (λ t. PrintedRun old (line ∷ []) t new) front.whole (run_one old new line text answered);
  is = front.is;
}

pub more_lines : (old mid new : Serving) (xs ys : List (List ℕ)) (before between after : Option (List ℕ))
    → WritesRun old xs mid before between → WritesRun mid ys new between after → WritesRun old (xs ++ ys) new before after
more_lines old mid new xs ys before between after left right = record {
  text = left.text ++ right.text;
  run = run_append old mid new xs ys left.text right.text left.run right.run;
  is = right.is ∙ ap (λ k. appended k right.text) left.is ∙ appended-appended before left.text right.text;
}

pub breaks_later : (old mid : Serving) (xs ys : List (List ℕ)) (before between after : Option (List ℕ))
    → WritesRun old xs mid before between → WritesBeginning mid ys between after → WritesBeginning old (xs ++ ys) before after
breaks_later old mid xs ys before between after left right = record {
  text = left.text ++ right.text;
  unwritten = right.unwritten;
  new = right.new;
  run = subst (λ t. PrintedRun old (xs ++ ys) t right.new) (sym (append_assoc left.text right.text right.unwritten))
      (run_append old mid right.new xs ys left.text (right.text ++ right.unwritten) left.run right.run);
  is = right.is ∙ ap (λ k. appended k right.text) left.is ∙ appended-appended before left.text right.text;
}

-- whatever lines come later
pub breaks_before : (old : Serving) (xs ys : List (List ℕ)) (before after : Option (List ℕ)) → WritesBeginning old xs before after → WritesBeginning old (xs ++ ys) before after
breaks_before old xs ys before after broken =
    let more = some_run broken.new ys in record {
      text = broken.text;
      unwritten = broken.unwritten ++ more.0;
      new = broken.new;
      run = subst (λ t. PrintedRun old (xs ++ ys) t broken.new) (append_assoc broken.text broken.unwritten more.0)
          (run_append old broken.new broken.new xs ys (broken.text ++ broken.unwritten) more.0 broken.run more.1);
      is = broken.is;
    }
