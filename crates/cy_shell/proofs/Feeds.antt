-- The entries of a line, printed one by one after its answer.
use Rattle.std.proofs.Common.{◌≡◌, ℕ, ◌&&◌, Bool, true, false, List, [], ◌∷◌, ◌++◌, Option, Some, refl, sym, ap, subst, ◌∙◌, append_assoc, inl}
use Rattle.std.proofs.lemmas.List.{append-nil}
use Rattle.cy_values.proofs.Booleans.{and_false, and_true}
use Rattle.cy_engine_lines.specs.Model.{Machine}
use Rattle.cy_engine_lines.specs.KeptStep.{KeptState}
use Rattle.cy_bags.specs.declared.changes.Entry.{Entry}
use Rattle.cy_shell.specs.internal.Feeding.{IsAnswer, WritesFeed, BeginsFeed}
use Rattle.cy_shell.specs.Printed.{printed_line, IsObjectText, IsFeedText, fed}
use Rattle.cy_shell.specs.Replies.{entry_json}
use Rattle.cy_shell.specs.Runs.{Answered, Executed, WritesRun, WritesBeginning}
use Rattle.cy_shell.specs.internal.Serving.{serving}
use Rattle.cy_shell.specs.Streams.{appended}
use Rattle.cy_shell.specs.internal.Writing.{AppendsFront}
use Rattle.cy_shell.proofs.Appends.{appended-nil, appended-appended}
use Rattle.cy_shell.proofs.Chains.{one_line, one_line_begun}

abbrev Entries : Type 0
Entries = List (List ℕ × Entry)

-- entries can be printed in some way
some_feed : (es : Entries) → (text : List ℕ) × IsFeedText es text
some_feed [] = ([], refl)
some_feed (e ∷ es) = let more = some_feed es in (printed_line (entry_json e) ++ more.0, (printed_line (entry_json e), more.0, refl, inl refl, more.1))

-- the texts of the entries up to those that are left were written
pub record FedSoFar (entries left : Entries) (before now : Option (List ℕ)) : Type 0 where
  pub text : List ℕ
  pub is : now ≡ appended before text
  pub goes_on : (rest : List ℕ) → IsFeedText left rest → IsFeedText entries (text ++ rest)

pub fed_first : (entries : Entries) (known : Option (List ℕ)) → FedSoFar entries entries known known
fed_first entries known = record { text = []; is = appended-nil known; goes_on = λ rest entry_texts. entry_texts }

pub fed_more : (entries left rest : Entries) (e : List ℕ × Entry) (before mid after : Option (List ℕ)) (text : List ℕ) → left ≡ e ∷ rest → FedSoFar entries left before mid
    → IsObjectText (Some (entry_json e)) text → after ≡ appended mid text → FedSoFar entries rest before after
fed_more entries left rest e before mid after text next so_far object is = record {
  text = so_far.text ++ text;
  is = is ∙ ap (λ k. appended k text) so_far.is ∙ appended-appended before so_far.text text;
  goes_on = λ more entry_texts. subst (IsFeedText entries) (sym (append_assoc so_far.text text more))
      (so_far.goes_on (text ++ more) (subst (λ (es : Entries). IsFeedText es (text ++ more)) (sym next) (text, more, refl, object, entry_texts)));
}

pub fed_all : (entries left : Entries) (before now : Option (List ℕ)) → left ≡ [] → FedSoFar entries left before now → WritesFeed entries before now
fed_all entries left before now none so_far = record {
  text = so_far.text;
  entry_texts = subst (IsFeedText entries) (append-nil so_far.text) (so_far.goes_on [] (subst (λ (es : Entries). IsFeedText es []) (sym none) refl));
  is = so_far.is;
}

pub fed_begun : (entries left rest : Entries) (e : List ℕ × Entry) (before mid after : Option (List ℕ)) (text : List ℕ) → left ≡ e ∷ rest → FedSoFar entries left before mid
    → IsObjectText (Some (entry_json e)) text → AppendsFront mid after text → BeginsFeed entries before after
fed_begun entries left rest e before mid after text next so_far object front =
    let more = some_feed rest in
    let whole : (so_far.text ++ front.front) ++ (front.rest ++ more.0) ≡ so_far.text ++ (text ++ more.0) =
    append_assoc so_far.text front.front (front.rest ++ more.0) ∙ ap (λ t. so_far.text ++ t) (sym (append_assoc front.front front.rest more.0) ∙ ap (λ t. t ++ more.0) (sym front.whole)) in
    record {
      text = so_far.text ++ front.front;
      unwritten = front.rest ++ more.0;
      entry_texts = subst (IsFeedText entries) (sym whole) (so_far.goes_on (text ++ more.0) (subst (λ (es : Entries). IsFeedText es (text ++ more.0)) (sym next) (text, more.0, refl, object, more.1)));
      is = front.is ∙ ap (λ k. appended k front.front) so_far.is ∙ appended-appended before so_far.text front.front;
    }

-- ---- a line

-- an answer that is executed, and its entries as they are fed
carried_line : (old : KeptState) (line printed entry_texts : List ℕ) (new : Machine) (feed : Bool) → IsAnswer old line printed true new → IsFeedText (fed feed new.entries) entry_texts
    → Answered (record { engine = old; feed = feed }) line (printed ++ entry_texts) (serving new feed)
carried_line old line printed entry_texts new feed answer feeds =
    Executed answer.2.0 new.entries answer.0 answer.1 answer.2.1 refl (record { answer = printed; entry_texts = entry_texts; is = refl; answered = answer.2.2; feeds = feeds })

pub line_served : (old : KeptState) (line printed : List ℕ) (is_executed : Bool) (new : Machine) (feed : Bool) (before mid after : Option (List ℕ)) → IsAnswer old line printed is_executed new
    → mid ≡ appended before printed → (list : Entries) → list ≡ fed (feed && is_executed) new.entries → WritesFeed list mid after
    → WritesRun (record { engine = old; feed = feed }) (line ∷ []) (serving new feed) before after
line_served old line printed true new feed before mid after answer is list same written =
    let entry_texts = subst (λ (b : Bool). IsFeedText (fed b new.entries) written.text) (and_true feed) (subst (λ (es : Entries). IsFeedText es written.text) same written.entry_texts) in
    one_line _ _ line (printed ++ written.text) before after (carried_line old line printed written.text new feed answer entry_texts)
    (written.is ∙ ap (λ k. appended k written.text) is ∙ appended-appended before printed written.text)
line_served old line printed false new feed before mid after answer is list same written =
    let none : written.text ≡ [] = subst (λ (b : Bool). IsFeedText (fed b new.entries) written.text) (and_false feed) (subst (λ (es : Entries). IsFeedText es written.text) same written.entry_texts) in
    one_line _ _ line printed before after (answer feed) (written.is ∙ ap (appended mid) none ∙ sym (appended-nil mid) ∙ is)

pub line_begun : (old : KeptState) (line printed : List ℕ) (is_executed : Bool) (new : Machine) (feed : Bool) (before after : Option (List ℕ)) → IsAnswer old line printed is_executed new
    → AppendsFront before after printed → WritesBeginning (record { engine = old; feed = feed }) (line ∷ []) before after
line_begun old line printed true new feed before after answer front =
    let more = some_feed (fed feed new.entries) in
    one_line_begun _ _ line (printed ++ more.0) before after (carried_line old line printed more.0 new feed answer more.1)
    (record { front = front.front; rest = front.rest ++ more.0; whole = ap (λ t. t ++ more.0) front.whole ∙ append_assoc front.front front.rest more.0; is = front.is })
line_begun old line printed false new feed before after answer front = one_line_begun _ _ line printed before after (answer feed) front

pub line_feeding : (old : KeptState) (line printed : List ℕ) (is_executed : Bool) (new : Machine) (feed : Bool) (before mid after : Option (List ℕ)) → IsAnswer old line printed is_executed new
    → mid ≡ appended before printed → (list : Entries) → list ≡ fed (feed && is_executed) new.entries → BeginsFeed list mid after
    → WritesBeginning (record { engine = old; feed = feed }) (line ∷ []) before after
line_feeding old line printed true new feed before mid after answer is list same begun =
    let entry_texts = subst (λ (b : Bool). IsFeedText (fed b new.entries) (begun.text ++ begun.unwritten)) (and_true feed) (subst (λ (es : Entries). IsFeedText es (begun.text ++ begun.unwritten)) same begun.entry_texts) in
    one_line_begun _ _ line (printed ++ (begun.text ++ begun.unwritten)) before after (carried_line old line printed (begun.text ++ begun.unwritten) new feed answer entry_texts)
    (record {
      front = printed ++ begun.text;
      rest = begun.unwritten;
      whole = sym (append_assoc printed begun.text begun.unwritten);
      is = begun.is ∙ ap (λ k. appended k begun.text) is ∙ appended-appended before printed begun.text;
    })
line_feeding old line printed false new feed before mid after answer is list same begun =
    let none : begun.text ++ begun.unwritten ≡ [] = subst (λ (b : Bool). IsFeedText (fed b new.entries) (begun.text ++ begun.unwritten)) (and_false feed) (subst (λ (es : Entries). IsFeedText es (begun.text ++ begun.unwritten)) same begun.entry_texts) in
    let nothing : begun.text ≡ [] = first_nil begun.text begun.unwritten none in
    one_line_begun _ _ line printed before after (answer feed)
    (record { front = printed; rest = []; whole = sym (append-nil printed); is = begun.is ∙ ap (appended mid) nothing ∙ sym (appended-nil mid) ∙ is })
  where
    first_nil : (a b : List ℕ) → a ++ b ≡ [] → a ≡ []
    first_nil [] b e = refl
    first_nil (x ∷ xs) b e = cc
