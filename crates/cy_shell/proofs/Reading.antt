-- How far an input is read and served.
use Rattle.std.proofs.Common.{◌≡◌, ℕ, ◌+◌, ◌-◌, ◌≤◌, ◌<◌, List, [], ◌∷◌, ◌++◌, length, take, drop, Bool, true, Option, Some, None, IfSome, Result, Ok, Err, IfOk, refl, sym, ◌∙◌, ap, subst, append_assoc, ◌⊎◌, inl, inr, arith, length-drop}
use Rattle.std.proofs.lemmas.List.{append-nil, take-append-drop, take_all, take-append-le, drop-append-le, drop-drop, length-take-le}
use Rattle.std.proofs.Math.Seq.{take-add}
use Rattle.cy_shell.specs.Lines.{ended_lines, begun_line, whole_lines, last_line, unless_empty, lines_of, lines_after}
use Rattle.cy_shell.specs.internal.Lines.{buffered}
use Rattle.cy_shell.specs.Runs.{Serving, WritesRun, WritesBeginning, WritesAll, input_limit, StopsReading, StopsWriting}
use Rattle.cy_shell.specs.Streams.{Extends, TakesFront}
use Rattle.cy_shell.proofs.Chains.{more_lines}
use Rattle.cy_shell.proofs.Cuts.{ended-append, begun-append}

-- this many bytes of the input are read, and the lines that have ended in them are answered
pub record Reads (input : List ℕ) (total : ℕ) (start : Serving) (left line : Option (List ℕ)) (engine : Serving) (before after : Option (List ℕ)) : Type 0 where
  pub within : total ≤ length input
  pub unread : left ≡ Some (drop total input)
  pub keeps : line ≡ buffered (last_line (take total input))
  pub written : WritesRun start (whole_lines (take total input)) engine before after

pub known_input : (left : Option (List ℕ)) {P : List ℕ → Type 0} → ((input : List ℕ) → left ≡ Some input → P input) → IfSome left P
known_input None each = tt
known_input (Some input) each = each input refl

-- a read into the front of a piece is one into the piece
front_taken : (left after : Option (List ℕ)) (old_piece piece : List ℕ) (most count : ℕ) → 0 < most → most ≤ length old_piece → count ≤ length (take most old_piece)
    → TakesFront left after (take most old_piece) piece count → TakesFront left after old_piece (piece ++ drop most old_piece) count
front_taken None after old_piece piece most count some fits within taken = taken
front_taken (Some left) after old_piece piece most count some fits within taken =
    let moved = taken.0 in
    let size : length (take most old_piece) ≡ most = length-take-le most old_piece fits in (
      record {
        within = moved.within;
        piece = ap (λ bytes. bytes ++ drop most old_piece) moved.piece
            ∙ append_assoc (take count left) (drop count (take most old_piece)) (drop most old_piece)
            ∙ ap (λ bytes. take count left ++ bytes) (sym (drop-append-le count (take most old_piece) (drop most old_piece) within)
            ∙ ap (drop count) (take-append-drop most old_piece));
        end = λ none _. moved.end none (omega (arith, size, some));
      },
      taken.1,
    )

-- the same whatever the outcome
pub takes_into_front : {E : Type 0} (r : Result ℕ E) (left after : Option (List ℕ)) (old_piece piece : List ℕ) (most : ℕ) → 0 < most → most ≤ length old_piece
    → IfOk r (λ count. count ≤ length (take most old_piece)) → IfOk r (λ count. TakesFront left after (take most old_piece) piece count)
    → IfOk r (λ count. TakesFront left after old_piece (piece ++ drop most old_piece) count)
takes_into_front (Ok count) left after old_piece piece most some fits within taken = front_taken left after old_piece piece most count some fits within taken
takes_into_front (Err e) left after old_piece piece most some fits within taken = tt

known_same : (taken : Option (List ℕ)) (a b : List ℕ) → a ≡ b → IfSome taken (λ bytes. bytes ≡ a) → IfSome taken (λ bytes. bytes ≡ b)
known_same taken a b same is = subst (λ bytes. IfSome taken (λ t. t ≡ bytes)) same is

-- so is what it took
pub took_into_front : {E : Type 0} (r : Result ℕ E) (taken : Option (List ℕ)) (old_piece piece : List ℕ) (most : ℕ) → most ≤ length old_piece → length piece ≡ length (take most old_piece)
    → IfOk r (λ count. count ≤ length (take most old_piece)) → IfOk r (λ count. IfSome taken (λ bytes. bytes ≡ take count piece)) → IfOk r (λ count. IfSome taken (λ bytes. bytes ≡ take count (piece ++ drop most old_piece)))
took_into_front (Ok count) taken old_piece piece most fits long within took =
    known_same taken (take count piece) (take count (piece ++ drop most old_piece)) (sym (take-append-le count piece (drop most old_piece) (omega (arith, within, long)))) took
took_into_front (Err e) taken old_piece piece most fits long within took = tt

-- what one read takes of the input
pub record Takes (input : List ℕ) (total count : ℕ) (left : Option (List ℕ)) (piece : List ℕ) : Type 0 where
  pub within : total + count ≤ length input
  pub unread : left ≡ Some (drop (total + count) input)
  pub piece_is : take count piece ≡ take count (drop total input)
  pub front : take (total + count) input ≡ take total input ++ take count piece

pub takes : (input : List ℕ) (total count : ℕ) (left after : Option (List ℕ)) (old_piece piece : List ℕ) → total ≤ length input → left ≡ Some (drop total input)
    → TakesFront left after old_piece piece count → Takes input total count after piece
takes input total count left after old_piece piece within is taken =
    let parts : TakesFront (Some (drop total input)) after old_piece piece count = subst (λ l. TakesFront l after old_piece piece count) is taken in
    let moved = parts.0 in
    let room : count ≤ length (drop total input) = moved.within in
    let size : length (take count (drop total input)) ≡ count = length-take-le count (drop total input) room in
    let same : take count piece ≡ take count (drop total input) =
    ap (take count) moved.piece ∙ take-append-le count (take count (drop total input)) (drop count old_piece) (omega (arith, size)) ∙ take_all count (take count (drop total input)) (omega (arith, size)) in
    record {
      within = omega (arith, room, length-drop total input);
      unread = parts.1 ∙ ap Some (drop-drop count total input);
      piece_is = same;
      front = take-add total count input ∙ ap (λ bytes. take total input ++ bytes) (sym same);
    }

-- the lines of a longer front
whole_more : (front chunk : List ℕ) → whole_lines (front ++ chunk) ≡ whole_lines front ++ ended_lines (last_line front) chunk
whole_more front chunk = ended-append [] front chunk

last_more : (front chunk : List ℕ) → last_line (front ++ chunk) ≡ begun_line (last_line front) chunk
last_more front chunk = begun-append [] front chunk

-- one more piece
pub reads_more : (input : List ℕ) (total count : ℕ) (start mid new : Serving) (left left' line line' : Option (List ℕ)) (old_piece piece chunk : List ℕ) (before between after : Option (List ℕ))
    → Reads input total start left line mid before between → TakesFront left left' old_piece piece count → chunk ≡ take count piece
    → ((begun : List ℕ) → line ≡ buffered begun → line' ≡ buffered (begun_line begun chunk))
    → ((begun : List ℕ) → line ≡ buffered begun → WritesRun mid (ended_lines begun chunk) new between after)
    → Reads input (total + count) start left' line' new before after
reads_more input total count start mid new left left' line line' old_piece piece chunk before between after reads taken is begins answers =
    let next = takes input total count left left' old_piece piece reads.within reads.unread taken in
    let front : take (total + count) input ≡ take total input ++ chunk = next.front ∙ ap (λ bytes. take total input ++ bytes) (sym is) in
    record {
      within = next.within;
      unread = next.unread;
      keeps = begins (last_line (take total input)) reads.keeps ∙ ap buffered (sym (ap last_line front ∙ last_more (take total input) chunk));
      written = subst (λ ls. WritesRun start ls new before after) (sym (ap whole_lines front ∙ whole_more (take total input) chunk))
          (more_lines start mid new _ _ before between after reads.written (answers (last_line (take total input)) reads.keeps));
    }

-- a read that fails, or as many bytes as are read at most
pub stops_reading : (input : List ℕ) (total : ℕ) (start engine : Serving) (left left' line : Option (List ℕ)) (has_failed : Bool) (before after : Option (List ℕ))
    → Reads input total start left line engine before after → left' ≡ left → total ≤ input_limit → (has_failed ≡ true) ⊎ (total ≡ input_limit) → StopsReading start input left' has_failed before after
stops_reading input total start engine left left' line has_failed before after reads same limited cause = record {
  front = take total input;
  rest = drop total input;
  end = engine;
  read = sym (take-append-drop total input);
  unread = same ∙ reads.unread;
  within = subst (λ n. n ≤ input_limit) (sym (length-take-le total input reads.within)) limited;
  cause = elim cause [ inl failed ↦ inl failed | inr limit ↦ inr (length-take-le total input reads.within ∙ limit) ];
  written = reads.written;
}

-- the lines that end in some bytes after a front
after_some : (front chunk : List ℕ) → 0 < length chunk → ended_lines (last_line front) chunk ≡ lines_after front chunk
after_some front [] some = absurd (omega arith)
after_some front (c ∷ chunk) some = refl

-- a piece that was broken off
pub stops_in_piece : (input : List ℕ) (total count : ℕ) (start mid : Serving) (left left' line : Option (List ℕ)) (old_piece piece chunk : List ℕ) (before between after taken handed_before handed_between handed : Option (List ℕ))
    → Reads input total start left line mid before between → TakesFront left left' old_piece piece count → total + count ≤ input_limit → chunk ≡ take count piece → 0 < count
    → IfSome taken (λ bytes. bytes ≡ take count piece) → (handed_before ≡ before → handed_between ≡ between) → Extends handed_between handed
    → ((begun : List ℕ) → line ≡ buffered begun → WritesBeginning mid (ended_lines begun chunk) between after)
    → StopsWriting start input left' taken before after handed_before handed
stops_in_piece input total count start mid left left' line old_piece piece chunk before between after taken handed_before handed_between handed reads takes_front limited is some took hands keeps answers =
    let next = takes input total count left left' old_piece piece reads.within reads.unread takes_front in
    let front : take (total + count) input ≡ take total input ++ chunk = next.front ∙ ap (λ bytes. take total input ++ bytes) (sym is) in
    let size : length chunk ≡ count =
    ap length (is ∙ next.piece_is) ∙ length-take-le count (drop total input) (let room : length (drop total input) ≡ length input - total = length-drop total input in let inside : total + count ≤ length input = next.within in omega (arith, room, inside)) in
    let long : 0 < length chunk = omega (arith, size, some) in
    record {
      front = take total input;
      last = chunk;
      rest = drop (total + count) input;
      read = sym (take-append-drop (total + count) input) ∙ ap (λ bytes. bytes ++ drop (total + count) input) front;
      unread = next.unread;
      taken_last = known_same taken (take count piece) chunk (sym is) took;
      at_end = λ none. absurd (let zero_long : length chunk ≡ 0 = ap length none in omega (arith, zero_long, long));
      within = subst (λ bytes. length bytes ≤ input_limit) front (subst (λ n. n ≤ input_limit) (sym (length-take-le (total + count) input next.within)) limited);
      middle = mid;
      between = between;
      answered = reads.written;
      handed = λ same. subst (λ h. Extends h handed) (hands same) keeps;
      written = subst (λ ls. WritesBeginning mid ls between after) (after_some (take total input) chunk long) (answers (last_line (take total input)) reads.keeps);
    }

-- the end of the input
pub all_read : (input : List ℕ) (total : ℕ) (left left' : Option (List ℕ)) (old_piece piece : List ℕ) → total ≤ length input → left ≡ Some (drop total input)
    → TakesFront left left' old_piece piece 0 → 0 < length old_piece → (take total input ≡ input) × (left' ≡ Some [])
all_read input total left left' old_piece piece within is taken room =
    let parts : TakesFront (Some (drop total input)) left' old_piece piece 0 = subst (λ l. TakesFront l left' old_piece piece 0) is taken in
    let nothing : drop total input ≡ [] = parts.0.end refl room in
    (sym (append-nil (take total input)) ∙ ap (λ bytes. take total input ++ bytes) (sym nothing) ∙ take-append-drop total input, parts.1 ∙ ap Some nothing)

-- how many bytes of the input were read, where all were
size_read : (input : List ℕ) (total : ℕ) → total ≤ length input → take total input ≡ input → length input ≡ total
size_read input total within all = ap length (sym all) ∙ length-take-le total input within

pub ends_well : (input : List ℕ) (total : ℕ) (start mid new : Serving) (left left' line : Option (List ℕ)) (old_piece piece : List ℕ) (before between after : Option (List ℕ))
    → Reads input total start left line mid before between → TakesFront left left' old_piece piece 0 → 0 < length old_piece → total < input_limit
    → ((begun : List ℕ) → line ≡ buffered begun → WritesRun mid (unless_empty begun) new between after)
    → (left' ≡ Some []) × (length input < input_limit) × WritesAll start input before after
ends_well input total start mid new left left' line old_piece piece before between after reads taken room limited answers =
    let all = all_read input total left left' old_piece piece reads.within reads.unread taken room in (
      all.1,
      subst (λ n. n < input_limit) (sym (size_read input total reads.within all.0)) limited,
      (
        new,
        subst (λ bytes. WritesRun start (lines_of bytes) new before after) all.0
            (more_lines start mid new _ _ before between after reads.written (answers (last_line (take total input)) reads.keeps)),
      ),
    )

pub stops_at_end : (input : List ℕ) (total : ℕ) (start mid : Serving) (left left' line : Option (List ℕ)) (old_piece piece : List ℕ) (before between after taken handed_before handed_between handed : Option (List ℕ))
    → Reads input total start left line mid before between → TakesFront left left' old_piece piece 0 → 0 < length old_piece → total ≤ input_limit
    → IfSome taken (λ bytes. bytes ≡ []) → (handed_before ≡ before → handed_between ≡ between) → Extends handed_between handed
    → ((begun : List ℕ) → line ≡ buffered begun → WritesBeginning mid (unless_empty begun) between after)
    → StopsWriting start input left' taken before after handed_before handed
stops_at_end input total start mid left left' line old_piece piece before between after taken handed_before handed_between handed reads takes_front room limited took hands keeps answers =
    let all = all_read input total left left' old_piece piece reads.within reads.unread takes_front room in record {
      front = input;
      last = [];
      rest = [];
      read = sym (append-nil input) ∙ sym (append-nil (input ++ []));
      unread = all.1;
      taken_last = took;
      at_end = λ none. refl;
      within = subst (λ bytes. length bytes ≤ input_limit) (sym (append-nil input)) (subst (λ n. n ≤ input_limit) (sym (size_read input total reads.within all.0)) limited);
      middle = mid;
      between = between;
      answered = subst (λ bytes. WritesRun start (whole_lines bytes) mid before between) all.0 reads.written;
      handed = λ same. subst (λ h. Extends h handed) (hands same) keeps;
      written = subst (λ bytes. WritesBeginning mid (unless_empty (last_line bytes)) between after) all.0 (answers (last_line (take total input)) reads.keeps);
    }
