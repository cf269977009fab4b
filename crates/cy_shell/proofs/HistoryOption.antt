-- What the program's command has, and what a parse of it gives for the history.
use Rattle.std.proofs.Common.{◌≡◌, ◌⊎◌, ◌∙◌, ◌<◌, ap, ap₂, ℕ, zero, suc, true, false, List, [], ◌∷◌, length, map, slice_index, Option, Some, None, refl, sym, subst, inl, inr, arith, codes}
use Rattle.std.specs.Prelude.{◌≤◌, IfOk, Result, Ok, Err, option_map, slice_get, unwrap_or}
use Rattle.std.specs.Option.{option_map_or}
use Rattle.std.specs.Str.Parse.{ParsesUnsigned, digits_value, without_leading_plus}
use Rattle.std.specs.List.{All, slice_index_or}
use Rattle.std.specs.Str.{bytes_eq}
use Rattle.std.specs.Borrow.{Bor}
use Rattle.std.proofs.lemmas.Slice.Eq.{bytes_eq-Decides}
use Rattle.clap.specs.Facts.{Entry, EntryPasses, HasReading, IsParsed, PassesArg, args_of, groups_of, parser_of, parser_of_value}
use Rattle.clap.specs.Built.{IsParsedFrom, IsAuto}
use Rattle.clap.specs.Matches.{ReadsOne, found_of, has_subcommand, matched_of, one_text}
use Rattle.clap.specs.Simple.{App, app_of}
use Rattle.clap.specs.Walk.{Rule, rule_of}
use Rattle.clap.specs.Values.{Accepts, IsUnsignedIn, read_as, reading_of}
use Rattle.clap.specs.declared.builder.arg.Arg.{Arg}
use Rattle.clap.specs.declared.builder.command.Command.{Command}
use Rattle.clap.specs.declared.builder.value_parser.Reading.{Reading}
use Rattle.clap.specs.declared.builder.value_parser.Reading.TheVariants.{AsWritten}
use Rattle.clap.specs.declared.builder.value_parser.ValueParser.TheVariants.{Unsigned}
use Rattle.clap.specs.declared.parser.matches.ArgMatches.{ArgMatches}
use Rattle.clap.specs.declared.parser.matches.MatchedArg.{MatchedArg}
use Rattle.clap.proofs.CallerLemmas.{entry_by_id, same_rules_by_id}
use Rattle.clap.proofs.SimpleLemmas.{all_simple, plain_fields, simple_groups}
use Rattle.clap.proofs.OnLiterals.{clap_on_literals}
use Rattle.cy_shell.specs.Options.{IsInvocation, feed_option, history_option, options}
use Rattle.cy_shell.specs.declared.serving.Settings.{Settings}
use Rattle.cy_shell.specs.declared.options.ArgFault.{ArgFault}
use Rattle.cy_shell.specs.declared.options.Invocation.{Invocation}
use Rattle.cy_shell.specs.declared.options.Invocation.TheVariants.{Run, Help}
use Rattle.cy_shell.specs.internal.Options.{HasHistory}

-- a list of two, of which f makes these
record AreTwo {A B : Type 0} (f : A → B) (xs : List A) (one two : B) : Type 0 where
  first : A
  second : A
  is : xs ≡ first ∷ second ∷ []
  is_one : f first ≡ one
  is_two : f second ≡ two

are_two : {A B : Type 0} (f : A → B) (xs : List A) (one two : B) → map f xs ≡ one ∷ two ∷ [] → AreTwo f xs one two
are_two f [] one two e = cc
are_two f (x ∷ []) one two e = cc
are_two f (x ∷ y ∷ []) one two e = record { first = x; second = y; is = refl; is_one = cc; is_two = cc }
are_two f (x ∷ y ∷ z ∷ zs) one two e = cc

abbrev HasOptions : List Arg → Type 0
HasOptions xs = AreTwo rule_of xs history_option feed_option

-- the options of the program's command
options_of : (c : Command) → app_of c ≡ options → HasOptions (args_of c)
options_of c e = are_two rule_of (args_of c) history_option feed_option (ap (λ (a : App). a.top.rules) e)

-- no other of them has the id of the first
first_alone : (xs : List Arg) → HasOptions xs → (j : ℕ) (d e : Arg) → j < length xs
    → bytes_eq (slice_index_or xs j e).id.now (slice_index_or xs 0 d).id.now ≡ true → j ≡ 0
first_alone xs h j d e lt same =
    among j (subst (λ l. j < length l) h.is lt) (subst (λ l. bytes_eq (slice_index_or l j e).id.now (slice_index_or l 0 d).id.now ≡ true) h.is same)
  where
    among : (k : ℕ) → k < length (h.first ∷ h.second ∷ [])
        → bytes_eq (slice_index_or (h.first ∷ h.second ∷ []) k e).id.now (slice_index_or (h.first ∷ h.second ∷ []) 0 d).id.now ≡ true → k ≡ 0
    among zero under is = refl
    among (suc zero) under is =
        let ids : bytes_eq h.second.id.now h.first.id.now ≡ false =
        ap₂ bytes_eq (ap (λ (r : Rule). r.id) h.is_two) (ap (λ (r : Rule). r.id) h.is_one) in
        cc
    among (suc (suc k)) under is = absurd (omega arith)

no_help : codes "history" ≡ codes "help" → ⊥
no_help e =
    let bad : slice_index (codes "history") 1 ≡ slice_index (codes "help") 1 = ap (λ t. slice_index t 1) e in
    absurd (omega arith)

no_version : codes "history" ≡ codes "version" → ⊥
no_version e =
    let bad : slice_index (codes "history") 0 ≡ slice_index (codes "version") 0 = ap (λ t. slice_index t 0) e in
    absurd (omega arith)

-- whatever argument of the built command has the id of the history has its parser
parser_is : (c : Command) (m : ArgMatches) (p : IsParsedFrom c m) → app_of c ≡ options → (j : ℕ) (x : Arg) → j < length (args_of p.built)
    → slice_index_or (args_of p.built) j x ≡ x → bytes_eq x.id.now (codes "history") ≡ true → parser_of x ≡ Unsigned 1 4096
parser_is c m p e j x lt at same =
    let h = options_of c e in
    let first : slice_index_or (args_of c) 0 x ≡ h.first = ap (λ l. slice_index_or l 0 x) h.is in
    let id_is : (slice_index_or (args_of c) 0 x).id.now ≡ codes "history" = ap (λ (a : Arg). a.id.now) first ∙ ap (λ (r : Rule). r.id) h.is_one in
    let some : 0 < length (args_of c) = subst (λ l. 0 < length l) (sym h.is) (omega arith) in
    let own : IsAuto (slice_index_or (args_of c) 0 x) → ⊥ = λ auto. elim auto [
      | inl help ↦ no_help (sym id_is ∙ help)
      | inr version ↦ no_version (sym id_is ∙ version)
    ] in
    let rules = same_rules_by_id c m p 0 x some (λ k d. first_alone (args_of c) h k x d) own j x lt at (rw id_is same) in
    let parser : (slice_index_or (args_of c) 0 x).value_parser ≡ Some (Unsigned 1 4096) =
    ap (λ (a : Arg). a.value_parser) first ∙ ap (λ (r : Rule). r.parser) h.is_one in
    ap parser_of_value (rules.parser (Unsigned 1 4096) parser)

-- so a value that passes it is such a number
passes_accepts : (c : Command) (m : ArgMatches) (p : IsParsedFrom c m) → app_of c ≡ options → (id text : List ℕ) → id ≡ codes "history"
    → PassesArg p.built id text → IsUnsignedIn 1 4096 text
passes_accepts c m p is id text key a =
    let named : bytes_eq a.1.id.now (codes "history") ≡ true = subst (λ w. bytes_eq a.1.id.now w ≡ true) key a.4.0 in
    subst (λ q. Accepts a.1.ignore_case q text) (parser_is c m p is a.0 a.1 a.2 a.3 named) a.4.1

-- and is read as it was written
reads_as_written : (c : Command) (m : ArgMatches) (p : IsParsedFrom c m) → app_of c ≡ options → (id : List ℕ) (how : Reading) → id ≡ codes "history"
    → HasReading p.built id how → how ≡ AsWritten
reads_as_written c m p is id how key a =
    let named : bytes_eq a.1.id.now (codes "history") ≡ true = subst (λ w. bytes_eq a.1.id.now w ≡ true) key a.4.0 in
    sym a.4.1 ∙ ap reading_of (parser_is c m p is a.0 a.1 a.2 a.3 named)

-- the first of values that are numbers is read as a number
first_read : (how : Reading) (vs : List (Bor (List ℕ))) (text : List ℕ) → how ≡ AsWritten → All (λ v. IsUnsignedIn 1 4096 v.now) vs
    → option_map (λ v. read_as how v.now) (slice_get vs 0) ≡ Some text → IsUnsignedIn 1 4096 text
first_read how [] text is all first = cc
first_read how (v ∷ vs) text is all first =
    let written : Some (read_as AsWritten v.now) ≡ Some text = subst (λ h. Some (read_as h v.now) ≡ Some text) is first in
    let same : v.now ≡ text = cc in
    subst (λ t. IsUnsignedIn 1 4096 t) same (all 0 v (omega arith))

-- no entry with the id of the history is a group's
no_group : (c : Command) (m : ArgMatches) (p : IsParsedFrom c m) → app_of c ≡ options → (id : List ℕ) → id ≡ codes "history"
    → (id ≡ []) ⊎ (0 < length (groups_of p.built)) → ⊥
no_group c m p is id key (inl empty) =
    let bad : length (codes "history") ≡ length {A = ℕ} [] = ap length (sym key ∙ empty) in
    absurd (omega arith)
no_group c m p is id key (inr lots) =
    let none : groups_of p.built ≡ [] =
    (p.from.same_groups (simple_groups c (ap (λ (a : App). all_simple a.top.rules) is))).1 ∙ (plain_fields c (ap (λ (a : App). a.top.is_plain) is)).groups in
    let bad : 0 < 0 = subst (λ gs. 0 < length gs) none lots in
    absurd (omega arith)

-- what the entry of the history gives
entry_read : (c : Command) (m : ArgMatches) (p : IsParsedFrom c m) → app_of c ≡ options → (e : Entry) (text : List ℕ)
    → e.0.now ≡ codes "history" → EntryPasses p.built e
    → option_map (λ v. read_as e.1.reading v.now) (slice_get e.1.vals.items 0) ≡ Some text → IsUnsignedIn 1 4096 text
entry_read c m p is e text key pass first =
    let how : e.1.reading ≡ AsWritten = elim pass.4 [
      | inl g ↦ absurd (no_group c m p is e.0.now key (pass.3 g))
      | inr h ↦ reads_as_written c m p is e.0.now e.1.reading key h
    ] in
    let all : All (λ v. IsUnsignedIn 1 4096 v.now) e.1.vals.items = elim pass.0 [
      | inl g ↦ absurd (no_group c m p is e.0.now key (pass.3 g))
      | inr values ↦ λ k d lt. passes_accepts c m p is e.0.now _ key (values k d lt)
    ] in
    first_read e.1.reading e.1.vals.items text how all first

-- a parse of the program's command has a number from 1 to 4096 for the history, where it has one
pub history_passes : (c : Command) (m : ArgMatches) → app_of c ≡ options → IsParsedFrom c m → HasHistory m
history_passes c m is p text read = go (matched_of (found_of m) (codes "history")) refl read
  where
    parsed : IsParsed p.built (found_of m) (has_subcommand m)
    parsed = p.parsed (p.from.globals ∙ (plain_fields c (ap (λ (a : App). a.top.is_plain) is)).globals)

    go : (o : Option MatchedArg) → matched_of (found_of m) (codes "history") ≡ o → one_text (found_of m) (codes "history") ≡ Some text
        → IsUnsignedIn 1 4096 text
    go None e first =
        let bad : None ≡ Some text = rw e at first in
        cc
    go (Some x) e first =
        let got = entry_by_id (EntryPasses p.built) (found_of m).entries.items (codes "history") x parsed.values e in
        let read : option_map (λ v. read_as x.reading v.now) (slice_get x.vals.items 0) ≡ Some text = rw e at first in
        entry_read c m p is got.0 text ((bytes_eq-Decides got.0.0.now (codes "history")).0 got.2) got.3
        (subst (λ (y : MatchedArg). option_map (λ v. read_as y.reading v.now) (slice_get y.vals.items 0) ≡ Some text) (sym got.1) read)

-- what is read of the text of a history, where there is one, and 64 else
pub history_read : {E : Type 0} (G : List ℕ → Result ℕ E → Type 0) (given : Option (List ℕ)) (read : Option ℕ)
    → ((t : List ℕ) (x : Result ℕ E) → G t x → ParsesUnsigned 64 10 t x)
    → (given ≡ None → read ≡ None) → ((t : List ℕ) → given ≡ Some t → ReadsOne G t read)
    → ((t : List ℕ) → given ≡ Some t → IsUnsignedIn 1 4096 t)
    → (unwrap_or read 64 ≡ option_map_or (λ t. digits_value 10 (without_leading_plus t)) given 64) × (1 ≤ unwrap_or read 64) × (unwrap_or read 64 ≤ 4096)
history_read G None read only none some good = rw (none refl) (refl, omega arith, omega arith)
history_read G (Some t) None only none some good =
    let gives = some t refl in
    let bounds = good t refl in
    absurd (only t (Err gives.0) gives.1 (bounds.0, bounds.1))
history_read G (Some t) (Some n) only none some good =
    let parsed = only t (Ok n) (some t refl) in
    let bounds = good t refl in
    (parsed.1, rw parsed.1 bounds.2, rw parsed.1 bounds.3)

plain_settings : (settings : Settings) → settings.history ≡ 64 → settings.feed ≡ false → Run settings ≡ Run (record { history = 64; feed = false })
plain_settings settings h f = ap₂ (λ history feed. Run (record { history = history; feed = feed })) h f

-- with no option, the history has 64 entries, and there is no feed
pub plain_asked : (words : List (List ℕ)) (result : Result Invocation ArgFault) → length words ≤ 1 → IsInvocation words result
    → IfOk result (λ asked. asked ≡ Run (record { history = 64; feed = false }))
unfolding clap_on_literals
plain_asked [] (Ok (Run settings)) short asked = plain_settings settings asked.history (asked.no_feed refl)
plain_asked (word ∷ []) (Ok (Run settings)) short asked = plain_settings settings asked.history (asked.no_feed refl)
plain_asked [] (Ok (Help text)) short asked = absurd asked
plain_asked (word ∷ []) (Ok (Help text)) short asked = absurd asked
plain_asked (word ∷ other ∷ words) (Ok wanted) short asked = absurd (omega arith)
plain_asked words (Err fault) short asked = tt
