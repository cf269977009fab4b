use Rattle.std.proofs.Common.{◌≡◌, ◌∙◌, List, ℕ, rules, ap, codes, Ok, map, string_bytes}
use Rattle.std.proofs.lemmas.List.{length-map}
use Rattle.std.specs.Option.{option_map_or}
use Rattle.std.specs.Str.Parse.{digits_value, without_leading_plus, ParsesUnsigned, ExplainsUnsignedError, HasUnsignedDigitsIfOk}
use Rattle.clap.proofs.WalkLemmas.{one_text-rows}
use Rattle.clap.specs.Words.{IsAmong, found_of, one_of, one_text}
use Rattle.clap.specs.declared.error.ErrorKind.TheVariants.{DisplayHelp}
use Rattle.cy_shell.specs.Options.{found, objections}
use Rattle.cy_shell.specs.declared.options.Invocation.TheVariants.{Run, Help}
use Rattle.cy_shell.proofs.HistoryOption.{history_read, plain_asked}
use Rattle.cy_shell.proofs.options.settings.Goals as goal

pub returns-in-Ok-clause-asked : goal.returns-in-Ok-clause-asked
returns-in-Ok-clause-asked c =
    let words = map string_bytes c.args.words.now in
    let text_is : (id : List ℕ) → one_text (found_of c.in-Ok.matches) id ≡ one_of id (found words) =
    λ id. one_text-rows (found_of c.in-Ok.matches) id ∙ ap (one_of id) c.in-Ok.ensures.rows in
    let read = history_read (λ bs r. ParsesUnsigned 64 10 bs r × ExplainsUnsignedError 10 bs r × HasUnsignedDigitsIfOk bs r)
    (one_text (found_of c.in-Ok.matches) (codes "history")) c.get_one.result (λ t x g. g.0) c.get_one.ensures.none c.get_one.ensures.value c.in-Ok.ensures.history in
    record {
      good = c.in-Ok.ensures.kinds;
      history = c.unwrap_or.ensures ∙ (read.0 ∙ ap (λ text. option_map_or (λ t. digits_value 10 (without_leading_plus t)) text 64) (text_is (codes "history")));
      from = rw c.unwrap_or.ensures read.1;
      to = rw c.unwrap_or.ensures read.2;
      feed = λ is. c.get_flag.ensures.value (text_is (codes "feed") ∙ is);
      no_feed = λ is. c.get_flag.ensures.other (text_is (codes "feed") ∙ is);
    }

pub returns-in-Ok-clause-plain : goal.returns-in-Ok-clause-plain
returns-in-Ok-clause-plain c short =
    let words = map string_bytes c.args.words.now in
    plain_asked words (Ok (Run (record { history = c.unwrap_or.result; feed = c.get_flag.result }))) (rw length-map short) (returns-in-Ok-clause-asked c)

pub returns-in-DisplayHelp-clause-plain : goal.returns-in-DisplayHelp-clause-plain
returns-in-DisplayHelp-clause-plain c short =
    let words = map string_bytes c.args.words.now in
    let asks : IsAmong DisplayHelp (objections words) = search rules in
    plain_asked words (Ok (Help c.in_ok-format-in-DisplayHelp.field-0)) (rw length-map short) asks
