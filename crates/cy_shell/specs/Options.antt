-- What the program's arguments ask for, in the terms of `clap`: which options there are, which kind of error a command
-- with them gives at the words, and what it finds where it gives none. Own.
use Rattle.std.specs.Prelude.{◌≡◌, ◌≢◌, ℕ, ◌≤◌, true, false, List, [], Some, Result, Ok, Err, codes}
use Rattle.std.specs.Option.{option_map_or}
use Rattle.std.specs.Str.Parse.{digits_value, without_leading_plus}
use Rattle.clap.specs.Words.{App, IsAmong, Kinds, Row, Rule, Text, fault_of, matches_of, new_app, new_rule, one_of, with_rule}
use Rattle.clap.specs.declared.builder.ArgAction.TheVariants.{SetTrue}
use Rattle.clap.specs.declared.builder.ValueParser.TheVariants.{Unsigned}
use Rattle.clap.specs.declared.error.ErrorKind.{ErrorKind}
use Rattle.clap.specs.declared.error.ErrorKind.TheVariants.{DisplayHelp}
use Rattle.cy_shell.specs.declared.serving.Settings.{Settings}
use Rattle.cy_shell.specs.declared.options.Invocation.{Invocation}
use Rattle.cy_shell.specs.declared.options.Invocation.TheVariants.{Run, Help}
use Rattle.cy_shell.specs.declared.options.ArgFault.{ArgFault}
use Rattle.cy_shell.specs.declared.options.ArgFault.TheVariants.{Bad, Memory}

-- `--history N`, where N is a number from 1 to 4096
abbrev pub history_option : Rule
history_option = record (new_rule (codes "history")) {
  long = Some (codes "history");
  value_names = 1;
  parser = Some (Unsigned 1 4096);
}

-- `--feed`
abbrev pub feed_option : Rule
feed_option = record (new_rule (codes "feed")) { long = Some (codes "feed"); action = Some SetTrue }

-- the program's command: these options, and those for help that each command has
abbrev pub options : App
options = with_rule (with_rule (new_app (codes "cypher_live")) history_option) feed_option

-- what is wrong with the words first, or that help is asked for before anything is wrong; empty where they are good
abbrev pub objections : List Text → Kinds
objections words = fault_of options words

-- what good words say of the options
abbrev pub found : List Text → List Row
found words = matches_of options words

-- the number that the words have for the history, or else 64
abbrev pub history_of : List Text → ℕ
history_of words = option_map_or (λ text. digits_value 10 (without_leading_plus text)) (one_of (codes "history") (found words)) 64

-- the settings are those of the words
pub record HasSettings (words : List Text) (settings : Settings) : Type 0 where
  pub good : objections words ≡ []
  pub history : settings.history ≡ history_of words
  pub from : 1 ≤ settings.history
  pub to : settings.history ≤ 4096
  pub feed : one_of (codes "feed") (found words) ≡ Some (codes "true") → settings.feed ≡ true
  pub no_feed : one_of (codes "feed") (found words) ≡ Some (codes "false") → settings.feed ≡ false

-- the words are bad: there is an objection, and it isn't that help is asked for
pub record AreBad (words : List Text) : Type 0 where
  pub kind : ErrorKind
  pub is : IsAmong kind (objections words)
  pub no_help : kind ≢ DisplayHelp

-- what the words ask for; out of memory may stand for all of it
abbrev pub IsInvocation : List Text → Result Invocation ArgFault → Type 0
IsInvocation words (Ok (Run settings)) = HasSettings words settings
IsInvocation words (Ok (Help text)) = IsAmong DisplayHelp (objections words)
IsInvocation words (Err Bad) = AreBad words
IsInvocation words (Err Memory) = Unit {0}
