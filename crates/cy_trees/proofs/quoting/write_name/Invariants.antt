-- What is written and what the characters left still give make what the whole name gives.
use Rattle.std.proofs.Common.{◌≡◌, ◌++◌, ◌∷◌, string_bytes}
use Rattle.std.specs.Prelude.{chars, encode_utf8_all}
use Rattle.std.specs.Str.{IsUtf8}
use Rattle.cy_lexer.specs.Words.{doubled}
use Rattle.cy_trees.proofs.quoting.write_name.Given as goal

abbrev pub invariant-loop-character : goal.invariant-loop-character
invariant-loop-character l =
    (string_bytes l.text ++ encode_utf8_all (doubled (chars l.character-iterator.rest.now)) ≡ string_bytes l.fn.text ++ encode_utf8_all (96 ∷ doubled (chars l.name))) × IsUtf8 l.character-iterator.rest.now
