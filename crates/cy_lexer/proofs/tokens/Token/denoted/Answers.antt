use Rattle.std.proofs.Common.{List, ℕ, sym, ap, ◌∙◌}
use Rattle.std.specs.Str.{chars, encode_utf8_all}
use Rattle.std.proofs.lemmas.Str.{encodes-chars}
use Rattle.std.specs.String.{string_bytes}
use Rattle.std.proofs.lemmas.Result.{IfOk-weaker}
use Rattle.cy_lexer.proofs.PiecesLemmas.{denoted-plain}
use Rattle.cy_lexer.proofs.QuotedLemmas.{written-nothing}
use Rattle.cy_lexer.proofs.tokens.Token.denoted.Goals as goal

pub returns-in_ok-from_str-in_default : goal.returns-in_ok-from_str-in_default
returns-in_ok-from_str-in_default c = record {
  value = λ spans. c.in_ok-from_str-in_default.ensures.ok ∙ sym (encodes-chars c.slice-slice.result.now c.slice-slice.utf8) ∙ ap (λ (x : List ℕ). encode_utf8_all (chars x)) (c.slice-slice.ensures.within spans) ∙ ap encode_utf8_all (sym (denoted-plain c.args.self.now.kind _ c.in_default.not-QuotedName c.in_default.not-Text));
  elsewhere = λ no_span. c.in_ok-from_str-in_default.ensures.ok ∙ c.slice-slice.ensures.elsewhere no_span;
  memory = tt;
}

pub returns-in-QuotedName-clause-elsewhere : goal.returns-in-QuotedName-clause-elsewhere
returns-in-QuotedName-clause-elsewhere c no_span =
    IfOk-weaker c.between_quotes.result _ _ (λ s value. written-nothing (string_bytes s) c.slice-slice.result.now value (c.slice-slice.ensures.elsewhere no_span)) c.between_quotes.ensures.value
