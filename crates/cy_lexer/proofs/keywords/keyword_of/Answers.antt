use Rattle.std.proofs.Common.{ℕ, List, ap, ◌∙◌}
use Rattle.std.specs.List.{slice_get}
use Rattle.cy_lexer.proofs.KeywordsLemmas.{keyword_of-letter, keyword_of-nothing}
use Rattle.cy_lexer.proofs.keywords.keyword_of.Goals as goal

pub returns-in_err-letter : goal.returns-in_err-letter
returns-in_err-letter c =
    c.from_residual.ensures ∙ keyword_of-nothing c.args.word.now (c.in_err-letter.ensures.value ∙ ap (λ (x : List ℕ). slice_get x 0) c.as_bytes.ensures.value)

pub returns : goal.returns
returns c =
    c.first_spelled.ensures ∙ keyword_of-letter c.args.word.now c.in_ok-letter.letter.now c.keywords_with.result.now (c.in_ok-letter.ensures.value ∙ ap (λ (x : List ℕ). slice_get x 0) c.as_bytes.ensures.value) c.keywords_with.ensures
