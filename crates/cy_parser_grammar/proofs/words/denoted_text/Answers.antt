use Rattle.std.proofs.Common.{refl, ◌∙◌, ◌≡◌}
use Rattle.std.proofs.lemmas.Result.{IfOk-weaker}
use Rattle.cy_parser_grammar.specs.Words as spec
use Rattle.cy_parser_grammar.specs.Words.{is_within}
use Rattle.cy_parser_grammar.proofs.WithinLemmas.{denoted-denotes}
use Rattle.cy_parser_grammar.proofs.words.denoted_text.Goals as goal

pub returns-in-Ok : goal.returns-in-Ok
returns-in-Ok c =
    let line = c.args.line.now in
    let token = c.args.token.now in
    IfOk-weaker c.new.result _ (λ text. text ≡ spec.denotes line token)
    (λ text same. same ∙ denoted-denotes line token _ (is_within line token) refl c.in-Ok.ensures.value c.in-Ok.ensures.elsewhere)
    c.new.ensures
