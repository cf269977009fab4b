use Rattle.std.proofs.Common.{refl}
use Rattle.cy_parser_grammar.specs.Words.{is_within}
use Rattle.cy_parser_grammar.proofs.WithinLemmas.{sliced}
use Rattle.cy_parser_grammar.proofs.words.slice_in.Goals as goal

pub returns : goal.returns
returns c =
    let line = c.args.line.now in
    let token = c.args.token.now in
    sliced line token _ (is_within line token) refl c.slice.ensures.within c.slice.ensures.elsewhere
