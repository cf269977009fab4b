use Rattle.std.proofs.Common.{refl}
use Rattle.cy_lexer.proofs.SpansLemmas.{slice-elsewhere}
use Rattle.cy_lexer.proofs.tokens.Token.slice.Goals as goal

pub returns-clause-elsewhere : goal.returns-clause-elsewhere
returns-clause-elsewhere c elsewhere =
    rw c.unwrap_or.ensures (slice-elsewhere c.args.line.now c.args.self.now c.get.result _ c.utf8.line (rw c.unwrap_or.ensures at c.unwrap_or.utf8) c.get.ensures.cases refl elsewhere)
