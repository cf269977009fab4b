use Rattle.std.proofs.Common.{ap, ◌∙◌, arith}
use Rattle.std.specs.Prelude.{Err}
use Rattle.cypher_live.proofs.Endings.{at_stream}
use Rattle.cypher_live.proofs.serve.Goals as goal

pub returns-in-Err-clause-stopped : goal.returns-in-Err-clause-stopped
returns-in-Err-clause-stopped g c = λ is.
    at_stream _ _ _ _ c.in-Err.fault (λ four. let code = c.code.ensures in let status = c.from.ensures in omega (arith, is, code, status, four))
    (λ read. c.run.ensures.read (c.in-Err.is ∙ ap Err read)) (λ write. c.run.ensures.write_fails (c.in-Err.is ∙ ap Err write))
    (λ write. c.run.ensures.write (c.in-Err.is ∙ ap Err write))

pub returns-in-Err-clause-stopped_headline : goal.returns-in-Err-clause-stopped_headline
returns-in-Err-clause-stopped_headline g c = λ is.
    at_stream _ _ _ _ c.in-Err.fault (λ four. let code = c.code.ensures in let status = c.from.ensures in omega (arith, is, code, status, four))
    (λ read. c.run.ensures.read_headline (c.in-Err.is ∙ ap Err read)) (λ write. c.run.ensures.write_fails (c.in-Err.is ∙ ap Err write))
    (λ write. c.run.ensures.write_headline (c.in-Err.is ∙ ap Err write))
