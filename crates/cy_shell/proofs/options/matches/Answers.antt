use Rattle.std.proofs.Common.{rules}
use Rattle.std.proofs.lemmas.Result.{IfOk-weaker}
use Rattle.cy_shell.proofs.HistoryOption.{history_passes}
use Rattle.cy_shell.proofs.options.matches.Goals as goal

pub returns-clause-history : goal.returns-clause-history
returns-clause-history c =
    IfOk-weaker c.try_get_matches_from.result _ _ (λ m parsed. history_passes _ m (search rules) parsed) c.try_get_matches_from.ensures.parsed
