-- The entries of the place.
use Rattle.std.proofs.Common.{◌∙◌}
use Rattle.cy_oneshot_patterns.specs.Places.{entries_at}
use Rattle.cy_oneshot_patterns.specs.internal.Patterns.{place_of}
use Rattle.cy_oneshot.proofs.MatchLemmas.{entries_through}
use Rattle.cy_oneshot.proofs.conditions.are_literals.Goals as goal

pub returns : goal.returns
returns c = c.are_written_out.ensures ∙ entries_through c.entries.result.now (entries_at (place_of c.args.place)) c.entries.ensures
