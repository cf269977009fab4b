use Rattle.std.proofs.Common.{◌≡◌, ℕ, true, List, subst}
use Rattle.std.specs.Prelude.{IfSome, Option}
use Rattle.std.proofs.lemmas.Result.{on_ok_weaker}
use Rattle.cy_trees.specs.Trees.{MapEntry}
use Rattle.cy_oneshot_patterns.specs.Places.{column_at, entries_at}
use Rattle.cy_oneshot_patterns.specs.internal.Patterns.{place_of}
use Rattle.cy_oneshot.specs.Carried.{AreEntriesRead, is_needed}
use Rattle.cy_oneshot.proofs.Marked.{both_ok, still_column, still_then}
use Rattle.cy_oneshot.proofs.needed.mark_place.Goals as goal

pub returns-clause-read : goal.returns-clause-read
returns-clause-read c =
    let place = place_of c.args.place in
    let before = c.mark_column.new.needed.items in
    let after = c.mark_entries.new.needed.items in
    both_ok (IfSome (column_at place) (λ n. is_needed after n ≡ true)) (AreEntriesRead after (entries_at place)) c.mark_entries.result
    (on_ok_weaker c.mark_entries.result (λ still. still_column before after still (column_at place) (subst (λ (o : Option ℕ). IfSome o (λ n. is_needed before n ≡ true)) c.column.ensures c.mark_column.ensures.marked)) c.mark_entries.ensures.still)
    (on_ok_weaker c.mark_entries.result (λ read. subst (λ (es : List MapEntry). AreEntriesRead after es) c.entries.ensures read) c.mark_entries.ensures.read)

pub returns-clause-still : goal.returns-clause-still
returns-clause-still c =
    on_ok_weaker c.mark_entries.result (λ still. still_then c.args.needed.now.items c.mark_column.new.needed.items c.mark_entries.new.needed.items c.mark_column.ensures.still still) c.mark_entries.ensures.still
