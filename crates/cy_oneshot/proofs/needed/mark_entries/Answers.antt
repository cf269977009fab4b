use Rattle.std.proofs.Common.{List, map, subst}
use Rattle.std.proofs.lemmas.List.{take_all}
use Rattle.cy_trees.specs.declared.clauses.MapEntry.{MapEntry}
use Rattle.cy_trees.specs.TreeModels.{entry_of}
use Rattle.cy_oneshot_outcomes.specs.Columns.{columns_read}
use Rattle.cy_oneshot.specs.Carried.{AreEntriesRead, AreNeeded}
use Rattle.cy_oneshot.proofs.Marked.{each_more, still_entry, still_nothing, still_then}
use Rattle.cy_oneshot.proofs.needed.mark_entries.Goals as goal

pub loop-entry-init : goal.loop-entry-init
loop-entry-init c = record { read = tt; still = still_nothing c.args.needed.now.items }

pub loop-entry-preserved : goal.loop-entry-preserved
loop-entry-preserved c =
    let before = c.loop-entry.needed.items in
    let after = c.mark_read.new.needed.items in
    let marked = c.in_ok-mark_read.ensures in
    record {
      read = each_more (λ flags e. AreNeeded flags (columns_read e.value)) entry_of before after c.args.entries.now c.loop-entry.entry-index c.entry-item.result c.loop-entry-test.true c.entry-item.is (still_entry before after marked.still) c.loop-entry.invariant.read marked.read;
      still = still_then c.args.needed.now.items before after c.loop-entry.invariant.still marked.still;
    }

pub returns-clause-read : goal.returns-clause-read
returns-clause-read c = subst (λ (xs : List MapEntry). AreEntriesRead c.loop-entry.needed.items (map entry_of xs)) (take_all c.loop-entry.entry-index c.args.entries.now c.loop-entry-test.false) c.loop-entry.invariant.read

pub returns-clause-still : goal.returns-clause-still
returns-clause-still c = c.loop-entry.invariant.still
