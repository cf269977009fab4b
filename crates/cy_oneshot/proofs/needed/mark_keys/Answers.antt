use Rattle.std.proofs.Common.{List, map, subst}
use Rattle.std.proofs.lemmas.List.{take_all}
use Rattle.cy_oneshot_projections.specs.declared.projection.SortKey.{SortKey}
use Rattle.cy_oneshot_projections.specs.SortKeys.{sort_key_of}
use Rattle.cy_oneshot.specs.Carried.{AreKeysRead, IsKeyRead}
use Rattle.cy_oneshot.proofs.Marked.{each_more, still_key, still_nothing, still_then}
use Rattle.cy_oneshot.proofs.needed.mark_keys.Goals as goal

pub loop-key-init : goal.loop-key-init
loop-key-init c = record { read = tt; still = still_nothing c.args.needed.now.items }

pub loop-key-preserved : goal.loop-key-preserved
loop-key-preserved c =
    let before = c.loop-key.needed.items in
    let after = c.mark_key.new.needed.items in
    let marked = c.in_ok-mark_key.ensures in
    record {
      read = each_more (λ flags k. IsKeyRead flags c.args.count k) sort_key_of before after c.args.keys.now c.loop-key.key-index c.key-item.result c.loop-key-test.true c.key-item.is (still_key before after marked.still c.args.count) c.loop-key.invariant.read marked.read;
      still = still_then c.args.needed.now.items before after c.loop-key.invariant.still marked.still;
    }

pub returns-clause-read : goal.returns-clause-read
returns-clause-read c = subst (λ (xs : List SortKey). AreKeysRead c.loop-key.needed.items c.args.count (map sort_key_of xs)) (take_all c.loop-key.key-index c.args.keys.now c.loop-key-test.false) c.loop-key.invariant.read

pub returns-clause-still : goal.returns-clause-still
returns-clause-still c = c.loop-key.invariant.still
