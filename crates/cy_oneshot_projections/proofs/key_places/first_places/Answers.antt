use Rattle.std.proofs.Common.{◌≡◌, ◌+◌, ◌-◌, ◌<◌, ◌≤◌, drop, length, map, subst, sym, arith}
use Rattle.cy_trees.specs.TreeModels.{item_of}
use Rattle.cy_oneshot_projections.specs.internal.KeyPlaces.{AreFirst}
use Rattle.cy_oneshot_projections.proofs.KeyPlaces.{first_more}
use Rattle.cy_oneshot_projections.proofs.key_places.first_places.Goals as goal

pub items-preserved : goal.items-preserved
items-preserved c =
    let items = c.args.items.now in
    let left = c.items.left in
    let before : c.items.left ≤ length c.args.items.now = c.items.invariant.within in
    let one : c.items.left ≡ c.items.left - 1 + 1 = omega (arith, c.items-test.true) in
    let within : c.items.left - 1 < length c.args.items.now = omega (arith, c.items-test.true, before) in
    record {
      within = omega (arith, before);
      first =
          subst (λ es. AreFirst es (map item_of (drop (c.items.left - 1) c.args.items.now)) (c.items.left - 1)) (sym c.in_ok-insert.ensures.entries)
          (first_more c.items.places.entries items left (left - 1) c.index-items-left.result c.in_ok-words.words one within
          c.in_ok-words.ensures c.items.invariant.first);
    }
