use Rattle.std.proofs.Common.{◌≡◌, ℕ, List, length, map, sym, subst, ◌∙◌}
use Rattle.std.specs.Prelude.{Option}
use Rattle.std.proofs.lemmas.List.{length-map}
use Rattle.std.proofs.lemmas.Result.{on_ok_weaker}
use Rattle.cy_trees.specs.declared.clauses.Item as coded_item
use Rattle.cy_trees.specs.Trees.{Key}
use Rattle.cy_trees.specs.TreeModels.{item_of, projection_of}
use Rattle.cy_oneshot_projections.specs.declared.projection.SortKey.{SortKey}
use Rattle.cy_oneshot_projections.specs.SortKeys.{sort_key_of}
use Rattle.cy_oneshot.specs.Carried.{AreKeysRead, AreRead, keys_of}
use Rattle.cy_oneshot.proofs.Marked.{both_ok, still_items, still_then}
use Rattle.cy_oneshot.proofs.needed.mark_projection.Goals as goal

pub returns-clause-read : goal.returns-clause-read
returns-clause-read c =
    let before = c.mark_items.new.needed.items in
    let after = c.mark_keys.new.needed.items in
    let items = c.args.projection.now.items.items in
    let keys = keys_of (projection_of c.args.projection.now) in
    let count : c.len.result ≡ length (map item_of items) = c.len.ensures ∙ c.args.projection.now.items.ok.0 ∙ sym (length-map items item_of) in
    both_ok (AreRead after (map item_of items)) (AreKeysRead after (length (map item_of items)) keys) c.mark_keys.result
    (on_ok_weaker c.mark_keys.result (λ still. still_items before after still (map item_of items)
    (subst (λ (xs : List coded_item.Item). AreRead before (map item_of xs)) c.deref.ensures.value c.in_ok-mark_items.ensures.read)) c.mark_keys.ensures.still)
    (on_ok_weaker c.mark_keys.result (λ read. subst (λ (n : ℕ). AreKeysRead after n keys) count
    (subst (λ (ks : List (Option ℕ × Key)). AreKeysRead after c.len.result ks) c.in_ok-keys.ensures
    (subst (λ (ks : List SortKey). AreKeysRead after c.len.result (map sort_key_of ks)) c.deref-2.ensures.value read))) c.mark_keys.ensures.read)

pub returns-clause-still : goal.returns-clause-still
returns-clause-still c =
    on_ok_weaker c.mark_keys.result (λ still. still_then c.args.needed.now.items c.mark_items.new.needed.items c.mark_keys.new.needed.items c.in_ok-mark_items.ensures.still still) c.mark_keys.ensures.still
