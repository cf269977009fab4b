use Rattle.std.proofs.Common.{◌≡◌, ◌||◌, subst}
use Rattle.cy_index.specs.declared.keys.Key.{Key}
use Rattle.cy_index.specs.internal.Under.{among, by_label, is_here}
use Rattle.cy_index.proofs.Places.{places_next}
use Rattle.cy_index.proofs.keys.push_label_keys.Goals as goal

-- one place more
pub loop-place-preserved : goal.loop-place-preserved
loop-place-preserved c =
    let l = c.loop-place in
    let props = c.args.props.now in
    let pair = c.index-chosen-place.result in
    let came = subst (λ label. (k : Key) → among k c.push_key_by_label.new.keys.items ≡ (among k l.keys.items || is_here l.place (λ value. by_label label props value pair) k)) c.as_str.ensures c.in_ok-push_key_by_label.ensures in
    places_next c.args.chosen.now (by_label c.args.label.now props) l.place pair c.push.new.self.items l.keys.items c.push_key_by_label.new.keys.items c.loop-place-test.true c.index-chosen-place.is l.invariant came
