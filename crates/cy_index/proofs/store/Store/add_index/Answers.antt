use Rattle.std.proofs.Common.{◌≡◌, ◌++◌, ◌∷◌, [], length, IsNone, sym, ap, subst, ◌∙◌, arith}
use Rattle.cy_index.specs.Index.{StoreState}
use Rattle.cy_index.specs.declared.keys.Pair.{Pair}
use Rattle.cy_index.specs.internal.Indexed.{IsIndexed}
use Rattle.cy_index.proofs.Filling.{chosen_indexed, not_refused, none_is}
use Rattle.cy_index.proofs.store.Store.add_index.Goals as goal

-- the new index has the nodes of the graph
pub invariant_of-self-2 : goal.invariant_of-self-2
invariant_of-self-2 c =
    let inside = c.self.inside in
    let pair : Pair = record { label = c.args.label; key = c.args.key } in
    let none = none_is inside.graph.was (subst (λ (s : StoreState). IsNone s.graph.was) (sym c.self.view_is) c.requires) in
    let place : c.len.result ≡ length inside.chosen.items = omega (arith, c.len.ensures, c.reserve.new.self.ok.0, ap length c.reserve.ensures.items) in
    let fills = not_refused c.fill.result (sym c.if-is_err.ensures.value) c.fill.ensures.ok in
    subst (λ ps. IsIndexed ps inside.graph c.commit.new.self) (sym (c.push_reserved.ensures.items ∙ ap (λ ps. ps ++ pair ∷ []) c.reserve.ensures.items))
    (chosen_indexed inside.chosen.items pair inside.graph inside.postings c.fill.new.postings c.commit.new.self c.len.result c.fill.ensures.graph none c.self.invariant place fills c.commit.ensures.one c.commit.ensures.numbers)
