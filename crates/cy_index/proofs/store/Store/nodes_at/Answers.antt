use Rattle.std.proofs.Common.{◌≡◌, ◌∙◌}
use Rattle.std.proofs.lemmas.Result.{IfOk-weaker}
use Rattle.cy_index.specs.Index.{nodes_where}
use Rattle.cy_index.specs.internal.Numbers.{ids_of}
use Rattle.cy_index.specs.internal.Postings.{latest, numbers_at}
use Rattle.cy_index.specs.internal.Under.{same_key, is_key_of}
use Rattle.cy_index.proofs.Listed.{under_key}
use Rattle.cy_index.proofs.store.Store.nodes_at.Goals as goal

-- what is kept under the key are the nodes that stand there
pub returns : goal.returns
returns c =
    let inside = c.self.inside in
    let k = c.args.key.now in
    let kept = latest inside.postings in
    rw (← c.self.view_is) (IfOk-weaker c.ids.result (λ nodes. nodes.items ≡ ids_of (numbers_at same_key k kept)) (λ nodes. nodes.items ≡ nodes_where (λ node. is_key_of inside.chosen.items node.labels node.props k) inside.graph.now.content)
    (λ nodes are. are ∙ under_key inside.chosen.items k inside.graph.now kept c.laws.ensures c.self.invariant.now c.ids.ensures.rising) c.ids.ensures.ids)
