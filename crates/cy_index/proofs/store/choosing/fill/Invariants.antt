use Rattle.std.proofs.Common.{◌≡◌, ◌||◌, ℕ}
use Rattle.cy_index.specs.declared.keys.Key.{Key}
use Rattle.cy_index.specs.internal.Indexed.{is_listed}
use Rattle.cy_index.specs.internal.Postings.{Goes, latest, stands}
use Rattle.cy_index.specs.internal.Under.{same_key}
use Rattle.cy_index.proofs.store.choosing.fill.Given as goal

-- what is there, with the nodes that are left, is what is to be there
abbrev pub invariant-loop-id : goal.invariant-loop-id
invariant-loop-id l = record {
  goes : Goes l.initial.postings l.postings;
  rest : (k : Key) (n : ℕ) → (stands same_key k n (latest l.postings) || is_listed l.place l.pair k n l.id-iterator) ≡ (stands same_key k n (latest l.initial.postings) || is_listed l.place l.pair k n l.graph.now.content.nodes);
}
