use Rattle.std.proofs.Common.{◌≡◌, ◌⊎◌, ◌++◌, [], map, Option, Some, None, Result, Ok, Err, IsErrAnd, MatchResult, inl, inr, ap, sym, ◌∙◌}
use Rattle.cy_trees.specs.TreeModels.{item_of, projection_of}
use Rattle.cy_scope_kinds.specs.declared.faults.ScopeFault.{ScopeFault}
use Rattle.cy_scope_kinds.specs.declared.faults.ScopeFault.TheVariants.{NoMemory}
use Rattle.cy_scope_kinds.specs.Scopes.{Scope}
use Rattle.cy_scope.specs.ClauseScopes.{columns_of}
use Rattle.cy_scope_kinds.specs.Faults.{first}
use Rattle.cy_scope.specs.ProjectionFaults.{items_fault, keys_fault, seen_by_keys}
use Rattle.cy_scope.proofs.projection_checks.check_projection.Goals as goal

refused : (r : Result Scope ScopeFault) (fault : Option ScopeFault) (columns : Scope) (f : ScopeFault) → IsErrAnd r (λ g. g ≡ f) → (f ≡ NoMemory) ⊎ (fault ≡ Some f) →
    MatchResult r (λ made. (fault ≡ None) × (made ≡ columns)) (λ g. (g ≡ NoMemory) ⊎ (fault ≡ Some g))
refused (Ok s) fault columns f h is = absurd h
refused (Err g) fault columns f h (inl want) = inl (h ∙ want)
refused (Err g) fault columns f h (inr is) = inr (is ∙ ap Some (sym h))

of_keys : (f : ScopeFault) (whole keys : Option ScopeFault) → whole ≡ keys → (f ≡ NoMemory) ⊎ (keys ≡ Some f) → (f ≡ NoMemory) ⊎ (whole ≡ Some f)
of_keys f whole keys same (inl want) = inl want
of_keys f whole keys same (inr is) = inr (same ∙ is)

pub returns-in_err-check_order : goal.returns-in_err-check_order
returns-in_err-check_order c =
    let p = projection_of c.args.projection.now in
    let scope = c.args.scope.now in
    let f = c.in_err-check_order.field-0.0 in
    let items : items_fault c.args.naming scope [] p.items ≡ None = ap (λ is. items_fault c.args.naming scope [] (map item_of is)) (sym c.deref.ensures.value) ∙ c.in_ok-columns.ensures.0 in
    let columns : c.in_ok-columns.columns ≡ columns_of scope p.items = c.in_ok-columns.ensures.1 ∙ ap (λ is. columns_of scope (map item_of is)) c.deref.ensures.value in
    let keys = λ (s : Scope). keys_fault (s ++ seen_by_keys p scope) p.items p.order in
    let whole = first (items_fault c.args.naming scope [] p.items) (keys (columns_of scope p.items)) in
    let same : whole ≡ keys c.in_ok-columns.columns = ap (λ i. first i (keys (columns_of scope p.items))) items ∙ ap keys (sym columns) in
    refused c.from_residual-in_err-check_order.result whole (columns_of scope p.items) f c.from_residual-in_err-check_order.ensures.1
    (of_keys f whole (keys c.in_ok-columns.columns) same c.in_err-check_order.ensures)
