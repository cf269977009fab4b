-- How many joins plans have.
use Rattle.std.proofs.Common.{◌≡◌, ◌≢◌, ℕ, ◌+◌, ◌<◌, ◌≤◌, ◌++◌, length, refl, sym, ap, subst, ◌∙◌, arith}
use Rattle.std.proofs.lemmas.List.{length-append}
use Rattle.cy_planner_algebra.specs.Plans as plan
use Rattle.cy_planner_algebra.specs.Plans.{Plan}
use Rattle.cy_planner_algebra.specs.Parts.{parts}
use Rattle.cy_network_parts.specs.Memories.{keys, own_keys}
use Rattle.cy_network_parts.specs.Parts.{below_count, first_below, second_below}
use Rattle.cy_network_parts.specs.Shared.{join_count, own_joins}
use Rattle.cy_network_parts.specs.internal.Parts.{chain_end}
use Rattle.cy_network_parts.proofs.PlanParts.{few_below, fewer_first, first_few, first_fewer, over_two, second_fewer}

-- ---- the operator that ends a chain

-- it has no operator below it, or two, and what is below it is below the whole chain
pub record IsEnd (p q : Plan) : Type 0 where
  pub joins : join_count q ≡ join_count p
  pub forks : below_count q ≢ 1
  pub size : length (parts q) ≤ length (parts p)
  pub memories : length (keys q) ≤ length (keys p)

-- an operator above the chain leaves its end
above_end : (p q : Plan) → below_count p ≡ 1 → join_count (first_below p) ≡ join_count p → IsEnd (first_below p) q → IsEnd p q
above_end p q one same end = record {
  joins = end.joins ∙ same;
  forks = end.forks;
  size = let n = fewer_first p (omega (arith, one)) in let m = end.size in omega (arith, n, m);
  memories = let n = first_few p one in let m = end.memories in omega (arith, n, m);
}

itself : (p : Plan) → below_count p ≢ 1 → IsEnd p p
itself p forks = record { joins = refl; forks = forks; size = omega arith; memories = omega arith }

pub is_end : (p : Plan) → IsEnd p (chain_end p)
is_end plan.unit = itself plan.unit (λ is. absurd (omega (arith, is)))
is_end plan.nodes = itself plan.nodes (λ is. absurd (omega (arith, is)))
is_end (plan.rels types orientation) = itself (plan.rels types orientation) (λ is. absurd (omega (arith, is)))
is_end (plan.join left right ks) = itself (plan.join left right ks) (λ is. absurd (omega (arith, is)))
is_end (plan.outer left right ks test) = itself (plan.outer left right ks test) (λ is. absurd (omega (arith, is)))
is_end (plan.semi left right ks keeping) = itself (plan.semi left right ks keeping) (λ is. absurd (omega (arith, is)))
is_end (plan.lookup p column attribute) = above_end (plan.lookup p column attribute) (chain_end p) refl refl (is_end p)
is_end (plan.filter p test) = above_end (plan.filter p test) (chain_end p) refl refl (is_end p)
is_end (plan.all_different p columns) = above_end (plan.all_different p columns) (chain_end p) refl refl (is_end p)
is_end (plan.project p outputs) = above_end (plan.project p outputs) (chain_end p) refl refl (is_end p)
is_end (plan.distinct p) = above_end (plan.distinct p) (chain_end p) refl refl (is_end p)
is_end (plan.union left right) = itself (plan.union left right) (λ is. absurd (omega (arith, is)))

-- ---- what an operator has

-- one without operators below it has none
pub no_joins : (p : Plan) → below_count p ≡ 0 → join_count p ≡ 0
no_joins plan.unit none = refl
no_joins plan.nodes none = refl
no_joins (plan.rels types orientation) none = refl
no_joins _ none = absurd (omega (arith, none))

-- one with two has those of both, and its own
pub two_joins : (p : Plan) → below_count p ≡ 2 → join_count p ≡ join_count (first_below p) + join_count (second_below p) + own_joins p
two_joins (plan.join left right ks) pair = refl
two_joins (plan.outer left right ks test) pair = omega arith
two_joins (plan.semi left right ks keeping) pair = omega arith
two_joins (plan.union left right) pair = omega arith
two_joins _ pair = absurd (omega (arith, pair))

-- a chain whose end has none below it has none
pub no_forks : (p end : Plan) (count : ℕ) → end ≡ chain_end p → count ≡ below_count end → count ≡ 0 → join_count p ≡ 0
no_forks p end count is counted none =
    let joins = (subst (IsEnd p) (sym is) (is_end p)).joins in
    sym joins ∙ no_joins end (sym counted ∙ none)

-- one whose end has two has those of both, and its own, and both are below it
pub record IsForked (p end left right : Plan) : Type 0 where
  pub joins : join_count p ≡ join_count left + join_count right + own_joins end
  pub left_size : length (parts left) < length (parts p)
  pub right_size : length (parts right) < length (parts p)
  pub left_memories : length (keys left) ≤ length (keys p)
  pub right_memories : length (keys right) ≤ length (keys p)

pub forked : (p end left right : Plan) (count : ℕ) → end ≡ chain_end p → count ≡ below_count end → count ≢ 0 → left ≡ first_below end → right ≡ second_below end → IsForked p end left right
forked p end left right count is counted some left_is right_is =
    let ends = subst (IsEnd p) (sym is) (is_end p) in
    let few = few_below end in
    let forks = ends.forks in
    let pair : below_count end ≡ 2 = omega (arith, few, forks, counted, some) in
    let size = ends.size in
    let memories = ends.memories in
    let facts = over_two end pair in
    let sum = ap length facts.of_keys ∙ length-append (keys (first_below end) ++ keys (second_below end)) (own_keys end) in
    let both = length-append (keys (first_below end)) (keys (second_below end)) in
    let left_keys = ap (λ q. length (keys q)) left_is in
    let right_keys = ap (λ q. length (keys q)) right_is in
    record {
      joins = sym ends.joins ∙ two_joins end pair ∙ ap (λ q. join_count q + join_count (second_below end) + own_joins end) (sym left_is) ∙ ap (λ q. join_count left + join_count q + own_joins end) (sym right_is);
      left_size = let n = first_fewer end left (omega (arith, pair)) left_is in omega (arith, n, size);
      right_size = let n = second_fewer end right 2 (sym pair) (omega arith) right_is in omega (arith, n, size);
      left_memories = omega (arith, sum, both, left_keys, memories);
      right_memories = omega (arith, sum, both, right_keys, memories);
    }

-- each has memories of its own
pub few_joins : (p : Plan) → join_count p ≤ length (keys p)
few_joins (plan.join left right ks) =
    let n = length-append (keys left ++ keys right) (own_keys (plan.join left right ks)) in
    let m = length-append (keys left) (keys right) in
    let a = few_joins left in
    let b = few_joins right in
    omega (arith, n, m, a, b)
few_joins (plan.outer left right ks test) =
    let n = length-append (keys left ++ keys right) (own_keys (plan.outer left right ks test)) in
    let m = length-append (keys left) (keys right) in
    let a = few_joins left in
    let b = few_joins right in
    omega (arith, n, m, a, b)
few_joins (plan.semi left right ks keeping) =
    let n = length-append (keys left ++ keys right) (own_keys (plan.semi left right ks keeping)) in
    let m = length-append (keys left) (keys right) in
    let a = few_joins left in
    let b = few_joins right in
    omega (arith, n, m, a, b)
few_joins (plan.lookup p column attribute) = let n = length-append (keys p) (own_keys (plan.lookup p column attribute)) in let a = few_joins p in omega (arith, n, a)
few_joins (plan.filter p test) = few_joins p
few_joins (plan.all_different p columns) = few_joins p
few_joins (plan.project p outputs) = let n = length-append (keys p) (own_keys (plan.project p outputs)) in let a = few_joins p in omega (arith, n, a)
few_joins (plan.distinct p) = few_joins p
few_joins (plan.union left right) =
    let n = length-append (keys left ++ keys right) (own_keys (plan.union left right)) in
    let m = length-append (keys left) (keys right) in
    let a = few_joins left in
    let b = few_joins right in
    omega (arith, n, m, a, b)
few_joins _ = omega arith
