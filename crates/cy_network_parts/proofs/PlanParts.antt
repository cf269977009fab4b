-- A part of a plan and the parts right below it.
use Rattle.std.proofs.Common.{◌≡◌, ℕ, ◌+◌, ◌<◌, ◌≤◌, Bool, true, false, not, List, [], ◌∷◌, ◌++◌, length, refl, sym, ap, subst, ◌∙◌, arith}
use Rattle.std.proofs.lemmas.List.{append-nil, length-append, length-map}
use Rattle.cy_values.specs.declared.rows.Cell.{Cell}
use Rattle.cy_network_memory.specs.Counts.{Counts, no_rows}
use Rattle.cy_planner_algebra.specs.Plans as plan
use Rattle.cy_planner_algebra.specs.Plans.{Plan, width}
use Rattle.cy_planner_algebra.specs.Parts.{parts}
use Rattle.cy_planner_algebra.specs.Sure.{IsSure}
use Rattle.cy_planner_algebra.specs.WellFormed.{IsWellFormed}
use Rattle.cy_network_relevance.specs.Lists.{are_apart}
use Rattle.cy_network_operators.specs.Deltas.{counts}
use Rattle.cy_network_counts.specs.Merges.{all_columns}
use Rattle.cy_network_parts.specs.internal.Inputs.{below_contents}
use Rattle.cy_network_parts.specs.Memories.{contents, emptied_where, is_row_by_row, is_scan, keys, none_where, own_contents, own_keys}
use Rattle.cy_network_parts.specs.Parts.{below_count, first_below, second_below}
use Rattle.cy_network_parts.specs.Shared.{left_held, right_held}
use Rattle.cy_network_sources.specs.Work.{in_all}

-- what a part with one part below it is made of
pub record IsOverOne (p : Plan) : Type 0 where
  pub of_keys : keys p ≡ keys (first_below p) ++ own_keys p
  pub of_contents : (rows : Plan → List (List Cell)) → contents rows p ≡ contents rows (first_below p) ++ own_contents rows p
  pub of_parts : parts p ≡ p ∷ parts (first_below p)
  pub well_formed : IsWellFormed p → IsWellFormed (first_below p)
  pub sure : IsSure p → IsSure (first_below p)
  pub sums : (own : Plan → ℕ) → in_all own p ≡ in_all own (first_below p) + own p

pub over_one : (p : Plan) → below_count p ≡ 1 → IsOverOne p
over_one (plan.lookup p column attribute) h =
    record { of_keys = refl; of_contents = λ rows. refl; of_parts = refl; well_formed = λ good. good.0; sure = λ sure graph is. sure graph is; sums = λ own. refl }
over_one (plan.filter p test) h =
    record { of_keys = sym (append-nil (keys p)); of_contents = λ rows. sym (append-nil (contents rows p)); of_parts = refl; well_formed = λ good. good.0; sure = λ sure graph is. (sure graph is).0; sums = λ own. refl }
over_one (plan.all_different p columns) h =
    record { of_keys = sym (append-nil (keys p)); of_contents = λ rows. sym (append-nil (contents rows p)); of_parts = refl; well_formed = λ good. good.0; sure = λ sure graph is. sure graph is; sums = λ own. refl }
over_one (plan.project p outputs) h =
    record { of_keys = refl; of_contents = λ rows. refl; of_parts = refl; well_formed = λ good. good.0; sure = λ sure graph is. (sure graph is).0; sums = λ own. refl }
over_one (plan.distinct p) h =
    record { of_keys = sym (append-nil (keys p)); of_contents = λ rows. sym (append-nil (contents rows p)); of_parts = refl; well_formed = λ good. good; sure = λ sure graph is. sure graph is; sums = λ own. refl }
over_one _ h = absurd (omega (arith, h))

-- what a part with two parts below it is made of
pub record IsOverTwo (p : Plan) : Type 0 where
  pub of_keys : keys p ≡ (keys (first_below p) ++ keys (second_below p)) ++ own_keys p
  pub of_contents : (rows : Plan → List (List Cell)) → contents rows p ≡ below_contents rows p ++ own_contents rows p
  pub of_parts : parts p ≡ p ∷ parts (first_below p) ++ parts (second_below p)
  pub well_formed_first : IsWellFormed p → IsWellFormed (first_below p)
  pub well_formed_second : IsWellFormed p → IsWellFormed (second_below p)
  pub sure_first : IsSure p → IsSure (first_below p)
  pub sure_second : IsSure p → IsSure (second_below p)
  pub sums : (own : Plan → ℕ) → in_all own p ≡ in_all own (first_below p) + in_all own (second_below p) + own p

pub over_two : (p : Plan) → below_count p ≡ 2 → IsOverTwo p
over_two (plan.join left right ks) h = record {
  of_keys = refl;
  of_contents = λ rows. refl;
  of_parts = refl;
  well_formed_first = λ good. good.0;
  well_formed_second = λ good. good.1;
  sure_first = λ sure graph is. (sure graph is).0;
  sure_second = λ sure graph is. (sure graph is).1;
  sums = λ own. refl;
}
over_two (plan.outer left right ks test) h = record {
  of_keys = refl;
  of_contents = λ rows. refl;
  of_parts = refl;
  well_formed_first = λ good. good.0;
  well_formed_second = λ good. good.1;
  sure_first = λ sure graph is. (sure graph is).0;
  sure_second = λ sure graph is. (sure graph is).1;
  sums = λ own. refl;
}
over_two (plan.semi left right ks keeping) h = record {
  of_keys = refl;
  of_contents = λ rows. refl;
  of_parts = refl;
  well_formed_first = λ good. good.0;
  well_formed_second = λ good. good.1;
  sure_first = λ sure graph is. (sure graph is).0;
  sure_second = λ sure graph is. (sure graph is).1;
  sums = λ own. refl;
}
over_two (plan.union left right) h = record {
  of_keys = refl;
  of_contents = λ rows. refl;
  of_parts = refl;
  well_formed_first = λ good. good.0;
  well_formed_second = λ good. good.1;
  sure_first = λ sure graph is. (sure graph is).0;
  sure_second = λ sure graph is. (sure graph is).1;
  sums = λ own. refl;
}
over_two _ h = absurd (omega (arith, h))

-- of two things none is there, or both are
unless_long : {A B : Type 0} (so : Bool) (x : A) (y : B) → length (none_where so (x ∷ [])) ≡ length (none_where so (y ∷ []))
unless_long true x y = refl
unless_long false x y = refl

-- one thing, unless this is so
pub one_unless : {A : Type 0} (so : Bool) (x : A) → mir.Val.bool_byte (not so) ≡ length (none_where so (x ∷ []))
one_unless true x = refl
one_unless false x = refl

-- a part has as many memories as they have key columns
pub own_long : (rows : Plan → List (List Cell)) (p : Plan) → length (own_contents rows p) ≡ length (own_keys p)
own_long rows (plan.lookup p column attribute) = unless_long (is_scan (plan.lookup p column attribute)) (counts (rows p)) (column ∷ [])
own_long rows (plan.project p outputs) = unless_long (is_row_by_row p outputs) (counts (rows (plan.project p outputs))) (all_columns (length outputs))
own_long rows (plan.union left right) = unless_long (are_apart left right) (counts (rows (plan.union left right))) (all_columns (width left))
own_long rows _ = refl

one : {A B : Type 0} (xs ys : List A) (us vs : List B) → length xs ≡ length us → length ys ≡ length vs → length (xs ++ ys) ≡ length (us ++ vs)
one xs ys us vs first second = length-append xs ys ∙ ap (λ n. n + length ys) first ∙ ap (λ n. length us + n) second ∙ sym (length-append us vs)

two : {A B : Type 0} (xs ys zs : List A) (us vs ws : List B) → length xs ≡ length us → length ys ≡ length vs → length zs ≡ length ws
    → length ((xs ++ ys) ++ zs) ≡ length ((us ++ vs) ++ ws)
two xs ys zs us vs ws first second third = one (xs ++ ys) zs (us ++ vs) ws (one xs ys us vs first second) third

-- memories that count nothing are as many
pub emptied_long : (so : Bool) (counted : List Counts) → length (emptied_where so counted) ≡ length counted
emptied_long true counted = length-map counted (λ _. no_rows)
emptied_long false counted = refl

-- and so has a plan
pub all_long : (rows : Plan → List (List Cell)) (p : Plan) → length (contents rows p) ≡ length (keys p)
all_long rows (plan.join left right ks) =
    let p = plan.join left right ks in
    two (emptied_where (left_held p) (contents rows left)) (emptied_where (right_held p) (contents rows right)) (own_contents rows p) (keys left) (keys right) (own_keys p)
    (emptied_long (left_held p) (contents rows left) ∙ all_long rows left) (emptied_long (right_held p) (contents rows right) ∙ all_long rows right) refl
all_long rows (plan.outer left right ks test) = two (contents rows left) (contents rows right) (own_contents rows (plan.outer left right ks test)) (keys left) (keys right) (own_keys (plan.outer left right ks test)) (all_long rows left) (all_long rows right) refl
all_long rows (plan.semi left right ks keeping) = two (contents rows left) (contents rows right) (own_contents rows (plan.semi left right ks keeping)) (keys left) (keys right) (own_keys (plan.semi left right ks keeping)) (all_long rows left) (all_long rows right) refl
all_long rows (plan.lookup p column attribute) = one (contents rows p) (own_contents rows (plan.lookup p column attribute)) (keys p) (own_keys (plan.lookup p column attribute)) (all_long rows p) (own_long rows (plan.lookup p column attribute))
all_long rows (plan.filter p test) = all_long rows p
all_long rows (plan.all_different p columns) = all_long rows p
all_long rows (plan.project p outputs) = one (contents rows p) (own_contents rows (plan.project p outputs)) (keys p) (own_keys (plan.project p outputs)) (all_long rows p) (own_long rows (plan.project p outputs))
all_long rows (plan.distinct p) = all_long rows p
all_long rows (plan.union left right) = two (contents rows left) (contents rows right) (own_contents rows (plan.union left right)) (keys left) (keys right) (own_keys (plan.union left right)) (all_long rows left) (all_long rows right) (own_long rows (plan.union left right))
all_long rows _ = refl

-- a part has two parts below it at most
pub few_below : (p : Plan) → below_count p ≤ 2
few_below plan.unit = omega arith
few_below _ = omega arith

one_more : {A : Type 0} (x : A) (xs : List A) → length (x ∷ xs) ≡ length xs + 1
one_more x xs = omega arith

-- the parts below a part are fewer than its own
pub fewer_first : (p : Plan) → 0 < below_count p → length (parts (first_below p)) < length (parts p)
fewer_first (plan.join left right ks) h = let n = length-append (parts left) (parts right) in let m = one_more (plan.join left right ks) (parts left ++ parts right) in omega (arith, n, m)
fewer_first (plan.outer left right ks test) h = let n = length-append (parts left) (parts right) in let m = one_more (plan.outer left right ks test) (parts left ++ parts right) in omega (arith, n, m)
fewer_first (plan.semi left right ks keeping) h = let n = length-append (parts left) (parts right) in let m = one_more (plan.semi left right ks keeping) (parts left ++ parts right) in omega (arith, n, m)
fewer_first (plan.lookup p column attribute) h = let m = one_more (plan.lookup p column attribute) (parts p) in omega (arith, m)
fewer_first (plan.filter p test) h = let m = one_more (plan.filter p test) (parts p) in omega (arith, m)
fewer_first (plan.all_different p columns) h = let m = one_more (plan.all_different p columns) (parts p) in omega (arith, m)
fewer_first (plan.project p outputs) h = let m = one_more (plan.project p outputs) (parts p) in omega (arith, m)
fewer_first (plan.distinct p) h = let m = one_more (plan.distinct p) (parts p) in omega (arith, m)
fewer_first (plan.union left right) h = let n = length-append (parts left) (parts right) in let m = one_more (plan.union left right) (parts left ++ parts right) in omega (arith, n, m)
fewer_first _ h = absurd (omega (arith, h))

-- a part's own memories are some of all
pub own_few : (p : Plan) → length (own_keys p) ≤ length (keys p)
own_few (plan.join left right ks) = let n = length-append (keys left ++ keys right) (own_keys (plan.join left right ks)) in omega (arith, n)
own_few (plan.outer left right ks test) = let n = length-append (keys left ++ keys right) (own_keys (plan.outer left right ks test)) in omega (arith, n)
own_few (plan.semi left right ks keeping) = let n = length-append (keys left ++ keys right) (own_keys (plan.semi left right ks keeping)) in omega (arith, n)
own_few (plan.lookup p column attribute) = let n = length-append (keys p) (own_keys (plan.lookup p column attribute)) in omega (arith, n)
own_few (plan.project p outputs) = let n = length-append (keys p) (own_keys (plan.project p outputs)) in omega (arith, n)
own_few (plan.union left right) = let n = length-append (keys left ++ keys right) (own_keys (plan.union left right)) in omega (arith, n)
own_few _ = omega arith

-- and those of the part below it, or of the right one of two, are some of the others
pub first_few : (p : Plan) → below_count p ≡ 1 → length (keys (first_below p)) + length (own_keys p) ≤ length (keys p)
first_few p alone = let n = ap length (over_one p alone).of_keys ∙ length-append (keys (first_below p)) (own_keys p) in omega (arith, n)

pub second_few : (p : Plan) → below_count p ≡ 2 → length (keys (second_below p)) + length (own_keys p) ≤ length (keys p)
second_few p pair =
    let facts = over_two p pair in
    let n = ap length facts.of_keys ∙ length-append (keys (first_below p) ++ keys (second_below p)) (own_keys p) in
    let m = length-append (keys (first_below p)) (keys (second_below p)) in
    omega (arith, n, m)

-- a part with two parts below it has exactly two
two_below : (p : Plan) → 1 < below_count p → below_count p ≡ 2
two_below (plan.join left right ks) h = refl
two_below (plan.outer left right ks test) h = refl
two_below (plan.semi left right ks keeping) h = refl
two_below (plan.union left right) h = refl
two_below _ h = absurd (omega (arith, h))

-- the second part below is well formed, and has fewer parts
pub second_good : (p q : Plan) (n : ℕ) → n ≡ below_count p → 1 < n → q ≡ second_below p → IsWellFormed p → IsWellFormed q
second_good p q n is more same good =
    subst IsWellFormed (sym same) ((over_two p (two_below p (subst (λ k. 1 < k) is more))).well_formed_second good)

pub first_fewer : (p q : Plan) → 0 < below_count p → q ≡ first_below p → length (parts q) < length (parts p)
first_fewer p q some same = subst (λ r. length (parts r) < length (parts p)) (sym same) (fewer_first p some)

pub second_fewer : (p q : Plan) (n : ℕ) → n ≡ below_count p → 1 < n → q ≡ second_below p → length (parts q) < length (parts p)
second_fewer p q n is more same =
    let all = ap length (over_two p (two_below p (subst (λ k. 1 < k) is more))).of_parts in
    let both = length-append (parts (first_below p)) (parts (second_below p)) in
    let here = ap (λ r. length (parts r)) same in
    omega (arith, all, both, here)
