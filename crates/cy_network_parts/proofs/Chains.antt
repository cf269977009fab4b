-- The chain of a part: the parts from it down to the first one that has no part below it, or two.
use Rattle.std.proofs.Common.{◌≡◌, ◌≢◌, List, [], ◌∷◌, ◌++◌, ◌⊎◌, inl, inr, length, drop, get_or, refl, sym, ap, subst, ◌∙◌, append_assoc, arith}
use Rattle.std.specs.List.{All}
use Rattle.std.proofs.lemmas.List.{append-nil, length-append}
use Rattle.std.proofs.lemmas.List.Elements.{All-cons, All-nil}
use Rattle.cy_graph.specs.Graph.{Content}
use Rattle.cy_planner_algebra.specs.Plans as plan
use Rattle.cy_planner_algebra.specs.Plans.{Plan}
use Rattle.cy_network_parts.specs.Limits.{HasTooManyRows}
use Rattle.cy_network_parts.specs.Parts.{below_count, chain, first_below}
use Rattle.cy_network_parts.specs.internal.Parts.{own_of_all}
use Rattle.cy_network_parts.proofs.Steps.{too_many_one}

-- a part has one part below it, or it hasn't
pub single_or_not : (p : Plan) → (below_count p ≡ 1) ⊎ (below_count p ≢ 1)
single_or_not (plan.lookup p column attribute) = inl refl
single_or_not (plan.filter p test) = inl refl
single_or_not (plan.all_different p columns) = inl refl
single_or_not (plan.project p outputs) = inl refl
single_or_not (plan.distinct p) = inl refl
single_or_not _ = inr (λ is. absurd (omega (arith, is)))

-- a chain goes on with that of the one part below
pub chain_more : (p : Plan) → below_count p ≡ 1 → chain p ≡ p ∷ chain (first_below p)
chain_more (plan.lookup p column attribute) one = refl
chain_more (plan.filter p test) one = refl
chain_more (plan.all_different p columns) one = refl
chain_more (plan.project p outputs) one = refl
chain_more (plan.distinct p) one = refl
chain_more _ one = absurd (omega (arith, one))

-- or ends
pub chain_ends : (p : Plan) → below_count p ≢ 1 → chain p ≡ p ∷ []
chain_ends (plan.lookup p column attribute) other = absurd (other refl)
chain_ends (plan.filter p test) other = absurd (other refl)
chain_ends (plan.all_different p columns) other = absurd (other refl)
chain_ends (plan.project p outputs) other = absurd (other refl)
chain_ends (plan.distinct p) other = absurd (other refl)
chain_ends _ other = refl

pub chain_first : (p : Plan) → (rest : List Plan) × (chain p ≡ p ∷ rest)
chain_first p = elim (single_or_not p) [ inl one ↦ (chain (first_below p), chain_more p one) | inr other ↦ ([], chain_ends p other) ]

heads : (p q : Plan) (ps qs : List Plan) → p ∷ ps ≡ q ∷ qs → p ≡ q
heads p q ps qs same = ap (λ xs. get_or xs 0 p) same

pub same_first : (p q : Plan) → chain p ≡ chain q → p ≡ q
same_first p q same =
    let a = chain_first p in
    let b = chain_first q in
    heads p q a.0 b.0 (sym a.1 ∙ same ∙ b.1)

-- a chain isn't empty, and so nothing ends with two parts where one part is
never_two : {Q : Type 0} (p x q : Plan) (above : List Plan) → p ∷ [] ≡ x ∷ (above ++ chain q) → Q
never_two p x q above same =
    let a = chain_first q in
    let n = ap length same in
    let m = length-append above (chain q) in
    let k = ap length a.1 in
    absurd (omega (arith, n, m, k))

module _ (p x : Plan) (above : List Plan) (q : Plan) (linked : chain p ≡ x ∷ (above ++ chain q)) where
  -- the uppermost of more parts has one part below it, and the others are the chain of that one
  pub link : (below_count p ≡ 1) × (p ≡ x) × (chain (first_below p) ≡ above ++ chain q)
  link = elim (single_or_not p) [
    | inl one ↦
        let same = sym (chain_more p one) ∙ linked in
        (one, heads p x (chain (first_below p)) (above ++ chain q) same, ap (drop 1) same)
    | inr other ↦ never_two p x q above (sym (chain_ends p other) ∙ linked)
  ]

-- each part above the last one stands right above the next one
pub linked_one : (p : Plan) (above : List Plan) (r q : Plan) → chain p ≡ above ++ r ∷ chain q → (below_count r ≡ 1) × (first_below r ≡ q)
linked_one p [] r q linked =
    let l = link p r [] q linked in
    (subst (λ s. below_count s ≡ 1) l.1 l.0, sym (ap first_below l.1) ∙ same_first (first_below p) q l.2)
linked_one p (x ∷ above) r q linked =
    let same : chain p ≡ x ∷ ((above ++ r ∷ []) ++ chain q) = linked ∙ ap (λ xs. x ∷ xs) (sym (append_assoc above (r ∷ []) (chain q))) in
    let l = link p x (above ++ r ∷ []) q same in
    linked_one (first_below p) above r q (l.2 ∙ append_assoc above (r ∷ []) (chain q))

-- what holds of a part and, where it holds of a part, of the one below it, holds of each part of the chain
pub all_down : (P : Plan → Type 0) → ((r : Plan) → below_count r ≡ 1 → P r → P (first_below r)) → (p : Plan) (above : List Plan) (q : Plan) → chain p ≡ above ++ chain q → P p → P q
all_down P each p [] q linked holds = subst P (same_first p q linked) holds
all_down P each p (x ∷ above) q linked holds =
    let l = link p x above q linked in
    all_down P each (first_below p) above q l.2 (each p l.0 holds)

-- and of each part above the last one
pub all_above : (P : Plan → Type 0) → ((r : Plan) → below_count r ≡ 1 → P r → P (first_below r)) → (p : Plan) (above : List Plan) (q : Plan) → chain p ≡ above ++ chain q → P p → All P above
all_above P each p [] q linked holds = All-nil P
all_above P each p (x ∷ above) q linked holds =
    let l = link p x above q linked in
    All-cons P x above (subst P l.1 holds) (all_above P each (first_below p) above q l.2 (each p l.0 holds))

-- what a part and those below it have is what a part of its chain and those below that have, and then what those above that have themselves
pub all_of : {X : Type 0} (all own : Plan → List X) → ((r : Plan) → below_count r ≡ 1 → all r ≡ all (first_below r) ++ own r)
    → (p : Plan) (above : List Plan) (q : Plan) → chain p ≡ above ++ chain q → all p ≡ all q ++ own_of_all own above
all_of all own each p [] q linked = ap all (same_first p q linked) ∙ sym (append-nil (all q))
all_of all own each p (x ∷ above) q linked =
    let l = link p x above q linked in
    each p l.0 ∙ ap (λ xs. xs ++ own p) (all_of all own each (first_below p) above q l.2) ∙ append_assoc (all q) (own_of_all own above) (own p)
    ∙ ap (λ r. all q ++ (own_of_all own above ++ own r)) l.1

-- what the lowest one has stands first
pub own_of_last : {X : Type 0} (own : Plan → List X) (above : List Plan) (r : Plan) → own_of_all own (above ++ r ∷ []) ≡ own r ++ own_of_all own above
own_of_last own [] r = sym (append-nil (own r))
own_of_last own (x ∷ above) r = ap (λ xs. xs ++ own x) (own_of_last own above r) ∙ append_assoc (own r) (own_of_all own above) (own x)

-- a part that has too many rows is one of those of the whole
pub too_many_up : (graph : Content) (p : Plan) (above : List Plan) (q : Plan) → chain p ≡ above ++ chain q → HasTooManyRows graph q → HasTooManyRows graph p
too_many_up graph p [] q linked found = subst (HasTooManyRows graph) (sym (same_first p q linked)) found
too_many_up graph p (x ∷ above) q linked found =
    let l = link p x above q linked in
    too_many_one graph p l.0 (too_many_up graph (first_below p) above q l.2 found)

-- the part that a chain ends with is no larger than the whole
pub chain_above : (p : Plan) (above : List Plan) (r q : Plan) → chain p ≡ (above ++ r ∷ []) ++ chain q → below_count r ≡ 1 → first_below r ≡ q → chain p ≡ above ++ chain r
chain_above p above r q linked one same =
    linked ∙ append_assoc above (r ∷ []) (chain q) ∙ ap (λ xs. above ++ xs) (ap (λ s. r ∷ chain s) (sym same) ∙ sym (chain_more r one))
