-- Sums over the assignments of places in a row, and the parts of an assignment.
use Rattle.std.proofs.Common.{◌≡◌, ℕ, suc, ◌+◌, ◌==◌, Bool, true, List, [], ◌∷◌, ◌++◌, map, length, take, drop, refl, sym, ap, ◌∙◌, arith}
use Rattle.std.specs.Prelude.{sum_by, zip}
use Rattle.std.specs.List.{list_any, AllByRecursion}
use Rattle.std.proofs.lemmas.Bool.{eq-eqb, or_left, or_right}
use Rattle.cy_values.specs.declared.numbers.NodeId.{NodeId}
use Rattle.cy_values.specs.declared.rows.Cell.{Cell}
use Rattle.cy_values.specs.declared.rows.Cell.TheVariants as cell
use Rattle.cy_values.proofs.Lists.{each_then, sums_alike}
use Rattle.cy_trees.specs.Trees.{NodePattern}
use Rattle.cy_graph.specs.Graph.{Content}
use Rattle.cy_graph.specs.declared.nodes.Node.{Node}
use Rattle.cy_oneshot_patterns.specs.Places.{Place, node, assignments, candidates}
use Rattle.cy_oneshot_outcomes.proofs.Sums.{all_flat_map, all_map, all_true}
use Rattle.cy_oneshot_outcomes.proofs.Pigeons.{sum_longer}

-- the assignments of places that stand one after another
pub sum_places : (graph : Content) (ps qs : List Place) (f : List Cell → ℕ)
    → sum_by f (assignments graph (ps ++ qs)) ≡ sum_by (λ b. sum_by (λ c. f (b ++ c)) (assignments graph qs)) (assignments graph ps)
sum_places graph [] qs f = (let e : sum_by f (assignments graph qs) ≡ 0 + sum_by f (assignments graph qs) = omega arith in e)
sum_places graph (p ∷ ps) qs f =
    sum_longer f (candidates graph p) (assignments graph (ps ++ qs))
    ∙ sums_alike (λ c. sum_by (λ cs. f (c ∷ cs)) (assignments graph (ps ++ qs))) (λ c. sum_by (λ b. sum_by (λ d. f (c ∷ (b ++ d))) (assignments graph qs)) (assignments graph ps))
    (λ c. sum_places graph ps qs (λ cs. f (c ∷ cs))) (candidates graph p)
    ∙ sym (sum_longer (λ b. sum_by (λ c. f (b ++ c)) (assignments graph qs)) (candidates graph p) (assignments graph ps))

-- each assignment of a place and others
pub all_assigned : (graph : Content) (p : Place) (ps : List Place) (P : List Cell → Type 0)
    → AllByRecursion (λ c. AllByRecursion (λ cs. P (c ∷ cs)) (assignments graph ps)) (candidates graph p) → AllByRecursion P (assignments graph (p ∷ ps))
all_assigned graph p ps P each =
    all_flat_map P (λ c. map (λ cs. c ∷ cs) (assignments graph ps)) (candidates graph p)
    (each_then (λ c. AllByRecursion (λ cs. P (c ∷ cs)) (assignments graph ps)) (λ c. AllByRecursion P (map (λ cs. c ∷ cs) (assignments graph ps)))
    (λ c e. all_map P (λ cs. c ∷ cs) (assignments graph ps) e) (candidates graph p) each)

-- ---- before a step: the last place is a node's

pub record IsLeft (places : List Place) (b : List Cell) : Type 0 where
  pub others : List Cell
  pub last : NodeId
  pub parts : b ≡ others ++ cell.Node last ∷ []
  pub long : length others ≡ length places

pub all_left : (graph : Content) (places : List Place) (n : NodePattern) → AllByRecursion (IsLeft places) (assignments graph (places ++ node n ∷ []))
all_left graph [] n =
    all_assigned graph (node n) [] (IsLeft [])
    (all_map (λ c. AllByRecursion (λ cs. IsLeft [] (c ∷ cs)) ([] ∷ [])) (λ (e : NodeId × Node). cell.Node e.0) graph.nodes
    (all_true (λ (e : NodeId × Node). AllByRecursion (λ cs. IsLeft [] (cell.Node e.0 ∷ cs)) ([] ∷ []))
    (λ e. (record { others = []; last = e.0; parts = refl; long = refl }, tt)) graph.nodes))
all_left graph (p ∷ places) n =
    all_assigned graph p (places ++ node n ∷ []) (IsLeft (p ∷ places))
    (all_true (λ c. AllByRecursion (λ cs. IsLeft (p ∷ places) (c ∷ cs)) (assignments graph (places ++ node n ∷ [])))
    (λ c. each_then (IsLeft places) (λ cs. IsLeft (p ∷ places) (c ∷ cs))
    (λ cs is. record { others = c ∷ is.others; last = is.last; parts = ap (λ l. c ∷ l) is.parts; long = ap suc is.long })
    (assignments graph (places ++ node n ∷ [])) (all_left graph places n)) (candidates graph p))

-- ---- after it: the first place is a node's

abbrev pub is_there : Content → NodeId → Bool
is_there graph y = list_any (λ (n : NodeId × Node). n.0.0 == y.0) graph.nodes

pub record IsRight (graph : Content) (c : List Cell) : Type 0 where
  pub first : NodeId
  pub others : List Cell
  pub parts : c ≡ cell.Node first ∷ others
  pub there : is_there graph first ≡ true

each_there : (nodes : List (NodeId × Node)) → AllByRecursion (λ (e : NodeId × Node). list_any (λ (n : NodeId × Node). n.0.0 == e.0.0) nodes ≡ true) nodes
each_there [] = tt
each_there (n ∷ nodes) = (
  or_left (n.0.0 == n.0.0) (list_any (λ (m : NodeId × Node). m.0.0 == n.0.0) nodes) (eq-eqb n.0.0 n.0.0 refl),
  each_then (λ (e : NodeId × Node). list_any (λ (m : NodeId × Node). m.0.0 == e.0.0) nodes ≡ true) (λ (e : NodeId × Node). list_any (λ (m : NodeId × Node). m.0.0 == e.0.0) (n ∷ nodes) ≡ true)
      (λ e h. or_right (n.0.0 == e.0.0) (list_any (λ (m : NodeId × Node). m.0.0 == e.0.0) nodes) h) nodes (each_there nodes),
)

pub all_right : (graph : Content) (n : NodePattern) (places : List Place) → AllByRecursion (IsRight graph) (assignments graph (node n ∷ places))
all_right graph n places =
    all_assigned graph (node n) places (IsRight graph)
    (all_map (λ c. AllByRecursion (λ cs. IsRight graph (c ∷ cs)) (assignments graph places)) (λ (e : NodeId × Node). cell.Node e.0) graph.nodes
    (each_then (λ (e : NodeId × Node). is_there graph e.0 ≡ true) (λ (e : NodeId × Node). AllByRecursion (λ cs. IsRight graph (cell.Node e.0 ∷ cs)) (assignments graph places))
    (λ e h. all_true (λ cs. IsRight graph (cell.Node e.0 ∷ cs)) (λ cs. record { first = e.0; others = cs; parts = refl; there = h }) (assignments graph places))
    graph.nodes (each_there graph.nodes)))

-- ---- lists cut where they were put together

pub zip_parts : {A B : Type 0} (ks ls : List A) (vs ws : List B) → length vs ≡ length ks → zip (ks ++ ls) (vs ++ ws) ≡ zip ks vs ++ zip ls ws
zip_parts [] ls [] ws long = refl
zip_parts (k ∷ ks) ls (v ∷ vs) ws long = ap (λ l. (k, v) ∷ l) (zip_parts ks ls vs ws (omega (arith, long)))
zip_parts [] ls (v ∷ vs) ws long = absurd (omega (arith, long))
zip_parts (k ∷ ks) ls [] ws long = absurd (omega (arith, long))

pub take_front : {A : Type 0} (xs ys : List A) (n : ℕ) → n ≡ length xs → take n (xs ++ ys) ≡ xs
take_front [] ys n e = ap (λ k. take k ys) e
take_front (x ∷ xs) ys n e = ap (λ k. take k (x ∷ (xs ++ ys))) e ∙ ap (λ l. x ∷ l) (take_front xs ys (length xs) refl)

pub drop_front : {A : Type 0} (xs ys : List A) (n : ℕ) → n ≡ length xs → drop n (xs ++ ys) ≡ ys
drop_front [] ys n e = ap (λ k. drop k ys) e
drop_front (x ∷ xs) ys n e = ap (λ k. drop k (x ∷ (xs ++ ys))) e ∙ drop_front xs ys (length xs) refl
