-- What a join holds for another input is an operator below that join.
use Rattle.std.proofs.Common.{◌≡◌, ℕ, zero, suc, ◌<◌, Bool, true, false, not, ◌&&◌, ◌||◌, List, ◌++◌, refl, sym, ap, subst, ◌∙◌, arith}
use Rattle.std.specs.List.{All}
use Rattle.std.proofs.Math.Bool.{and-false}
use Rattle.std.proofs.lemmas.Bool.{false≢true, le-leb, leb-false, leb-true, lt-leb, and_parts}
use Rattle.std.proofs.lemmas.List.Elements.{All-tail}
use Rattle.cy_planner_algebra.specs.declared.operators.KeyColumns.{KeyColumns}
use Rattle.cy_planner_algebra.specs.Plans as plan
use Rattle.cy_planner_algebra.specs.Plans.{Plan}
use Rattle.cy_planner_algebra.specs.Parts.{parts}
use Rattle.cy_network_parts.specs.declared.held.Side.TheVariants.{Left, Right}
use Rattle.cy_network_parts.specs.Shared.{columns_at, is_as_large, is_held_left, is_held_right, is_narrow, join_count, left_held, most_between, right_held}
use Rattle.cy_network_parts.specs.SamePlans.{most_deep, same_columns, same_plan}
use Rattle.cy_network_parts.proofs.Same.{plan_is}
use Rattle.cy_network_parts.proofs.Slices.{all_left, all_right}

-- a join has the table under the key at its left, or at its right
abbrev pub has_left : Plan → List ℕ → Plan → List KeyColumns → Bool
has_left table key left ks = same_plan most_deep table left && same_columns key (columns_at Left ks)

abbrev pub has_right : Plan → List ℕ → Plan → List KeyColumns → Bool
has_right table key right ks = same_plan most_deep table right && same_columns key (columns_at Right ks)

-- what follows from either follows from one of them
either : {P : Type 0} (a b : Bool) → (a ≡ true → P) → (b ≡ true → P) → (a || b) ≡ true → P
either true b first second so = first refl
either false b first second so = second so

-- what would not be so if it were, is not so
pub not_so : (b : Bool) → (b ≡ true → b ≡ false) → b ≡ false
not_so true each = each refl
not_so false each = refl

-- ---- it has fewer joins

pub left_fewer : (table : Plan) (key : List ℕ) (p : Plan) (more : ℕ) → is_held_left table key p more ≡ true → join_count table < join_count p
left_fewer table key (plan.join left right ks) more held =
    either (not (is_as_large left right) && is_held_left table key right most_between) (has_left table key left ks)
    (λ deeper. let n = left_fewer table key right most_between (and_parts (not (is_as_large left right)) (is_held_left table key right most_between) deeper).1 in omega (arith, n))
    (λ own. let n = ap join_count (plan_is most_deep table left (and_parts (same_plan most_deep table left) (same_columns key (columns_at Left ks)) own).0) in omega (arith, n)) held
left_fewer table key (plan.all_different p columns) zero held = absurd (false≢true held)
left_fewer table key (plan.all_different p columns) (suc more) held = left_fewer table key p more held
left_fewer table key (plan.project p outputs) zero held = absurd (false≢true held)
left_fewer table key (plan.project p outputs) (suc more) held = left_fewer table key p more held
left_fewer table key (plan.union left right) more held = let n = left_fewer table key right most_between held in omega (arith, n)
left_fewer table key _ more held = absurd (false≢true held)

pub right_fewer : (table : Plan) (key : List ℕ) (p : Plan) (more : ℕ) → is_held_right table key p more ≡ true → join_count table < join_count p
right_fewer table key (plan.join left right ks) more held =
    either (is_as_large left right && is_held_right table key left most_between) (has_right table key right ks)
    (λ deeper. let n = right_fewer table key left most_between (and_parts (is_as_large left right) (is_held_right table key left most_between) deeper).1 in omega (arith, n))
    (λ own. let n = ap join_count (plan_is most_deep table right (and_parts (same_plan most_deep table right) (same_columns key (columns_at Right ks)) own).0) in omega (arith, n)) held
right_fewer table key (plan.lookup p column attribute) zero held = absurd (false≢true held)
right_fewer table key (plan.lookup p column attribute) (suc more) held = right_fewer table key p more held
right_fewer table key (plan.filter p test) zero held = absurd (false≢true held)
right_fewer table key (plan.filter p test) (suc more) held = right_fewer table key p more held
right_fewer table key (plan.all_different p columns) zero held = absurd (false≢true held)
right_fewer table key (plan.all_different p columns) (suc more) held = right_fewer table key p more held
right_fewer table key (plan.project p outputs) zero held = absurd (false≢true held)
right_fewer table key (plan.project p outputs) (suc more) held = right_fewer table key p more held
right_fewer table key _ more held = absurd (false≢true held)

module _ (left right : Plan) (ks : List KeyColumns) where
  -- a right input isn't held where none holds it
  right_unfound : is_held_right right (columns_at Right ks) left most_between ≡ false → right_held (plan.join left right ks) ≡ false
  right_unfound none =
      let other = not (left_held (plan.join left right ks)) in
      ap (λ b. other && (is_narrow left && b)) none ∙ ap (λ b. other && b) (and-false (is_narrow left)) ∙ and-false other

  -- a left input that is as large as the right one isn't held there
  pub left_unheld : is_as_large left right ≡ true → left_held (plan.join left right ks) ≡ false
  left_unheld large =
      not_so (left_held (plan.join left right ks))
      (λ held. let n = left_fewer left (columns_at Left ks) right most_between held in let m = leb-true (join_count right) (join_count left) large in absurd (omega (arith, n, m)))

  -- nor is a right one that is larger
  pub right_unheld : is_as_large left right ≡ false → right_held (plan.join left right ks) ≡ false
  right_unheld small =
      let less = leb-false (join_count right) (join_count left) small in
      right_unfound
      (not_so (is_held_right right (columns_at Right ks) left most_between) (λ held. let n = right_fewer right (columns_at Right ks) left most_between held in absurd (omega (arith, n, less))))

  -- none holds an input where the other one isn't gone through to look for it
  pub left_unsought : (not (is_as_large left right) && is_held_left left (columns_at Left ks) right most_between) ≡ false → left_held (plan.join left right ks) ≡ false
  left_unsought none =
      let held = left_held (plan.join left right ks) in
      not_so held
      (λ so.
      let n = left_fewer left (columns_at Left ks) right most_between so in
      sym (ap (λ b. not b && held) (lt-leb (join_count right) (join_count left) n)) ∙ none)

  pub right_unsought : (is_as_large left right && is_held_right right (columns_at Right ks) left most_between) ≡ false → right_held (plan.join left right ks) ≡ false
  right_unsought none =
      let held = is_held_right right (columns_at Right ks) left most_between in
      right_unfound
      (not_so held
      (λ so.
      let n = right_fewer right (columns_at Right ks) left most_between so in
      sym (ap (λ b. b && held) (le-leb (join_count right) (join_count left) (omega (arith, n)))) ∙ none))

-- ---- of both inputs of a join, one is held at most

pub right_kept : (p : Plan) → left_held p ≡ true → right_held p ≡ false
right_kept (plan.join left right ks) so = ap (λ b. not b && (is_narrow left && is_held_right right (columns_at Right ks) left most_between)) so
right_kept _ so = refl

pub left_kept : (p : Plan) → right_held p ≡ true → left_held p ≡ false
left_kept p so = not_so (left_held p) (λ held. absurd (false≢true (sym (right_kept p held) ∙ so)))

-- ---- what holds of all operators of a plan holds of those of a table that is held there

module _ (P : Plan → Type 0) where
  pub left_inside : (table : Plan) (key : List ℕ) (p : Plan) (more : ℕ) → is_held_left table key p more ≡ true → All P (parts p) → All P (parts table)
  left_inside table key (plan.join left right ks) more held all =
      let below = All-tail P (plan.join left right ks) (parts left ++ parts right) all in
      either (not (is_as_large left right) && is_held_left table key right most_between) (has_left table key left ks)
      (λ deeper. left_inside table key right most_between (and_parts (not (is_as_large left right)) (is_held_left table key right most_between) deeper).1 (all_right P (parts left) (parts right) below))
      (λ own. subst (λ q. All P (parts q)) (sym (plan_is most_deep table left (and_parts (same_plan most_deep table left) (same_columns key (columns_at Left ks)) own).0)) (all_left P (parts left) (parts right) below)) held
  left_inside table key (plan.all_different p columns) zero held all = absurd (false≢true held)
  left_inside table key (plan.all_different p columns) (suc more) held all = left_inside table key p more held (All-tail P (plan.all_different p columns) (parts p) all)
  left_inside table key (plan.project p outputs) zero held all = absurd (false≢true held)
  left_inside table key (plan.project p outputs) (suc more) held all = left_inside table key p more held (All-tail P (plan.project p outputs) (parts p) all)
  left_inside table key (plan.union left right) more held all =
      left_inside table key right most_between held (all_right P (parts left) (parts right) (All-tail P (plan.union left right) (parts left ++ parts right) all))
  left_inside table key _ more held all = absurd (false≢true held)

  pub right_inside : (table : Plan) (key : List ℕ) (p : Plan) (more : ℕ) → is_held_right table key p more ≡ true → All P (parts p) → All P (parts table)
  right_inside table key (plan.join left right ks) more held all =
      let below = All-tail P (plan.join left right ks) (parts left ++ parts right) all in
      either (is_as_large left right && is_held_right table key left most_between) (has_right table key right ks)
      (λ deeper. right_inside table key left most_between (and_parts (is_as_large left right) (is_held_right table key left most_between) deeper).1 (all_left P (parts left) (parts right) below))
      (λ own. subst (λ q. All P (parts q)) (sym (plan_is most_deep table right (and_parts (same_plan most_deep table right) (same_columns key (columns_at Right ks)) own).0)) (all_right P (parts left) (parts right) below)) held
  right_inside table key (plan.lookup p column attribute) zero held all = absurd (false≢true held)
  right_inside table key (plan.lookup p column attribute) (suc more) held all = right_inside table key p more held (All-tail P (plan.lookup p column attribute) (parts p) all)
  right_inside table key (plan.filter p test) zero held all = absurd (false≢true held)
  right_inside table key (plan.filter p test) (suc more) held all = right_inside table key p more held (All-tail P (plan.filter p test) (parts p) all)
  right_inside table key (plan.all_different p columns) zero held all = absurd (false≢true held)
  right_inside table key (plan.all_different p columns) (suc more) held all = right_inside table key p more held (All-tail P (plan.all_different p columns) (parts p) all)
  right_inside table key (plan.project p outputs) zero held all = absurd (false≢true held)
  right_inside table key (plan.project p outputs) (suc more) held all = right_inside table key p more held (All-tail P (plan.project p outputs) (parts p) all)
  right_inside table key _ more held all = absurd (false≢true held)
