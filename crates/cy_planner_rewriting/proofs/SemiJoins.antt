-- Look-ups on a semi join, on its left part.
use Rattle.std.proofs.Common.{◌≡◌, ℕ, ◌+◌, ◌<◌, List, [], ◌∷◌, ◌++◌, Vec, Global, length, map, refl, sym, ap, subst, arith}
use Rattle.std.specs.List.{All, list_any}
use Rattle.std.proofs.lemmas.List.Elements.{All-append, All-cons, All-head, All-tail, All-weaker}
use Rattle.cy_values.specs.declared.rows.Cell.{Cell}
use Rattle.cy_graph.specs.Graph.{Content}
use Rattle.cy_planner_algebra.specs.declared.operators.Attribute.{Attribute}
use Rattle.cy_planner_algebra.specs.declared.operators.Keeping.{Keeping}
use Rattle.cy_planner_algebra.specs.declared.operators.KeyColumns.{KeyColumns}
use Rattle.cy_planner_algebra.specs.declared.operators.Operator.{Operator}
use Rattle.cy_planner_algebra.specs.Plans as plan
use Rattle.cy_planner_algebra.specs.Plans.{Plan, width}
use Rattle.cy_planner_algebra.specs.PlanModels.{plan_of}
use Rattle.cy_planner_algebra.specs.Keys.{is_same_key, right_key}
use Rattle.cy_planner_algebra.specs.Meaning.{has_partner, rows_of, stays, with_attribute}
use Rattle.cy_planner_algebra.specs.Parts.{parts}
use Rattle.cy_planner_algebra.specs.WellFormed.{IsKeyBetween, IsWellFormed}
use Rattle.cy_planner_algebra.specs.Within.{IsWithin}
use Rattle.cy_planner_rows.specs.declared.places.Wanted.{Wanted}
use Rattle.cy_planner_rows.specs.internal.Lookups.{over}
use Rattle.cy_planner_rows.proofs.OverRows.{IsLong, long_rows}
use Rattle.cy_planner_rewriting.specs.declared.splits.Rejoin.TheVariants as joint
use Rattle.cy_planner_rewriting.specs.declared.splits.Side.{Side}
use Rattle.cy_planner_rewriting.specs.internal.Splits.{AreSides, side_plan}
use Rattle.cy_planner_rewriting.specs.Rewritten.{IsRewritten}
use Rattle.cy_planner_rewriting.proofs.Congruent.{all_split, over_semi, rewritten_again, same_plan, same_within}
use Rattle.cy_planner_rewriting.proofs.Joining.{all_of, keys_longer}
use Rattle.cy_planner_rewriting.proofs.Passing.{first_step, own_within, tested_before}

-- ---- one look-up

module _ (p right : Plan) (keys : List KeyColumns) (keeping : Keeping) (column : ℕ) (a : Attribute) where
  abbrev up : Plan
  up = plan.lookup p column a

  abbrev before : Plan
  before = plan.lookup (plan.semi p right keys keeping) column a

  abbrev after : Plan
  after = plan.semi up right keys keeping

  keys_before : All (IsKeyBetween (width p) (width right)) keys → All (IsKeyBetween (width up) (width right)) keys
  keys_before each = All-weaker (IsKeyBetween (width p) (width right)) (IsKeyBetween (width p + 1) (width right)) (λ k is. (let one = is.0 in omega (arith, one), is.1)) keys each

  same_partners : (graph : Content) (row : List Cell) → All (IsKeyBetween (width p) (width right)) keys → IsLong (width p) row
      → stays keeping (has_partner keys (rows_of graph right) (with_attribute graph column a row)) ≡ stays keeping (has_partner keys (rows_of graph right) row)
  same_partners graph row between long =
      let inside : All (λ c. c < length row) (map (λ k. k.left) keys) = subst (λ (n : ℕ). All (λ c. c < n) (map (λ k. k.left) keys)) (sym long) (all_of (width p) (width right) keys between).0 in
      ap (λ (key : List Cell). stays keeping (list_any (λ (r : List Cell). is_same_key key (right_key keys r)) (rows_of graph right))) (keys_longer row _ (map (λ k. k.left) keys) inside)

  semi_rows : (graph : Content) → IsWellFormed p → All (IsKeyBetween (width p) (width right)) keys → rows_of graph after ≡ rows_of graph before
  semi_rows graph well between =
      tested_before (IsLong (width p)) (with_attribute graph column a) (λ l. stays keeping (has_partner keys (rows_of graph right) l)) (λ l. stays keeping (has_partner keys (rows_of graph right) l))
      (λ row long. same_partners graph row between long) (rows_of graph p) (long_rows graph p well)

  semi_bounded : (graph : Content) (tables : List (List (List Cell))) → IsWellFormed before → All (IsWithin graph tables) (parts before) → All (IsWithin graph tables) (parts after)
  semi_bounded graph tables well each =
      let W : Plan → Type 0 = IsWithin graph tables in
      let middle : Plan = plan.semi p right keys keeping in
      let both = all_split W (parts p) (parts right) (All-tail W middle (parts p ++ parts right) (All-tail W before (middle ∷ parts p ++ parts right) each)) in
      All-cons W after (parts up ++ parts right)
      (same_within graph tables before after (semi_rows graph well.0.0 well.0.2) (All-head W before (middle ∷ parts p ++ parts right) each))
      (All-append W (parts up) (parts right) (All-cons W up (parts p) (own_within p column a graph tables (well.0.0, well.1, well.2) both.0) both.0) both.1)

  through_semi : IsWellFormed before → IsRewritten before after
  through_semi well = record {
    as_wide = refl;
    well_formed = λ good. ((good.0.0, good.1, good.2), good.0.1, keys_before good.0.2);
    rows = λ graph. semi_rows graph well.0.0 well.0.2;
    sure = λ graph sure. sure;
    bounded = λ graph tables each. semi_bounded graph tables well each;
  }

-- ---- several

pub all_through_semi : (ws : List Wanted) (p right : Plan) (keys : List KeyColumns) (keeping : Keeping) → IsWellFormed (over (plan.semi p right keys keeping) ws)
    → IsRewritten (over (plan.semi p right keys keeping) ws) (plan.semi (over p ws) right keys keeping)
all_through_semi [] p right keys keeping well = same_plan (plan.semi p right keys keeping)
all_through_semi (w ∷ ws) p right keys keeping well =
    first_step w ws (plan.semi p right keys keeping) (plan.semi (plan.lookup p w.column w.attribute) right keys keeping) (plan.semi (over p (w ∷ ws)) right keys keeping) well
    (through_semi p right keys keeping w.column w.attribute)
    (all_through_semi ws (plan.lookup p w.column w.attribute) right keys keeping)

-- ---- the sides

pub semi_sides : (left right : Operator) (r : Side) → r.part ≡ right → r.lookups.items ≡ [] → (keys : Vec KeyColumns Global) (keeping : Keeping) (ws : Vec Wanted Global)
    → IsWellFormed (over (plan.semi (plan_of left) (plan_of right) keys.items keeping) ws.items)
    → AreSides (plan.semi (plan_of left) (plan_of right) keys.items keeping) ws.items (joint.Semi keys keeping) (record { part = left; lookups = ws }) r
semi_sides left right r is_right no_right keys keeping ws well =
    let whole : Plan = over (plan.semi (plan_of left) (plan_of right) keys.items keeping) ws.items in
    let low : Plan = over (plan_of left) ws.items in
    let same : side_plan r ≡ plan_of right = (λ i. over (plan_of (is_right i)) (no_right i)) in
    let put : IsRewritten whole (plan.semi low (plan_of right) keys.items keeping) = all_through_semi ws.items (plan_of left) (plan_of right) keys.items keeping well in
    let good = put.well_formed well in
    record {
      left = good.0;
      right = subst IsWellFormed (sym same) good.1;
      whole = λ p q first second.
          rewritten_again whole (plan.semi low (plan_of right) keys.items keeping) (plan.semi p q keys.items keeping) put
          (over_semi low (plan_of right) p q first (subst (λ (s : Plan). IsRewritten s q) same second) keys.items keeping);
    }
