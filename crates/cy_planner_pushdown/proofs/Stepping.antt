-- Conditions go on in the inputs of an operator, and what stands around these is put around what was made of them.
use Rattle.std.proofs.Common.{◌≡◌, ℕ, ◌+◌, ◌≤◌, true, ◌&&◌, List, [], ◌∷◌, map, refl, sym, ap, subst, ◌∙◌}
use Rattle.std.specs.List.{All}
use Rattle.std.specs.declared.alloc.Global.{Global}
use Rattle.std.specs.declared.vec.Vec.{Vec}
use Rattle.cy_values.specs.declared.rows.Cell.{Cell}
use Rattle.cy_trees.specs.Trees.{Expression}
use Rattle.cy_graph.specs.Graph.{Content}
use Rattle.cy_planner_algebra.specs.declared.operators.Attribute.{Attribute}
use Rattle.cy_planner_algebra.specs.declared.operators.Keeping.{Keeping}
use Rattle.cy_planner_algebra.specs.declared.operators.KeyColumns.{KeyColumns}
use Rattle.cy_planner_algebra.specs.declared.operators.Operator.{Operator}
use Rattle.cy_planner_algebra.specs.Plans as plan
use Rattle.cy_planner_algebra.specs.Plans.{Plan, Output, width}
use Rattle.cy_planner_algebra.specs.PlanModels.{plan_of}
use Rattle.cy_planner_algebra.specs.WellFormed.{IsColumn, IsKeyBetween, IsOutputOver, IsOver, IsWellFormed, greatest_width}
use Rattle.cy_planner_pushdown.specs.declared.above.Above.{Above}
use Rattle.cy_planner_pushdown.specs.declared.places.Place.{Place}
use Rattle.cy_planner_pushdown.specs.declared.splits.Split.{Split}
use Rattle.cy_planner_pushdown.specs.declared.ways.Step.{Step}
use Rattle.cy_planner_pushdown.specs.declared.ways.Step.TheVariants as step
use Rattle.cy_planner_pushdown.specs.declared.tests.CellsTest.{CellsTest}
use Rattle.cy_planner_pushdown.specs.internal.Above.{placed}
use Rattle.cy_planner_pushdown.specs.internal.Pushed.{IsSifted, kind_at}
use Rattle.cy_planner_pushdown.specs.internal.Splits.{IsSplit, Tests}
use Rattle.cy_planner_pushdown.specs.internal.Steps.{IsBelow, IsStep, LeadsTo, LeadsToBoth, Stay}
use Rattle.cy_planner_pushdown.specs.internal.Tests.{CanAllBePushed, are_true, tests_of}
use Rattle.cy_planner_pushdown.proofs.SiftedPlans.{passes_alike, sifted_after, sifted_different, sifted_distinct, sifted_filter, sifted_itself, sifted_join, sifted_lookup, sifted_outer, sifted_project, sifted_semi, sifted_union}

-- where columns show the same kinds
pub can_alike : (p q : Plan) → ((column : ℕ) → kind_at q column ≡ kind_at p column) → (tests : List (List ℕ × Expression)) → CanAllBePushed p tests → CanAllBePushed q tests
can_alike p q same [] each = tt
can_alike p q same (t ∷ tests) each =
    ((each.0.0, ((λ i. map (λ c. same c i) t.0) ∙ each.0.1.0, each.0.1.1), each.0.2), can_alike p q same tests each.1)

module _ (whole : Plan) (tests : List (List ℕ × Expression)) (ts : Tests) (split : IsSplit whole tests [] ts) where
  can_stay : (p : Plan) → IsSifted whole split.moving p → CanAllBePushed p ts.here
  can_stay p moved = can_alike whole p moved.kinds ts.here split.can_here

  all_put : (p q : Plan) → IsSifted whole split.moving p → IsSifted p (are_true ts.here) q → IsSifted whole (are_true tests) q
  all_put p q moved stay =
      passes_alike whole q (λ graph row. split.moving graph row && are_true ts.here graph row) (are_true tests) split.same
      (sifted_after whole p q split.moving (are_true ts.here) moved stay)

  leads : (part : Plan) (others : List (List ℕ × Expression)) (around : Plan → Plan) → IsWellFormed part → CanAllBePushed part others
      → ((p : Plan) → IsSifted part (are_true others) p → IsWellFormed p → IsWellFormed (around p))
      → ((p : Plan) → IsSifted part (are_true others) p → IsSifted whole split.moving (around p))
      → LeadsTo whole tests part others ts.here around
  leads part others around good can fits moved = record {
    good = good;
    can = can;
    fits = fits;
    can_here = λ p is. can_stay (around p) (moved p is);
    sifted = λ p q is stay. all_put (around p) q (moved p is) stay;
  }

  leads_both : (left right : Plan) (around : Plan → Plan → Plan) → IsWellFormed left → IsWellFormed right → CanAllBePushed left ts.first → CanAllBePushed right ts.second
      → ((p q : Plan) → IsSifted left (are_true ts.first) p → IsSifted right (are_true ts.second) q → IsWellFormed p → IsWellFormed q → IsWellFormed (around p q))
      → ((p q : Plan) → IsSifted left (are_true ts.first) p → IsSifted right (are_true ts.second) q → IsSifted whole split.moving (around p q))
      → LeadsToBoth whole tests left ts.first right ts.second ts.here around
  leads_both left right around good_left good_right can_left can_right fits moved = record {
    good_left = good_left;
    good_right = good_right;
    can_left = can_left;
    can_right = can_right;
    fits = fits;
    can_here = λ p q here there. can_stay (around p q) (moved p q here there);
    sifted = λ p q r here there stay. all_put (around p q) r (moved p q here there) stay;
  }

  -- nothing moves
  pub all_stay : (part : Plan) → part ≡ whole → ((graph : Content) (row : List Cell) → split.moving graph row ≡ true) → Stay whole tests part ts.here
  all_stay part is still = record {
    is = is;
    can = split.can_here;
    same = λ graph row. sym (split.same graph row ∙ ap (λ b. b && are_true ts.here graph row) (still graph row));
  }

module _ (tests : List (List ℕ × Expression)) (ts : Tests) where
  -- ---- one operator below

  module _ (below : Plan) where
    pub into_filter : (condition : Expression) → IsWellFormed (plan.filter below condition) → IsSplit (plan.filter below condition) tests [] ts
        → LeadsTo (plan.filter below condition) tests below ts.first ts.here (λ p. plan.filter p condition)
    into_filter condition well split =
        leads (plan.filter below condition) tests ts split below ts.first (λ p. plan.filter p condition) well.0 split.can_first
        (λ p is good. (good, subst (λ (n : ℕ). IsOver n condition) (sym is.as_wide) well.1))
        (λ p is. sifted_filter below p split.moving (passes_alike below p (are_true ts.first) split.moving split.agree is) condition)

    pub into_different : (others : List ℕ) → IsWellFormed (plan.all_different below others) → IsSplit (plan.all_different below others) tests [] ts
        → LeadsTo (plan.all_different below others) tests below ts.first ts.here (λ p. plan.all_different p others)
    into_different others well split =
        leads (plan.all_different below others) tests ts split below ts.first (λ p. plan.all_different p others) well.0 split.can_first
        (λ p is good. (good, subst (λ (n : ℕ). All (IsColumn n) others) (sym is.as_wide) well.1))
        (λ p is. sifted_different below p split.moving (passes_alike below p (are_true ts.first) split.moving split.agree is) others)

    pub into_distinct : IsWellFormed (plan.distinct below) → IsSplit (plan.distinct below) tests [] ts → LeadsTo (plan.distinct below) tests below ts.first ts.here plan.distinct
    into_distinct well split =
        leads (plan.distinct below) tests ts split below ts.first plan.distinct well split.can_first
        (λ p is good. good)
        (λ p is. sifted_distinct below p split.moving (passes_alike below p (are_true ts.first) split.moving split.agree is))

    pub into_lookup : (at : ℕ) (attribute : Attribute) → IsWellFormed (plan.lookup below at attribute) → IsSplit (plan.lookup below at attribute) tests [] ts
        → LeadsTo (plan.lookup below at attribute) tests below ts.first ts.here (λ p. plan.lookup p at attribute)
    into_lookup at attribute well split =
        leads (plan.lookup below at attribute) tests ts split below ts.first (λ p. plan.lookup p at attribute) well.0 split.can_first
        (λ p is good. (good, subst (λ (n : ℕ). IsColumn n at) (sym is.as_wide) well.1, subst (λ (n : ℕ). n + 1 ≤ greatest_width) (sym is.as_wide) well.2))
        (λ p is. sifted_lookup below p (are_true ts.first) split.moving is well.0 at attribute split.agree)

    pub into_project : (outputs : List Output) → IsWellFormed (plan.project below outputs) → IsSplit (plan.project below outputs) tests [] ts
        → LeadsTo (plan.project below outputs) tests below ts.first ts.here (λ p. plan.project p outputs)
    into_project outputs well split =
        leads (plan.project below outputs) tests ts split below ts.first (λ p. plan.project p outputs) well.0 split.can_first
        (λ p is good. (good, subst (λ (n : ℕ). All (IsOutputOver n) outputs) (sym is.as_wide) well.1, well.2))
        (λ p is. sifted_project below p (are_true ts.first) split.moving is outputs split.agree)

  -- ---- two operators below

  module _ (left right : Plan) where
    pub into_semi : (keys : List KeyColumns) (keeping : Keeping) → IsWellFormed (plan.semi left right keys keeping) → IsSplit (plan.semi left right keys keeping) tests [] ts
        → LeadsTo (plan.semi left right keys keeping) tests left ts.first ts.here (λ p. plan.semi p right keys keeping)
    into_semi keys keeping well split =
        leads (plan.semi left right keys keeping) tests ts split left ts.first (λ p. plan.semi p right keys keeping) well.0 split.can_first
        (λ p is good. (good, well.1, subst (λ (n : ℕ). All (IsKeyBetween n (width right)) keys) (sym is.as_wide) well.2))
        (λ p is. sifted_semi left right p split.moving (passes_alike left p (are_true ts.first) split.moving split.agree is) keys keeping)

    pub into_outer : (keys : List KeyColumns) (predicate : Expression) → IsWellFormed (plan.outer left right keys predicate) → IsSplit (plan.outer left right keys predicate) tests [] ts
        → LeadsTo (plan.outer left right keys predicate) tests left ts.first ts.here (λ p. plan.outer p right keys predicate)
    into_outer keys predicate well split =
        leads (plan.outer left right keys predicate) tests ts split left ts.first (λ p. plan.outer p right keys predicate) well.0 split.can_first
        (λ p is good. (
          good,
          well.1,
          subst (λ (n : ℕ). All (IsKeyBetween n (width right)) keys) (sym is.as_wide) well.2,
          subst (λ (n : ℕ). n + width right ≤ greatest_width) (sym is.as_wide) well.3,
          subst (λ (n : ℕ). IsOver (n + width right) predicate) (sym is.as_wide) well.4,
        ))
        (λ p is. sifted_outer left right p (are_true ts.first) split.moving well.0 split.agree is keys predicate)

    module _ (keys : List KeyColumns) (well : IsWellFormed (plan.join left right keys)) (split : IsSplit (plan.join left right keys) tests [] ts) where
      joined : (p q : Plan) → IsSifted left (are_true ts.first) p → IsSifted right (are_true ts.second) q → IsSifted (plan.join left right keys) split.moving (plan.join p q keys)
      joined p q here there = sifted_join left right p q keys (are_true ts.first) (are_true ts.second) split.moving well.0 split.agree here there

      fit : (p q : Plan) → width p ≡ width left → width q ≡ width right → IsWellFormed p → IsWellFormed q → IsWellFormed (plan.join p q keys)
      fit p q here there good_left good_right = (
        good_left,
        good_right,
        subst (λ (n : ℕ). All (IsKeyBetween n (width q)) keys) (sym here) (subst (λ (n : ℕ). All (IsKeyBetween (width left) n) keys) (sym there) well.2),
        subst (λ (n : ℕ). n + width q ≤ greatest_width) (sym here) (subst (λ (n : ℕ). width left + n ≤ greatest_width) (sym there) well.3),
      )

      nothing : (p : Plan) (others : List (List ℕ × Expression)) → others ≡ [] → IsSifted p (are_true others) p
      nothing p others is = subst (λ (os : List (List ℕ × Expression)). IsSifted p (are_true os) p) (sym is) (sifted_itself p)

      pub into_left : ts.second ≡ [] → LeadsTo (plan.join left right keys) tests left ts.first ts.here (λ p. plan.join p right keys)
      into_left none =
          leads (plan.join left right keys) tests ts split left ts.first (λ p. plan.join p right keys) well.0 split.can_first
          (λ p is good. fit p right is.as_wide refl good well.1)
          (λ p is. joined p right is (nothing right ts.second none))

      pub into_right : ts.first ≡ [] → LeadsTo (plan.join left right keys) tests right ts.second ts.here (λ p. plan.join left p keys)
      into_right none =
          leads (plan.join left right keys) tests ts split right ts.second (λ p. plan.join left p keys) well.1 split.can_second
          (λ p is good. fit left p refl is.as_wide well.0 good)
          (λ p is. joined left p (nothing left ts.first none) is)

      pub into_both : LeadsToBoth (plan.join left right keys) tests left ts.first right ts.second ts.here (λ p q. plan.join p q keys)
      into_both =
          leads_both (plan.join left right keys) tests ts split left right (λ p q. plan.join p q keys) well.0 well.1 split.can_first split.can_second
          (λ p q here there good_left good_right. fit p q here.as_wide there.as_wide good_left good_right)
          joined

    pub into_union : IsWellFormed (plan.union left right) → IsSplit (plan.union left right) tests [] ts → LeadsToBoth (plan.union left right) tests left ts.first right ts.second ts.here plan.union
    into_union well split =
        leads_both (plan.union left right) tests ts split left right plan.union well.0 well.1 split.can_first split.can_second
        (λ p q here there good_left good_right. (good_left, good_right, here.as_wide ∙ well.2 ∙ sym there.as_wide))
        (λ p q here there.
        sifted_union left right p q split.moving
        (passes_alike left p (are_true ts.first) split.moving (λ graph row. (split.agree graph row).0) here)
        (passes_alike right q (are_true ts.second) split.moving (λ graph row. (split.agree graph row).1) there))

-- the right one of two operators is done
pub leads_left : (whole : Plan) (tests : List (List ℕ × Expression)) (left right : Plan) (lefts rights here : List (List ℕ × Expression)) (around : Plan → Plan → Plan) (one : Plan → Plan) (done : Plan)
    → LeadsToBoth whole tests left lefts right rights here around → IsSifted right (are_true rights) done → IsWellFormed done → ((p : Plan) → one p ≡ around p done) → LeadsTo whole tests left lefts here one
leads_left whole tests left right lefts rights here around one done leads there good_right is = record {
  good = leads.good_left;
  can = leads.can_left;
  fits = λ p is_sifted good. subst IsWellFormed (sym (is p)) (leads.fits p done is_sifted there good good_right);
  can_here = λ p is_sifted. subst (λ (q : Plan). CanAllBePushed q here) (sym (is p)) (leads.can_here p done is_sifted there);
  sifted = λ p q is_sifted stay. leads.sifted p done q is_sifted there (subst (λ (r : Plan). IsSifted r (are_true here) q) (is p) stay);
}

-- they go on below what stands above
pub steps_below : (whole : Plan) (tests : List (List ℕ × Expression)) (a : Above) (p : Plan) (split : Split) (result : Step) → IsBelow a p split result
    → LeadsTo whole tests p (tests_of split.first.items) (tests_of split.here.items) (placed a) → IsStep whole tests result
steps_below whole tests a p split (step.Here part here) is leads = absurd is
steps_below whole tests a p split (step.Below frame place) is leads =
    subst (λ (b : Above). LeadsTo whole tests (plan_of place.part) (tests_of place.tests.items) (tests_of frame.here.items) (placed b)) (sym is.0)
    (subst (λ (h : Vec CellsTest Global). LeadsTo whole tests (plan_of place.part) (tests_of place.tests.items) (tests_of h.items) (placed a)) (sym is.1)
    (subst (λ (q : Plan). LeadsTo whole tests q (tests_of place.tests.items) (tests_of split.here.items) (placed a)) (sym is.2)
    (subst (λ (h : Vec CellsTest Global). LeadsTo whole tests p (tests_of h.items) (tests_of split.here.items) (placed a)) (sym is.3) leads)))
steps_below whole tests a p split (step.Both pair here left right) is leads = absurd is

-- the same, of places that stand for operators and conditions
module _ (whole : Plan) (tests here : List (List ℕ × Expression)) where
  pub at_place : (around : Plan → Plan) (part : Operator) (others : Vec CellsTest Global) (place : Place) → place.part ≡ part → place.tests ≡ others
      → LeadsTo whole tests (plan_of part) (tests_of others.items) here around → LeadsTo whole tests (plan_of place.part) (tests_of place.tests.items) here around
  at_place around part others place is are leads =
      subst (λ (q : Operator). LeadsTo whole tests (plan_of q) (tests_of place.tests.items) here around) (sym is)
      (subst (λ (h : Vec CellsTest Global). LeadsTo whole tests (plan_of part) (tests_of h.items) here around) (sym are) leads)

  pub at_places : (around : Plan → Plan → Plan) (left right : Operator) (lefts rights : Vec CellsTest Global) (l r : Place)
      → l.part ≡ left → l.tests ≡ lefts → r.part ≡ right → r.tests ≡ rights
      → LeadsToBoth whole tests (plan_of left) (tests_of lefts.items) (plan_of right) (tests_of rights.items) here around
      → LeadsToBoth whole tests (plan_of l.part) (tests_of l.tests.items) (plan_of r.part) (tests_of r.tests.items) here around
  at_places around left right lefts rights l r is_left are_left is_right are_right leads =
      subst (λ (q : Operator). LeadsToBoth whole tests (plan_of q) (tests_of l.tests.items) (plan_of r.part) (tests_of r.tests.items) here around) (sym is_left)
      (subst (λ (h : Vec CellsTest Global). LeadsToBoth whole tests (plan_of left) (tests_of h.items) (plan_of r.part) (tests_of r.tests.items) here around) (sym are_left)
      (subst (λ (q : Operator). LeadsToBoth whole tests (plan_of left) (tests_of lefts.items) (plan_of q) (tests_of r.tests.items) here around) (sym is_right)
      (subst (λ (h : Vec CellsTest Global). LeadsToBoth whole tests (plan_of left) (tests_of lefts.items) (plan_of right) (tests_of h.items) here around) (sym are_right) leads)))
