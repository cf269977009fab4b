-- Conditions are put on a plan one after another.
use Rattle.std.proofs.Common.{◌≡◌, ℕ, Bool, true, false, ◌&&◌, List, [], ◌∷◌, ◌++◌, refl, sym, ap, subst, ◌∙◌}
use Rattle.std.specs.Prelude.{reverse}
use Rattle.std.specs.List.{AllByRecursion}
use Rattle.std.proofs.lemmas.List.Folds.{list_all-append}
use Rattle.cy_values.specs.declared.rows.Cell.{Cell}
use Rattle.cy_values.proofs.Booleans.{and_swap, with_true}
use Rattle.cy_values.proofs.Lists.{each_append, each_parts, each_reversed}
use Rattle.cy_trees.specs.Trees.{Expression}
use Rattle.cy_graph.specs.Graph.{Content}
use Rattle.cy_planner_algebra.specs.Plans as plan
use Rattle.cy_planner_algebra.specs.Plans.{Plan}
use Rattle.cy_planner_algebra.specs.WellFormed.{IsWellFormed}
use Rattle.cy_planner_rows.specs.Rows.{keeps}
use Rattle.cy_planner_pushdown.specs.internal.Conditions.{cells_at, keeps_cells}
use Rattle.cy_planner_pushdown.specs.internal.Ends.{IsEnd}
use Rattle.cy_planner_pushdown.specs.internal.Pushed.{CanBePushed, IsPushed, IsSifted}
use Rattle.cy_planner_pushdown.specs.internal.Sifting.{AreDivided, AreParted, ArePartlyPut}
use Rattle.cy_planner_pushdown.specs.internal.Tests.{CanAllBePushed, are_true}
use Rattle.cy_planner_pushdown.proofs.EndRows.{can_nodes}
use Rattle.cy_planner_pushdown.proofs.SiftedPlans.{passes_alike, sifted_after, sifted_itself}
use Rattle.cy_planner_pushdown.proofs.Splitting.{all_reversed, alone_too, done_too, stays_too}
use Rattle.cy_planner_pushdown.proofs.Stepping.{can_alike}

are_both : (xs ys : List (List ℕ × Expression)) (graph : Content) (row : List Cell) → are_true (xs ++ ys) graph row ≡ (are_true xs graph row && are_true ys graph row)
are_both xs ys graph row = list_all-append (λ (t : List ℕ × Expression). keeps_cells graph t.1 t.0 row) xs ys

abbrev CanGo : Plan → List ℕ × Expression → Type 0
CanGo p t = CanBePushed p t.0 t.1

-- ---- one condition after another

pub put_none : (below : Plan) (all : List (List ℕ × Expression)) → CanAllBePushed below all → ArePartlyPut below all all below
put_none below all can = record {
  done = λ graph row. true;
  same = λ graph row. with_true (are_true all graph row);
  sifted = sifted_itself below;
  can_rest = can;
}

module _ (below : Plan) (all rest : List (List ℕ × Expression)) (t : List ℕ × Expression) (p : Plan) (put : ArePartlyPut below all (rest ++ t ∷ []) p) where
  pub can_now : CanAllBePushed p rest × CanAllBePushed p (t ∷ [])
  can_now = each_parts (CanGo p) rest (t ∷ []) put.can_rest

  pub put_one : (q : Plan) → IsPushed p t.0 t.1 q → ArePartlyPut below all rest q
  put_one q is = record {
    done = λ graph row. put.done graph row && keeps_cells graph t.1 t.0 row;
    same = λ graph row.
        put.same graph row
        ∙ ap (λ b. b && put.done graph row) (are_both rest (t ∷ []) graph row)
        ∙ done_too (are_true rest graph row) (keeps_cells graph t.1 t.0 row) (put.done graph row);
    sifted = sifted_after below p q put.done (λ graph. keeps_cells graph t.1 t.0) put.sifted is;
    can_rest = can_alike p q is.kinds rest can_now.0;
  }

pub put_all : (below : Plan) (all : List (List ℕ × Expression)) (p : Plan) → ArePartlyPut below all [] p → IsSifted below (are_true all) p
put_all below all p put = passes_alike below p put.done (are_true all) put.same put.sifted

-- ---- two parts of them

pub divide_none : (all : List (List ℕ × Expression)) → AreDivided all (reverse all) [] []
divide_none all = record {
  same = λ graph row. sym (all_reversed (λ (t : List ℕ × Expression). keeps_cells graph t.1 t.0 row) all) ∙ with_true (are_true (reverse all) graph row);
  can = λ p can. (each_reversed (CanGo p) all can, tt, tt);
}

module _ (all rest : List (List ℕ × Expression)) (t : List ℕ × Expression) (asked others : List (List ℕ × Expression)) (is : AreDivided all (rest ++ t ∷ []) asked others) where
  same_now : (graph : Content) (row : List Cell) → are_true all graph row ≡ ((are_true rest graph row && (keeps_cells graph t.1 t.0 row && true)) && (are_true asked graph row && are_true others graph row))
  same_now graph row = is.same graph row ∙ ap (λ b. b && (are_true asked graph row && are_true others graph row)) (are_both rest (t ∷ []) graph row)

  pub divide_asked : AreDivided all rest (asked ++ t ∷ []) others
  divide_asked = record {
    same = λ graph row.
        same_now graph row
        ∙ alone_too (are_true rest graph row) (keeps_cells graph t.1 t.0 row) (are_true asked graph row) (are_true others graph row)
        ∙ ap (λ b. are_true rest graph row && (b && are_true others graph row)) (sym (are_both asked (t ∷ []) graph row));
    can = λ p can.
        let parts = is.can p can in
        let now = each_parts (CanGo p) rest (t ∷ []) parts.0 in
        (now.0, each_append (CanGo p) asked (t ∷ []) parts.1 now.1, parts.2);
  }

  pub divide_other : AreDivided all rest asked (others ++ t ∷ [])
  divide_other = record {
    same = λ graph row.
        same_now graph row
        ∙ stays_too (are_true rest graph row) (keeps_cells graph t.1 t.0 row) (are_true asked graph row) (are_true others graph row)
        ∙ ap (λ b. are_true rest graph row && (are_true asked graph row && b)) (sym (are_both others (t ∷ []) graph row));
    can = λ p can.
        let parts = is.can p can in
        let now = each_parts (CanGo p) rest (t ∷ []) parts.0 in
        (now.0, parts.1, each_append (CanGo p) others (t ∷ []) parts.2 now.1);
  }

-- one part after the other
pub put_divided : (below : Plan) (all asked others : List (List ℕ × Expression)) → AreDivided all [] asked others → (p q : Plan) → IsSifted below (are_true others) p → IsSifted p (are_true asked) q → IsSifted below (are_true all) q
put_divided below all asked others divided p q first second =
    passes_alike below q (λ graph row. are_true others graph row && are_true asked graph row) (are_true all)
    (λ graph row. divided.same graph row ∙ and_swap (are_true asked graph row) (are_true others graph row))
    (sifted_after below p q (are_true others) (are_true asked) first second)

-- ---- those on one node together

-- what is left in two parts, and what is done
done_alone : (a o d : Bool) → ((a && o) && d) ≡ (o && (d && a))
done_alone true true true = refl
done_alone true true false = refl
done_alone true false d = refl
done_alone false true true = refl
done_alone false true false = refl
done_alone false false d = refl

pub put_nodes : (below : Plan) (all some alone others : List (List ℕ × Expression)) (column : ℕ) (p : Plan) → ArePartlyPut below all some p → AreParted column some [] alone others
    → (q : Plan) → IsSifted p (λ graph row. are_true alone graph (cells_at (column ∷ []) row)) q → ArePartlyPut below all others q
put_nodes below all some alone others column p put parted q is = record {
  done = λ graph row. put.done graph row && are_true alone graph (cells_at (column ∷ []) row);
  same = λ graph row.
      put.same graph row
      ∙ ap (λ b. b && put.done graph row) (parted.same graph row)
      ∙ done_alone (are_true alone graph (cells_at (column ∷ []) row)) (are_true others graph row) (put.done graph row);
  sifted = sifted_after below p q put.done (λ graph row. are_true alone graph (cells_at (column ∷ []) row)) put.sifted is;
  can_rest = can_alike p q is.kinds others (parted.can p put.can_rest).1;
}

-- a condition on the one cell of a row
cell_kept : (graph : Content) (test : Expression) (columns : List ℕ) (column : ℕ) → columns ≡ column ∷ [] → (row : List Cell) → keeps_cells graph test columns row ≡ keeps_cells graph test (0 ∷ []) (cells_at (column ∷ []) row)
cell_kept graph test columns column is row = ap (λ cs. keeps graph test (cells_at cs row)) is

pub alone_again : (graph : Content) (row : List Cell) (tests : List (List ℕ × Expression)) → AllByRecursion (λ (t : List ℕ × Expression). t.0 ≡ 0 ∷ []) tests
    → are_true tests graph (cells_at (0 ∷ []) row) ≡ are_true tests graph row
alone_again graph row [] each = refl
alone_again graph row (t ∷ tests) each =
    λ i. (ap (λ cs. keeps graph t.1 (cells_at cs (cells_at (0 ∷ []) row))) each.0 ∙ sym (ap (λ cs. keeps graph t.1 (cells_at cs row)) each.0)) i && alone_again graph row tests each.1 i

module _ (column : ℕ) (t : List ℕ × Expression) (on : t.0 ≡ column ∷ []) where
  can_on : (p : Plan) → IsWellFormed p → IsEnd p column → CanBePushed p t.0 t.1 → CanBePushed plan.nodes (0 ∷ []) t.1
  can_on p good end can = can_nodes p column t.1 good end (subst (λ cs. CanBePushed p cs t.1) on can)

  pub part_first : (rest : List (List ℕ × Expression)) → AreParted column (rest ++ t ∷ []) rest ((0 ∷ [], t.1) ∷ []) []
  part_first rest = record {
    same = λ graph row.
        are_both rest (t ∷ []) graph row
        ∙ ap (λ b. are_true rest graph row && b) (ap (λ b. b && true) (cell_kept graph t.1 t.0 column on row) ∙ with_true (keeps_cells graph t.1 (0 ∷ []) (cells_at (column ∷ []) row) && true));
    can = λ p can. ((each_parts (CanGo p) rest (t ∷ []) can).0, tt);
    on_nodes = λ p good end can. (can_on p good end (each_parts (CanGo p) rest (t ∷ []) can).1.0, tt);
    single = (refl, tt);
  }

  pub part_alone : (all rest alone others : List (List ℕ × Expression)) → AreParted column all (rest ++ t ∷ []) alone others → AreParted column all rest (alone ++ (0 ∷ [], t.1) ∷ []) others
  part_alone all rest alone others parted = record {
    same = λ graph row.
        parted.same graph row
        ∙ ap (λ b. b && (are_true alone graph (cells_at (column ∷ []) row) && are_true others graph row))
        (are_both rest (t ∷ []) graph row ∙ ap (λ b. are_true rest graph row && (b && true)) (cell_kept graph t.1 t.0 column on row))
        ∙ alone_too (are_true rest graph row) (keeps_cells graph t.1 (0 ∷ []) (cells_at (column ∷ []) row)) (are_true alone graph (cells_at (column ∷ []) row)) (are_true others graph row)
        ∙ ap (λ b. are_true rest graph row && (b && are_true others graph row)) (sym (are_both alone ((0 ∷ [], t.1) ∷ []) graph (cells_at (column ∷ []) row)));
    can = λ p can. let both = parted.can p can in ((each_parts (CanGo p) rest (t ∷ []) both.0).0, both.1);
    on_nodes = λ p good end can.
        each_append (CanGo plan.nodes) alone ((0 ∷ [], t.1) ∷ []) (parted.on_nodes p good end can)
        (can_on p good end (each_parts (CanGo p) rest (t ∷ []) (parted.can p can).0).1.0, tt);
    single = each_append (λ (u : List ℕ × Expression). u.0 ≡ 0 ∷ []) alone ((0 ∷ [], t.1) ∷ []) parted.single (refl, tt);
  }

pub part_other : (column : ℕ) (t : List ℕ × Expression) (all rest alone others : List (List ℕ × Expression)) → AreParted column all (rest ++ t ∷ []) alone others → AreParted column all rest alone (others ++ t ∷ [])
part_other column t all rest alone others parted = record {
  same = λ graph row.
      parted.same graph row
      ∙ ap (λ b. b && (are_true alone graph (cells_at (column ∷ []) row) && are_true others graph row)) (are_both rest (t ∷ []) graph row)
      ∙ stays_too (are_true rest graph row) (keeps_cells graph t.1 t.0 row) (are_true alone graph (cells_at (column ∷ []) row)) (are_true others graph row)
      ∙ ap (λ b. are_true rest graph row && (are_true alone graph (cells_at (column ∷ []) row) && b)) (sym (are_both others (t ∷ []) graph row));
  can = λ p can.
      let both = parted.can p can in
      let parts = each_parts (CanGo p) rest (t ∷ []) both.0 in
      (parts.0, each_append (CanGo p) others (t ∷ []) both.1 parts.1);
  on_nodes = parted.on_nodes;
  single = parted.single;
}
