-- Conditions are looked through one by one, and those that are left are asked of the rows one by one.
use Rattle.std.proofs.Common.{◌≡◌, ℕ, zero, suc, ◌+◌, Bool, true, false, ◌&&◌, List, [], ◌∷◌, ◌++◌, length, map, filter, refl, sym, ap, subst, ◌∙◌, arith}
use Rattle.std.specs.Prelude.{IsOk, reverse}
use Rattle.std.specs.List.{AllByRecursion, Contains}
use Rattle.std.proofs.lemmas.List.{get_or-append-add, length-append, length-reverse}
use Rattle.std.proofs.lemmas.List.Folds.{list_all-append}
use Rattle.cy_values.specs.declared.rows.Cell.{Cell}
use Rattle.cy_values.proofs.Booleans.{and_swap, with_true}
use Rattle.cy_values.proofs.Lists.{each_append, each_parts, each_reversed}
use Rattle.cy_trees.specs.Trees.{Expression}
use Rattle.cy_scope_kinds.specs.Kinded.{IsKinded}
use Rattle.cy_scope_kinds.specs.Rows.{row_fits}
use Rattle.cy_scope_kinds.specs.Scopes.{Scope}
use Rattle.cy_graph.specs.Graph.{Content, State, IsGraph}
use Rattle.cy_planner_algebra.specs.Expressions.{null}
use Rattle.cy_planner_algebra.specs.Plans.{Plan, width}
use Rattle.cy_planner_algebra.specs.Meaning.{rows_of}
use Rattle.cy_planner_rows.specs.internal.Conjuncts.{conjuncts}
use Rattle.cy_planner_rows.specs.Rows.{AreReadOver, FitsRows, IsFiltered, IsReadOver, condition_on, keeps}
use Rattle.cy_planner_rows.proofs.Alike.{one_or_both}
use Rattle.cy_planner_pushdown.specs.After.{AreKept, keeps_each}
use Rattle.cy_planner_pushdown.specs.internal.Conditions.{IsOnCells, cells_at, keeps_cells}
use Rattle.cy_planner_pushdown.specs.internal.Finding.{AreFilteredSoFar, AreFound, HaveTruth}
use Rattle.cy_planner_pushdown.specs.internal.Pushed.{CanBePushed, IsSifted}
use Rattle.cy_planner_pushdown.specs.internal.Tests.{are_true}
use Rattle.cy_planner_pushdown.proofs.Conjunctions.{both_have, both_kinded, each_sifted, keeps_both, sifted_both}
use Rattle.cy_planner_pushdown.proofs.Splitting.{all_reversed, stays_too, done_too, alone_too}

-- ---- lists

-- each is among all
each_itself : {A : Type 0} (all : List A) → AllByRecursion (Contains all) all
each_itself {A = A} all = from all (λ x there. there)
  where
    from : (some : List A) → ((x : A) → Contains some x → Contains all x) → AllByRecursion (Contains all) some
    from [] lies = tt
    from (x ∷ some) lies = (lies x (zero, omega arith, refl), from some (λ y there. lies y (suc there.0, (let less = there.1 in omega (arith, less)), there.2)))

one_of : {A : Type 0} (P : A → Type 0) (all : List A) (x : A) → AllByRecursion P all → Contains all x → P x
one_of P [] x each (i, less, at) = absurd (omega (arith, less))
one_of P (y ∷ all) x each (zero, less, at) = subst P at each.0
one_of P (y ∷ all) x each (suc i, less, at) = one_of P all x each.1 (i, omega (arith, less), at)

pub among_each : {A : Type 0} (P : A → Type 0) (all some : List A) → AllByRecursion P all → AllByRecursion (Contains all) some → AllByRecursion P some
among_each P all [] each lie = tt
among_each P all (x ∷ some) each lie = (one_of P all x each lie.0, among_each P all some each lie.1)

each_both : (graph : Content) (xs ys : List Expression) (row : List Cell) → keeps_each graph (xs ++ ys) row ≡ (keeps_each graph xs row && keeps_each graph ys row)
each_both graph xs ys row = list_all-append (λ (e : Expression). keeps graph e row) xs ys

-- ---- a condition on longer rows

-- columns after others
cells_after : (left row : List Cell) (columns : List ℕ) → cells_at (map (λ n. length left + n) columns) (left ++ row) ≡ cells_at columns row
cells_after left row [] = refl
cells_after left row (c ∷ columns) = λ i. get_or-append-add left row c null i ∷ cells_after left row columns i

keeps_after : (before : ℕ) (test : Expression) (columns : List ℕ) (cells_test : Expression) → IsOnCells test (map (λ n. before + n) columns) cells_test
    → (graph : Content) (left row : List Cell) → length left ≡ before → keeps graph test (left ++ row) ≡ keeps_cells graph cells_test columns row
keeps_after before test columns cells_test same graph left row long =
    same graph (left ++ row)
    ∙ ap (λ n. keeps graph cells_test (cells_at (map (λ k. n + k) columns) (left ++ row))) (sym long)
    ∙ ap (keeps graph cells_test) (cells_after left row columns)

-- ---- one condition after another is looked at

pub none_found : (before : ℕ) (below : Plan) (all : List Expression) → AreFound before below all (reverse all) [] []
none_found before below all = record {
  same = λ graph left right long. sym (all_reversed (λ (e : Expression). keeps graph e (left ++ right)) all) ∙ with_true (keeps_each graph (reverse all) (left ++ right));
  can = tt;
  among_waiting = each_reversed (Contains all) all (each_itself all);
  fewer = let long = length-reverse all in omega (arith, long);
  among = tt;
}

module _ (before : ℕ) (below : Plan) (all waiting : List Expression) (e : Expression) (found : List (List ℕ × Expression)) (rest : List Expression)
    (is : AreFound before below all (waiting ++ e ∷ []) found rest) where
  lie : AllByRecursion (Contains all) waiting × AllByRecursion (Contains all) (e ∷ [])
  lie = each_parts (Contains all) waiting (e ∷ []) is.among_waiting

  same_now : (graph : Content) (left right : List Cell) → length left ≡ before
      → keeps_each graph all (left ++ right)
      ≡ ((keeps_each graph waiting (left ++ right) && (keeps graph e (left ++ right) && true)) && (are_true found graph right && keeps_each graph rest (left ++ right)))
  same_now graph left right long =
      is.same graph left right long ∙ ap (λ b. b && (are_true found graph right && keeps_each graph rest (left ++ right))) (each_both graph waiting (e ∷ []) (left ++ right))

  pub found_next : (columns : List ℕ) (cells_test : Expression) → IsOnCells e (map (λ n. before + n) columns) cells_test → CanBePushed below columns cells_test
      → AreFound before below all waiting (found ++ (columns, cells_test) ∷ []) rest
  found_next columns cells_test on can = record {
    same = λ graph left right long.
        same_now graph left right long
        ∙ ap (λ x. (keeps_each graph waiting (left ++ right) && (x && true)) && (are_true found graph right && keeps_each graph rest (left ++ right)))
        (keeps_after before e columns cells_test on graph left right long)
        ∙ alone_too (keeps_each graph waiting (left ++ right)) (keeps_cells graph cells_test columns right) (are_true found graph right) (keeps_each graph rest (left ++ right))
        ∙ ap (λ b. keeps_each graph waiting (left ++ right) && (b && keeps_each graph rest (left ++ right)))
        (sym (list_all-append (λ (t : List ℕ × Expression). keeps_cells graph t.1 t.0 right) found ((columns, cells_test) ∷ [])));
    can = each_append (λ (t : List ℕ × Expression). CanBePushed below t.0 t.1) found ((columns, cells_test) ∷ []) is.can (can, tt);
    among_waiting = lie.0;
    fewer = let long = length-append waiting (e ∷ []) in let most = is.fewer in omega (arith, long, most);
    among = is.among;
  }

  pub left_next : AreFound before below all waiting found (rest ++ e ∷ [])
  left_next = record {
    same = λ graph left right long.
        same_now graph left right long
        ∙ stays_too (keeps_each graph waiting (left ++ right)) (keeps graph e (left ++ right)) (are_true found graph right) (keeps_each graph rest (left ++ right))
        ∙ ap (λ b. keeps_each graph waiting (left ++ right) && (are_true found graph right && b)) (sym (each_both graph rest (e ∷ []) (left ++ right)));
    can = is.can;
    among_waiting = lie.0;
    fewer = let long = length-append waiting (e ∷ []) in let longer = length-append rest (e ∷ []) in let most = is.fewer in omega (arith, long, longer, most);
    among = each_append (Contains all) rest (e ∷ []) is.among lie.1;
  }

-- what was found is put on the plan
pub kept : (before : ℕ) (below : Plan) (all : List Expression) (found : List (List ℕ × Expression)) (rest : List Expression) → AreFound before below all [] found rest
    → (p : Plan) → IsSifted below (are_true found) p → AreKept before below all rest p
kept before below all found rest is p put = record {
  as_wide = put.as_wide;
  holds = are_true found;
  same = is.same;
  among = is.among;
  fewer = let most = is.fewer in omega (arith, most);
  rows = put.rows;
  sure = put.sure;
  bounded = put.bounded;
}

-- ---- the conditions that AND joins

all_kinded : (scope : Scope) (test : Expression) → IsKinded scope test → AllByRecursion (IsKinded scope) (conjuncts test)
all_kinded scope =
    one_or_both (λ e. IsKinded scope e → AllByRecursion (IsKinded scope) (conjuncts e))
    (λ a b here there is.
    let both = both_kinded scope a b is in
    each_append (IsKinded scope) (conjuncts a) (conjuncts b) (here both.0) (there both.1))
    (λ e one is. subst (AllByRecursion (IsKinded scope)) (sym one) (is, tt))

pub all_kept : (graph : Content) (row : List Cell) (test : Expression) → keeps graph test row ≡ keeps_each graph (conjuncts test) row
all_kept graph row =
    one_or_both (λ e. keeps graph e row ≡ keeps_each graph (conjuncts e) row)
    (λ a b here there. keeps_both graph a b row ∙ (λ i. here i && there i) ∙ sym (each_both graph (conjuncts a) (conjuncts b) row))
    (λ e one. with_true (keeps graph e row) ∙ sym (ap (λ (es : List Expression). keeps_each graph es row) one))

all_true : (graph : Content) (rows : List (List Cell)) (test : Expression) → HaveTruth graph rows test → AllByRecursion (HaveTruth graph rows) (conjuncts test)
all_true graph rows =
    one_or_both (λ e. HaveTruth graph rows e → AllByRecursion (HaveTruth graph rows) (conjuncts e))
    (λ a b here there have.
    let both = both_have graph a b rows have in
    each_append (HaveTruth graph rows) (conjuncts a) (conjuncts b) (here both.0) (there both.1))
    (λ e one have. subst (AllByRecursion (HaveTruth graph rows)) (sym one) (have, tt))

-- ---- what is left is asked of the rows

pub left_to_ask : (below : Plan) (all rest : List Expression) (p : Plan) → AreKept 0 below all rest p → AreFilteredSoFar below all rest p
left_to_ask below all rest p is = record {
  as_wide = is.as_wide;
  holds = is.holds;
  same = λ graph row.
      is.same graph [] row refl
      ∙ and_swap (is.holds graph row) (keeps_each graph rest row);
  among = is.among;
  rows = λ graph scope good kinded fits. is.rows graph good;
  sure = λ graph scope good kinded fits sure each. is.sure graph good sure;
  bounded = λ graph scope tables good kinded fits each. is.bounded graph tables good each;
}

-- in another order
pub so_far_reversed : (below : Plan) (all rest : List Expression) (p : Plan) → AreFilteredSoFar below all rest p → AreFilteredSoFar below all (reverse rest) p
so_far_reversed below all rest p is = record {
  as_wide = is.as_wide;
  holds = is.holds;
  same = λ graph row. is.same graph row ∙ ap (λ b. b && is.holds graph row) (sym (all_reversed (λ (e : Expression). keeps graph e row) rest));
  among = each_reversed (Contains all) rest is.among;
  rows = is.rows;
  sure = is.sure;
  bounded = is.bounded;
}

-- what is left is read over the rows
pub read_reversed : (p : Plan) (rest : List Expression) → AreReadOver p rest → AreReadOver p (reverse rest)
read_reversed p rest (scope, wide, each) = (scope, wide, each_reversed (IsKinded scope) rest each)

pub read_last : (p : Plan) (waiting : List Expression) (e : Expression) → AreReadOver p (waiting ++ e ∷ []) → IsReadOver p e
read_last p waiting e (scope, wide, each) = (scope, wide, (each_parts (IsKinded scope) waiting (e ∷ []) each).1.0)

pub read_others : (p q : Plan) (waiting : List Expression) (e : Expression) → width q ≡ width p → AreReadOver p (waiting ++ e ∷ []) → AreReadOver q waiting
read_others p q waiting e same (scope, wide, each) = (scope, wide ∙ sym same, (each_parts (IsKinded scope) waiting (e ∷ []) each).0)

pub read_rest : (before : ℕ) (below : Plan) (test : Expression) (rest : List Expression) (p : Plan) → AreKept before below (conjuncts test) rest p → IsReadOver below test → AreReadOver p rest
read_rest before below test rest p is (scope, wide, kinded) =
    (scope, wide ∙ sym is.as_wide, among_each (IsKinded scope) (conjuncts test) rest (all_kinded scope test kinded) is.among)

module _ (below : Plan) (all waiting : List Expression) (e : Expression) (p : Plan) (is : AreFilteredSoFar below all (waiting ++ e ∷ []) p) where
  lies : AllByRecursion (Contains all) waiting × AllByRecursion (Contains all) (e ∷ [])
  lies = each_parts (Contains all) waiting (e ∷ []) is.among

  module _ (graph : State) (scope : Scope) (good : IsGraph graph) (kinded : AllByRecursion (IsKinded scope) all) (fits : FitsRows scope graph.content below) where
    fits_now : FitsRows scope graph.content p
    fits_now = (
      fits.0 ∙ sym is.as_wide,
      subst (λ rows. AllByRecursion (λ row. row_fits scope row ≡ true) rows) (sym (is.rows graph scope good kinded fits))
          (each_sifted (λ row. row_fits scope row ≡ true) (is.holds graph.content) (rows_of graph.content below) fits.1),
    )

    kinded_now : IsKinded scope e
    kinded_now = one_of (IsKinded scope) all e kinded lies.1.0

  pub asked_next : (q : Plan) → IsFiltered p e q → AreFilteredSoFar below all waiting q
  asked_next q next = record {
    as_wide = next.as_wide ∙ is.as_wide;
    holds = λ graph row. is.holds graph row && keeps graph e row;
    same = λ graph row.
        is.same graph row
        ∙ ap (λ b. b && is.holds graph row) (each_both graph waiting (e ∷ []) row)
        ∙ done_too (keeps_each graph waiting row) (keeps graph e row) (is.holds graph row);
    among = lies.0;
    rows = λ graph scope good kinded fits.
        next.rows graph scope good (kinded_now graph scope good kinded fits) (fits_now graph scope good kinded fits)
        ∙ ap (filter (keeps graph.content e)) (is.rows graph scope good kinded fits)
        ∙ sifted_both (is.holds graph.content) (keeps graph.content e) (λ row. is.holds graph.content row && keeps graph.content e row) (λ row. refl) (rows_of graph.content below);
    sure = λ graph scope good kinded fits sure each.
        next.sure graph scope good (kinded_now graph scope good kinded fits) (fits_now graph scope good kinded fits) (is.sure graph scope good kinded fits sure each)
        (subst (λ rows. HaveTruth graph.content rows e) (sym (is.rows graph scope good kinded fits))
        (each_sifted (λ row. IsOk (condition_on graph.content e row)) (is.holds graph.content) (rows_of graph.content below) (one_of (HaveTruth graph.content (rows_of graph.content below)) all e each lies.1.0)));
    bounded = λ graph scope tables good kinded fits each.
        next.bounded graph scope tables good (kinded_now graph scope good kinded fits) (fits_now graph scope good kinded fits) (is.bounded graph scope tables good kinded fits each);
  }

pub all_asked : (below : Plan) (test : Expression) (all : List Expression) → conjuncts test ≡ all → (p : Plan) → AreFilteredSoFar below all [] p → IsFiltered below test p
all_asked below test all conj p is = record {
  as_wide = is.as_wide;
  rows = λ graph scope good kinded fits.
      is.rows graph scope good (each_kinded scope kinded) fits
      ∙ (λ i. filter (λ row. sym (all_kept graph.content row test ∙ ap (λ (es : List Expression). keeps_each graph.content es row) conj ∙ is.same graph.content row) i) (rows_of graph.content below));
  sure = λ graph scope good kinded fits sure have.
      is.sure graph scope good (each_kinded scope kinded) fits sure
      (subst (AllByRecursion (HaveTruth graph.content (rows_of graph.content below))) conj (all_true graph.content (rows_of graph.content below) test have));
  bounded = λ graph scope tables good kinded fits each. is.bounded graph scope tables good (each_kinded scope kinded) fits each;
}
  where
    each_kinded : (scope : Scope) → IsKinded scope test → AllByRecursion (IsKinded scope) all
    each_kinded scope kinded = subst (AllByRecursion (IsKinded scope)) conj (all_kinded scope test kinded)
