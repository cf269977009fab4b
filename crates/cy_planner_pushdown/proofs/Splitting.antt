-- Conditions on columns of an operator, one more at a time: each stays there or goes on in the inputs.
use Rattle.std.proofs.Common.{◌≡◌, ℕ, Bool, true, false, ◌&&◌, List, [], ◌∷◌, ◌++◌, length, map, refl, sym, ap, subst, ◌∙◌, arith}
use Rattle.std.specs.Prelude.{nat_lt, reverse}
use Rattle.std.specs.List.{list_all}
use Rattle.std.proofs.lemmas.Grind.{reverse_onto}
use Rattle.std.proofs.lemmas.List.{append-nil, length-append, map-append}
use Rattle.std.proofs.lemmas.List.Folds.{list_all-append}
use Rattle.cy_values.specs.declared.rows.Cell.{Cell}
use Rattle.cy_values.proofs.Lists.{each_append, each_parts, each_reversed}
use Rattle.cy_values.proofs.Booleans.{and_four, with_true}
use Rattle.cy_trees.specs.Trees.{Expression}
use Rattle.cy_graph.specs.Graph.{Content}
use Rattle.cy_planner_algebra.specs.Plans as plan
use Rattle.cy_planner_algebra.specs.Plans.{Plan, width}
use Rattle.cy_planner_rows.specs.Rows.{keeps}
use Rattle.cy_planner_pushdown.specs.declared.sides.Way.{Way}
use Rattle.cy_planner_pushdown.specs.declared.sides.Way.TheVariants as way
use Rattle.cy_planner_pushdown.specs.internal.Conditions.{cells_at, keeps_cells}
use Rattle.cy_planner_pushdown.specs.internal.Pushed.{CanBePushed}
use Rattle.cy_planner_pushdown.specs.internal.Splits.{Agree, IsSplit, Tests, all_first, first_input, none, second_input, with_way}
use Rattle.cy_planner_pushdown.specs.internal.Tests.{CanAllBePushed, are_true}
use Rattle.cy_planner_pushdown.specs.internal.Ways.{AreInBoth, AreInFirst, AreInSecond, IsWay, TakesAll}
use Rattle.cy_planner_pushdown.proofs.Moves.{can_left, can_lookup, can_outer, can_project, can_right, can_union, cells_first, cells_left, cells_right, cells_taken_over}

-- ---- lists

and_last : (a b : Bool) → (a && (b && true)) ≡ (b && a)
and_last true true = refl
and_last true false = refl
and_last false true = refl
and_last false false = refl

pub all_reversed : {A : Type 0} (p : A → Bool) (xs : List A) → list_all p (reverse xs) ≡ list_all p xs
all_reversed p [] = refl
all_reversed p (x ∷ xs) =
    ap (list_all p) (reverse_onto xs x [])
    ∙ list_all-append p (reverse xs) (x ∷ [])
    ∙ and_last (list_all p (reverse xs)) (p x)
    ∙ ap (λ b. p x && b) (all_reversed p xs)

pub map_reversed : {A B : Type 0} (f : A → B) (xs : List A) → map f (reverse xs) ≡ reverse (map f xs)
map_reversed f [] = refl
map_reversed f (x ∷ xs) =
    ap (map f) (reverse_onto xs x []) ∙ map-append f (reverse xs) (x ∷ []) ∙ ap (λ l. l ++ f x ∷ []) (map_reversed f xs) ∙ sym (reverse_onto (map f xs) (f x) [])

not_none : {A : Type 0} (xs : List A) (x : A) → xs ++ x ∷ [] ≡ [] → ⊥
not_none xs x is =
    let long = length-append xs (x ∷ []) in
    let short : length (xs ++ x ∷ []) ≡ 0 = ap length is in
    omega (arith, long, short)

-- ---- rows that pass two tests

agree_twice : (p : Plan) (m f s n g t : Content → List Cell → Bool) → Agree p m f s → Agree p n g t
    → Agree p (λ graph row. m graph row && n graph row) (λ graph row. f graph row && g graph row) (λ graph row. s graph row && t graph row)
agree_twice plan.unit m f s n g t one two = λ graph row i. one graph row i && two graph row i
agree_twice plan.nodes m f s n g t one two = λ graph row i. one graph row i && two graph row i
agree_twice (plan.rels types orientation) m f s n g t one two = λ graph row i. one graph row i && two graph row i
agree_twice (plan.join left right keys) m f s n g t one two = λ graph l r long met. (λ i. one graph l r long met i && two graph l r long met i) ∙ and_four (f graph l) (s graph r) (g graph l) (t graph r)
agree_twice (plan.outer left right keys test) m f s n g t one two = λ graph l r long i. one graph l r long i && two graph l r long i
agree_twice (plan.semi left right keys keeping) m f s n g t one two = λ graph row i. one graph row i && two graph row i
agree_twice (plan.lookup p column attribute) m f s n g t one two = λ graph row more long i. one graph row more long i && two graph row more long i
agree_twice (plan.filter p test) m f s n g t one two = λ graph row i. one graph row i && two graph row i
agree_twice (plan.all_different p columns) m f s n g t one two = λ graph row i. one graph row i && two graph row i
agree_twice (plan.project p outputs) m f s n g t one two = λ graph row i. one graph row i && two graph row i
agree_twice (plan.distinct p) m f s n g t one two = λ graph row i. one graph row i && two graph row i
agree_twice (plan.union left right) m f s n g t one two = λ graph row. ((λ i. (one graph row).0 i && (two graph row).0 i), (λ i. (one graph row).1 i && (two graph row).1 i))

-- ---- one condition by its way

and_ends : (b : Bool) → b ≡ ((b && true) && true)
and_ends true = refl
and_ends false = refl

and_itself : (b : Bool) → b ≡ ((b && true) && (b && true))
and_itself true = refl
and_itself false = refl

module _ (columns : List ℕ) (test : Expression) where
  abbrev kept : Content → List Cell → Bool
  kept graph row = keeps_cells graph test columns row

  abbrev alone : List ℕ → Content → List Cell → Bool
  alone others = are_true ((others, test) ∷ [])

  abbrev no_test : Content → List Cell → Bool
  no_test = are_true []

  same_cells : (graph : Content) (row : List Cell) (others : List ℕ) → others ≡ columns → kept graph row ≡ alone others graph row
  same_cells graph row others same = ap (λ cs. keeps graph test (cells_at cs row)) (sym same) ∙ with_true (keeps graph test (cells_at others row))

  first_cells : (n : ℕ) (others : List ℕ) → others ≡ columns → list_all (λ c. nat_lt c n) columns ≡ true → (graph : Content) (row more : List Cell) → length row ≡ n → kept graph (row ++ more) ≡ alone others graph row
  first_cells n others same less graph row more long = ap (keeps graph test) (cells_first n columns less row more long) ∙ same_cells graph row others same

  first_agrees : (p : Plan) (others : List ℕ) → AreInFirst p columns others → Agree p kept (alone others) no_test
  first_agrees plan.unit others is = absurd is
  first_agrees plan.nodes others is = absurd is
  first_agrees (plan.rels types orientation) others is = absurd is
  first_agrees (plan.join left right keys) others is =
      λ graph l r long met. ap (keeps graph test) (sym (cells_left test left right keys columns others is l r long met)) ∙ and_ends (keeps graph test (cells_at others l))
  first_agrees (plan.outer left right keys predicate) others is = first_cells (width left) others is.0 is.1
  first_agrees (plan.semi left right keys keeping) others is = λ graph row. same_cells graph row others is
  first_agrees (plan.lookup p column attribute) others is = first_cells (width p) others is.0 is.1
  first_agrees (plan.filter p condition) others is = λ graph row. same_cells graph row others is
  first_agrees (plan.all_different p ends) others is = λ graph row. same_cells graph row others is
  first_agrees (plan.project p outputs) others is =
      λ graph row. ap (keeps graph test) (sym (cells_taken_over outputs columns others is.0 row)) ∙ with_true (keeps graph test (cells_at others row))
  first_agrees (plan.distinct p) others is = λ graph row. same_cells graph row others is
  first_agrees (plan.union left right) others is = absurd is

  can_first : (p : Plan) (others : List ℕ) → AreInFirst p columns others → CanBePushed p columns test → CanBePushed (first_input p) others test
  can_first plan.unit others is can = absurd is
  can_first plan.nodes others is can = absurd is
  can_first (plan.rels types orientation) others is can = absurd is
  can_first (plan.join left right keys) others is can = can_left test left right keys columns others is can
  can_first (plan.outer left right keys predicate) others is can = subst (λ cs. CanBePushed left cs test) (sym is.0) (can_outer test left right keys predicate columns is.1 can)
  can_first (plan.semi left right keys keeping) others is can = subst (λ cs. CanBePushed left cs test) (sym is) can
  can_first (plan.lookup p column attribute) others is can = subst (λ cs. CanBePushed p cs test) (sym is.0) (can_lookup test p column attribute columns is.1 can)
  can_first (plan.filter p condition) others is can = subst (λ cs. CanBePushed p cs test) (sym is) can
  can_first (plan.all_different p ends) others is can = subst (λ cs. CanBePushed p cs test) (sym is) can
  can_first (plan.project p outputs) others is can = can_project test p outputs columns others is can
  can_first (plan.distinct p) others is can = subst (λ cs. CanBePushed p cs test) (sym is) can
  can_first (plan.union left right) others is can = absurd is

  second_agrees : (p : Plan) (others : List ℕ) → AreInSecond p columns others → Agree p kept no_test (alone others)
  second_agrees plan.unit others is = absurd is
  second_agrees plan.nodes others is = absurd is
  second_agrees (plan.rels types orientation) others is = absurd is
  second_agrees (plan.join left right keys) others is =
      λ graph l r long met. ap (keeps graph test) (sym (cells_right test left right keys columns others is l r long met)) ∙ with_true (keeps graph test (cells_at others r))
  second_agrees (plan.outer left right keys predicate) others is = absurd is
  second_agrees (plan.semi left right keys keeping) others is = absurd is
  second_agrees (plan.lookup p column attribute) others is = absurd is
  second_agrees (plan.filter p condition) others is = absurd is
  second_agrees (plan.all_different p ends) others is = absurd is
  second_agrees (plan.project p outputs) others is = absurd is
  second_agrees (plan.distinct p) others is = absurd is
  second_agrees (plan.union left right) others is = absurd is

  can_second : (p : Plan) (others : List ℕ) → AreInSecond p columns others → CanBePushed p columns test → CanBePushed (second_input p) others test
  can_second plan.unit others is can = absurd is
  can_second plan.nodes others is can = absurd is
  can_second (plan.rels types orientation) others is can = absurd is
  can_second (plan.join left right keys) others is can = can_right test left right keys columns others is can
  can_second (plan.outer left right keys predicate) others is can = absurd is
  can_second (plan.semi left right keys keeping) others is can = absurd is
  can_second (plan.lookup p column attribute) others is can = absurd is
  can_second (plan.filter p condition) others is can = absurd is
  can_second (plan.all_different p ends) others is can = absurd is
  can_second (plan.project p outputs) others is can = absurd is
  can_second (plan.distinct p) others is can = absurd is
  can_second (plan.union left right) others is can = absurd is

  -- in both inputs it goes on as in each
  abbrev GoesInBoth : Plan → List ℕ → List ℕ → Type 0
  GoesInBoth p lefts rights = Agree p kept (alone lefts) (alone rights) × (CanBePushed p columns test → CanBePushed (first_input p) lefts test × CanBePushed (second_input p) rights test)

  both_go : (p : Plan) (lefts rights : List ℕ) → AreInBoth p columns lefts rights → GoesInBoth p lefts rights
  both_go plan.unit lefts rights is = absurd is
  both_go plan.nodes lefts rights is = absurd is
  both_go (plan.rels types orientation) lefts rights is = absurd is
  both_go (plan.join left right keys) lefts rights is = (
    λ graph l r long met.
        and_itself (kept graph (l ++ r))
        ∙ (λ i. (keeps graph test (sym (cells_left test left right keys columns lefts is.0 l r long met) i) && true) && (keeps graph test (sym (cells_right test left right keys columns rights is.1 l r long met) i) && true)),
    λ can. (can_left test left right keys columns lefts is.0 can, can_right test left right keys columns rights is.1 can),
  )
  both_go (plan.outer left right keys predicate) lefts rights is = absurd is
  both_go (plan.semi left right keys keeping) lefts rights is = absurd is
  both_go (plan.lookup p column attribute) lefts rights is = absurd is
  both_go (plan.filter p condition) lefts rights is = absurd is
  both_go (plan.all_different p ends) lefts rights is = absurd is
  both_go (plan.project p outputs) lefts rights is = absurd is
  both_go (plan.distinct p) lefts rights is = absurd is
  both_go (plan.union left right) lefts rights is = (
    λ graph row. (same_cells graph row lefts is.0, same_cells graph row rights is.1),
    λ can.
        let both = can_union test left right columns can in
        (subst (λ cs. CanBePushed left cs test) (sym is.0) both.0, subst (λ cs. CanBePushed right cs test) (sym is.1) both.1),
  )

-- ---- one condition more

are_both : (xs ys : List (List ℕ × Expression)) → (λ (graph : Content) (row : List Cell). are_true xs graph row && are_true ys graph row) ≡ are_true (xs ++ ys)
are_both xs ys = λ i graph row. sym (list_all-append (λ (t : List ℕ × Expression). keeps_cells graph t.1 t.0 row) xs ys) i

-- what is left with one more, and what is done
pub done_too : (r x d : Bool) → ((r && (x && true)) && d) ≡ (r && (d && x))
done_too false x d = refl
done_too true true true = refl
done_too true true false = refl
done_too true false true = refl
done_too true false false = refl

-- what is left with one more, and what is parted
pub alone_too : (r x a o : Bool) → ((r && (x && true)) && (a && o)) ≡ (r && ((a && (x && true)) && o))
alone_too false x a o = refl
alone_too true true true o = refl
alone_too true true false o = refl
alone_too true false true o = refl
alone_too true false false o = refl

-- what is left, one more of it, what moves, and what stays
pub stays_too : (r x m h : Bool) → ((r && (x && true)) && (m && h)) ≡ (r && (m && (h && (x && true))))
stays_too false x m h = refl
stays_too true true m true = refl
stays_too true true true false = refl
stays_too true true false false = refl
stays_too true false true true = refl
stays_too true false true false = refl
stays_too true false false h = refl

moves_too : (r x m h : Bool) → ((r && (x && true)) && (m && h)) ≡ (r && ((m && x) && h))
moves_too false x m h = refl
moves_too true true true h = refl
moves_too true true false h = refl
moves_too true false true h = refl
moves_too true false false h = refl

module _ (p : Plan) (all rest : List (List ℕ × Expression)) (tests : Tests) (columns : List ℕ) (test : Expression) (split : IsSplit p all (rest ++ (columns, test) ∷ []) tests) where
  abbrev CanGo : Plan → List ℕ × Expression → Type 0
  CanGo q t = CanBePushed q t.0 t.1

  can_now : CanAllBePushed p rest × CanAllBePushed p ((columns, test) ∷ [])
  can_now = each_parts (CanGo p) rest ((columns, test) ∷ []) split.can_rest

  same_now : (graph : Content) (row : List Cell) → are_true all graph row ≡ ((are_true rest graph row && (keeps_cells graph test columns row && true)) && (split.moving graph row && are_true tests.here graph row))
  same_now graph row =
      split.same graph row
      ∙ ap (λ b. b && (split.moving graph row && are_true tests.here graph row)) (list_all-append (λ (t : List ℕ × Expression). keeps_cells graph t.1 t.0 row) rest ((columns, test) ∷ []))

  stays : (others : List ℕ) → others ≡ columns → IsSplit p all rest (record { here = tests.here ++ (others, test) ∷ []; first = tests.first; second = tests.second })
  stays others same = record {
    moving = split.moving;
    same = λ graph row.
        same_now graph row
        ∙ stays_too (are_true rest graph row) (keeps_cells graph test columns row) (split.moving graph row) (are_true tests.here graph row)
        ∙ ap (λ b. are_true rest graph row && (split.moving graph row && b))
        (ap (λ cs. are_true tests.here graph row && (keeps_cells graph test cs row && true)) (sym same) ∙ (λ i. are_both tests.here ((others, test) ∷ []) i graph row));
    agree = split.agree;
    still = split.still;
    can_rest = can_now.0;
    can_here = each_append (CanGo p) tests.here ((others, test) ∷ []) split.can_here (subst (λ cs. CanBePushed p cs test) (sym same) can_now.1.0, tt);
    can_first = split.can_first;
    can_second = split.can_second;
  }

  -- it goes on in the inputs
  module _ (firsts seconds first second : List (List ℕ × Expression)) (is_first : first ≡ tests.first ++ firsts) (is_second : second ≡ tests.second ++ seconds)
      (agree : Agree p (kept columns test) (are_true firsts) (are_true seconds)) (can_firsts : CanAllBePushed (first_input p) firsts) (can_seconds : CanAllBePushed (second_input p) seconds)
      (some : first ≡ [] → second ≡ [] → ⊥) where
    abbrev moving : Content → List Cell → Bool
    moving graph row = split.moving graph row && keeps_cells graph test columns row

    goes : IsSplit p all rest (record { here = tests.here; first = first; second = second })
    goes = record {
      moving = moving;
      same = λ graph row. same_now graph row ∙ moves_too (are_true rest graph row) (keeps_cells graph test columns row) (split.moving graph row) (are_true tests.here graph row);
      agree = subst (λ (h : Content → List Cell → Bool). Agree p moving h (are_true second)) (are_both tests.first firsts ∙ ap are_true (sym is_first))
          (subst (λ (h : Content → List Cell → Bool). Agree p moving (λ graph row. are_true tests.first graph row && are_true firsts graph row) h) (are_both tests.second seconds ∙ ap are_true (sym is_second))
          (agree_twice p split.moving (are_true tests.first) (are_true tests.second) (kept columns test) (are_true firsts) (are_true seconds) split.agree agree));
      still = λ no_first no_second. absurd (some no_first no_second);
      can_rest = can_now.0;
      can_here = split.can_here;
      can_first = subst (CanAllBePushed (first_input p)) (sym is_first) (each_append (CanGo (first_input p)) tests.first firsts split.can_first can_firsts);
      can_second = subst (CanAllBePushed (second_input p)) (sym is_second) (each_append (CanGo (second_input p)) tests.second seconds split.can_second can_seconds);
    }

  pub split_next : (w : Way) → IsWay w p columns → IsSplit p all rest (with_way w test tests)
  split_next (way.Here others) is = stays others.items is
  split_next (way.First others) is =
      goes ((others.items, test) ∷ []) [] (tests.first ++ (others.items, test) ∷ []) tests.second refl (sym (append-nil tests.second)) (first_agrees columns test p others.items is)
      (can_first columns test p others.items is can_now.1.0, tt) tt (λ first second. not_none tests.first (others.items, test) first)
  split_next (way.Second others) is =
      goes [] ((others.items, test) ∷ []) tests.first (tests.second ++ (others.items, test) ∷ []) (sym (append-nil tests.first)) refl (second_agrees columns test p others.items is)
      tt (can_second columns test p others.items is can_now.1.0, tt) (λ first second. not_none tests.second (others.items, test) second)
  split_next (way.Both lefts rights) is =
      let both = both_go columns test p lefts.items rights.items is in
      let can = both.1 can_now.1.0 in
      goes ((lefts.items, test) ∷ []) ((rights.items, test) ∷ []) (tests.first ++ (lefts.items, test) ∷ []) (tests.second ++ (rights.items, test) ∷ []) refl refl both.0 (can.0, tt) (can.1, tt)
      (λ first second. not_none tests.first (lefts.items, test) first)

-- ---- none yet

none_agree : (p : Plan) → Agree p (λ graph row. true) (are_true []) (are_true [])
none_agree plan.unit = λ graph row. refl
none_agree plan.nodes = λ graph row. refl
none_agree (plan.rels types orientation) = λ graph row. refl
none_agree (plan.join left right keys) = λ graph l r long met. refl
none_agree (plan.outer left right keys test) = λ graph l r long. refl
none_agree (plan.semi left right keys keeping) = λ graph row. refl
none_agree (plan.lookup p column attribute) = λ graph row more long. refl
none_agree (plan.filter p test) = λ graph row. refl
none_agree (plan.all_different p columns) = λ graph row. refl
none_agree (plan.project p outputs) = λ graph row. refl
none_agree (plan.distinct p) = λ graph row. refl
none_agree (plan.union left right) = λ graph row. (refl, refl)

pub split_none : (p : Plan) (all : List (List ℕ × Expression)) → CanAllBePushed p all → IsSplit p all (reverse all) none
split_none p all can = record {
  moving = λ graph row. true;
  same = λ graph row. sym (all_reversed (λ (t : List ℕ × Expression). keeps_cells graph t.1 t.0 row) all) ∙ with_true (are_true (reverse all) graph row);
  agree = none_agree p;
  still = λ first second graph row. refl;
  can_rest = each_reversed (λ (t : List ℕ × Expression). CanBePushed p t.0 t.1) all can;
  can_here = tt;
  can_first = tt;
  can_second = tt;
}

-- ---- all in one input

whole_first : (p : Plan) (all : List (List ℕ × Expression)) → Agree p (are_true all) (are_true all) (are_true []) → CanAllBePushed p all → CanAllBePushed (first_input p) all → CanAllBePushed (second_input p) []
    → IsSplit p all [] (all_first all)
whole_first p all agree can can_first can_second = record {
  moving = are_true all;
  same = λ graph row. with_true (are_true all graph row);
  agree = agree;
  still = λ first second graph row. ap (λ (ts : List (List ℕ × Expression)). are_true ts graph row) first;
  can_rest = tt;
  can_here = tt;
  can_first = can_first;
  can_second = can_second;
}

pub split_first : (p : Plan) (all : List (List ℕ × Expression)) → TakesAll p → CanAllBePushed p all → IsSplit p all [] (all_first all)
split_first plan.unit all takes can = absurd takes
split_first plan.nodes all takes can = absurd takes
split_first (plan.rels types orientation) all takes can = absurd takes
split_first (plan.join left right keys) all takes can = absurd takes
split_first (plan.outer left right keys test) all takes can = absurd takes
split_first (plan.semi left right keys keeping) all takes can = whole_first (plan.semi left right keys keeping) all (λ graph row. refl) can can tt
split_first (plan.lookup p column attribute) all takes can = absurd takes
split_first (plan.filter p test) all takes can = whole_first (plan.filter p test) all (λ graph row. refl) can can tt
split_first (plan.all_different p columns) all takes can = whole_first (plan.all_different p columns) all (λ graph row. refl) can can tt
split_first (plan.project p outputs) all takes can = absurd takes
split_first (plan.distinct p) all takes can = whole_first (plan.distinct p) all (λ graph row. refl) can can tt
split_first (plan.union left right) all takes can = absurd takes
