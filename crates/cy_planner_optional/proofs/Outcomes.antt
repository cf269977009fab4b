-- Outcomes that together have a value: each of them has one.
use Rattle.std.proofs.Common.{◌≡◌, Bool, true, false, cond, ◌&&◌, List, [], ◌∷◌, ◌++◌, map, filter, refl, sym, ap, subst, ◌∙◌}
use Rattle.std.specs.Prelude.{flat_map, IsOk, Option, None, Some, Result, Ok, Err, if◌then◌else◌}
use Rattle.std.specs.List.{AllByRecursion}
use Rattle.cy_values.specs.declared.rows.Cell.{Cell}
use Rattle.cy_values.specs.declared.truth.Truth.{Truth}
use Rattle.cy_values.specs.Truth.{is_yes}
use Rattle.cy_values.proofs.Lists.{each_append}
use Rattle.cy_trees.specs.Trees.{Expression, Path}
use Rattle.cy_graph.specs.Graph.{Content}
use Rattle.cy_expr.specs.declared.faults.EvalFault.{EvalFault}
use Rattle.cy_expr.specs.Faults.{on_one}
use Rattle.cy_oneshot_patterns.specs.Matching.{condition, fitting, found_and, kept, map_values, matched, matched_where, selected}
use Rattle.cy_oneshot_patterns.specs.Outcomes.{joined, together}
use Rattle.cy_oneshot_meaning.proofs.Together.{all_kept}
use Rattle.cy_planner_algebra.specs.Expressions.{is_true}
use Rattle.cy_planner_rows.specs.Rows.{condition_on, keeps}
use Rattle.cy_planner_optional.specs.Matched.{where_only}

pub both_ok : {A : Type 0} (o q : Result (List A) EvalFault) → IsOk (together o q) → IsOk o × IsOk q
both_ok (Ok xs) (Ok ys) is = (refl, refl)
both_ok (Ok xs) (Err f) is = cc
both_ok (Err f) (Ok ys) is = cc
both_ok (Err f) (Err g) is = cc

pub then_ok : {A B : Type 0} (f : A → Result B EvalFault) (o : Result A EvalFault) → IsOk (on_one f o) → IsOk o
then_ok f (Ok x) is = refl
then_ok f (Err fault) is = cc

-- of each thing, an outcome with a value
pub each_ok : {X A : Type 0} (f : X → Result (List A) EvalFault) (xs : List X) → IsOk (joined (map f xs)) → AllByRecursion (λ x. IsOk (f x)) xs
each_ok f [] is = tt
each_ok f (x ∷ xs) is =
    let both = both_ok (f x) (joined (map f xs)) is in
    (both.0, each_ok f xs both.1)

pub joined_made : {X A : Type 0} (P : X → Type 0) (f : X → Result (List A) EvalFault) (g : X → List A) → ((x : X) → P x → f x ≡ Ok (g x)) → (xs : List X) → AllByRecursion P xs
    → joined (map f xs) ≡ Ok (flat_map g xs)
joined_made P f g step [] each = refl
joined_made P f g step (x ∷ xs) each = λ i. together (step x each.0 i) (joined_made P f g step xs each.1 i)

pub sift_append : {A : Type 0} (p : A → Bool) (xs ys : List A) → filter p (xs ++ ys) ≡ filter p xs ++ filter p ys
sift_append p [] ys = refl
sift_append p (x ∷ xs) ys =
    ap (λ l. cond (p x) (x ∷ l) l) (sift_append p xs ys) ∙ pushed (p x)
  where
    pushed : (b : Bool) → cond b (x ∷ (filter p xs ++ filter p ys)) (filter p xs ++ filter p ys) ≡ cond b (x ∷ filter p xs) (filter p xs) ++ filter p ys
    pushed true = refl
    pushed false = refl

pub sift_each : {X A : Type 0} (p : A → Bool) (f : X → List A) (xs : List X) → flat_map (λ x. filter p (f x)) xs ≡ filter p (flat_map f xs)
sift_each p f [] = refl
sift_each p f (x ∷ xs) = ap (λ l. filter p (f x) ++ l) (sift_each p f xs) ∙ sym (sift_append p (f x) (flat_map f xs))

sifted_alone : (p : List Cell → Bool) (rows : List (List Cell)) → flat_map (λ row. cond (p row) (row ∷ []) []) rows ≡ filter p rows
sifted_alone p [] = refl
sifted_alone p (row ∷ rows) = ap (λ l. cond (p row) (row ∷ []) [] ++ l) (sifted_alone p rows) ∙ pushed (p row)
  where
    pushed : (b : Bool) → cond b (row ∷ []) [] ++ filter p rows ≡ cond b (row ∷ filter p rows) (filter p rows)
    pushed true = refl
    pushed false = refl

chosen : (row : List Cell) (o : Result Truth EvalFault) → IsOk o
    → on_one (λ truth. let rows : List (List Cell) = (if is_yes truth then row ∷ [] else []) in Ok rows) o ≡ Ok (cond (is_true o) (row ∷ []) [])
chosen row (Ok truth) is = refl
chosen row (Err fault) is = cc

module _ (graph : Content) where
  -- the rows for which WHERE is true
  abbrev pub kept_rows : Option Expression → List (List Cell) → List (List Cell)
  kept_rows None rows = rows
  kept_rows (Some e) rows = filter (keeps graph e) rows

  -- where WHERE has a truth on a row
  abbrev pub IsTested : Option Expression → List Cell → Type 0
  IsTested None row = Unit {0}
  IsTested (Some e) row = IsOk (condition_on graph e row)

  anything : (rows : List (List Cell)) → AllByRecursion (IsTested None) rows
  anything [] = tt
  anything (row ∷ rows) = (tt, anything rows)

  pub selected_each : (test : Option Expression) (rows : List (List Cell)) → IsOk (joined (map (selected graph test) rows)) → AllByRecursion (IsTested test) rows
  selected_each None rows is = anything rows
  selected_each (Some e) rows is = tested rows (each_ok (selected graph (Some e)) rows is)
    where
      tested : (rows : List (List Cell)) → AllByRecursion (λ row. IsOk (selected graph (Some e) row)) rows → AllByRecursion (IsTested (Some e)) rows
      tested [] each = tt
      tested (row ∷ rows) each =
          (then_ok (λ truth. let kept : List (List Cell) = (if is_yes truth then row ∷ [] else []) in Ok kept) (condition_on graph e row) each.0, tested rows each.1)

  pub selected_rows : (test : Option Expression) (rows : List (List Cell)) → AllByRecursion (IsTested test) rows → joined (map (selected graph test) rows) ≡ Ok (kept_rows test rows)
  selected_rows None rows each = all_kept graph rows
  selected_rows (Some e) rows each =
      joined_made (IsTested (Some e)) (selected graph (Some e)) (λ row. cond (keeps graph e row) (row ∷ []) []) (λ row is. chosen row (condition_on graph e row) is) rows each
      ∙ ap Ok (sifted_alone (keeps graph e) rows)

  module _ (paths : List Path) (test : Option Expression) where
    of_values : (o : Result (List Cell) EvalFault) (row : List Cell) → IsOk (on_one (λ values. joined (map (selected graph test) (fitting graph paths row))) o)
        → on_one (λ values. joined (map (selected graph test) (fitting graph paths row))) o ≡ joined (map (selected graph test) (fitting graph paths row))
    of_values (Ok values) row is = refl
    of_values (Err fault) row is = cc

    one_tested : (row : List Cell) → IsOk (matched graph paths test row) → AllByRecursion (IsTested test) (fitting graph paths row)
    one_tested row is =
        selected_each test (fitting graph paths row) (ap_ok (of_values (map_values graph paths row) row is) is)
      where
        ap_ok : {o q : Result (List (List Cell)) EvalFault} → o ≡ q → IsOk o → IsOk q
        ap_ok same is = subst (λ (r : Result (List (List Cell)) EvalFault). IsOk r) same is

    one_matched : (row : List Cell) → IsOk (matched graph paths test row) → matched graph paths test row ≡ Ok (kept_rows test (fitting graph paths row))
    one_matched row is = of_values (map_values graph paths row) row is ∙ selected_rows test (fitting graph paths row) (one_tested row is)

    -- all of them
    pub matched_tested : (rows : List (List Cell)) → AllByRecursion (λ row. IsOk (matched graph paths test row)) rows → AllByRecursion (IsTested test) (flat_map (fitting graph paths) rows)
    matched_tested [] each = tt
    matched_tested (row ∷ rows) each =
        each_append (IsTested test) (fitting graph paths row) (flat_map (fitting graph paths) rows) (one_tested row each.0) (matched_tested rows each.1)

    kept_each : (rows : List (List Cell)) → flat_map (λ row. kept_rows test (fitting graph paths row)) rows ≡ kept_rows test (flat_map (fitting graph paths) rows)
    kept_each rows = by test
      where
        by : (t : Option Expression) → flat_map (λ row. kept_rows t (fitting graph paths row)) rows ≡ kept_rows t (flat_map (fitting graph paths) rows)
        by None = refl
        by (Some e) = sift_each (keeps graph e) (fitting graph paths) rows

    pub matched_rows : (rows : List (List Cell)) → IsOk (joined (map (matched graph paths test) rows))
        → joined (map (matched graph paths test) rows) ≡ Ok (kept_rows test (flat_map (fitting graph paths) rows))
    matched_rows rows is =
        joined_made (λ row. IsOk (matched graph paths test row)) (matched graph paths test) (λ row. kept_rows test (fitting graph paths row)) one_matched rows (each_ok (matched graph paths test) rows is)
        ∙ ap Ok (kept_each rows)

module _ (graph : Content) (paths : List Path) (test : Option Expression) where
  alone_of : (o : Result (List Cell) EvalFault) (row : List Cell) → IsOk o → on_one (λ values. joined (map (selected graph None) (fitting graph paths row))) o ≡ Ok (fitting graph paths row)
  alone_of (Ok values) row is = all_kept graph (fitting graph paths row)
  alone_of (Err fault) row is = cc

  matched_alone : (row : List Cell) → IsOk (matched graph paths test row) → matched graph paths None row ≡ Ok (fitting graph paths row)
  matched_alone row is =
      alone_of (map_values graph paths row) row (then_ok (λ values. joined (map (selected graph test) (fitting graph paths row))) (map_values graph paths row) is)

  -- without WHERE it has no fault either
  pub matched_wide_ok : (rows : List (List Cell)) → IsOk (joined (map (matched graph paths test) rows)) → IsOk (joined (map (matched graph paths None) rows))
  matched_wide_ok rows is =
      subst (λ (o : Result (List (List Cell)) EvalFault). IsOk o)
      (sym (joined_made (λ row. IsOk (matched graph paths test row)) (matched graph paths None) (fitting graph paths) matched_alone rows (each_ok (matched graph paths test) rows is))) refl

-- ---- a WHERE without paths

if_true : (row : List Cell) (o : Result Truth EvalFault)
    → on_one (λ holds. let rows : List (List Cell) = (if holds then row ∷ [] else []) in Ok rows) (on_one (λ truth. let holds : Bool = is_yes truth && true in Ok holds) o)
    ≡ on_one (λ truth. let rows : List (List Cell) = (if is_yes truth then row ∷ [] else []) in Ok rows) o
if_true row (Ok truth) = by (is_yes truth)
  where
    same : Bool → Result (List (List Cell)) EvalFault
    same b = Ok (if b then row ∷ [] else [])

    by : (b : Bool) → same (b && true) ≡ same b
    by true = refl
    by false = refl
if_true row (Err fault) = refl

module _ (graph : Content) where
  -- it keeps what its condition keeps
  pub kept_only : (test : Option Expression) (row : List Cell) → kept graph (where_only test) row ≡ selected graph test row
  kept_only None row = refl
  kept_only (Some e) row = if_true row (condition graph e row)

  pub matched_only : (paths : List Path) (test : Option Expression) (row : List Cell) → matched_where graph paths (where_only test) row ≡ matched graph paths test row
  matched_only paths test row = λ i. found_and graph paths (λ r. kept_only test r i) row

  -- all rows of MATCH with it are those with its condition
  pub where_matched : (paths : List Path) (test : Option Expression) (rows : List (List Cell))
      → joined (map (matched_where graph paths (where_only test)) rows) ≡ joined (map (matched graph paths test) rows)
  where_matched paths test rows = λ i. joined (map (λ row. matched_only paths test row i) rows)

  pub where_selected : (test : Option Expression) (rows : List (List Cell)) → joined (map (kept graph (where_only test)) rows) ≡ joined (map (selected graph test) rows)
  where_selected test rows = λ i. joined (map (λ row. kept_only test row i) rows)
