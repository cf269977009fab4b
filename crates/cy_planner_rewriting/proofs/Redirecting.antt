-- Look-ups on a join, in other columns in which the same stands.
use Rattle.std.proofs.Common.{◌≡◌, ℕ, ◌+◌, ◌<◌, ◌≤◌, ◌==◌, true, false, cond, List, [], ◌∷◌, ◌++◌, length, map, filter, get_or, refl, sym, ap, subst, ◌∙◌, inl, inr, arith}
use Rattle.std.specs.Prelude.{◌⊎◌, not}
use Rattle.std.specs.List.{All, AllByRecursion, Contains}
use Rattle.std.proofs.lemmas.Bool.{and_parts, eqb-true}
use Rattle.std.proofs.lemmas.List.{get_or-append-add, get_or_append_left, length-map}
use Rattle.std.proofs.lemmas.List.Elements.{All-cons, All-contains, All-contains_itself, All-get_or, All-nil}
use Rattle.cy_values.specs.declared.rows.Cell.{Cell}
use Rattle.cy_values.specs.declared.rows.Cell.TheVariants as cell
use Rattle.cy_values.proofs.Lists.{each_append}
use Rattle.cy_graph.specs.Graph.{Content}
use Rattle.cy_planner_algebra.specs.declared.operators.KeyColumns.{KeyColumns}
use Rattle.cy_planner_algebra.specs.Plans as plan
use Rattle.cy_planner_algebra.specs.Plans.{Plan, width}
use Rattle.cy_planner_algebra.specs.Expressions as expressions
use Rattle.cy_planner_algebra.specs.Expressions.{cell_at}
use Rattle.cy_planner_algebra.specs.Keys.{has_null, left_key, meet, right_key}
use Rattle.cy_planner_algebra.specs.Meaning.{attribute_of, joined, paired, rows_of}
use Rattle.cy_planner_algebra.specs.WellFormed.{IsKeyBetween, IsWellFormed, greatest_width}
use Rattle.cy_planner_algebra.specs.Within.{IsWithin}
use Rattle.cy_planner_algebra.proofs.Counts.{identity, same}
use Rattle.cy_planner_rows.specs.declared.places.Wanted.{Wanted}
use Rattle.cy_planner_rows.specs.internal.Lookups.{over, value_on, with_values}
use Rattle.cy_planner_rows.proofs.Lists.{map_alike}
use Rattle.cy_planner_rows.proofs.OverRows.{IsInside, IsLong, long_rows, own_part, parts_over, rows_over, well_over, width_bounded, width_over}
use Rattle.cy_planner_rewriting.specs.declared.redirects.Redirect.{Redirect}
use Rattle.cy_planner_rewriting.specs.internal.Redirected.{IsRedirect, redirect, redirected}
use Rattle.cy_planner_rewriting.specs.Rewritten.{IsRewritten}
use Rattle.cy_planner_rewriting.proofs.Joining.{parts_below, sure_above, sure_below}
use Rattle.cy_planner_rewriting.proofs.Passing.{well_looked_up}

-- ---- the keys of a pair that meets

same_keys : (l r : List Cell) (keys : List KeyColumns) → left_key keys l ≡ right_key keys r → All (λ k. cell_at l k.left ≡ cell_at r k.right) keys
same_keys l r [] is = All-nil (λ k. cell_at l k.left ≡ cell_at r k.right)
same_keys l r (k ∷ keys) is =
    let first : cell_at l k.left ≡ cell_at r k.right = cc in
    let rest : left_key keys l ≡ right_key keys r = cc in
    All-cons (λ j. cell_at l j.left ≡ cell_at r j.right) k keys first (same_keys l r keys rest)

pub met_keys : (keys : List KeyColumns) (l r : List Cell) → meet keys l r ≡ true → All (λ k. cell_at l k.left ≡ cell_at r k.right) keys
met_keys keys l r is = same_keys l r keys (identity (left_key keys l) (right_key keys r) (and_parts (same (left_key keys l) (right_key keys r)) (not (has_null (left_key keys l))) is).0)

-- ---- the cells

module _ (keys : List KeyColumns) (left right : ℕ) (between : All (IsKeyBetween left right) keys) where
  abbrev SameThere : List Redirect → List Cell → Type 0
  SameThere redirects row = (column : ℕ) → cell_at row (redirect redirects column) ≡ cell_at row column

  one_there : (l r : List Cell) → length l ≡ left → All (λ k. cell_at l k.left ≡ cell_at r k.right) keys → (x : Redirect) → IsRedirect keys left x → cell_at (l ++ r) x.to ≡ cell_at (l ++ r) x.from
  one_there l r long met x (key, there, way) = by way
    where
      inside : key.left < left
      inside = (All-contains (IsKeyBetween left right) keys key between there).0

      here : cell_at (l ++ r) key.left ≡ cell_at (l ++ r) (left + key.right)
      here =
          get_or_append_left l r expressions.null key.left (omega (arith, long, inside))
          ∙ All-contains (λ k. cell_at l k.left ≡ cell_at r k.right) keys key met there
          ∙ sym (ap (λ (n : ℕ). cell_at (l ++ r) (n + key.right)) (sym long) ∙ get_or-append-add l r key.right expressions.null)

      by : ((x.from ≡ key.left) × (x.to ≡ left + key.right)) ⊎ ((x.from ≡ left + key.right) × (x.to ≡ key.left)) → cell_at (l ++ r) x.to ≡ cell_at (l ++ r) x.from
      by (inl is) = ap (cell_at (l ++ r)) is.1 ∙ sym here ∙ sym (ap (cell_at (l ++ r)) is.0)
      by (inr is) = ap (cell_at (l ++ r)) is.1 ∙ here ∙ sym (ap (cell_at (l ++ r)) is.0)

  all_there : (l r : List Cell) → length l ≡ left → All (λ k. cell_at l k.left ≡ cell_at r k.right) keys → (redirects : List Redirect) → AllByRecursion (IsRedirect keys left) redirects → SameThere redirects (l ++ r)
  all_there l r long met [] each column = refl
  all_there l r long met (x ∷ redirects) each column =
      elim (x.from == column) as (λ b. (x.from == column) ≡ b → cell_at (l ++ r) (cond b x.to (redirect redirects column)) ≡ cell_at (l ++ r) column) [
        | true ↦ λ is. one_there l r long met x each.0 ∙ ap (cell_at (l ++ r)) (eqb-true x.from column is)
        | false ↦ λ is. all_there l r long met redirects each.1 column
      ] refl

  pairs_there : (redirects : List Redirect) → AllByRecursion (IsRedirect keys left) redirects → (l : List Cell) (rs : List (List Cell)) → length l ≡ left → AllByRecursion (SameThere redirects) (paired l (filter (meet keys l) rs))
  pairs_there redirects each l [] long = tt
  pairs_there redirects each l (r ∷ rs) long =
      elim (meet keys l r) as (λ b. meet keys l r ≡ b → AllByRecursion (SameThere redirects) (paired l (cond b (r ∷ filter (meet keys l) rs) (filter (meet keys l) rs)))) [
        | true ↦ λ is. (all_there l r long (met_keys keys l r is) redirects each, pairs_there redirects each l rs long)
        | false ↦ λ is. pairs_there redirects each l rs long
      ] refl

  pub joined_there : (redirects : List Redirect) → AllByRecursion (IsRedirect keys left) redirects → (ls rs : List (List Cell)) → AllByRecursion (IsLong left) ls → AllByRecursion (SameThere redirects) (joined keys ls rs)
  joined_there redirects each [] rs long = tt
  joined_there redirects each (l ∷ ls) rs long =
      each_append (SameThere redirects) (paired l (filter (meet keys l) rs)) (joined keys ls rs) (pairs_there redirects each l rs long.0) (joined_there redirects each ls rs long.1)

  -- ---- columns of the pairs

  to_inside : (x : Redirect) → IsRedirect keys left x → x.to < left + right
  to_inside x (key, there, way) = by way
    where
      inside : IsKeyBetween left right key
      inside = All-contains (IsKeyBetween left right) keys key between there

      by : ((x.from ≡ key.left) × (x.to ≡ left + key.right)) ⊎ ((x.from ≡ left + key.right) × (x.to ≡ key.left)) → x.to < left + right
      by (inl is) = let at = is.1 in let less = inside.1 in omega (arith, at, less)
      by (inr is) = let at = is.1 in let less = inside.0 in omega (arith, at, less)

  column_inside : (redirects : List Redirect) → AllByRecursion (IsRedirect keys left) redirects → (column : ℕ) → column < left + right → redirect redirects column < left + right
  column_inside [] each column less = less
  column_inside (x ∷ redirects) each column less =
      elim (x.from == column) as (λ b. cond b x.to (redirect redirects column) < left + right) [
        | true ↦ to_inside x each.0
        | false ↦ column_inside redirects each.1 column less
      ]

  pub all_inside : (redirects : List Redirect) → AllByRecursion (IsRedirect keys left) redirects → (ws : List Wanted) → AllByRecursion (IsInside (left + right)) ws → AllByRecursion (IsInside (left + right)) (map (redirected redirects) ws)
  all_inside redirects each [] inside = tt
  all_inside redirects each (w ∷ ws) inside = (column_inside redirects each w.column inside.0, all_inside redirects each ws inside.1)

-- ---- the plans

same_values : (graph : Content) (redirects : List Redirect) (ws : List Wanted) (row : List Cell) → ((column : ℕ) → cell_at row (redirect redirects column) ≡ cell_at row column)
    → map (value_on graph row) (map (redirected redirects) ws) ≡ map (value_on graph row) ws
same_values graph redirects [] row are = refl
same_values graph redirects (w ∷ ws) row are = λ i. cell.Value (attribute_of graph w.attribute (are w.column i)) ∷ same_values graph redirects ws row are i

module _ (left right : Plan) (keys : List KeyColumns) (redirects : List Redirect) (each : AllByRecursion (IsRedirect keys (width left)) redirects) (ws : List Wanted) (inside : AllByRecursion (IsInside (width left + width right)) ws) where
  abbrev J : Plan
  J = plan.join left right keys

  abbrev ms : List Wanted
  ms = map (redirected redirects) ws

  pub redirected_join : IsWellFormed (over J ws) → IsRewritten (over J ws) (over J ms)
  redirected_join well =
      let good = well_looked_up ws J well in
      let others : AllByRecursion (IsInside (width J)) ms = all_inside keys (width left) (width right) good.2 redirects each ws inside in
      let long : length ms ≡ length ws = length-map ws (redirected redirects) in
      let wide = width_over J ws in
      let wide_too = width_over J ms in
      let most = width_bounded (over J ws) well in
      let room : width J + length ms ≤ greatest_width = omega (arith, long, wide, most) in
      record {
        as_wide = omega (arith, long, wide, wide_too);
        well_formed = λ again. well_over J ms good others room;
        rows = λ graph.
            rows_over graph J ms good others
            ∙ map_alike (λ row. (column : ℕ) → cell_at row (redirect redirects column) ≡ cell_at row column) (with_values graph ms) (with_values graph ws)
            (λ row are. ap (λ l. row ++ l) (same_values graph redirects ws row are)) (rows_of graph J)
            (joined_there keys (width left) (width right) good.2 redirects each (rows_of graph left) (rows_of graph right) (long_rows graph left good.0))
            ∙ sym (rows_over graph J ws good inside);
        sure = λ graph sure. sure_above graph ms J (sure_below graph ws J sure);
        bounded = λ graph tables parts_within.
            let below = parts_below (IsWithin graph tables) ws J parts_within in
            parts_over graph tables J ms good others room below (own_part (IsWithin graph tables) J below);
      }

pub each_pushed : (P : Redirect → Type 0) (xs : List Redirect) (x : Redirect) → AllByRecursion P xs → P x → AllByRecursion P (xs ++ x ∷ [])
each_pushed P [] x each one = (one, tt)
each_pushed P (y ∷ xs) x each one = (each.0, each_pushed P xs x each.1 one)

pub key_there : (keys : List KeyColumns) (i : ℕ) (d : KeyColumns) → i < length keys → Contains keys (get_or keys i d)
key_there keys i d less = All-get_or (Contains keys) keys i d less (All-contains_itself keys)

-- the look-ups in other columns, inside the pairs
abbrev pub AreElsewhere : Plan → Plan → List KeyColumns → List Wanted → List Wanted → Type 0
AreElsewhere left right keys ws ms = IsRewritten (over (plan.join left right keys) ws) (over (plan.join left right keys) ms) × AllByRecursion (IsInside (width left + width right)) ms

pub elsewhere : (left right : Plan) (keys : List KeyColumns) (redirects : List Redirect) → AllByRecursion (IsRedirect keys (width left)) redirects → (ws : List Wanted) → AllByRecursion (IsInside (width left + width right)) ws
    → (others : List Wanted) → others ≡ map (redirected redirects) ws → IsWellFormed (over (plan.join left right keys) ws) → AreElsewhere left right keys ws others
elsewhere left right keys redirects each ws inside others is well =
    subst (AreElsewhere left right keys ws) (sym is) (
      redirected_join left right keys redirects each ws inside well,
      all_inside keys (width left) (width right) (well_looked_up ws (plan.join left right keys) well).2 redirects each ws inside,
    )
