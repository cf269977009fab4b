-- A projection that tells trails apart, or the pairs of a join, makes of different rows on one graph different ones.
use Rattle.std.proofs.Common.{◌≡◌, ℕ, ◌+◌, ◌-◌, ◌==◌, ◌<◌, ◌≤◌, Bool, true, false, cond, List, [], ◌∷◌, ◌++◌, filter, length, refl, sym, ap, subst, ◌∙◌, inl, inr, arith, true≢false}
use Rattle.std.specs.Prelude.{◌⊎◌, ◌&&◌, ◌||◌, nat_le}
use Rattle.std.specs.List.{All, list_all, list_any, range_with_len}
use Rattle.std.proofs.lemmas.Bool.{and_parts, false≢true, or_cases, eqb-true, eqb-false}
use Rattle.std.proofs.lemmas.Bool.Decides.{nat_tests}
use Rattle.std.proofs.lemmas.List.{ext_get_or, get_or-append_right, get_or_append_left}
use Rattle.std.proofs.lemmas.List.Elements.{All-filter, All-head, All-map, All-tail, All-weaker, filter_passes}
use Rattle.cy_values.specs.declared.numbers.RelId.{RelId}
use Rattle.cy_values.specs.declared.rows.Cell.{Cell}
use Rattle.cy_values.specs.declared.rows.Cell.TheVariants as cell
use Rattle.cy_values.specs.Bag.{count_of}
use Rattle.cy_values.specs.Order.{row_cmp}
use Rattle.std.specs.Ordering.{eq_by_cmp}
use Rattle.cy_graph.specs.Graph.{Content, IsGraph, State}
use Rattle.cy_planner_algebra.specs.declared.operators.KeyColumns.{KeyColumns}
use Rattle.cy_planner_algebra.specs.Plans as plan
use Rattle.cy_planner_algebra.specs.Plans.{Output, Plan, computed, gathered, width}
use Rattle.cy_planner_algebra.specs.Expressions.{cell_at, null, output_cell, projected, relationships_at, relationships_in}
use Rattle.cy_planner_algebra.specs.Keys.{left_key, meet, right_key}
use Rattle.cy_planner_algebra.specs.Meaning.{paired, rows_of}
use Rattle.cy_planner_algebra.specs.WellFormed.{IsWellFormed}
use Rattle.cy_planner_algebra.proofs.Counts.{count_cons, count_passing, identity, same}
use Rattle.cy_planner_algebra.proofs.Widths.{all_made, wide_rows}
use Rattle.cy_network_relevance.specs.Trails.{TellsRowsApartOn, are_two, gathers_both, has_links, has_lists, is_alone, is_kept, is_key, is_paired, is_told, tells_joins, tells_joined, tells_trails}
use Rattle.cy_network_relevance.proofs.AnyOutput.{one_fails}
use Rattle.cy_network_relevance.proofs.Links.{HasEnds, IsLink, IsListed, alone_cell, links, lists, no_node, second_end, within}
use Rattle.cy_network_relevance.proofs.Bounds.{both}

-- ---- rows that stand in a list

-- what is so of each is so of one that counts
pub of_counted : (P : List Cell → Type 0) (rows : List (List Cell)) → All P rows → (row : List Cell) → 0 < count_of row rows → P row
of_counted P [] each row some = absurd (omega (arith, some))
of_counted P (x ∷ xs) each row some = by (of_counted P xs (All-tail P x xs each) row) (same row x) refl
  where
    by : (0 < count_of row xs → P row) → (b : Bool) → same row x ≡ b → P row
    by rest true is = subst P (sym (identity row x is)) (All-head P x xs each)
    by rest false is = let less : count_of row (x ∷ xs) ≡ 0 + count_of row xs = count_cons row x xs ∙ ap (λ b. cond b 1 0 + count_of row xs) is in rest (omega (arith, some, less))

-- one that counts among those that pass counts among all
counts_below : (p : List Cell → Bool) (rows : List (List Cell)) (row : List Cell) → 0 < count_of row (filter p rows) → 0 < count_of row rows
counts_below p rows row some = by (p row) (subst (λ n. 0 < n) (count_passing p row rows) some)
  where
    by : (b : Bool) → 0 < cond b (count_of row rows) 0 → 0 < count_of row rows
    by true more = more
    by false more = absurd (omega (arith, more))

-- ---- lists that are the same

heads : {A : Type 0} (x y : A) (xs ys : List A) → x ∷ xs ≡ y ∷ ys → x ≡ y
heads x y xs ys is = cc

tails : {A : Type 0} (x y : A) (xs ys : List A) → x ∷ xs ≡ y ∷ ys → xs ≡ ys
tails x y xs ys is = cc

-- ---- what two rows have in common of which a projection makes the same

same_image : (p : Output → Bool) (outputs : List Output) (row other : List Cell) → list_any p outputs ≡ true → projected outputs row ≡ projected outputs other
    → (o : Output) × ((p o ≡ true) × (output_cell row o ≡ output_cell other o))
same_image p [] row other any same_rows = absurd (false≢true any)
same_image p (o ∷ os) row other any same_rows =
    by (λ some. same_image p os row other some (tails (output_cell row o) (output_cell other o) (projected os row) (projected os other) same_rows)) (p o) refl any
  where
    by : (list_any p os ≡ true → (x : Output) × ((p x ≡ true) × (output_cell row x ≡ output_cell other x))) → (b : Bool) → p o ≡ b → (b || list_any p os) ≡ true
        → (x : Output) × ((p x ≡ true) × (output_cell row x ≡ output_cell other x))
    by rest true is some = (o, (is, heads (output_cell row o) (output_cell other o) (projected os row) (projected os other) same_rows))
    by rest false is some = rest some

pub same_kept : (outputs : List Output) (row other : List Cell) (column : ℕ) → is_kept outputs column ≡ true → projected outputs row ≡ projected outputs other → cell_at row column ≡ cell_at other column
same_kept outputs row other column kept same_rows =
    let found = same_image (is_alone column) outputs row other kept same_rows in
    sym (alone_cell row column found.0 found.1.0) ∙ found.1.1 ∙ alone_cell other column found.0 found.1.0

two_are : (first second : ℕ) (columns : List ℕ) → are_two first second columns ≡ true → columns ≡ first ∷ second ∷ []
two_are first second [] are = absurd (false≢true are)
two_are first second (a ∷ []) are = absurd (false≢true are)
two_are first second (a ∷ b ∷ []) are =
    let both = and_parts (a == first) (b == second) are in
    let one : a ≡ first = eqb-true a first both.0 in
    let two : b ≡ second = eqb-true b second both.1 in
    cc
two_are first second (a ∷ b ∷ c ∷ more) are = absurd (false≢true are)

same_rels : (columns : List ℕ) (row other : List Cell) → cell.Rels (relationships_at columns row) ≡ cell.Rels (relationships_at columns other)
    → relationships_at columns row ≡ relationships_at columns other
same_rels columns row other is = cc

same_gathered : (first second : ℕ) (o : Output) (row other : List Cell) → gathers_both first second o ≡ true → output_cell row o ≡ output_cell other o
    → (relationships_at (first ∷ second ∷ []) row ≡ relationships_at (first ∷ second ∷ []) other) ⊎ (relationships_at (second ∷ first ∷ []) row ≡ relationships_at (second ∷ first ∷ []) other)
same_gathered first second (computed e) row other both same_cells = absurd (false≢true both)
same_gathered first second (gathered columns) row other both same_cells = by (or_cases (are_two first second columns) (are_two second first columns) both)
  where
    rels : relationships_at columns row ≡ relationships_at columns other
    rels = same_rels columns row other same_cells

    by : (are_two first second columns ≡ true) ⊎ (are_two second first columns ≡ true)
        → (relationships_at (first ∷ second ∷ []) row ≡ relationships_at (first ∷ second ∷ []) other) ⊎ (relationships_at (second ∷ first ∷ []) row ≡ relationships_at (second ∷ first ∷ []) other)
    by (inl are) = inl (subst (λ cs. relationships_at cs row ≡ relationships_at cs other) (two_are first second columns are) rels)
    by (inr are) = inr (subst (λ cs. relationships_at cs row ≡ relationships_at cs other) (two_are second first columns are) rels)

-- lists with one more relationship before them or behind them
first_apart : (id other : RelId) (ids others : List RelId) → id ∷ (ids ++ []) ≡ other ∷ (others ++ []) → (id ≡ other) × (ids ≡ others)
first_apart id other ids others is = (heads id other (ids ++ []) (others ++ []) is, sym (nothing ids) ∙ tails id other (ids ++ []) (others ++ []) is ∙ nothing others)
  where
    nothing : (xs : List RelId) → xs ++ [] ≡ xs
    nothing [] = refl
    nothing (x ∷ xs) = ap (λ ys. x ∷ ys) (nothing xs)

not_empty : (xs : List RelId) (x : RelId) → xs ++ x ∷ [] ≡ [] → ⊥
not_empty [] x is = cc
not_empty (y ∷ ys) x is = cc

last_apart : (id other : RelId) (ids others : List RelId) → ids ++ id ∷ [] ≡ others ++ other ∷ [] → (id ≡ other) × (ids ≡ others)
last_apart id other [] [] is = (heads id other [] [] is, refl)
last_apart id other [] (o ∷ os) is = absurd (not_empty os other (sym (tails id o [] (os ++ other ∷ []) is)))
last_apart id other (i ∷ xs) [] is = absurd (not_empty xs id (tails i other (xs ++ id ∷ []) [] is))
last_apart id other (i ∷ xs) (o ∷ os) is =
    let rest = last_apart id other xs os (tails i o (xs ++ id ∷ []) (os ++ other ∷ []) is) in
    (rest.0, ap (λ x. x ∷ xs) (heads i o (xs ++ id ∷ []) (os ++ other ∷ []) is) ∙ ap (λ ys. o ∷ ys) rest.1)

-- each column passes
pub each_told : (p : ℕ → Bool) (count : ℕ) → list_all p (range_with_len 0 count) ≡ true → (k : ℕ) → k < count → p k ≡ true
each_told p count all k less = by (p k) refl
  where
    by : (b : Bool) → p k ≡ b → p k ≡ true
    by true is = is
    by false is = absurd (true≢false (sym all ∙ one_fails p count k less is))

-- a column of the key
pub same_in_key : (keys : List KeyColumns) (column : ℕ) (row other : List Cell) → is_key keys column ≡ true → right_key keys row ≡ right_key keys other → cell_at row column ≡ cell_at other column
same_in_key [] column row other is same_keys = absurd (false≢true is)
same_in_key (k ∷ ks) column row other is same_keys =
    by (λ some. same_in_key ks column row other some (tails (cell_at row k.right) (cell_at other k.right) (right_key ks row) (right_key ks other) same_keys)) (k.right == column) refl is
  where
    by : (is_key ks column ≡ true → cell_at row column ≡ cell_at other column) → (b : Bool) → (k.right == column) ≡ b → (b || is_key ks column) ≡ true → cell_at row column ≡ cell_at other column
    by rest true here some = subst (λ c. cell_at row c ≡ cell_at other c) (eqb-true k.right column here)
        (heads (cell_at row k.right) (cell_at other k.right) (right_key ks row) (right_key ks other) same_keys)
    by rest false here some = rest some

-- ---- two rows of a relationship with a trail after it

-- a row of the one part and one of the other with which it stands
record IsTrail (graph : Content) (wide others : ℕ) (keys : List KeyColumns) (left right : List Cell) : Type 0 where
  link : IsLink graph left
  listed : IsListed right
  long_left : length left ≡ wide
  long_right : length right ≡ others
  met : left_key keys left ≡ right_key keys right

module _ (graph : Content) (wide others : ℕ) (keys : List KeyColumns) (outputs : List Output) (left right left_two right_two : List Cell) (a : IsTrail graph wide others keys left right)
    (b : IsTrail graph wide others keys left_two right_two) (gathers : list_any (gathers_both 0 wide) outputs ≡ true)
    (told : list_all (is_told wide keys outputs) (range_with_len 0 (wide + others)) ≡ true) (same_rows : projected outputs (left ++ right) ≡ projected outputs (left_two ++ right_two)) where
  three : 2 < wide
  three = subst (λ n. 2 < n) a.long_left (by a.link.ends)
    where
      by : HasEnds a.link.rel left → 2 < length left
      by (inl p) = within left 2 (cell.Node a.link.rel.target) p.1 (no_node a.link.rel.target)
      by (inr p) = within left 2 (cell.Node a.link.rel.source) p.1 (no_node a.link.rel.source)

  in_left : (row more : List Cell) → length row ≡ wide → (k : ℕ) → k < wide → cell_at (row ++ more) k ≡ cell_at row k
  in_left row more long k less = get_or_append_left row more null k (subst (λ n. k < n) (sym long) less)

  in_right : (row more : List Cell) → length row ≡ wide → (k : ℕ) → cell_at (row ++ more) (wide + k) ≡ cell_at more k
  in_right row more long k = get_or-append_right row more wide (wide + k) null long (omega arith) ∙ ap (cell_at more) (let e : (wide + k) - wide ≡ k = omega arith in e)

  rels_one : relationships_in (cell_at (left ++ right) 0) ≡ a.link.id ∷ []
  rels_one = ap relationships_in (in_left left right a.long_left 0 (omega (arith, three)) ∙ a.link.first)

  rels_two : relationships_in (cell_at (left_two ++ right_two) 0) ≡ b.link.id ∷ []
  rels_two = ap relationships_in (in_left left_two right_two b.long_left 0 (omega (arith, three)) ∙ b.link.first)

  list_one : relationships_in (cell_at (left ++ right) wide) ≡ a.listed.ids
  list_one = ap relationships_in (ap (cell_at (left ++ right)) (let e : wide ≡ wide + 0 = omega arith in e) ∙ in_right left right a.long_left 0 ∙ a.listed.first)

  list_two : relationships_in (cell_at (left_two ++ right_two) wide) ≡ b.listed.ids
  list_two = ap relationships_in (ap (cell_at (left_two ++ right_two)) (let e : wide ≡ wide + 0 = omega arith in e) ∙ in_right left_two right_two b.long_left 0 ∙ b.listed.first)

  named : (a.link.id ≡ b.link.id) × (a.listed.ids ≡ b.listed.ids)
  named = let found = same_image (gathers_both 0 wide) outputs (left ++ right) (left_two ++ right_two) gathers same_rows in by (same_gathered 0 wide found.0 (left ++ right) (left_two ++ right_two) found.1.0 found.1.1)
    where
      by : (relationships_at (0 ∷ wide ∷ []) (left ++ right) ≡ relationships_at (0 ∷ wide ∷ []) (left_two ++ right_two))
          ⊎ (relationships_at (wide ∷ 0 ∷ []) (left ++ right) ≡ relationships_at (wide ∷ 0 ∷ []) (left_two ++ right_two)) → (a.link.id ≡ b.link.id) × (a.listed.ids ≡ b.listed.ids)
      by (inl is) =
          first_apart a.link.id b.link.id a.listed.ids b.listed.ids
          (sym (ap (λ xs. xs ++ (relationships_in (cell_at (left ++ right) wide) ++ [])) rels_one ∙ ap (λ ys. a.link.id ∷ (ys ++ [])) list_one)
          ∙ is ∙ ap (λ xs. xs ++ (relationships_in (cell_at (left_two ++ right_two) wide) ++ [])) rels_two ∙ ap (λ ys. b.link.id ∷ (ys ++ [])) list_two)
      by (inr is) =
          last_apart a.link.id b.link.id a.listed.ids b.listed.ids
          (sym (ap (λ xs. xs ++ (relationships_in (cell_at (left ++ right) 0) ++ [])) list_one ∙ ap (λ ys. a.listed.ids ++ (ys ++ [])) rels_one)
          ∙ is ∙ ap (λ xs. xs ++ (relationships_in (cell_at (left_two ++ right_two) 0) ++ [])) list_two ∙ ap (λ ys. b.listed.ids ++ (ys ++ [])) rels_two)

  same_first : cell_at left 0 ≡ cell_at left_two 0
  same_first = a.link.first ∙ ap cell.Rel named.0 ∙ sym b.link.first

  same_list : cell_at right 0 ≡ cell_at right_two 0
  same_list = a.listed.first ∙ ap cell.Rels named.1 ∙ sym b.listed.first

  kept_left : (k : ℕ) → k < wide → is_kept outputs k ≡ true → cell_at left k ≡ cell_at left_two k
  kept_left k less kept =
      sym (in_left left right a.long_left k less) ∙ same_kept outputs (left ++ right) (left_two ++ right_two) k kept same_rows ∙ in_left left_two right_two b.long_left k less

  kept_right : (k : ℕ) → is_kept outputs (wide + k) ≡ true → cell_at right k ≡ cell_at right_two k
  kept_right k kept =
      sym (in_right left right a.long_left k) ∙ same_kept outputs (left ++ right) (left_two ++ right_two) (wide + k) kept same_rows ∙ in_right left_two right_two b.long_left k

  test : (k : ℕ) → k < wide + others → (k == 0 || (k == 2 || (k == wide || (is_kept outputs k || (nat_le wide k && is_key keys (k - wide)))))) ≡ true
  test k less = each_told (is_told wide keys outputs) (wide + others) told k less

  -- the columns of the left part but the second end
  left_cell : (k : ℕ) → k < wide → (k ≡ 2 → ⊥) → cell_at left k ≡ cell_at left_two k
  left_cell k less other = first (or_cases (k == 0) _ (test k (omega (arith, less))))
    where
      is_least : (m n : ℕ) → nat_le m n ≡ true → m ≤ n
      is_least m n equal = grind (arith, nat_tests)

      key : (is_kept outputs k ≡ true) ⊎ ((nat_le wide k && is_key keys (k - wide)) ≡ true) → cell_at left k ≡ cell_at left_two k
      key (inl kept) = kept_left k less kept
      key (inr is) = let least = is_least wide k ((and_parts (nat_le wide k) (is_key keys (k - wide)) is).0) in absurd (omega (arith, least, less))

      at_list : ((k == wide) ≡ true) ⊎ ((is_kept outputs k || (nat_le wide k && is_key keys (k - wide))) ≡ true) → cell_at left k ≡ cell_at left_two k
      at_list (inl is) = let e = eqb-true k wide is in absurd (omega (arith, e, less))
      at_list (inr is) = key (or_cases (is_kept outputs k) _ is)

      second : ((k == 2) ≡ true) ⊎ ((k == wide || (is_kept outputs k || (nat_le wide k && is_key keys (k - wide)))) ≡ true) → cell_at left k ≡ cell_at left_two k
      second (inl is) = absurd (other (eqb-true k 2 is))
      second (inr is) = at_list (or_cases (k == wide) _ is)

      first : ((k == 0) ≡ true) ⊎ ((k == 2 || (k == wide || (is_kept outputs k || (nat_le wide k && is_key keys (k - wide))))) ≡ true) → cell_at left k ≡ cell_at left_two k
      first (inl is) = subst (λ c. cell_at left c ≡ cell_at left_two c) (sym (eqb-true k 0 is)) same_first
      first (inr is) = second (or_cases (k == 2) _ is)

  each_left : (k : ℕ) → k < length left → cell_at left k ≡ cell_at left_two k
  each_left k less = by (k == 2) refl
    where
      by : (b : Bool) → (k == 2) ≡ b → cell_at left k ≡ cell_at left_two k
      by true is =
          subst (λ c. cell_at left c ≡ cell_at left_two c) (sym (eqb-true k 2 is))
          (second_end graph left left_two a.link b.link same_first (left_cell 1 (omega (arith, three)) (λ e. absurd (omega (arith, e)))))
      by false is = left_cell k (subst (λ n. k < n) a.long_left less) (eqb-false k 2 is)

  same_left : left ≡ left_two
  same_left = ext_get_or null left left_two (a.long_left ∙ sym b.long_left) each_left

  same_keys : right_key keys right ≡ right_key keys right_two
  same_keys = sym a.met ∙ ap (left_key keys) same_left ∙ b.met

  each_right : (k : ℕ) → k < length right → cell_at right k ≡ cell_at right_two k
  each_right k less = first (or_cases ((wide + k) == 0) _ (test (wide + k) (let long = a.long_right in omega (arith, less, long))))
    where
      key : (is_kept outputs (wide + k) ≡ true) ⊎ ((nat_le wide (wide + k) && is_key keys ((wide + k) - wide)) ≡ true) → cell_at right k ≡ cell_at right_two k
      key (inl kept) = kept_right k kept
      key (inr is) =
          same_in_key keys k right right_two
          (ap (is_key keys) (let e : k ≡ (wide + k) - wide = omega arith in e) ∙ (and_parts (nat_le wide (wide + k)) (is_key keys ((wide + k) - wide)) is).1) same_keys

      at_list : (((wide + k) == wide) ≡ true) ⊎ ((is_kept outputs (wide + k) || (nat_le wide (wide + k) && is_key keys ((wide + k) - wide))) ≡ true) → cell_at right k ≡ cell_at right_two k
      at_list (inl is) = let e = eqb-true (wide + k) wide is in subst (λ c. cell_at right c ≡ cell_at right_two c) (let none : 0 ≡ k = omega (arith, e) in none) same_list
      at_list (inr is) = key (or_cases (is_kept outputs (wide + k)) _ is)

      second : (((wide + k) == 2) ≡ true) ⊎ (((wide + k) == wide || (is_kept outputs (wide + k) || (nat_le wide (wide + k) && is_key keys ((wide + k) - wide)))) ≡ true) → cell_at right k ≡ cell_at right_two k
      second (inl is) = let e = eqb-true (wide + k) 2 is in absurd (omega (arith, e, three))
      second (inr is) = at_list (or_cases ((wide + k) == wide) _ is)

      first : (((wide + k) == 0) ≡ true) ⊎ (((wide + k) == 2 || ((wide + k) == wide || (is_kept outputs (wide + k) || (nat_le wide (wide + k) && is_key keys ((wide + k) - wide))))) ≡ true) → cell_at right k ≡ cell_at right_two k
      first (inl is) = let e = eqb-true (wide + k) 0 is in absurd (omega (arith, e, three))
      first (inr is) = second (or_cases ((wide + k) == 2) _ is)

  same_right : right ≡ right_two
  same_right = ext_get_or null right right_two (a.long_right ∙ sym b.long_right) each_right

  same_trails : left ++ right ≡ left_two ++ right_two
  same_trails = ap (λ row. row ++ right) same_left ∙ ap (λ row. left_two ++ row) same_right

-- ---- joins

record IsJoined (graph : Content) (wide others : ℕ) (keys : List KeyColumns) (row : List Cell) : Type 0 where
  left : List Cell
  right : List Cell
  is : row ≡ left ++ right
  trail : IsTrail graph wide others keys left right

pub met_keys : (keys : List KeyColumns) (left right : List Cell) → meet keys left right ≡ true → left_key keys left ≡ right_key keys right
met_keys keys left right meets = identity (left_key keys left) (right_key keys right) ((and_parts (eq_by_cmp row_cmp (left_key keys left) (right_key keys right)) _ meets).0)

module _ (graph : Content) (left right : Plan) (keys : List KeyColumns) (left_good : IsWellFormed left) (right_good : IsWellFormed right) (has_left : All (IsLink graph) (rows_of graph left))
    (has_right : All IsListed (rows_of graph right)) where
  abbrev Joined : List Cell → Type 0
  Joined = IsJoined graph (width left) (width right) keys

  rights : (row : List Cell) → All (λ r. (meet keys row r ≡ true) × (IsListed r × (length r ≡ width right))) (filter (meet keys row) (rows_of graph right))
  rights row =
      both (λ r. meet keys row r ≡ true) (λ r. IsListed r × (length r ≡ width right)) (filter (meet keys row) (rows_of graph right)) (filter_passes (meet keys row) (rows_of graph right))
      (All-filter (meet keys row) (λ r. IsListed r × (length r ≡ width right)) (rows_of graph right)
      (both IsListed (λ r. length r ≡ width right) (rows_of graph right) has_right (wide_rows graph right right_good)))

  pairs : (row : List Cell) → IsLink graph row × (length row ≡ width left) → All Joined (paired row (filter (meet keys row) (rows_of graph right)))
  pairs row is =
      All-map Joined (λ r. row ++ r) (filter (meet keys row) (rows_of graph right))
      (All-weaker (λ r. (meet keys row r ≡ true) × (IsListed r × (length r ≡ width right))) (λ r. Joined (row ++ r))
      (λ r facts. record { left = row; right = r; is = refl; trail = record { link = is.0; listed = facts.1.0; long_left = is.1; long_right = facts.1.1; met = met_keys keys row r facts.0 } })
      (filter (meet keys row) (rows_of graph right)) (rights row))

  joined : All Joined (rows_of graph (plan.join left right keys))
  joined =
      all_made (λ row. IsLink graph row × (length row ≡ width left)) Joined (λ row. paired row (filter (meet keys row) (rows_of graph right))) pairs (rows_of graph left)
      (both (IsLink graph) (λ row. length row ≡ width left) (rows_of graph left) has_left (wide_rows graph left left_good))

module _ (graph : State) (is_graph : IsGraph graph) (left right : Plan) (keys : List KeyColumns) (outputs : List Output) (left_good : IsWellFormed left) (right_good : IsWellFormed right)
    (tells : tells_trails left right keys outputs ≡ true) where
  first_part : (has_links left ≡ true) × ((has_lists right && (list_any (gathers_both 0 (width left)) outputs && list_all (is_told (width left) keys outputs) (range_with_len 0 (width left + width right)))) ≡ true)
  first_part = and_parts (has_links left) _ tells

  second_part : (has_lists right ≡ true) × ((list_any (gathers_both 0 (width left)) outputs && list_all (is_told (width left) keys outputs) (range_with_len 0 (width left + width right))) ≡ true)
  second_part = and_parts (has_lists right) _ first_part.1

  third_part : (list_any (gathers_both 0 (width left)) outputs ≡ true) × (list_all (is_told (width left) keys outputs) (range_with_len 0 (width left + width right)) ≡ true)
  third_part = and_parts (list_any (gathers_both 0 (width left)) outputs) _ second_part.1

  told_trails : TellsRowsApartOn graph (plan.join left right keys) outputs
  told_trails row other here there same_rows =
      let rows = joined graph.content left right keys left_good right_good (links graph is_graph left first_part.0) (lists graph.content right second_part.0) in
      let a = of_counted (IsJoined graph.content (width left) (width right) keys) (rows_of graph.content (plan.join left right keys)) rows row here in
      let b = of_counted (IsJoined graph.content (width left) (width right) keys) (rows_of graph.content (plan.join left right keys)) rows other there in
      a.is
      ∙ same_trails graph.content (width left) (width right) keys outputs a.left a.right b.left b.right a.trail b.trail third_part.0 third_part.1
      (ap (projected outputs) (sym a.is) ∙ same_rows ∙ ap (projected outputs) b.is)
      ∙ sym b.is

-- ---- joins of which only columns of the right row's key are left out

record IsPair (wide others : ℕ) (keys : List KeyColumns) (row : List Cell) : Type 0 where
  left : List Cell
  right : List Cell
  is : row ≡ left ++ right
  long_left : length left ≡ wide
  long_right : length right ≡ others
  met : left_key keys left ≡ right_key keys right

module _ (graph : Content) (left right : Plan) (keys : List KeyColumns) (left_good : IsWellFormed left) (right_good : IsWellFormed right) where
  abbrev Pair : List Cell → Type 0
  Pair = IsPair (width left) (width right) keys

  met_rights : (row : List Cell) → All (λ r. (meet keys row r ≡ true) × (length r ≡ width right)) (filter (meet keys row) (rows_of graph right))
  met_rights row =
      both (λ r. meet keys row r ≡ true) (λ r. length r ≡ width right) (filter (meet keys row) (rows_of graph right)) (filter_passes (meet keys row) (rows_of graph right))
      (All-filter (meet keys row) (λ r. length r ≡ width right) (rows_of graph right) (wide_rows graph right right_good))

  pairs_of : (row : List Cell) → length row ≡ width left → All Pair (paired row (filter (meet keys row) (rows_of graph right)))
  pairs_of row is =
      All-map Pair (λ r. row ++ r) (filter (meet keys row) (rows_of graph right))
      (All-weaker (λ r. (meet keys row r ≡ true) × (length r ≡ width right)) (λ r. Pair (row ++ r))
      (λ r facts. record { left = row; right = r; is = refl; long_left = is; long_right = facts.1; met = met_keys keys row r facts.0 })
      (filter (meet keys row) (rows_of graph right)) (met_rights row))

  all_pairs : All Pair (rows_of graph (plan.join left right keys))
  all_pairs =
      all_made (λ row. length row ≡ width left) Pair (λ row. paired row (filter (meet keys row) (rows_of graph right))) pairs_of (rows_of graph left) (wide_rows graph left left_good)

module _ (wide others : ℕ) (keys : List KeyColumns) (outputs : List Output) (row row_two : List Cell) (a : IsPair wide others keys row) (b : IsPair wide others keys row_two)
    (told : list_all (is_paired wide keys outputs) (range_with_len 0 (wide + others)) ≡ true) (same_rows : projected outputs row ≡ projected outputs row_two) where
  at_left : (pair : List Cell) → (p : IsPair wide others keys pair) → (k : ℕ) → k < wide → cell_at pair k ≡ cell_at p.left k
  at_left pair p k less = ap (λ r. cell_at r k) p.is ∙ get_or_append_left p.left p.right null k (subst (λ n. k < n) (sym p.long_left) less)

  at_right : (pair : List Cell) → (p : IsPair wide others keys pair) → (k : ℕ) → cell_at pair (wide + k) ≡ cell_at p.right k
  at_right pair p k =
      ap (λ r. cell_at r (wide + k)) p.is
      ∙ (get_or-append_right p.left p.right wide (wide + k) null p.long_left (omega arith) ∙ ap (cell_at p.right) (let e : (wide + k) - wide ≡ k = omega arith in e))

  kept_or_key : (k : ℕ) → k < wide + others → (is_kept outputs k ≡ true) ⊎ ((nat_le wide k && is_key keys (k - wide)) ≡ true)
  kept_or_key k less = or_cases (is_kept outputs k) _ (each_told (is_paired wide keys outputs) (wide + others) told k less)

  pair_left_cell : (k : ℕ) → k < length a.left → cell_at a.left k ≡ cell_at b.left k
  pair_left_cell k less = by (kept_or_key k (omega (arith, within_left)))
    where
      within_left : k < wide
      within_left = subst (λ n. k < n) a.long_left less

      is_least : (m n : ℕ) → nat_le m n ≡ true → m ≤ n
      is_least m n equal = grind (arith, nat_tests)

      by : (is_kept outputs k ≡ true) ⊎ ((nat_le wide k && is_key keys (k - wide)) ≡ true) → cell_at a.left k ≡ cell_at b.left k
      by (inl kept) = sym (at_left row a k within_left) ∙ same_kept outputs row row_two k kept same_rows ∙ at_left row_two b k within_left
      by (inr is) = let least = is_least wide k ((and_parts (nat_le wide k) (is_key keys (k - wide)) is).0) in absurd (omega (arith, least, within_left))

  pair_left : a.left ≡ b.left
  pair_left = ext_get_or null a.left b.left (a.long_left ∙ sym b.long_left) pair_left_cell

  pair_keys : right_key keys a.right ≡ right_key keys b.right
  pair_keys = sym a.met ∙ ap (left_key keys) pair_left ∙ b.met

  pair_right_cell : (k : ℕ) → k < length a.right → cell_at a.right k ≡ cell_at b.right k
  pair_right_cell k less = by (kept_or_key (wide + k) (let long = a.long_right in omega (arith, less, long)))
    where
      by : (is_kept outputs (wide + k) ≡ true) ⊎ ((nat_le wide (wide + k) && is_key keys ((wide + k) - wide)) ≡ true) → cell_at a.right k ≡ cell_at b.right k
      by (inl kept) = sym (at_right row a k) ∙ same_kept outputs row row_two (wide + k) kept same_rows ∙ at_right row_two b k
      by (inr is) =
          same_in_key keys k a.right b.right
          (ap (is_key keys) (let e : k ≡ (wide + k) - wide = omega arith in e) ∙ (and_parts (nat_le wide (wide + k)) (is_key keys ((wide + k) - wide)) is).1) pair_keys

  same_pairs : row ≡ row_two
  same_pairs =
      a.is ∙ ap (λ r. r ++ a.right) pair_left ∙ ap (λ r. b.left ++ r) (ext_get_or null a.right b.right (a.long_right ∙ sym b.long_right) pair_right_cell) ∙ sym b.is

told_pairs : (graph : State) (left right : Plan) (keys : List KeyColumns) (outputs : List Output) → IsWellFormed left → IsWellFormed right
    → list_all (is_paired (width left) keys outputs) (range_with_len 0 (width left + width right)) ≡ true → TellsRowsApartOn graph (plan.join left right keys) outputs
told_pairs graph left right keys outputs left_good right_good told row other here there same_rows =
    let rows = all_pairs graph.content left right keys left_good right_good in
    same_pairs (width left) (width right) keys outputs row other
    (of_counted (IsPair (width left) (width right) keys) (rows_of graph.content (plan.join left right keys)) rows row here)
    (of_counted (IsPair (width left) (width right) keys) (rows_of graph.content (plan.join left right keys)) rows other there) told same_rows

told_joined : (graph : State) → IsGraph graph → (left right : Plan) (keys : List KeyColumns) (outputs : List Output) → IsWellFormed left → IsWellFormed right
    → tells_joined left right keys outputs ≡ true → TellsRowsApartOn graph (plan.join left right keys) outputs
told_joined graph is left right keys outputs left_good right_good tells =
    by (or_cases (list_all (is_paired (width left) keys outputs) (range_with_len 0 (width left + width right))) _ tells)
  where
    by : (list_all (is_paired (width left) keys outputs) (range_with_len 0 (width left + width right)) ≡ true) ⊎ (tells_trails left right keys outputs ≡ true)
        → TellsRowsApartOn graph (plan.join left right keys) outputs
    by (inl pairs) = told_pairs graph left right keys outputs left_good right_good pairs
    by (inr trails) = told_trails graph is left right keys outputs left_good right_good trails

-- what is found of the parts of a join
pub joins_told : (p left right lent_left lent_right : Plan) (keys lent_keys : List KeyColumns) (outputs : List Output) → p ≡ plan.join left right keys → lent_left ≡ left → lent_right ≡ right
    → lent_keys ≡ keys → tells_joined lent_left lent_right lent_keys outputs ≡ tells_joins p outputs
joins_told p left right lent_left lent_right keys lent_keys outputs is same_left same_right same_keys =
    ap (λ l. tells_joined l lent_right lent_keys outputs) same_left ∙ ap (λ r. tells_joined left r lent_keys outputs) same_right ∙ ap (λ ks. tells_joined left right ks outputs) same_keys
    ∙ sym (ap (λ q. tells_joins q outputs) is)

-- ---- all plans

pub told : (graph : State) → IsGraph graph → (p : Plan) (outputs : List Output) → IsWellFormed p → tells_joins p outputs ≡ true → TellsRowsApartOn graph p outputs
told graph is (plan.join left right keys) outputs good tells = told_joined graph is left right keys outputs good.0 good.1 tells
told graph is (plan.semi left right keys keeping) outputs good tells =
    λ row other here there same_rows. told graph is left outputs good.0 tells row other (counts_below _ (rows_of graph.content left) row here) (counts_below _ (rows_of graph.content left) other there) same_rows
told graph is (plan.filter p test) outputs good tells =
    λ row other here there same_rows. told graph is p outputs good.0 tells row other (counts_below _ (rows_of graph.content p) row here) (counts_below _ (rows_of graph.content p) other there) same_rows
told graph is (plan.all_different p columns) outputs good tells =
    λ row other here there same_rows. told graph is p outputs good.0 tells row other (counts_below _ (rows_of graph.content p) row here) (counts_below _ (rows_of graph.content p) other there) same_rows
told graph is _ outputs good tells = absurd (false≢true tells)
