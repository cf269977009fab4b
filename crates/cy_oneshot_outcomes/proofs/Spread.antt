-- The own table of a pattern with a step that has a length is that of the pattern written out with each number of its range.
use Rattle.std.specs.FinMap.Entries as entries
use Rattle.std.proofs.Common.{◌≡◌, ℕ, zero, suc, ◌+◌, ◌-◌, ◌≤◌, ◌<◌, ◌==◌, Bool, true, false, cond, ◌&&◌, List, [], ◌∷◌, ◌++◌, map, length, take, drop, refl, sym, ap, subst, ◌∙◌, Option, None, Some, unwrap_or, append_assoc, length-append, arith}
use Rattle.std.specs.Prelude.{sum_by, flat_map, zip, nat_le}
use Rattle.std.specs.Option.{option_map_or}
use Rattle.std.specs.Ordering.{is_eq, nat_cmp}
use Rattle.std.proofs.Math.Bool.{and-true}
use Rattle.std.proofs.lemmas.Bool.Decides.{nat_tests}
use Rattle.std.proofs.lemmas.List.{length-map, map-append}
use Rattle.cy_values.specs.declared.numbers.NodeId.{NodeId}
use Rattle.cy_values.specs.declared.numbers.RelId.{RelId}
use Rattle.cy_values.specs.declared.rows.Cell.{Cell}
use Rattle.cy_values.specs.declared.rows.Cell.TheVariants as cell
use Rattle.cy_values.proofs.Lists.{sum_of_none, sums_alike}
use Rattle.cy_trees.specs.declared.clauses.Length.{Length}
use Rattle.cy_trees.specs.Trees.{NodePattern, RelationshipPattern}
use Rattle.cy_graph.specs.Graph.{Content, node_order}
use Rattle.cy_graph.specs.declared.nodes.Rel.{Rel}
use Rattle.cy_expr.specs.Graphs.{are_different}
use Rattle.cy_oneshot_patterns.specs.Fits.{are_linked, fits, is_in_range, leads_on, relationships_of}
use Rattle.cy_oneshot_patterns.specs.Places.{Place, node, relationships, assignments, candidates, lists_up_to}
use Rattle.cy_oneshot_outcomes.specs.Lengths.{counts_in, nameless, places_between, ranged, starts_twice}
use Rattle.cy_oneshot_outcomes.proofs.Sums.{sum_each_alike, sum_exchanged, sum_map}
use Rattle.cy_oneshot_outcomes.proofs.Totals.{total_alike, total_range, total_within, within}
use Rattle.cy_oneshot_outcomes.proofs.Pigeons.{lengths_of, lists_of, sum_longer, sum_up_to, twice_if_longer}
use Rattle.cy_oneshot_outcomes.proofs.Walks.{between, numbers, pulled_out, walks}
use Rattle.cy_oneshot_outcomes.proofs.Fitting.{IsBetween, IsMiddle, all_between, around, between_nameless, fits_nameless, holds, holds_apart, list_is_middle, none_around}
use Rattle.cy_oneshot_outcomes.proofs.PlaceSums.{IsLeft, IsRight, all_left, all_right, drop_front, sum_places, take_front, zip_parts}

-- an assignment of a pattern that is written out, as one of the pattern, by how many places stand before the step
abbrev pub packed_at : ℕ → ℕ → List Cell → List Cell
packed_at before count cells =
    take before cells
    ++ cell.Rels (flat_map relationships_of (take (places_between count) (drop before cells)))
    ∷ drop (places_between count) (drop before cells)

abbrev pub meet_at : ℕ → ℕ → List Cell → Bool
meet_at before zero cells = starts_twice (drop (before - 1) cells)
meet_at before (suc count) cells = true

two_conditions : (b c : Bool) (n : ℕ) → cond (b && c) n 0 ≡ cond b (cond c n 0) 0
two_conditions true c n = refl
two_conditions false c n = refl

swapped : (b c : Bool) (n : ℕ) → cond b (cond c n 0) 0 ≡ cond c (cond b n 0) 0
swapped true true n = refl
swapped true false n = refl
swapped false true n = refl
swapped false false n = refl

never : (b : Bool) → cond {A = ℕ} b 0 0 ≡ 0
never true = refl
never false = refl

same_number : (m n : ℕ) → is_eq (nat_cmp m n) ≡ (m == n)
same_number m n = grind (arith, nat_tests)

pub between_long : (r : RelationshipPattern) (count : ℕ) → length (between r count) ≡ places_between count
between_long r zero = refl
between_long r (suc zero) = refl
between_long r (suc (suc count)) =
    let long : length (between r (suc count)) ≡ places_between (suc count) = between_long r (suc count) in
    (let e : suc (suc (length (between r (suc count)))) ≡ places_between (suc (suc count)) = omega (arith, long) in e)

-- a range, as numbers from one to before another
in_range_within : (low : ℕ) (most : Option ℕ) (all k : ℕ) → k < suc all
    → (nat_le low k && option_map_or (λ m. nat_le k m) most true) ≡ within low (unwrap_or most all + 1) k
in_range_within low (Some m) all k below = ap (λ b. nat_le low k && b) (let e : nat_le k m ≡ nat_le (suc k) (m + 1) = grind (arith, nat_tests) in e)
in_range_within low None all k below = ap (λ b. nat_le low k && b) (let e : true ≡ nat_le (suc k) (all + 1) = grind (arith, nat_tests, below) in e)

module _ (graph : Content) (rising : entries.is_sorted node_order graph.nodes ≡ true) (row : List Cell) (r : RelationshipPattern) (range : Length) (places_left : List Place) (start end : NodePattern) (places_right : List Place) (value : List Cell → ℕ) (before : ℕ) (as_many : before ≡ suc (length places_left)) where
  abbrev lefts : List Place
  lefts = places_left ++ node start ∷ []

  abbrev rights : List Place
  rights = node end ∷ places_right

  abbrev with_range : List Place
  with_range = lefts ++ (relationships (ranged r range) range ∷ rights)

  abbrev with_singles : ℕ → List Place
  with_singles count = lefts ++ (between r count ++ rights)

  abbrev own : List Place → List Cell → Bool
  own places cells = fits graph row (zip (map nameless places) cells)

  abbrev of_range : List Cell → ℕ
  of_range cells = cond (own with_range cells) (value cells) 0

  abbrev of_singles : ℕ → List Cell → ℕ
  of_singles count cells = cond (own (with_singles count) cells) (cond (meet_at before count cells) (value (packed_at before count cells)) 0) 0

  abbrev first_end : NodePattern
  first_end = record start { variable = None }

  abbrev last_end : NodePattern
  last_end = record end { variable = None }

  module _ (b c : List Cell) (is_left : IsLeft places_left b) (is_right : IsRight graph c) where
    abbrev x : NodeId
    x = is_left.last

    abbrev y : NodeId
    y = is_right.first

    abbrev pairs_left : List (Place × Cell)
    pairs_left = zip (map nameless places_left) is_left.others

    abbrev pairs_right : List (Place × Cell)
    pairs_right = zip (map nameless places_right) is_right.others

    long_left : length b ≡ before
    long_left =
        let whole : length b ≡ length is_left.others + 1 = ap length is_left.parts ∙ length-append is_left.others (cell.Node is_left.last ∷ []) in
        omega (arith, whole, is_left.long, as_many)

    zipped : (places : List Place) (m : List Cell) → length m ≡ length places
        → zip (map nameless (lefts ++ (places ++ rights))) (b ++ (m ++ c))
        ≡ (pairs_left ++ (node first_end, cell.Node x) ∷ []) ++ (zip (map nameless places) m ++ (node last_end, cell.Node y) ∷ pairs_right)
    zipped places m long =
        let names : map nameless (lefts ++ (places ++ rights)) ≡ (map nameless places_left ++ node first_end ∷ []) ++ (map nameless places ++ map nameless rights) =
        map-append nameless lefts (places ++ rights) ∙ (λ i. map-append nameless places_left (node start ∷ []) i ++ map-append nameless places rights i) in
        let parts : b ++ (m ++ c) ≡ (is_left.others ++ cell.Node x ∷ []) ++ (m ++ cell.Node y ∷ is_right.others) = (λ i. is_left.parts i ++ (m ++ is_right.parts i)) in
        let alike : length is_left.others ≡ length (map nameless places_left) = is_left.long ∙ sym (length-map places_left nameless) in
        let one_more : length (is_left.others ++ cell.Node x ∷ []) ≡ length (map nameless places_left ++ node first_end ∷ []) =
        length-append is_left.others (cell.Node x ∷ []) ∙ ap (λ n. n + 1) alike ∙ sym (length-append (map nameless places_left) (node first_end ∷ [])) in
        (λ i. zip (names i) (parts i))
        ∙ zip_parts (map nameless places_left ++ node first_end ∷ []) (map nameless places ++ map nameless rights) (is_left.others ++ cell.Node x ∷ []) (m ++ cell.Node y ∷ is_right.others) one_more
        ∙ (λ i. zip_parts (map nameless places_left) (node first_end ∷ []) is_left.others (cell.Node x ∷ []) alike i
        ++ zip_parts (map nameless places) (map nameless rights) m (cell.Node y ∷ is_right.others) (long ∙ sym (length-map places nameless)) i)

    abbrev rest_holds : List RelId → Bool
    rest_holds ids = around graph row r pairs_left first_end x last_end y pairs_right ids

    own_apart : (places : List Place) (m : List Cell) (ids : List RelId) → length m ≡ length places → IsMiddle graph row r (zip (map nameless places) m) ids
        → own (lefts ++ (places ++ rights)) (b ++ (m ++ c))
        ≡ (are_linked graph ((node first_end, cell.Node x) ∷ (zip (map nameless places) m ++ (node last_end, cell.Node y) ∷ [])) && rest_holds ids)
    own_apart places m ids long is =
        fits_nameless graph row (lefts ++ (places ++ rights)) (b ++ (m ++ c))
        ∙ ap (holds graph row) (zipped places m long)
        ∙ holds_apart graph row r pairs_left first_end x last_end y pairs_right (zip (map nameless places) m) ids is

    -- what a list of relationships counts, but for its being a walk
    abbrev worth : List RelId → ℕ
    worth ids = cond (rest_holds ids) (value (b ++ cell.Rels ids ∷ c)) 0

    abbrev walked : List RelId → Bool
    walked ids = leads_on graph r x ids y

    -- all lists of this many relationships
    abbrev sum_of : ℕ → ℕ
    sum_of count = sum_by (λ ids. cond (walked ids) (worth ids) 0) (lists_of count (numbers graph))

    -- ---- the pattern

    of_list : (ids : List RelId) → of_range (b ++ cell.Rels ids ∷ c) ≡ cond (is_in_range range (length ids) && walked ids) (worth ids) 0
    of_list ids =
        ap (λ t. cond t (value (b ++ cell.Rels ids ∷ c)) 0)
        (own_apart (relationships (ranged r range) range ∷ []) (cell.Rels ids ∷ []) ids refl (list_is_middle graph row r (record (ranged r range) { variable = None }) range refl ids)
        ∙ ap (λ t. t && rest_holds ids) (and-true (is_in_range range (length ids) && walked ids)))
        ∙ two_conditions (is_in_range range (length ids) && walked ids) (rest_holds ids) (value (b ++ cell.Rels ids ∷ c))

    abbrev high : ℕ
    high = unwrap_or range.most (length graph.rels) + 1

    of_count : (count : ℕ) → count < suc (length graph.rels)
        → sum_by (λ ids. cond (is_in_range range (length ids) && walked ids) (worth ids) 0) (lists_of count (numbers graph)) ≡ cond (within range.least high count) (sum_of count) 0
    of_count count below =
        sum_each_alike (λ ids. length ids ≡ count) (λ ids. cond (is_in_range range (length ids) && walked ids) (worth ids) 0) (λ ids. cond (is_in_range range count && walked ids) (worth ids) 0)
        (λ ids long. ap (λ n. cond (is_in_range range n && walked ids) (worth ids) 0) long) (lists_of count (numbers graph)) (lengths_of count (numbers graph))
        ∙ pulled_out (is_in_range range count) (λ ids. walked ids) (λ ids. worth ids) (lists_of count (numbers graph))
        ∙ ap (λ t. cond t (sum_of count) 0) (in_range_within range.least range.most (length graph.rels) count below)

    none_longer : (count : ℕ) → suc (length graph.rels) ≤ count → sum_of count ≡ 0
    none_longer count more =
        let long : length (numbers graph) ≡ length graph.rels = length-map graph.rels (λ (e : RelId × Rel). e.0) in
        sum_each_alike (λ ids. are_different ids ≡ false) (λ ids. cond (walked ids) (worth ids) 0) (λ ids. 0)
        (λ ids twice. ap (λ t. cond (walked ids) (cond t (value (b ++ cell.Rels ids ∷ c)) 0) 0) (none_around graph row r pairs_left first_end x last_end y pairs_right ids twice) ∙ never (walked ids))
        (lists_of count (numbers graph)) (twice_if_longer count (numbers graph) (omega (arith, long, more)))
        ∙ sum_of_none (lists_of count (numbers graph))

    of_lists : sum_by (λ m. of_range (b ++ m ∷ c)) (candidates graph (relationships (ranged r range) range)) ≡ sum_by (λ count. sum_of count) (counts_in graph range)
    of_lists =
        sum_map (λ m. of_range (b ++ m ∷ c)) (λ ids. cell.Rels ids) (lists_up_to (length graph.rels) (numbers graph))
        ∙ sums_alike (λ ids. of_range (b ++ cell.Rels ids ∷ c)) (λ ids. cond (is_in_range range (length ids) && walked ids) (worth ids) 0) of_list (lists_up_to (length graph.rels) (numbers graph))
        ∙ sum_up_to (length graph.rels) (λ ids. cond (is_in_range range (length ids) && walked ids) (worth ids) 0) (numbers graph)
        ∙ total_alike (suc (length graph.rels)) (λ count. sum_by (λ ids. cond (is_in_range range (length ids) && walked ids) (worth ids) 0) (lists_of count (numbers graph)))
        (λ count. cond (within range.least high count) (sum_of count) 0) of_count
        ∙ total_within (λ count. sum_of count) range.least high (suc (length graph.rels)) none_longer
        ∙ sym (total_range (λ count. sum_of count) range.least (high - range.least))

    -- ---- the pattern written out

    packs : (count : ℕ) (w : List Cell) → length w ≡ places_between count → packed_at before count (b ++ (w ++ c)) ≡ b ++ cell.Rels (flat_map relationships_of w) ∷ c
    packs count w long =
        let after : drop before (b ++ (w ++ c)) ≡ w ++ c = drop_front b (w ++ c) before (sym long_left) in
        (λ i. take_front b (w ++ c) before (sym long_left) i
        ++ cell.Rels (flat_map relationships_of ((ap (take (places_between count)) after ∙ take_front w c (places_between count) (sym long)) i))
        ∷ (ap (drop (places_between count)) after ∙ drop_front w c (places_between count) (sym long)) i)

    own_singles : (count : ℕ) (w : List Cell) → IsBetween graph row r count w
        → own (with_singles count) (b ++ (w ++ c))
        ≡ (are_linked graph ((node first_end, cell.Node x) ∷ (zip (between r count) w ++ (node last_end, cell.Node y) ∷ [])) && rest_holds (flat_map relationships_of w))
    own_singles count w is =
        own_apart (between r count) w (flat_map relationships_of w) (is.long ∙ sym (between_long r count))
        (subst (λ ps. IsMiddle graph row r (zip ps w) (flat_map relationships_of w)) (sym (between_nameless r count)) is.middle)
        ∙ ap (λ ps. are_linked graph ((node first_end, cell.Node x) ∷ (zip ps w ++ (node last_end, cell.Node y) ∷ [])) && rest_holds (flat_map relationships_of w)) (between_nameless r count)

    of_walk : (count : ℕ) (w : List Cell) → IsBetween graph row r (suc count) w
        → of_singles (suc count) (b ++ (w ++ c))
        ≡ cond (are_linked graph ((node first_end, cell.Node x) ∷ (zip (between r (suc count)) w ++ (node last_end, cell.Node y) ∷ []))) (worth (flat_map relationships_of w)) 0
    of_walk count w is =
        (λ i. cond (own_singles (suc count) w is i) (value (packs (suc count) w is.long i)) 0)
        ∙ two_conditions (are_linked graph ((node first_end, cell.Node x) ∷ (zip (between r (suc count)) w ++ (node last_end, cell.Node y) ∷ [])))
        (rest_holds (flat_map relationships_of w)) (value (b ++ cell.Rels (flat_map relationships_of w) ∷ c))

    meets : meet_at before 0 (b ++ ([] ++ c)) ≡ (x.0 == y.0)
    meets =
        let parts : b ++ ([] ++ c) ≡ is_left.others ++ (cell.Node x ∷ cell.Node y ∷ is_right.others) =
        (λ i. is_left.parts i ++ is_right.parts i) ∙ append_assoc is_left.others (cell.Node x ∷ []) (cell.Node y ∷ is_right.others) in
        let one_less : before - 1 ≡ length is_left.others = omega (arith, as_many, is_left.long) in
        ap starts_twice (ap (drop (before - 1)) parts ∙ drop_front is_left.others (cell.Node x ∷ cell.Node y ∷ is_right.others) (before - 1) one_less)
        ∙ same_number x.0 y.0

    of_none : IsBetween graph row r 0 [] → of_singles 0 (b ++ ([] ++ c)) ≡ cond (x.0 == y.0) (worth []) 0
    of_none is =
        (λ i. cond (own_singles 0 [] is i) (cond (meets i) (value (packs 0 [] refl i)) 0) 0)
        ∙ swapped (rest_holds []) (x.0 == y.0) (value (b ++ cell.Rels [] ∷ c))

    of_walks : (count : ℕ) → sum_by (λ w. of_singles count (b ++ (w ++ c))) (assignments graph (between r count)) ≡ sum_of count
    of_walks zero = ap (λ n. 0 + n) (of_none (all_between graph row r 0).0)
    of_walks (suc count) =
        sum_each_alike (IsBetween graph row r (suc count)) (λ w. of_singles (suc count) (b ++ (w ++ c)))
        (λ w. cond (are_linked graph ((node first_end, cell.Node x) ∷ (zip (between r (suc count)) w ++ (node last_end, cell.Node y) ∷ []))) (worth (flat_map relationships_of w)) 0)
        (of_walk count) (assignments graph (between r (suc count))) (all_between graph row r (suc count))
        ∙ walks graph rising r last_end y is_right.there count (λ ids. worth ids) first_end x

    -- between the same ends
    alike_between : sum_by (λ m. of_range (b ++ m ∷ c)) (candidates graph (relationships (ranged r range) range))
        ≡ sum_by (λ count. sum_by (λ w. of_singles count (b ++ (w ++ c))) (assignments graph (between r count))) (counts_in graph range)
    alike_between =
        of_lists ∙ sym (sums_alike (λ count. sum_by (λ w. of_singles count (b ++ (w ++ c))) (assignments graph (between r count))) (λ count. sum_of count) of_walks (counts_in graph range))

  -- ---- all that stands around the step

  abbrev range_rest : List Cell → List Cell → ℕ
  range_rest b c = sum_by (λ m. of_range (b ++ m ∷ c)) (candidates graph (relationships (ranged r range) range))

  abbrev singles_rest : List Cell → List Cell → ℕ → ℕ
  singles_rest b c count = sum_by (λ w. of_singles count (b ++ (w ++ c))) (assignments graph (between r count))

  by_ends : sum_by of_range (assignments graph with_range) ≡ sum_by (λ b. sum_by (λ c. range_rest b c) (assignments graph rights)) (assignments graph lefts)
  by_ends =
      sum_places graph lefts (relationships (ranged r range) range ∷ rights) of_range
      ∙ sums_alike (λ b. sum_by (λ u. of_range (b ++ u)) (assignments graph (relationships (ranged r range) range ∷ rights))) (λ b. sum_by (λ c. range_rest b c) (assignments graph rights))
      (λ b. sum_longer (λ u. of_range (b ++ u)) (candidates graph (relationships (ranged r range) range)) (assignments graph rights)
      ∙ sum_exchanged (λ m c. of_range (b ++ m ∷ c)) (candidates graph (relationships (ranged r range) range)) (assignments graph rights)) (assignments graph lefts)

  singles_by_ends : (count : ℕ) → sum_by (of_singles count) (assignments graph (with_singles count)) ≡ sum_by (λ b. sum_by (λ c. singles_rest b c count) (assignments graph rights)) (assignments graph lefts)
  singles_by_ends count =
      sum_places graph lefts (between r count ++ rights) (of_singles count)
      ∙ sums_alike (λ b. sum_by (λ u. of_singles count (b ++ u)) (assignments graph (between r count ++ rights))) (λ b. sum_by (λ c. singles_rest b c count) (assignments graph rights))
      (λ b. sum_places graph (between r count) rights (λ u. of_singles count (b ++ u))
      ∙ sum_exchanged (λ w c. of_singles count (b ++ (w ++ c))) (assignments graph (between r count)) (assignments graph rights)) (assignments graph lefts)

  all_singles : sum_by (λ count. sum_by (of_singles count) (assignments graph (with_singles count))) (counts_in graph range)
      ≡ sum_by (λ b. sum_by (λ c. sum_by (singles_rest b c) (counts_in graph range)) (assignments graph rights)) (assignments graph lefts)
  all_singles =
      sums_alike (λ count. sum_by (of_singles count) (assignments graph (with_singles count))) (λ count. sum_by (λ b. sum_by (λ c. singles_rest b c count) (assignments graph rights)) (assignments graph lefts))
      singles_by_ends (counts_in graph range)
      ∙ sum_exchanged (λ count b. sum_by (λ c. singles_rest b c count) (assignments graph rights)) (counts_in graph range) (assignments graph lefts)
      ∙ sums_alike (λ b. sum_by (λ count. sum_by (λ c. singles_rest b c count) (assignments graph rights)) (counts_in graph range))
      (λ b. sum_by (λ c. sum_by (singles_rest b c) (counts_in graph range)) (assignments graph rights))
      (λ b. sum_exchanged (λ count c. singles_rest b c count) (counts_in graph range) (assignments graph rights)) (assignments graph lefts)

  pub spread : sum_by of_range (assignments graph with_range) ≡ sum_by (λ count. sum_by (of_singles count) (assignments graph (with_singles count))) (counts_in graph range)
  spread =
      by_ends
      ∙ sum_each_alike (IsLeft places_left) (λ b. sum_by (λ c. range_rest b c) (assignments graph rights)) (λ b. sum_by (λ c. sum_by (singles_rest b c) (counts_in graph range)) (assignments graph rights))
      (λ b is_left. sum_each_alike (IsRight graph) (λ c. range_rest b c) (λ c. sum_by (singles_rest b c) (counts_in graph range))
      (λ c is_right. alike_between b c is_left is_right) (assignments graph rights) (all_right graph end places_right))
      (assignments graph lefts) (all_left graph places_left start)
      ∙ sym all_singles
