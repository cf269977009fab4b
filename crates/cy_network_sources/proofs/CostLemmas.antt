-- How many rows name touched entities.
use Rattle.std.proofs.Common.{◌≡◌, ℕ, ◌+◌, ◌<◌, ◌≤◌, Bool, true, false, cond, not, ◌||◌, ◌&&◌, List, [], ◌∷◌, ◌++◌, Option, None, Some, refl, sym, ap, subst, ◌∙◌, filter, length, is_some, slice_get, nat_eq, arith}
use Rattle.std.specs.Prelude.{count_by, sum_by, unwrap_or}
use Rattle.std.specs.List.{All, IsDistinct}
use Rattle.std.specs.Map.{lookup, keys_of}
use Rattle.std.specs.Option.{option_map_or}
use Rattle.std.proofs.lemmas.Bool.{false≢true, true≢false, eqb-true}
use Rattle.std.proofs.lemmas.List.Elements.{All-cons, All-head, All-nil, All-tail}
use Rattle.std.proofs.lemmas.Bool.Decides.{nat_tests}
use Rattle.std.proofs.lemmas.List.Sums.{sum_by-cons}
use Rattle.cy_values.specs.Bag.{count_of}
use Rattle.cy_values.specs.declared.rows.Cell.{Cell}
use Rattle.cy_values.specs.declared.rows.Cell.TheVariants as cell
use Rattle.cy_network_memory.specs.declared.memory.RowDelta.{RowDelta}
use Rattle.cy_values.specs.Same.{is_row}
use Rattle.cy_values.proofs.Lists.{sum_of_none, sum_of_two, sums_alike}
use Rattle.cy_values.proofs.SameRows.{row_itself, same_row}
use Rattle.cy_network_memory.specs.Counts.{Counts, key_cells}
use Rattle.cy_network_memory.specs.Records.{IsAnswer, is_counted, is_found}
use Rattle.cy_planner_algebra.specs.Expressions.{cell_at, null}
use Rattle.cy_planner_algebra.specs.Meaning.{each_once, is_among}
use Rattle.cy_planner_algebra.proofs.Counts.{count_append, count_once, apart_counts}
use Rattle.cy_network_operators.specs.Deltas.{IsDelta, counts, counts_after, row_delta_between}
use Rattle.cy_network_operators.proofs.Staging.{after_delta}
use Rattle.cy_network_operators.proofs.Same.{is_row_back}
use Rattle.cy_network_sources.specs.Changes.{Touches}
use Rattle.cy_network_sources.specs.LookupCosts.{names_touched}
use Rattle.cy_network_sources.specs.internal.Named.{AreAmong}
use Rattle.cy_network_sources.proofs.Keys.{own_entries, sum_kept}
use Rattle.cy_network_sources.proofs.LookupDeltas.{cell_is, cells_of, key_is, node_key, rel_key}
use Rattle.cy_network_sources.proofs.Owners.{owns, node_owner, rel_owner}

-- ---- each row of some records stands once, is one of several rows and passes a test: they are no more than those that pass

-- how many of the records are of a row
abbrev of_row : List Cell → List RowDelta → ℕ
of_row row records = count_by (λ r. is_row row r.row) records

-- the records that are of other rows
abbrev others : List Cell → List RowDelta → List RowDelta
others x records = filter (λ r. not (is_row x r.row)) records

split : (x : List Cell) (records : List RowDelta) → length records ≡ of_row x records + length (others x records)
split x [] = refl
split x (r ∷ records) = step (is_row x r.row) (split x records) ∙ ap (λ n. n + length (others x (r ∷ records))) (sym (sum_by-cons (λ r. cond (is_row x r.row) 1 0) r records))
  where
    step : (b : Bool) → length records ≡ of_row x records + length (others x records)
        → length (r ∷ records) ≡ cond b 1 0 + of_row x records + length (cond (not b) (r ∷ others x records) (others x records))
    step true rest = omega (arith, rest)
    step false rest = omega (arith, rest)

fewer : (row x : List Cell) (records : List RowDelta) → of_row row (others x records) ≤ of_row row records
fewer row x [] = omega arith
fewer row x (r ∷ records) =
    subst (λ n. of_row row (others x (r ∷ records)) ≤ n) (sym (sum_by-cons (λ r. cond (is_row row r.row) 1 0) r records)) (step (is_row x r.row) (fewer row x records))
  where
    step : (b : Bool) → of_row row (others x records) ≤ of_row row records → of_row row (cond (not b) (r ∷ others x records) (others x records)) ≤ cond (is_row row r.row) 1 0 + of_row row records
    step true rest = omega (arith, rest)
    step false rest =
        let whole = sum_by-cons (λ (r : RowDelta). cond (is_row row r.row) 1 0) r (others x records) in
        omega (arith, rest, whole)

abbrev IsIn : (List Cell → Bool) → List (List Cell) → RowDelta → Type 0
IsIn p rows r = (p r.row ≡ true) × (is_among r.row rows ≡ true)

others_in : (p : List Cell → Bool) (x : List Cell) (rows : List (List Cell)) (records : List RowDelta) → All (IsIn p (x ∷ rows)) records → All (IsIn p rows) (others x records)
others_in p x rows [] each = All-nil (IsIn p rows)
others_in p x rows (r ∷ records) each = step (is_row x r.row) refl (others_in p x rows records (All-tail (IsIn p (x ∷ rows)) r records each))
  where
    head : IsIn p (x ∷ rows) r
    head = All-head (IsIn p (x ∷ rows)) r records each

    step : (b : Bool) → is_row x r.row ≡ b → All (IsIn p rows) (others x records) → All (IsIn p rows) (cond (not b) (r ∷ others x records) (others x records))
    step true is rest = rest
    step false is rest = All-cons (IsIn p rows) r (others x records) (head.0, sym (ap (λ b. b || is_among r.row rows) (sym (is_row_back r.row x) ∙ is)) ∙ head.1) rest

none_of : (p : List Cell → Bool) (x : List Cell) (rows : List (List Cell)) (records : List RowDelta) → All (IsIn p rows) records → p x ≡ false → of_row x records ≡ 0
none_of p x rows [] each fails = refl
none_of p x rows (r ∷ records) each fails =
    sum_by-cons (λ r. cond (is_row x r.row) 1 0) r records ∙ step (is_row x r.row) refl (none_of p x rows records (All-tail (IsIn p rows) r records each) fails)
  where
    step : (b : Bool) → is_row x r.row ≡ b → of_row x records ≡ 0 → cond b 1 0 + of_row x records ≡ 0
    step true is rest = absurd (true≢false (sym (All-head (IsIn p rows) r records each).0 ∙ ap p (sym (same_row x r.row is)) ∙ fails))
    step false is rest = omega (arith, rest)

few : (p : List Cell → Bool) (rows : List (List Cell)) (records : List RowDelta) → ((row : List Cell) → of_row row records ≤ 1) → All (IsIn p rows) records → length records ≤ count_by p rows
few p [] [] once each = omega arith
few p [] (r ∷ records) once each = absurd (false≢true (All-head (IsIn p []) r records each).1)
few p (x ∷ rows) records once each =
    let rest : length (others x records) ≤ count_by p rows =
    few p rows (others x records) (λ row. let less = fewer row x records in let one = once row in omega (arith, less, one)) (others_in p x rows records each) in
    let parts = split x records in
    let whole = sum_by-cons (λ (row : List Cell). cond (p row) 1 0) x rows in
    let own : of_row x records ≤ cond (p x) 1 0 = by (p x) refl in
    omega (arith, rest, parts, whole, own)
  where
    by : (b : Bool) → p x ≡ b → of_row x records ≤ cond b 1 0
    by true is = once x
    by false is = let none = none_of p x (x ∷ rows) records each is in omega (arith, none)

-- the records of a key are no more than the rows that have it
pub records_few : (columns : List ℕ) (was staged : Counts) (key : List Cell) (records : List RowDelta) → IsAnswer columns was staged key records
    → (rows : List (List Cell)) → ((row : List Cell) → is_counted was staged row ≡ true → is_among row rows ≡ true)
    → length records ≤ count_by (λ row. is_row key (key_cells columns row)) rows
records_few columns was staged key records answer rows there =
    few (λ row. is_row key (key_cells columns row)) rows records
    (λ row. at_most (is_found columns was staged key row) (answer.once row))
    (all_in records (λ r. found_in r))
  where
    at_most : {n : ℕ} (b : Bool) → n ≡ cond b 1 0 → n ≤ 1
    at_most true is = omega (arith, is)
    at_most false is = omega (arith, is)

    found_in : (r : RowDelta) → 1 ≤ of_row r.row records → IsIn (λ row. is_row key (key_cells columns row)) rows r
    found_in r some = by (is_row key (key_cells columns r.row)) (is_counted was staged r.row) refl refl (answer.once r.row)
      where
        by : (k c : Bool) → is_row key (key_cells columns r.row) ≡ k → is_counted was staged r.row ≡ c → of_row r.row records ≡ cond (k && c) 1 0 → IsIn (λ row. is_row key (key_cells columns row)) rows r
        by true true is counts once = (is, there r.row counts)
        by true false is counts once = absurd (omega (arith, some, once))
        by false c is counts once = absurd (omega (arith, some, once))

    all_in : (some : List RowDelta) → ((r : RowDelta) → 1 ≤ of_row r.row some → IsIn (λ row. is_row key (key_cells columns row)) rows r) → All (IsIn (λ row. is_row key (key_cells columns row)) rows) some
    all_in [] each = All-nil (IsIn (λ row. is_row key (key_cells columns row)) rows)
    all_in (r ∷ some) each =
        All-cons (IsIn (λ row. is_row key (key_cells columns row)) rows) r some
        (each r (let whole = sum_by-cons (λ (s : RowDelta). cond (is_row r.row s.row) 1 0) r some in let own : cond {A = ℕ} (is_row r.row r.row) 1 0 ≡ 1 = ap (λ b. cond {A = ℕ} b 1 0) (row_itself r.row) in omega (arith, whole, own)))
        (all_in some (λ s h. each s (let whole = sum_by-cons (λ (t : RowDelta). cond (is_row s.row t.row) 1 0) r some in omega (arith, whole, h))))

-- ---- the rows that name touched entities, one after another

-- the rows that have an entity's key
abbrev pub with_node : ℕ → List (List Cell) → ℕ → ℕ
with_node column rows n = count_by (λ row. is_row (cell.Node (record { 0 = n }) ∷ []) (key_cells (column ∷ []) row)) rows

abbrev pub with_rel : ℕ → List (List Cell) → ℕ → ℕ
with_rel column rows n = count_by (λ row. is_row (cell.Rel (record { 0 = n }) ∷ []) (key_cells (column ∷ []) row)) rows

-- one entity at most is the one that is named
abbrev named_once : {V : Type 0} → List (ℕ × V) → Option ℕ → ℕ
named_once es None = 0
named_once es (Some q) = cond (is_some (lookup (nat_eq q) es)) 1 0

own_sum : {V : Type 0} (o : Option ℕ) (es : List (ℕ × V)) → IsDistinct nat_eq (keys_of es) → sum_by (λ e. cond (owns o e.0) 1 0) es ≡ named_once es o
own_sum None es once = sum_of_none es
own_sum {V} (Some q) es once =
    sum_kept (λ e. nat_eq q e.0) (λ e. cond (nat_eq q e.0) 1 0) (λ e is. ap (λ b. cond {A = ℕ} b 1 0) is) es
    ∙ sum_passing_all es
    ∙ ap (λ (xs : List (ℕ × V)). length xs) (own_entries nat_eq eqb-true q es once)
    ∙ one (lookup (nat_eq q) es)
  where
    sum_passing_all : (xs : List (ℕ × V)) → sum_by (λ e. cond (nat_eq q e.0) 1 0) (filter (λ e. nat_eq q e.0) xs) ≡ length (filter (λ e. nat_eq q e.0) xs)
    sum_passing_all [] = refl
    sum_passing_all (e ∷ xs) = step (nat_eq q e.0) refl (sum_passing_all xs)
      where
        step : (b : Bool) → nat_eq q e.0 ≡ b → sum_by (λ e. cond (nat_eq q e.0) 1 0) (filter (λ e. nat_eq q e.0) xs) ≡ length (filter (λ e. nat_eq q e.0) xs)
            → sum_by (λ e. cond (nat_eq q e.0) 1 0) (cond b (e ∷ filter (λ e. nat_eq q e.0) xs) (filter (λ e. nat_eq q e.0) xs)) ≡ length (cond b (e ∷ filter (λ e. nat_eq q e.0) xs) (filter (λ e. nat_eq q e.0) xs))
        step true is rest =
            let whole = sum_by-cons (λ (f : ℕ × V). cond (nat_eq q f.0) 1 0) e (filter (λ e. nat_eq q e.0) xs) in
            let own : cond {A = ℕ} (nat_eq q e.0) 1 0 ≡ 1 = ap (λ b. cond {A = ℕ} b 1 0) is in
            omega (arith, whole, own, rest)
        step false is rest = rest

    one : (o : Option V) → length {A = ℕ × V} (option_map_or (λ v. (q, v) ∷ []) o []) ≡ cond (is_some o) 1 0
    one None = refl
    one (Some v) = refl

module _ (touches : Touches) (column : ℕ) (nodes_once : IsDistinct nat_eq (keys_of touches.nodes)) (rels_once : IsDistinct nat_eq (keys_of touches.rels)) where
  one_row : (row : List Cell) (o : Option Cell) → slice_get row column ≡ o → named_once touches.nodes (node_owner (cells_of o)) + named_once touches.rels (rel_owner (cells_of o)) ≤ cond (names_touched touches (unwrap_or o null)) 1 0
  one_row row None is = omega arith
  one_row row (Some (cell.Node id)) is = no_more (cond (is_some (lookup (nat_eq id.0) touches.nodes)) 1 0)
    where
      no_more : (n : ℕ) → n + 0 ≤ n
      no_more n = omega arith
  one_row row (Some (cell.Rel id)) is = no_more (cond (is_some (lookup (nat_eq id.0) touches.rels)) 1 0)
    where
      no_more : (n : ℕ) → 0 + n ≤ n
      no_more n = omega arith
  one_row row (Some (cell.Rels ids)) is = omega arith
  one_row row (Some (cell.Value v)) is = omega arith

  -- the rows that have the keys of touched entities are those that name one
  pub named_sum : (rows : List (List Cell)) → sum_by (λ e. with_node column rows e.0) touches.nodes + sum_by (λ e. with_rel column rows e.0) touches.rels ≤ count_by (λ row. names_touched touches (cell_at row column)) rows
  named_sum [] = let one = sum_of_none touches.nodes in let other = sum_of_none touches.rels in omega (arith, one, other)
  named_sum (row ∷ rows) =
      let rest = named_sum rows in
      let nodes : sum_by (λ e. with_node column (row ∷ rows) e.0) touches.nodes ≡ named_once touches.nodes (node_owner (cells_of o)) + sum_by (λ e. with_node column rows e.0) touches.nodes =
      sums_alike (λ e. with_node column (row ∷ rows) e.0) (λ e. cond (owns (node_owner (cells_of o)) e.0) 1 0 + with_node column rows e.0)
      (λ e. sum_by-cons (λ row. cond (is_row (cell.Node (record { 0 = e.0 }) ∷ []) (key_cells (column ∷ []) row)) 1 0) row rows
      ∙ ap (λ b. cond b 1 0 + with_node column rows e.0) (ap (is_row (cell.Node (record { 0 = e.0 }) ∷ [])) (key_is column row o refl) ∙ node_key e.0 o)) touches.nodes
      ∙ sum_of_two (λ e. cond (owns (node_owner (cells_of o)) e.0) 1 0) (λ e. with_node column rows e.0) touches.nodes
      ∙ ap (λ n. n + sum_by (λ e. with_node column rows e.0) touches.nodes) (own_sum (node_owner (cells_of o)) touches.nodes nodes_once) in
      let rels : sum_by (λ e. with_rel column (row ∷ rows) e.0) touches.rels ≡ named_once touches.rels (rel_owner (cells_of o)) + sum_by (λ e. with_rel column rows e.0) touches.rels =
      sums_alike (λ e. with_rel column (row ∷ rows) e.0) (λ e. cond (owns (rel_owner (cells_of o)) e.0) 1 0 + with_rel column rows e.0)
      (λ e. sum_by-cons (λ row. cond (is_row (cell.Rel (record { 0 = e.0 }) ∷ []) (key_cells (column ∷ []) row)) 1 0) row rows
      ∙ ap (λ b. cond b 1 0 + with_rel column rows e.0) (ap (is_row (cell.Rel (record { 0 = e.0 }) ∷ [])) (key_is column row o refl) ∙ rel_key e.0 o)) touches.rels
      ∙ sum_of_two (λ e. cond (owns (rel_owner (cells_of o)) e.0) 1 0) (λ e. with_rel column rows e.0) touches.rels
      ∙ ap (λ n. n + sum_by (λ e. with_rel column rows e.0) touches.rels) (own_sum (rel_owner (cells_of o)) touches.rels rels_once) in
      let own : named_once touches.nodes (node_owner (cells_of o)) + named_once touches.rels (rel_owner (cells_of o)) ≤ cond (names_touched touches (cell_at row column)) 1 0 =
      subst (λ (c : Cell). named_once touches.nodes (node_owner (cells_of o)) + named_once touches.rels (rel_owner (cells_of o)) ≤ cond (names_touched touches c) 1 0) (sym (cell_is column row o refl)) (one_row row o refl) in
      let whole = sum_by-cons (λ (row : List Cell). cond (names_touched touches (cell_at row column)) 1 0) row rows in
      omega (arith, rest, nodes, rels, own, whole)
    where
      o : Option Cell
      o = slice_get row column

-- ---- the rows that count before or after

among_counted : (row : List Cell) (xs : List (List Cell)) → 1 ≤ count_of row xs → is_among row xs ≡ true
among_counted row xs some = by (is_among row xs) refl
  where
    by : (b : Bool) → is_among row xs ≡ b → b ≡ true
    by true is = refl
    by false is = let none = apart_counts row xs is in absurd (omega (arith, some, none))

pub counted_there : (was : Counts) (deltas : List RowDelta) (old new : List (List Cell)) → ((row : List Cell) → was row ≡ count_of row old) → IsDelta (counts old) (counts new) deltas
    → (row : List Cell) → is_counted was (counts_after deltas was) row ≡ true → is_among row (each_once (old ++ new)) ≡ true
counted_there was deltas old new is delta row counted =
    among_counted row (each_once (old ++ new))
    (let some : 0 < was row + counts_after deltas was row = grind (arith, nat_tests) in
    let before = is row in
    let after = after_delta was (counts new) deltas (record { each = λ r. delta.each r ∙ ap (λ n. row_delta_between r n (count_of r new)) (sym (is r)) }) row in
    let once = count_once row (old ++ new) in
    let both = count_append row old new in
    omega (arith, some, before, after, once, both))

-- ---- steps

pub few_steps : (old new records most : ℕ) → new ≤ old + 1 + records → records ≤ most → new ≤ old + 1 + most
few_steps old new records most steps few = omega (arith, steps, few)

pub fewer_left : {A : Type 0} (f : A → ℕ) (s t : List A) (x : A) (start so_far new all : ℕ) → s ≡ x ∷ t → so_far + (length s + sum_by f s) ≤ start + all
    → new ≤ so_far + 1 + f x → new + (length t + sum_by f t) ≤ start + all
fewer_left f s t x start so_far new all is before one =
    let lengths : length s ≡ length (x ∷ t) = ap (λ xs. length xs) is in
    let sums : sum_by f s ≡ f x + sum_by f t = ap (sum_by f) is ∙ sum_by-cons f x t in
    omega (arith, lengths, sums, before, one)

pub none_left : {A : Type 0} (f : A → ℕ) (s : List A) (new bound : ℕ) → new + (length s + sum_by f s) ≤ bound → new ≤ bound
none_left f s new bound before = omega (arith, before)

pub all_steps : (start staged nodes rels node_count rel_count node_sum rel_sum named : ℕ) → staged ≤ start → nodes ≤ staged + (node_count + node_sum) → rels ≤ nodes + (rel_count + rel_sum) → node_sum + rel_sum ≤ named
    → rels ≤ start + node_count + rel_count + named
all_steps start staged nodes rels node_count rel_count node_sum rel_sum named one two three four = omega (arith, one, two, three, four)

-- rows that are all, where the counts were named otherwise
pub among_alike : (rows : List (List Cell)) (was other_was staged other_staged : Counts) → other_was ≡ was → other_staged ≡ staged → AreAmong was staged rows → AreAmong other_was other_staged rows
among_alike rows was other_was staged other_staged same_was same_staged among =
    subst (λ (w : Counts). AreAmong w other_staged rows) (sym same_was) (subst (λ (s : Counts). AreAmong was s rows) (sym same_staged) among)
