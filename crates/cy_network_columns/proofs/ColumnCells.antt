-- The cells of a column that keeps one kind.
use Rattle.std.proofs.Common.{◌≡◌, Bool, true, false, ℕ, zero, suc, ◌+◌, ◌-◌, ◌<◌, List, [], ◌∷◌, ◌++◌, length, map, take, get_or, flat_map, fold, Option, None, Some, IfSome, is_some, nat_lt, option_map, slice_get, slice_set, slice_index_or, refl, sym, ap, ◌∙◌, arith}
use Rattle.std.specs.List.{cons_option, swap_remove}
use Rattle.std.specs.Option.{option_and_then, option_to_list}
use Rattle.std.specs.Hash.FoldHasher.{write}
use Rattle.std.specs.declared.hash.FoldHasher.{FoldHasher}
use Rattle.std.proofs.lemmas.Bool.{ltb-false, ltb-true}
use Rattle.std.proofs.lemmas.Bool.Decides.{nat_tests}
use Rattle.std.proofs.lemmas.List.Elements.{filter_map-append}
use Rattle.cy_values.specs.internal.Hashing.{cell_input}
use Rattle.std.proofs.lemmas.List.{append-nil, length-map, take_more}
use Rattle.std.proofs.lemmas.Option.{slice_get-get_or, slice_get-map, slice_get_past, slice_get_read}
use Rattle.cy_values.specs.declared.numbers.NodeId.{NodeId}
use Rattle.cy_values.specs.declared.numbers.RelId.{RelId}
use Rattle.cy_values.specs.declared.rows.Cell.{Cell}
use Rattle.cy_values.specs.declared.rows.Cell.TheVariants as cell
use Rattle.cy_values.specs.declared.scalars.Value.{Value}
use Rattle.cy_values.specs.Same.{is_cell}
use Rattle.cy_network_columns.specs.Rows.{alike_by, are_alike}
use Rattle.cy_network_columns.specs.internal.Columns.{cell_in, row_in}

-- a row's cell, by what is kept of it
pub kept_cell : {X : Type 0} (f : X → Cell) (xs : List X) (number : ℕ) → cell_in number (map (λ x. Some (f x)) xs) ≡ option_map f (slice_get xs number)
kept_cell {X} f xs number = ap (option_and_then (λ c. c)) (slice_get-map (λ x. Some (f x)) xs number) ∙ by (slice_get xs number)
  where
    by : (o : Option X) → option_and_then (λ c. c) (option_map (λ x. Some (f x)) o) ≡ option_map f o
    by None = refl
    by (Some x) = refl

pub kept_some : {X : Type 0} (f : X → Cell) (xs : List X) (number : ℕ) (x : X) → Some x ≡ slice_get xs number → cell_in number (map (λ x. Some (f x)) xs) ≡ Some (f x)
kept_some f xs number x is = kept_cell f xs number ∙ ap (option_map f) (sym is)

pub kept_none : {X : Type 0} (f : X → Cell) (xs : List X) (number : ℕ) → None ≡ slice_get xs number → cell_in number (map (λ x. Some (f x)) xs) ≡ None
kept_none f xs number is = kept_cell f xs number ∙ ap (option_map f) (sym is)

pub take_map : {X Y : Type 0} (f : X → Y) (n : ℕ) (xs : List X) → map f (take n xs) ≡ take n (map f xs)
take_map f zero [] = refl
take_map f zero (x ∷ xs) = refl
take_map f (suc n) [] = refl
take_map f (suc n) (x ∷ xs) = ap (λ (ys : List _). f x ∷ ys) (take_map f n xs)

set_map : {X Y : Type 0} (f : X → Y) (xs : List X) (i : ℕ) (x : X) → map f (slice_set xs i x) ≡ slice_set (map f xs) i (f x)
set_map f [] i x = refl
set_map f (y ∷ ys) zero x = refl
set_map f (y ∷ ys) (suc i) x = ap (λ (zs : List _). f y ∷ zs) (set_map f ys i x)

index_map : {X Y : Type 0} (f : X → Y) (xs : List X) (i : ℕ) (d : X) (e : Y) → i < length xs → f (slice_index_or xs i d) ≡ slice_index_or (map f xs) i e
index_map f [] i d e inside = absurd (omega (arith, inside))
index_map f (x ∷ xs) zero d e inside = refl
index_map f (x ∷ xs) (suc i) d e inside = index_map f xs i d e (omega (arith, inside))

pub swap_map : {X Y : Type 0} (f : X → Y) (xs : List X) (place : ℕ) (d : X) (e : Y) → place < length xs → map f (swap_remove xs place d) ≡ swap_remove (map f xs) place e
swap_map f xs place d e inside =
    take_map f (length xs - 1) (slice_set xs place (slice_index_or xs (length xs - 1) d))
    ∙ ap (take (length xs - 1)) (set_map f xs place (slice_index_or xs (length xs - 1) d) ∙ ap (slice_set (map f xs) place) (index_map f xs (length xs - 1) d e (omega (arith, inside))))
    ∙ ap (λ (n : ℕ). take (n - 1) (slice_set (map f xs) place (slice_index_or (map f xs) (n - 1) e))) (sym (length-map xs f))

-- ---- the same, for each kind of cells

pub nodes_at : (nodes : List NodeId) (number : ℕ) → cell_in number (map (λ n. Some (cell.Node n)) nodes) ≡ option_map cell.Node (slice_get nodes number)
nodes_at nodes number = kept_cell cell.Node nodes number

pub rels_at : (rels : List RelId) (number : ℕ) → cell_in number (map (λ r. Some (cell.Rel r)) rels) ≡ option_map cell.Rel (slice_get rels number)
rels_at rels number = kept_cell cell.Rel rels number

pub values_at : (values : List Value) (number : ℕ) → cell_in number (map (λ v. Some (cell.Value v)) values) ≡ option_map cell.Value (slice_get values number)
values_at values number = kept_cell cell.Value values number

pub nodes_taken : (len : ℕ) (nodes : List NodeId) → map (λ n. Some (cell.Node n)) (take len nodes) ≡ take len (map (λ n. Some (cell.Node n)) nodes)
nodes_taken len nodes = take_map (λ n. Some (cell.Node n)) len nodes

pub rels_taken : (len : ℕ) (rels : List RelId) → map (λ r. Some (cell.Rel r)) (take len rels) ≡ take len (map (λ r. Some (cell.Rel r)) rels)
rels_taken len rels = take_map (λ r. Some (cell.Rel r)) len rels

pub values_taken : (len : ℕ) (values : List Value) → map (λ v. Some (cell.Value v)) (take len values) ≡ take len (map (λ v. Some (cell.Value v)) values)
values_taken len values = take_map (λ v. Some (cell.Value v)) len values

pub nodes_swapped : (nodes : List NodeId) (place : ℕ) (d : NodeId) → place < length nodes
    → map (λ n. Some (cell.Node n)) (swap_remove nodes place d) ≡ swap_remove (map (λ n. Some (cell.Node n)) nodes) place None
nodes_swapped nodes place d inside = swap_map (λ n. Some (cell.Node n)) nodes place d None inside

pub rels_swapped : (rels : List RelId) (place : ℕ) (d : RelId) → place < length rels
    → map (λ r. Some (cell.Rel r)) (swap_remove rels place d) ≡ swap_remove (map (λ r. Some (cell.Rel r)) rels) place None
rels_swapped rels place d inside = swap_map (λ r. Some (cell.Rel r)) rels place d None inside

pub values_swapped : (values : List Value) (place : ℕ) (d : Value) → place < length values
    → map (λ v. Some (cell.Value v)) (swap_remove values place d) ≡ swap_remove (map (λ v. Some (cell.Value v)) values) place None
values_swapped values place d inside = swap_map (λ v. Some (cell.Value v)) values place d None inside

-- which element stands for none has no weight inside a list
pub swapped_alike : {X : Type 0} (xs : List X) (place : ℕ) (d e : X) → place < length xs → swap_remove xs place d ≡ swap_remove xs place e
swapped_alike xs place d e inside = ap (λ (x : _). take (length xs - 1) (slice_set xs place x)) (alike xs (length xs - 1) (omega (arith, inside)))
  where
    alike : (ys : List _) (i : ℕ) → i < length ys → slice_index_or ys i d ≡ slice_index_or ys i e
    alike [] i less = absurd (omega (arith, less))
    alike (y ∷ ys) zero less = refl
    alike (y ∷ ys) (suc i) less = alike ys i (omega (arith, less))

pub ruleset kinds = (nodes_at, rels_at, values_at)

pub ruleset taken = (nodes_taken, rels_taken, values_taken)

pub ruleset swapped = (nodes_swapped, rels_swapped, values_swapped, swapped_alike)

-- ---- cells that are compared by what is kept of them

pub alike_kept : {X : Type 0} (same : X → X → Bool) (f : X → Cell) → ((x y : X) → same x y ≡ is_cell (f x) (f y)) → (o p : Option X) → alike_by same o p ≡ are_alike (option_map f o) (option_map f p)
alike_kept same f law None None = refl
alike_kept same f law None (Some y) = refl
alike_kept same f law (Some x) None = refl
alike_kept same f law (Some x) (Some y) = law x y

pub swap_mapped : {X Y : Type 0} (f : X → Y) (xs xs' : List X) (place : ℕ) (e : Y) → ((d : X) → xs' ≡ swap_remove xs place d) → place < length xs → map f xs' ≡ swap_remove (map f xs) place e
swap_mapped f [] xs' place e is inside = absurd (omega (arith, inside))
swap_mapped f (x ∷ xs) xs' place e is inside = ap (map f) (is x) ∙ swap_map f (x ∷ xs) place x e inside

pub has_kept : {X : Type 0} (f : X → Cell) (xs : List X) (number : ℕ) → nat_lt number (length xs) ≡ is_some (cell_in number (map (λ x. Some (f x)) xs))
has_kept {X} f xs number = inside xs number ∙ each (slice_get xs number) ∙ ap is_some (sym (kept_cell f xs number))
  where
    each : (o : Option X) → is_some o ≡ is_some (option_map f o)
    each None = refl
    each (Some x) = refl

    next : (m n : ℕ) → nat_lt (suc m) (suc n) ≡ nat_lt m n
    next m n = grind (arith, nat_tests)

    never : (m : ℕ) → nat_lt m 0 ≡ false
    never m = grind (arith, nat_tests)

    first : (n : ℕ) → nat_lt 0 (suc n) ≡ true
    first n = grind (arith, nat_tests)

    inside : (ys : List X) (i : ℕ) → nat_lt i (length ys) ≡ is_some (slice_get ys i)
    inside [] i = never i
    inside (y ∷ ys) zero = first (length ys)
    inside (y ∷ ys) (suc i) = next i (length ys) ∙ inside ys i

pub fed_value : (values : List Value) (number : ℕ) (old new : FoldHasher) (v : Value) → Some v ≡ slice_get values number → new ≡ fold write old (cell_input (cell.Value v))
    → new ≡ fold write old (flat_map cell_input (option_to_list (cell_in number (map (λ v. Some (cell.Value v)) values))))
fed_value values number old new v is fed =
    fed ∙ ap (fold write old) (sym (append-nil (cell_input (cell.Value v))))
    ∙ ap (λ (o : Option Cell). fold write old (flat_map cell_input (option_to_list o))) (sym (kept_some cell.Value values number v is))

pub fed_none : (values : List Value) (number : ℕ) (old : FoldHasher) → None ≡ slice_get values number
    → old ≡ fold write old (flat_map cell_input (option_to_list (cell_in number (map (λ v. Some (cell.Value v)) values))))
fed_none values number old is = ap (λ (o : Option Cell). fold write old (flat_map cell_input (option_to_list o))) (sym (kept_none cell.Value values number is))

pub one_copied : (xs : List (Option Cell)) (n : ℕ) → n < length xs → take (n + 1) xs ≡ take n xs ++ cell_in n xs ∷ []
one_copied xs n inside =
    take_more xs n None inside ∙ ap (λ (x : Option Cell). take n xs ++ x ∷ []) (sym (ap (option_and_then (λ c. c)) (slice_get-get_or xs n None inside)))

pub row_step : (columns : List (List (Option Cell))) (i : ℕ) (d : List (Option Cell)) (number : ℕ) → i < length columns
    → row_in (take (i + 1) columns) number ≡ row_in (take i columns) number ++ option_to_list (cell_in number (get_or columns i d))
row_step columns i d number inside =
    ap (λ (cs : List (List (Option Cell))). row_in cs number) (take_more columns i d inside) ∙ filter_map-append (cell_in number) (take i columns) (get_or columns i d ∷ [])
    ∙ ap (λ xs. row_in (take i columns) number ++ xs) (one (cell_in number (get_or columns i d)))
  where
    one : (o : Option Cell) → cons_option o [] ≡ option_to_list o
    one None = refl
    one (Some x) = refl

-- what a look-up by an index tells
pub read_some : {X : Type 0} (xs : List X) (i : ℕ) (x : X) → true ≡ nat_lt i (length xs) → x ≡ get_or xs i x → Some x ≡ slice_get xs i
read_some xs i x inside is = sym (slice_get_read xs (length xs) i x refl (ltb-true i (length xs) (sym inside)) is)

pub read_none : {X : Type 0} (xs : List X) (i : ℕ) → false ≡ nat_lt i (length xs) → None ≡ slice_get xs i
read_none xs i past = sym (slice_get_past xs i (ltb-false i (length xs) (sym past)))

-- an element went from what is kept of a column
pub swapped_there : {X : Type 0} (f : X → Option Cell) (xs xs' : List X) (column : List (Option Cell)) (place : ℕ) → map f xs ≡ column → place < length column → ((d : X) → xs' ≡ swap_remove xs place d)
    → map f xs' ≡ swap_remove column place None
swapped_there f xs xs' column place same inside is =
    swap_mapped f xs xs' place None is (omega (arith, inside, ap length same, length-map xs f)) ∙ ap (λ (c : List (Option Cell)). swap_remove c place None) same

pub read_any : {B X : Type 0} (now : B → X) (xs : List X) (i : ℕ) (o : Option B) → is_some o ≡ nat_lt i (length xs) → IfSome o (λ b. now b ≡ get_or xs i (now b)) → option_map now o ≡ slice_get xs i
read_any now xs i None inside is = read_none xs i inside
read_any now xs i (Some b) inside is = read_some xs i (now b) inside is
