-- Rows that go to the groups of their keys, one after another, and the groups of all of them.
use Rattle.std.proofs.Common.{◌≡◌, Bool, true, false, not, cond, List, [], ◌∷◌, ◌++◌, filter, map, append_assoc, refl, sym, ap, ◌∙◌}
use Rattle.std.specs.Prelude.{None, Some}
use Rattle.std.specs.Option.{unwrap_or}
use Rattle.std.specs.Cmp.{IsTotalOrder}
use Rattle.std.specs.Ordering.{eq_by_cmp, is_eq}
use Rattle.std.specs.Map.{lookup, set_value}
use Rattle.indexmap.specs.IndexMap.{insert_entry}
use Rattle.std.specs.declared.alloc.Global.{Global}
use Rattle.std.specs.declared.vec.Vec.{Vec}
use Rattle.std.proofs.lemmas.Cmp.{tied_itself}
use Rattle.std.proofs.lemmas.List.{append-nil}
use Rattle.cy_values.specs.declared.rows.Cell.{Cell}
use Rattle.cy_values.specs.Order.{row_cmp}
use Rattle.cy_values.proofs.Booleans.{unfalse, untrue}
use Rattle.cy_oneshot_meaning.specs.Groups.{Grouped, rows_of_group}
use Rattle.cy_oneshot_meaning.specs.Order.{each_once}
use Rattle.cy_oneshot_projections.specs.internal.Grouping.{AreGroups, Gathering, with_row, with_rows}
use Rattle.cy_oneshot_projections.specs.internal.Keys.{gathering_of}
use Rattle.cy_oneshot_meaning.proofs.BagLemmas.{identity}
use Rattle.cy_oneshot_meaning.proofs.Once.{tied_either_way}

-- ---- things that pass tests

both : {A : Type 0} (p q : A → Bool) (xs : List A) → filter q (filter p xs) ≡ filter (λ x. cond (p x) (q x) false) xs
both p q [] = refl
both p q (x ∷ xs) =
    elim (p x) as (λ b. filter q (cond b (x ∷ filter p xs) (filter p xs)) ≡ cond (cond b (q x) false) (x ∷ filter (λ y. cond (p y) (q y) false) xs) (filter (λ y. cond (p y) (q y) false) xs)) [
      | true ↦ ap (λ l. cond (q x) (x ∷ l) l) (both p q xs)
      | false ↦ both p q xs
    ]

tests_alike : {A : Type 0} (p q : A → Bool) → ((x : A) → p x ≡ q x) → (xs : List A) → filter p xs ≡ filter q xs
tests_alike p q alike [] = refl
tests_alike p q alike (x ∷ xs) = λ i. cond (alike x i) (x ∷ tests_alike p q alike xs i) (tests_alike p q alike xs i)

all_pass : {A : Type 0} (xs : List A) → filter (λ x. true) xs ≡ xs
all_pass [] = refl
all_pass (x ∷ xs) = ap (λ l. x ∷ l) (all_pass xs)

map_passing : {A B : Type 0} (f g : A → B) (p : A → Bool) → ((x : A) → p x ≡ true → f x ≡ g x) → (xs : List A) → map f (filter p xs) ≡ map g (filter p xs)
map_passing f g p alike [] = refl
map_passing f g p alike (x ∷ xs) =
    elim (p x) as (λ b. p x ≡ b → map f (cond b (x ∷ filter p xs) (filter p xs)) ≡ map g (cond b (x ∷ filter p xs) (filter p xs))) [
      | true ↦ λ h. λ i. alike x h i ∷ map_passing f g p alike xs i
      | false ↦ λ h. map_passing f g p alike xs
    ] refl

turned_tests : (a b : Bool) → cond a b false ≡ cond b a false
turned_tests true true = refl
turned_tests true false = refl
turned_tests false true = refl
turned_tests false false = refl

second_passes : (a b : Bool) → cond a b false ≡ true → b ≡ true
second_passes true b h = h
second_passes false b h = absurd (cc h)

where_first_fails : (a b : Bool) → (a ≡ false → b ≡ false) → cond a b false ≡ b
where_first_fails true b h = refl
where_first_fails false b h = sym (h refl)

-- ---- groups

-- a group of these rows
abbrev group_as : List Cell → List (List Cell) → Gathering
group_as key rows = record { key = key; rows = rows }

-- the group of a key
abbrev pub gathering : List Grouped → List Cell → Gathering
gathering gs key = record { key = key; rows = rows_of_group key gs }

-- the rows of another key
abbrev apart_from : List Cell → List Grouped → List Grouped
apart_from k gs = filter (λ g. not (eq_by_cmp row_cmp g.key k)) gs

abbrev keys_once : List Grouped → List (List Cell)
keys_once gs = each_once row_cmp (map (λ g. g.key) gs)

-- the rows of a key, where one more row has it, or another
one_more : (k : List Cell) (g : Grouped) (gs : List Grouped) (b : Bool) → eq_by_cmp row_cmp k g.key ≡ b → rows_of_group k (g ∷ gs) ≡ cond b (g.row ∷ rows_of_group k gs) (rows_of_group k gs)
one_more k g gs true h = ap (λ c. map (λ (r : Grouped). r.row) (cond c (g ∷ filter (λ (r : Grouped). eq_by_cmp row_cmp k r.key) gs) (filter (λ (r : Grouped). eq_by_cmp row_cmp k r.key) gs))) h
one_more k g gs false h = ap (λ c. map (λ (r : Grouped). r.row) (cond c (g ∷ filter (λ (r : Grouped). eq_by_cmp row_cmp k r.key) gs) (filter (λ (r : Grouped). eq_by_cmp row_cmp k r.key) gs))) h

one_more_alike : (k : List Cell) (g : Grouped) (gs hs : List Grouped) → rows_of_group k gs ≡ rows_of_group k hs → rows_of_group k (g ∷ gs) ≡ rows_of_group k (g ∷ hs)
one_more_alike k g gs hs same =
    elim (eq_by_cmp row_cmp k g.key) as (λ b. eq_by_cmp row_cmp k g.key ≡ b → rows_of_group k (g ∷ gs) ≡ rows_of_group k (g ∷ hs)) [
      | true ↦ λ h. one_more k g gs true h ∙ ap (λ l. g.row ∷ l) same ∙ sym (one_more k g hs true h)
      | false ↦ λ h. one_more k g gs false h ∙ same ∙ sym (one_more k g hs false h)
    ] refl

module _ (total : IsTotalOrder row_cmp) where
  -- a key that passes no test that another passes is another key
  other_key : (p : List Cell → Bool) (k l : List Cell) → p k ≡ true → p l ≡ false → eq_by_cmp row_cmp k l ≡ false
  other_key p k l passes not_l =
      elim (eq_by_cmp row_cmp k l) as (λ b. eq_by_cmp row_cmp k l ≡ b → b ≡ false) [
        | true ↦ λ h. sym passes ∙ ap p (identity k l h) ∙ not_l
        | false ↦ λ h. refl
      ] refl

  -- the rows of a key among those whose keys pass a test that it passes
  rows_passing : (p : List Cell → Bool) (k : List Cell) → p k ≡ true → (gs : List Grouped) → rows_of_group k (filter (λ g. p g.key) gs) ≡ rows_of_group k gs
  rows_passing p k passes [] = refl
  rows_passing p k passes (g ∷ gs) =
      elim (p g.key) as (λ b. p g.key ≡ b → rows_of_group k (cond b (g ∷ filter (λ g. p g.key) gs) (filter (λ g. p g.key) gs)) ≡ rows_of_group k (g ∷ gs)) [
        | true ↦ λ h. one_more_alike k g (filter (λ g. p g.key) gs) gs (rows_passing p k passes gs)
        | false ↦ λ h. rows_passing p k passes gs ∙ sym (one_more k g gs false (other_key p k g.key passes h))
      ] refl

  -- the first group takes all rows of its key
  first_takes : (h : Gathering) (hs : List Gathering) (gs : List Grouped) → with_rows (h ∷ hs) gs ≡ group_as h.key (h.rows ++ rows_of_group h.key gs) ∷ with_rows hs (apart_from h.key gs)
  first_takes h hs [] = ap (λ l. group_as h.key l ∷ hs) (sym (append-nil h.rows))
  first_takes h hs (g ∷ gs) =
      elim (eq_by_cmp row_cmp g.key h.key) as (λ b. eq_by_cmp row_cmp g.key h.key ≡ b
      → with_rows (cond b (group_as h.key (h.rows ++ g.row ∷ []) ∷ hs) (h ∷ with_row hs g)) gs
      ≡ group_as h.key (h.rows ++ rows_of_group h.key (g ∷ gs)) ∷ with_rows hs (cond (not b) (g ∷ apart_from h.key gs) (apart_from h.key gs))) [
        | true ↦ λ e.
            first_takes (group_as h.key (h.rows ++ g.row ∷ [])) hs gs
            ∙ ap (λ l. group_as h.key l ∷ with_rows hs (apart_from h.key gs))
            (append_assoc h.rows (g.row ∷ []) (rows_of_group h.key gs) ∙ ap (λ l. h.rows ++ l) (sym (one_more h.key g gs true (tied_either_way row_cmp total h.key g.key ∙ e))))
        | false ↦ λ e.
            first_takes h (with_row hs g) gs
            ∙ ap (λ l. group_as h.key (h.rows ++ l) ∷ with_rows hs (g ∷ apart_from h.key gs)) (sym (one_more h.key g gs false (tied_either_way row_cmp total h.key g.key ∙ e)))
      ] refl

  -- a test that a key fails too
  abbrev and_not : (List Cell → Bool) → List Cell → List Cell → Bool
  and_not p k q = cond (p q) (not (eq_by_cmp row_cmp q k)) false

  -- the keys that pass, without this one
  keys_without : (p : List Cell → Bool) (k : List Cell) (keys : List (List Cell)) → filter (and_not p k) keys ≡ filter p (filter (λ q. not (eq_by_cmp row_cmp k q)) keys)
  keys_without p k keys =
      tests_alike (and_not p k) (λ q. cond (not (eq_by_cmp row_cmp k q)) (p q) false)
      (λ q. turned_tests (p q) (not (eq_by_cmp row_cmp q k)) ∙ ap (λ b. cond (not b) (p q) false) (tied_either_way row_cmp total q k)) keys
      ∙ sym (both (λ q. not (eq_by_cmp row_cmp k q)) p keys)

  -- the groups of other keys, where one more row has this one
  others_stay : (p : List Cell → Bool) (g : Grouped) (gs : List Grouped) → ((q : List Cell) → p q ≡ true → eq_by_cmp row_cmp q g.key ≡ false) → (keys : List (List Cell))
      → map (gathering gs) (filter p keys) ≡ map (gathering (g ∷ gs)) (filter p keys)
  others_stay p g gs apart keys = map_passing (gathering gs) (gathering (g ∷ gs)) p (λ q passes. ap (λ l. group_as q l) (sym (one_more q g gs false (apart q passes)))) keys

  groups_passing : (p : List Cell → Bool) (gs : List Grouped) → with_rows [] (filter (λ g. p g.key) gs) ≡ map (gathering gs) (filter p (keys_once gs))
  groups_passing p [] = refl
  groups_passing p (g ∷ gs) =
      let keys : List (List Cell) = keys_once gs in
      let others : List (List Cell) = filter (λ q. not (eq_by_cmp row_cmp g.key q)) keys in
      let left : List Grouped = filter (λ (h : Grouped). p h.key) gs in
      elim (p g.key) as (λ b. p g.key ≡ b → with_rows [] (cond b (g ∷ left) left) ≡ map (gathering (g ∷ gs)) (cond b (g.key ∷ filter p others) (filter p others))) [
        | true ↦ λ h.
            let itself : eq_by_cmp row_cmp g.key g.key ≡ true = ap is_eq (tied_itself total g.key) in
            let rows : g.row ∷ rows_of_group g.key left ≡ rows_of_group g.key (g ∷ gs) =
            ap (λ l. g.row ∷ l) (rows_passing p g.key h gs) ∙ sym (one_more g.key g gs true itself) in
            let rest : with_rows [] (apart_from g.key left) ≡ map (gathering (g ∷ gs)) (filter p others) =
            ap (with_rows []) (both (λ (h : Grouped). p h.key) (λ h. not (eq_by_cmp row_cmp h.key g.key)) gs)
            ∙ groups_passing (and_not p g.key) gs
            ∙ others_stay (and_not p g.key) g gs (λ q passes. untrue (eq_by_cmp row_cmp q g.key) (second_passes (p q) (not (eq_by_cmp row_cmp q g.key)) passes)) keys
            ∙ ap (map (gathering (g ∷ gs))) (keys_without p g.key keys) in
            first_takes (group_as g.key (g.row ∷ [])) [] left ∙ (λ i. group_as g.key (rows i) ∷ rest i)
        | false ↦ λ h.
            groups_passing p gs
            ∙ others_stay p g gs (λ q passes. other_key p q g.key passes h) keys
            ∙ ap (map (gathering (g ∷ gs))) (sym (
            both (λ q. not (eq_by_cmp row_cmp g.key q)) p keys
            ∙ tests_alike (λ q. cond (not (eq_by_cmp row_cmp g.key q)) (p q) false) p
            (λ q. where_first_fails (not (eq_by_cmp row_cmp g.key q)) (p q) (λ e. ap p (sym (identity g.key q (unfalse (eq_by_cmp row_cmp g.key q) e))) ∙ h)) keys
            ))
      ] refl

  -- the groups of all rows
  pub groups_of_rows : (gs : List Grouped) → AreGroups gs (with_rows [] gs)
  groups_of_rows gs = ap (with_rows []) (sym (all_pass gs)) ∙ groups_passing (λ q. true) gs ∙ ap (map (gathering gs)) (all_pass (keys_once gs))

-- ---- groups in a map

some_same : {X : Type 0} {x y : X} → Some x ≡ Some y → x ≡ y
some_same {X} {x} {y} same = ap (λ o. unwrap_or o x) same

-- a row comes to the rows of its key
pub row_comes : (eq : List Cell → List Cell → Bool) → ((x y : List Cell) → eq x y ≡ eq_by_cmp row_cmp x y) → (es : List (List Cell × Vec (List Cell) Global)) (g : Grouped)
    → (rows more : Vec (List Cell) Global) → lookup (eq g.key) es ≡ Some rows → more.items ≡ rows.items ++ g.row ∷ []
    → map gathering_of (set_value (eq g.key) es more) ≡ with_row (map gathering_of es) g
row_comes eq same [] g rows more found is = absurd (cc found)
row_comes eq same (e ∷ es) g rows more found is =
    elim (eq g.key e.0) as (λ b. eq g.key e.0 ≡ b → map gathering_of (cond b ((e.0, more) ∷ es) (e ∷ set_value (eq g.key) es more)) ≡ with_row (gathering_of e ∷ map gathering_of es) g) [
      | true ↦ λ h.
          let value : e.1 ≡ rows = some_same (sym (ap (λ b. cond b (Some e.1) (lookup (eq g.key) es)) h) ∙ found) in
          ap (λ l. group_as e.0 l ∷ map gathering_of es) (is ∙ ap (λ (v : Vec (List Cell) Global). v.items ++ g.row ∷ []) (sym value))
          ∙ ap (λ b. cond b (group_as e.0 (e.1.items ++ g.row ∷ []) ∷ map gathering_of es) (gathering_of e ∷ with_row (map gathering_of es) g)) (sym h ∙ same g.key e.0)
      | false ↦ λ h.
          ap (λ l. gathering_of e ∷ l) (row_comes eq same es g rows more (sym (ap (λ b. cond b (Some e.1) (lookup (eq g.key) es)) h) ∙ found) is)
          ∙ ap (λ b. cond b (group_as e.0 (e.1.items ++ g.row ∷ []) ∷ map gathering_of es) (gathering_of e ∷ with_row (map gathering_of es) g)) (sym h ∙ same g.key e.0)
    ] refl

-- a row of a new key
row_begins : (eq : List Cell → List Cell → Bool) → ((x y : List Cell) → eq x y ≡ eq_by_cmp row_cmp x y) → (es : List (List Cell × Vec (List Cell) Global)) (g : Grouped)
    → (rows : Vec (List Cell) Global) → lookup (eq g.key) es ≡ None → rows.items ≡ g.row ∷ []
    → map gathering_of (insert_entry eq es g.key rows) ≡ with_row (map gathering_of es) g
row_begins eq same [] g rows none is = ap (λ l. group_as g.key l ∷ []) is
row_begins eq same (e ∷ es) g rows none is =
    elim (eq g.key e.0) as (λ b. eq g.key e.0 ≡ b → map gathering_of (cond b ((e.0, rows) ∷ es) (e ∷ insert_entry eq es g.key rows)) ≡ with_row (gathering_of e ∷ map gathering_of es) g) [
      | true ↦ λ h. absurd (cc (sym (ap (λ b. cond b (Some e.1) (lookup (eq g.key) es)) h) ∙ none))
      | false ↦ λ h.
          ap (λ l. gathering_of e ∷ l) (row_begins eq same es g rows (sym (ap (λ b. cond b (Some e.1) (lookup (eq g.key) es)) h) ∙ none) is)
          ∙ ap (λ b. cond b (group_as e.0 (e.1.items ++ g.row ∷ []) ∷ map gathering_of es) (gathering_of e ∷ with_row (map gathering_of es) g)) (sym h ∙ same g.key e.0)
    ] refl

-- the entries that an insertion leaves
pub row_inserted : {eq : List Cell → List Cell → Bool} → ((x y : List Cell) → eq x y ≡ eq_by_cmp row_cmp x y) → {es lent new : List (List Cell × Vec (List Cell) Global)} → lent ≡ es → (g : Grouped)
    → (rows : Vec (List Cell) Global) → new ≡ insert_entry eq lent g.key rows → lookup (eq g.key) es ≡ None → rows.items ≡ g.row ∷ []
    → map gathering_of new ≡ with_row (map gathering_of es) g
row_inserted {eq} same {es} {lent} {new} kept g rows inserted none is =
    ap (map gathering_of) (inserted ∙ ap (λ (l : List (List Cell × Vec (List Cell) Global)). insert_entry eq l g.key rows) kept) ∙ row_begins eq same es g rows none is
