-- Columns that are marked as needed.
use Rattle.std.proofs.Common.{◌≡◌, ◌⊎◌, inl, inr, ℕ, zero, suc, ◌+◌, ◌-◌, ◌<◌, ◌≤◌, Bool, true, false, cond, List, [], ◌∷◌, ◌++◌, drop, length, map, get_or, set, take, refl, sym, ap, subst, ◌∙◌, arith}
use Rattle.std.specs.Prelude.{◌||◌, Option, None, Some, flat_map, IfOk, OnOk, IfSome, Result, Ok, Err}
use Rattle.std.specs.List.{AllByRecursion}
use Rattle.std.proofs.lemmas.Bool.{false≢true, or_parts}
use Rattle.std.proofs.lemmas.List.{length-drop, map-append, take_all, take_more}
use Rattle.cy_values.specs.declared.rows.Cell.{Cell}
use Rattle.cy_values.proofs.Lists.{each_append, each_then}
use Rattle.cy_trees.specs.declared.expressions.Variable.{Variable}
use Rattle.cy_trees.specs.declared.clauses.Length.{Length}
use Rattle.cy_trees.specs.Trees.{Clause, Expression, Item, Key, MapEntry, Path, Projection, Step, Where, SetItem, set_property, set_labels, RemoveItem, remove_property, remove_labels, «match», unwind, «with», «return», create, remove, delete}
use Rattle.cy_trees.specs.Trees as trees
use Rattle.cy_scope.specs.Views.{is_update}
use Rattle.cy_oneshot_patterns.specs.Places.{Place, column_at, entries_at, link_place, node, path_places, places, relationship, step_places}
use Rattle.cy_oneshot_outcomes.specs.Columns.{column_list, columns_read}
use Rattle.cy_oneshot_meaning.proofs.Each.{each_flat_map}
use Rattle.cy_oneshot.specs.Carried.{AreAlike, AreEntriesRead, AreKeysRead, AreNeeded, ArePlacesRead, AreRead, AreSeen, IsAlike, IsClauseRead, IsEnough, IsKeyRead, IsPlaceRead, IsProjectionRead, IsRemoveRead, IsSeen, IsSetRead, IsTestRead, IsVariableRead, IsWhereRead, first_row, is_last, is_needed, is_projection, keys_of, updates_ahead}
use Rattle.cy_oneshot.specs.internal.Carried.{StillNeeded}

pub marked_there : (needed : List Bool) (column : ℕ) → is_needed (set needed column true) column ≡ true
marked_there [] column = refl
marked_there (b ∷ needed) zero = refl
marked_there (b ∷ needed) (suc column) = marked_there needed column

pub marked_past : (needed : List Bool) (column : ℕ) → length needed ≤ column → is_needed needed column ≡ true
marked_past [] column past = refl
marked_past (b ∷ needed) zero past = absurd (omega arith)
marked_past (b ∷ needed) (suc column) past = marked_past needed column (omega arith)

pub still_marked : (needed : List Bool) (column other : ℕ) → is_needed needed other ≡ true → is_needed (set needed column true) other ≡ true
still_marked [] column other is = is
still_marked (b ∷ needed) zero zero is = refl
still_marked (b ∷ needed) zero (suc other) is = is
still_marked (b ∷ needed) (suc column) zero is = is
still_marked (b ∷ needed) (suc column) (suc other) is = still_marked needed column other is

-- two facts of a call that succeeds
pub both_ok : {T E : Type 0} (P Q : Type 0) (r : Result T E) → OnOk r P → OnOk r Q → OnOk r (P × Q)
both_ok P Q (Ok x) p q = (p, q)
both_ok P Q (Err fault) p q = tt

-- ---- what was needed still is

pub still_nothing : (needed : List Bool) → StillNeeded needed needed
still_nothing needed = (λ column is. is, refl)

pub still_then : (needed between after : List Bool) → StillNeeded needed between → StillNeeded between after → StillNeeded needed after
still_then needed between after first second = (λ column is. second.0 column (first.0 column is), second.1 ∙ first.1)

module _ (needed after : List Bool) (still : StillNeeded needed after) where
  pub still_columns : (columns : List ℕ) → AreNeeded needed columns → AreNeeded after columns
  still_columns columns are = each_then (λ column. is_needed needed column ≡ true) (λ column. is_needed after column ≡ true) still.0 columns are

  pub still_column : (column : Option ℕ) → IfSome column (λ n. is_needed needed n ≡ true) → IfSome column (λ n. is_needed after n ≡ true)
  still_column None is = tt
  still_column (Some n) is = still.0 n is

  pub still_variable : (v : Variable) → IsVariableRead needed v → IsVariableRead after v
  still_variable v is = still_columns (column_list v.column) is

  pub still_entry : (e : MapEntry) → AreNeeded needed (columns_read e.value) → AreNeeded after (columns_read e.value)
  still_entry e are = still_columns (columns_read e.value) are

  pub still_entries : (es : List MapEntry) → AreEntriesRead needed es → AreEntriesRead after es
  still_entries es are = each_then (λ e. AreNeeded needed (columns_read e.value)) (λ e. AreNeeded after (columns_read e.value)) still_entry es are

  pub still_place : (p : Place) → IsPlaceRead needed p → IsPlaceRead after p
  still_place p are = (still_column (column_at p) are.0, still_entries (entries_at p) are.1)

  pub still_places : (ps : List Place) → ArePlacesRead needed ps → ArePlacesRead after ps
  still_places ps are = each_then (IsPlaceRead needed) (IsPlaceRead after) still_place ps are

  pub still_test : (test : Option Expression) → IsTestRead needed test → IsTestRead after test
  still_test None is = tt
  still_test (Some e) is = still_columns (columns_read e) is

  pub still_where : (w : Where) → IsWhereRead needed w → IsWhereRead after w
  still_where w are = (still_test w.test are.0, still_places (places (map (λ t. t.path) w.paths)) are.1)

  pub still_item : (i : Item) → AreNeeded needed (columns_read i.expression) → AreNeeded after (columns_read i.expression)
  still_item i are = still_columns (columns_read i.expression) are

  pub still_items : (items : List Item) → AreRead needed items → AreRead after items
  still_items items are = each_then (λ i. AreNeeded needed (columns_read i.expression)) (λ i. AreNeeded after (columns_read i.expression)) still_item items are

  module _ (count : ℕ) where
    pub still_seen_one : (column : ℕ) → IsSeen needed count column → IsSeen after count column
    still_seen_one column is = λ past. still.0 _ (is past)

    pub still_seen : (columns : List ℕ) → AreSeen needed count columns → AreSeen after count columns
    still_seen columns are = each_then (IsSeen needed count) (IsSeen after count) still_seen_one columns are

    pub still_key : (k : Option ℕ × Key) → IsKeyRead needed count k → IsKeyRead after count k
    still_key k is = λ none. still_seen (columns_read k.1.expression) (is none)

    pub still_keys : (keys : List (Option ℕ × Key)) → AreKeysRead needed count keys → AreKeysRead after count keys
    still_keys keys are = each_then (IsKeyRead needed count) (IsKeyRead after count) still_key keys are

  still_projection : (p : Projection) → IsProjectionRead needed p → IsProjectionRead after p
  still_projection p are = (still_items p.items are.0, still_keys (length p.items) (keys_of p) are.1)

  pub still_set : (i : SetItem) → IsSetRead needed i → IsSetRead after i
  still_set (set_property v key e) are = (still_variable v are.0, still_columns (columns_read e) are.1)
  still_set (set_labels v labels) are = still_variable v are

  pub still_remove : (i : RemoveItem) → IsRemoveRead needed i → IsRemoveRead after i
  still_remove (remove_property v key) are = still_variable v are
  still_remove (remove_labels v labels) are = still_variable v are

  still_clause : (c : Clause) → IsClauseRead needed c → IsClauseRead after c
  still_clause («match» optional paths w) are = (still_places (places paths) are.0, still_where w are.1)
  still_clause (unwind e v) are = still_columns (columns_read e) are
  still_clause («with» p w) are = still_projection p are
  still_clause («return» p) are = still_projection p are
  still_clause (create paths) are = still_places (places paths) are
  still_clause (trees.set items) are = each_then (IsSetRead needed) (IsSetRead after) still_set items are
  still_clause (remove items) are = each_then (IsRemoveRead needed) (IsRemoveRead after) still_remove items are
  still_clause (delete detach variables) are = each_then (IsVariableRead needed) (IsVariableRead after) still_variable variables are

  still_none : needed ≡ [] → after ≡ []
  still_none none = by after still.1
    where
      by : (flags : List Bool) → length flags ≡ length needed → flags ≡ []
      by [] same = refl
      by (b ∷ flags) same = absurd (let e : suc (length flags) ≡ 0 = same ∙ ap length none in omega (arith, e))

  pub still_enough : (alike : Bool) (clauses : List Clause) → IsEnough alike needed clauses → IsEnough alike after clauses
  still_enough alike [] enough = still_none enough
  still_enough alike (c ∷ cs) (inl none) = inl (still_none none)
  still_enough alike (c ∷ cs) (inr enough) = inr (enough.0, still_clause c enough.1, λ more. still_enough alike cs (enough.2 more))

-- ---- the places of paths

-- a relationship, with a length or without, and the node at its end
pub step_read : (needed : List Bool) (s : Step) → IsPlaceRead needed (relationship s.relationship) → IsPlaceRead needed (node s.node) → ArePlacesRead needed (step_places s)
step_read needed s link end = (by s.relationship.length, (end, tt))
  where
    by : (l : Option Length) → IsPlaceRead needed (link_place s.relationship l)
    by None = link
    by (Some l) = link

-- those of each step, and of each path
pub steps_read : (needed : List Bool) (steps : List Step) → AllByRecursion (λ s. ArePlacesRead needed (step_places s)) steps → ArePlacesRead needed (flat_map step_places steps)
steps_read needed steps each = each_flat_map (λ s. ArePlacesRead needed (step_places s)) (IsPlaceRead needed) step_places (λ s are. are) steps each

pub paths_read : (needed : List Bool) (paths : List Path) → AllByRecursion (λ p. ArePlacesRead needed (path_places p)) paths → ArePlacesRead needed (places paths)
paths_read needed paths each = each_flat_map (λ p. ArePlacesRead needed (path_places p)) (IsPlaceRead needed) path_places (λ p are. are) paths each

-- ---- what is enough

-- where nothing is known all is enough
pub none_enough : (alike : Bool) (clauses : List Clause) → IsEnough alike [] clauses
none_enough alike [] = refl
none_enough alike (c ∷ cs) = inl refl

-- with one clause before them
pub more_enough : (alike : Bool) (needed after : List Bool) (c : Clause) (cs : List Clause) → (is_update c ≡ true → alike ≡ true) → StillNeeded needed after → (after ≡ []) ⊎ IsClauseRead after c
    → IsEnough alike needed cs → IsEnough alike after (c ∷ cs)
more_enough alike needed after c cs may still (inl none) enough = inl none
more_enough alike needed after c cs may still (inr read) enough = inr (may, read, λ more. still_enough needed after still alike cs enough)

-- so of what is left of a call
pub enough_then : {A E : Type 0} (flags : A → List Bool) (alike : Bool) (needed : List Bool) (c : Clause) (cs : List Clause) → (is_update c ≡ true → alike ≡ true) → IsEnough alike needed cs → (r : Result A E)
    → IfOk r (λ x. (flags x ≡ []) ⊎ IsClauseRead (flags x) c) → IfOk r (λ x. StillNeeded needed (flags x)) → IfOk r (λ x. IsEnough alike (flags x) (c ∷ cs))
enough_then flags alike needed c cs may enough (Ok x) read still = more_enough alike needed (flags x) c cs may still read enough
enough_then flags alike needed c cs may enough (Err fault) read still = tt

-- a clause that updates is no projection
update_projects : (c : Clause) → is_update c ≡ true → is_projection c ≡ false
update_projects (create paths) updates = refl
update_projects (trees.set items) updates = refl
update_projects (remove items) updates = refl
update_projects (delete detach variables) updates = refl
update_projects _ updates = absurd (false≢true updates)

-- a clause before which nothing is over is no projection
before_last : (c : Clause) (cs : List Clause) → is_last c cs ≡ false → is_projection c ≡ false
before_last c [] more = (or_parts (is_projection c) (is_update c) more).0
before_last c (d ∷ cs) more = more

ahead_here : (projects updates later : Bool) → projects ≡ false → updates ≡ true → cond projects false (updates || later) ≡ true
ahead_here projects updates later p u = λ i. cond (p i) false (u i || later)

ahead_later : (projects updates later : Bool) → projects ≡ false → later ≡ true → cond projects false (updates || later) ≡ true
ahead_later false true later p l = refl
ahead_later false false later p l = l
ahead_later true updates later p l = absurd (false≢true (sym p))

-- rows have to be alike only where a clause updates them
pub only_ahead : (alike : Bool) (needed : List Bool) (clauses : List Clause) → (updates_ahead clauses ≡ true → alike ≡ true) → IsEnough true needed clauses → IsEnough alike needed clauses
only_ahead alike needed [] may enough = enough
only_ahead alike needed (c ∷ cs) may (inl none) = inl none
only_ahead alike needed (c ∷ cs) may (inr enough) =
    inr (
      (λ updates. may (ahead_here (is_projection c) (is_update c) (updates_ahead cs) (update_projects c updates) updates)),
      enough.1,
      λ more. only_ahead alike needed cs (λ later. may (ahead_later (is_projection c) (is_update c) (updates_ahead cs) (before_last c cs more) later)) (enough.2 more),
    )

-- ---- rows that are alike in what isn't needed

-- where all is needed all rows are
pub all_alike : (rows : List (List Cell)) → AreAlike [] rows
all_alike rows = each rows
  where
    each : (others : List (List Cell)) → AllByRecursion (IsAlike [] (first_row rows)) others
    each [] = tt
    each (row ∷ others) = ((λ column not. absurd (false≢true (sym not))), each others)

-- what isn't needed wasn't before
pub still_alike_at : (needed after : List Bool) → StillNeeded needed after → (column : ℕ) → is_needed after column ≡ false → is_needed needed column ≡ false
still_alike_at needed after still column not = unmarked (is_needed needed column) (is_needed after column) (still.0 column) not
  where
    unmarked : (b c : Bool) → (b ≡ true → c ≡ true) → c ≡ false → b ≡ false
    unmarked true c kept none = absurd (false≢true (sym none ∙ kept refl))
    unmarked false c kept none = refl

-- where more is needed rows that were alike still are
pub still_alike : (needed after : List Bool) → StillNeeded needed after → (base row : List Cell) → IsAlike needed base row → IsAlike after base row
still_alike needed after still base row alike = λ column not. alike column (still_alike_at needed after still column not)

-- a column that isn't needed is one of those that are known
pub known_column : (needed : List Bool) (column : ℕ) → is_needed needed column ≡ false → column < length needed
known_column [] column not = absurd (false≢true (sym not))
known_column (b ∷ needed) zero not = omega arith
known_column (b ∷ needed) (suc column) not = let less : column < length needed = known_column needed column not in omega (arith, less)

-- ---- what is marked of a list so far, and of the next one

pub each_more : {X Y : Type 0} (P : List Bool → Y → Type 0) (f : X → Y) (needed after : List Bool) (xs : List X) (i : ℕ) (x : X) → i < length xs → x ≡ get_or xs i x
    → ((y : Y) → P needed y → P after y) → AllByRecursion (P needed) (map f (take i xs)) → P after (f x) → AllByRecursion (P after) (map f (take (i + 1) xs))
each_more P f needed after xs i x within at kept are is =
    subst (λ ys. AllByRecursion (P after) ys)
    (sym (ap (map f) (take_more xs i x within ∙ ap (λ y. take i xs ++ y ∷ []) (sym at)) ∙ map-append f (take i xs) (x ∷ [])))
    (each_append (P after) (map f (take i xs)) (f x ∷ []) (each_then (P needed) (P after) kept (map f (take i xs)) are) (is, tt))

-- of numbers
pub each_number : (P : List Bool → ℕ → Type 0) (needed after : List Bool) (xs : List ℕ) (i : ℕ) → i < length xs → ((y : ℕ) → P needed y → P after y) → AllByRecursion (P needed) (take i xs)
    → P after (get_or xs i 0) → AllByRecursion (P after) (take (i + 1) xs)
each_number P needed after xs i within kept are is =
    subst (λ ys. AllByRecursion (P after) ys) (sym (take_more xs i 0 within))
    (each_append (P after) (take i xs) (get_or xs i 0 ∷ []) (each_then (P needed) (P after) kept (take i xs) are) (is, tt))

-- of things as they are
pub each_more_same : {X : Type 0} (P : List Bool → X → Type 0) (needed after : List Bool) (xs : List X) (i : ℕ) (x : X) → i < length xs → x ≡ get_or xs i x
    → ((y : X) → P needed y → P after y) → AllByRecursion (P needed) (take i xs) → P after x → AllByRecursion (P after) (take (i + 1) xs)
each_more_same P needed after xs i x within at kept are is =
    subst (λ ys. AllByRecursion (P after) ys) (sym (take_more xs i x within ∙ ap (λ y. take i xs ++ y ∷ []) (sym at)))
    (each_append (P after) (take i xs) (x ∷ []) (each_then (P needed) (P after) kept (take i xs) are) (is, tt))

-- the things of a slice that are left, as they are lent
pub all_left : {X : Type 0} (xs : List X) (n : ℕ) → take (length xs - n) (drop n xs) ≡ drop n xs
all_left xs n = take_all (length xs - n) (drop n xs) (let few : length (drop n xs) ≡ length xs - n = length-drop n xs in omega (arith, few))
