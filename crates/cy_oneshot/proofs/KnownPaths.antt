-- A path that reads nothing of the row is there for each row, or for none.
use Rattle.std.proofs.Common.{◌≡◌, ℕ, zero, suc, ◌+◌, ◌<◌, ◌≤◌, Bool, true, false, cond, not, ◌&&◌, List, [], ◌∷◌, length, replicate, refl, sym, ap, subst, ◌∙◌, arith}
use Rattle.std.specs.Prelude.{Ok}
use Rattle.std.specs.List.{list_all, list_any}
use Rattle.std.proofs.lemmas.Bool.{false≢true}
use Rattle.std.proofs.lemmas.List.{append-nil, length-replicate}
use Rattle.cy_values.specs.declared.rows.Cell.{Cell}
use Rattle.cy_values.specs.declared.rows.Cell.TheVariants as cell
use Rattle.cy_values.specs.declared.scalars.Value.TheVariants as value
use Rattle.cy_trees.specs.Trees.{Path}
use Rattle.cy_graph.specs.Graph.{Content}
use Rattle.cy_expr.specs.Faults.{on_one}
use Rattle.cy_oneshot_patterns.specs.Fits.{fits}
use Rattle.cy_oneshot_patterns.specs.Matching.{assigned, map_values}
use Rattle.cy_oneshot_patterns.specs.Places.{path_places, places}
use Rattle.cy_oneshot.specs.Carried.{ArePlacesRead, carried_from, is_needed}
use Rattle.cy_oneshot.proofs.Carried.{from_long}
use Rattle.cy_oneshot.proofs.CarriedMatch.{path_less}
use Rattle.cy_oneshot.specs.internal.Conditions.{IsKnown, presence}

-- ---- a row of nulls

abbrev null : Cell
null = cell.Value value.Null

none_needed : (width column : ℕ) → column < width → is_needed (replicate width false) column ≡ false
none_needed zero column less = absurd (omega arith)
none_needed (suc width) zero less = refl
none_needed (suc width) (suc column) less = none_needed width column (omega arith)

none_carried : (needed : List Bool) (place : ℕ) (row : List Cell) → ((i : ℕ) → i < length row → is_needed needed (place + i) ≡ false) → carried_from needed place row ≡ replicate (length row) null
none_carried needed place [] none = refl
none_carried needed place (c ∷ row) none =
    let first : is_needed needed place ≡ false = ap (is_needed needed) (let e : place ≡ place + 0 = omega arith in e) ∙ none 0 (omega arith) in
    let others : carried_from needed (place + 1) row ≡ replicate (length row) null =
    none_carried needed (place + 1) row (λ i less. ap (is_needed needed) (let e : place + 1 + i ≡ place + suc i = omega arith in e) ∙ none (suc i) (omega arith)) in
    λ j. cond (first j) c null ∷ others j

-- each row without what it isn't asked for
all_null : (width : ℕ) (row : List Cell) → length row ≡ width → carried_from (replicate width false) 0 row ≡ replicate width null
all_null width row long =
    none_carried (replicate width false) 0 row (λ i less. ap (is_needed (replicate width false)) (let e : 0 + i ≡ i = omega arith in e) ∙ none_needed width i (omega (arith, long, less)))
    ∙ ap (λ n. replicate n null) long

-- ---- what is known

known_for : (graph : Content) (width : ℕ) (path : Path) (there : Bool) (nulls : List Cell) → ArePlacesRead (replicate width false) (places (path ∷ [])) → nulls ≡ replicate width null
    → presence graph nulls path ≡ Ok there → IsKnown graph width path there
known_for graph width path there nulls read are is = λ row long.
    let needed : List Bool = replicate width false in
    let within : length needed ≤ length row = omega (arith, long, length-replicate width false) in
    sym (path_less graph needed row (from_long needed row within) path read)
    ∙ ap (λ r. presence graph r path) (all_null width row long ∙ sym are)
    ∙ is

-- what is found for a row of nulls is the answer for all rows
pub known_by_nulls : (graph : Content) (width : ℕ) (paths : List Path) (path : Path) (there : Bool) (nulls : List Cell) → paths ≡ path ∷ []
    → ArePlacesRead (replicate width false) (places (path ∷ [])) → nulls ≡ replicate width null
    → on_one (λ (values : List Cell). Ok (list_any (fits graph nulls) (assigned graph paths))) (map_values graph paths nulls) ≡ Ok there → IsKnown graph width path there
known_by_nulls graph width paths path there nulls alone read are is =
    known_for graph width path there nulls read are
    (subst (λ ps. on_one (λ (values : List Cell). Ok (list_any (fits graph nulls) (assigned graph ps))) (map_values graph ps nulls) ≡ Ok there) alone is)

all_false : (needed : List Bool) → list_all (λ b. not b) needed ≡ true → needed ≡ replicate (length needed) false
all_false [] none = refl
all_false (true ∷ needed) none = absurd (false≢true none)
all_false (false ∷ needed) none = ap (λ l. false ∷ l) (all_false needed none)

-- no column is marked by it
pub none_read : (needed : List Bool) (width : ℕ) (path : Path) → length needed ≡ width → list_all (λ b. not b) needed ≡ true → ArePlacesRead needed (path_places path)
    → ArePlacesRead (replicate width false) (places (path ∷ []))
none_read needed width path long none read =
    subst (λ l. ArePlacesRead l (places (path ∷ []))) (all_false needed none ∙ ap (λ n. replicate n false) long)
    (subst (ArePlacesRead needed) (sym (append-nil (path_places path))) read)
