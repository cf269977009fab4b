-- A WHERE that is made ready for rows of a width.
use Rattle.std.specs.Prelude.{◌≡◌, ℕ, ◌&&◌, Bool, true, false, List, [], ◌∷◌, All, IfOk, IfSome, flat_map, length, map, option_map, Option, None, Result, Ok, Err}
use Rattle.std.specs.List.{AllByRecursion, list_all}
use Rattle.cy_values.specs.declared.rows.Cell.{Cell}
use Rattle.cy_trees.specs.Trees.{Expression, MapEntry, Path, PathTest, Where}
use Rattle.cy_trees.specs.TreeModels.{expression_of, path_of, path_test_of}
use Rattle.cy_graph.specs.Graph.{Content}
use Rattle.cy_expr.specs.declared.faults.EvalFault.{EvalFault}
use Rattle.cy_expr.specs.Faults.{on_one}
use Rattle.cy_oneshot_patterns.specs.declared.pattern.Pattern.{Pattern}
use Rattle.cy_scope_kinds.specs.Sure.{is_literal}
use Rattle.cy_oneshot_patterns.specs.Matching.{is_met, is_there, kept, map_values, matched, selected}
use Rattle.cy_oneshot_patterns.specs.Outcomes.{joined, smaller}
use Rattle.cy_oneshot_patterns.specs.Places.{entries_at, places}
use Rattle.cy_oneshot_patterns.specs.internal.Patterns.{place_of}
use Rattle.cy_oneshot_meaning.specs.internal.Answers.{IsRowThere}
use Rattle.cy_oneshot_search.specs.internal.Prepared.{IsPattern}
use Rattle.cy_oneshot.specs.declared.conditions.Condition.{Condition}
use Rattle.cy_oneshot.specs.declared.conditions.PathCondition.{PathCondition}
use Rattle.cy_oneshot.specs.declared.matching.MatchCondition.{MatchCondition}

-- the paths of it
abbrev pub tests_in : List PathCondition → List PathTest
tests_in paths = map (λ p. path_test_of p.test.now) paths

-- what it is made of
abbrev pub where_in : Condition → Where
where_in c = record { test = option_map (λ e. expression_of e.now) c.test; paths = tests_in c.paths.items }

-- that of a clause without a WHERE
abbrev pub nothing : Where
nothing = record { test = None; paths = [] }

-- whether a path is there, or the smallest fault of its maps
abbrev pub presence : Content → List Cell → Path → Result Bool EvalFault
presence graph row path = on_one (λ values. Ok (is_there graph row path)) (map_values graph (path ∷ []) row)

-- this is the answer for each row of a width
abbrev pub IsKnown : Content → ℕ → Path → Bool → Type 0
IsKnown graph width path there = (row : List Cell) → length row ≡ width → presence graph row path ≡ Ok there

-- a path is made ready for the rows of a graph
pub record IsReady (graph : Content) (width : ℕ) (p : PathCondition) : Type 0 where
  pub path : map path_of p.pattern.paths.now ≡ path_of p.test.now.path ∷ []
  pub wide : p.pattern.width ≡ width
  pub prepared : IsPattern None p.pattern
  pub known : IfSome p.known (IsKnown graph width (path_of p.test.now.path))

-- each of its paths is
abbrev pub AreReady : Content → Condition → Type 0
AreReady graph c = All (IsReady graph c.width) c.paths.items

-- each entry of a property map is written out, so that none can fault
abbrev pub are_literals : List MapEntry → Bool
are_literals entries = list_all (λ e. is_literal e.value) entries

-- so are those of these paths
abbrev pub have_literals : List PathCondition → Bool
have_literals paths = list_all (λ p. list_all (λ place. are_literals (entries_at (place_of place))) p.pattern.places.items) paths

-- so are those of its paths
abbrev pub HasLiterals : Where → Type 0
HasLiterals w = are_literals (flat_map entries_at (places (map (λ t. t.path) w.paths))) ≡ true

-- both are true; of their faults the smaller one counts
abbrev pub both : Result Bool EvalFault → Result Bool EvalFault → Result Bool EvalFault
both (Ok a) (Ok b) = Ok (a && b)
both (Ok a) (Err fault) = Err fault
both (Err fault) (Ok b) = Err fault
both (Err fault) (Err other) = Err (smaller fault other)

-- a condition that is true asks for the paths
abbrev pub is_asked : Result Bool EvalFault → Bool
is_asked (Ok b) = b
is_asked (Err fault) = false

module _ (graph : Content) (row : List Cell) (asked : Bool) where
  -- a path is met, if it is asked for; its maps are evaluated in any case
  abbrev pub path_truth : PathTest → Result Bool EvalFault
  path_truth t = on_one (λ values. Ok (asked && is_met graph row t)) (map_values graph (t.path ∷ []) row)

  -- all are
  abbrev pub paths_truth : List PathTest → Result Bool EvalFault
  paths_truth [] = Ok true
  paths_truth (t ∷ ts) = both (path_truth t) (paths_truth ts)

-- A condition that the search for a MATCH may use, and what is asked of the rows that it finds then, are a WHERE together.
abbrev pub IsSplit : Where → Option Expression → Where → Type 0
IsSplit w early late =
    (graph : Content) (rows : List (List Cell))
    → on_one (λ found. joined (map (kept graph late) found)) (joined (map (selected graph early) rows)) ≡ joined (map (kept graph w) rows)

-- a row may be matched: what it names is in the graph, it is as wide as the pattern asks, and what is found for it as the WHERE asks
pub record IsRowReady (graph : Content) (p : Pattern) (c : MatchCondition) (row : List Cell) : Type 0 where
  pub there : IsRowThere graph row
  pub width : length row ≡ p.width
  pub wide : IfOk (matched graph (map path_of p.paths.now) None row) (AllByRecursion (λ made. length made ≡ c.late.width))
