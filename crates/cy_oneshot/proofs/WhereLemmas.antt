-- WHERE on a row, by its condition and by each of its paths.
use Rattle.std.proofs.Common.{◌≡◌, ◌≢◌, ◌⊎◌, inl, inr, Bool, true, false, ◌&&◌, List, [], ◌∷◌, ◌++◌, map, refl, sym, ap, subst, ◌∙◌}
use Rattle.std.specs.Prelude.{Result, Ok, Err, flat_map}
use Rattle.std.specs.List.{list_all}
use Rattle.std.proofs.lemmas.Grind.{flat_map-append}
use Rattle.std.proofs.lemmas.List.{append-nil, map-append}
use Rattle.cy_values.specs.declared.rows.Cell.{Cell}
use Rattle.cy_values.specs.declared.truth.Truth.{Truth}
use Rattle.cy_values.specs.Truth.{is_yes}
use Rattle.cy_values.proofs.Booleans.{and_false, and_true, grouped_right}
use Rattle.cy_trees.specs.Trees.{MapEntry, Path, PathTest, Where}
use Rattle.cy_graph.specs.Graph.{Content}
use Rattle.cy_expr.specs.declared.faults.EvalFault.{EvalFault}
use Rattle.cy_expr.specs.declared.faults.EvalFault.TheVariants.{NoMemory}
use Rattle.cy_expr.specs.Evaluation.{cell_of}
use Rattle.cy_expr.specs.Faults.{on_one}
use Rattle.cy_expr.specs.Graphs.{lookups}
use Rattle.cy_oneshot_patterns.specs.Matching.{is_met, map_values, test_truth, where_truth}
use Rattle.cy_oneshot_patterns.specs.Outcomes.{and_also, gathered, together}
use Rattle.cy_oneshot_patterns.specs.Places.{entries_at, path_places, places}
use Rattle.cy_oneshot_meaning.specs.internal.Answers.{IsAnswer}
use Rattle.cy_oneshot_meaning.proofs.Together.{single, together_first, together_three}
use Rattle.cy_oneshot.specs.internal.Conditions.{both, is_asked, path_truth, paths_truth}

-- ---- two together

pub both_first : (b : Result Bool EvalFault) → both (Ok true) b ≡ b
both_first (Ok b) = refl
both_first (Err fault) = refl

pub both_last : (a : Result Bool EvalFault) → both a (Ok true) ≡ a
both_last (Ok a) = ap Ok (and_true a)
both_last (Err fault) = refl

faults_three : (f g h : EvalFault) → both (both (Err f) (Err g)) (Err h) ≡ both (Err f) (both (Err g) (Err h))
faults_three f g h = ap (on_one (λ (xs : List Bool). Ok true)) (together_three (Err f) (Err g) (Err h))

pub both_three : (a b c : Result Bool EvalFault) → both (both a b) c ≡ both a (both b c)
both_three (Ok a) (Ok b) (Ok c) = ap Ok (grouped_right a b c)
both_three (Ok a) (Ok b) (Err h) = refl
both_three (Ok a) (Err g) (Ok c) = refl
both_three (Ok a) (Err g) (Err h) = refl
both_three (Err f) (Ok b) (Ok c) = refl
both_three (Err f) (Ok b) (Err h) = refl
both_three (Err f) (Err g) (Ok c) = refl
both_three (Err f) (Err g) (Err h) = faults_three f g h

-- ---- the maps of several paths

gathered_both : {A : Type 0} (os qs : List (Result A EvalFault)) → gathered (os ++ qs) ≡ together (gathered os) (gathered qs)
gathered_both [] qs = sym (together_first (gathered qs))
gathered_both (o ∷ os) qs = ap (together (single o)) (gathered_both os qs) ∙ sym (together_three (single o) (gathered os) (gathered qs))

module _ (graph : Content) (row : List Cell) where
  abbrev values_of : List MapEntry → List (Result Cell EvalFault)
  values_of es = map (λ e. cell_of (lookups graph) row e.value) es

  values_both : (p : Path) (ps : List Path) → map_values graph (p ∷ ps) row ≡ together (map_values graph (p ∷ []) row) (map_values graph ps row)
  values_both p ps =
      ap (λ es. gathered (values_of es)) (flat_map-append entries_at (path_places p) (places ps))
      ∙ ap gathered (map-append (λ (e : MapEntry). cell_of (lookups graph) row e.value) (flat_map entries_at (path_places p)) (flat_map entries_at (places ps)))
      ∙ gathered_both (values_of (flat_map entries_at (path_places p))) (values_of (flat_map entries_at (places ps)))
      ∙ ap (λ ls. together (gathered (values_of (flat_map entries_at ls))) (map_values graph ps row)) (sym (append-nil (path_places p)))

  both_values : (a b : Bool) (m n : Result (List Cell) EvalFault)
      → both (on_one (λ (vs : List Cell). Ok a) m) (on_one (λ (vs : List Cell). Ok b) n) ≡ on_one (λ (vs : List Cell). Ok (a && b)) (together m n)
  both_values a b (Ok us) (Ok vs) = refl
  both_values a b (Ok us) (Err g) = refl
  both_values a b (Err f) (Ok vs) = refl
  both_values a b (Err f) (Err g) = refl

  -- all paths are met, or the smallest fault of their maps
  pub paths_are : (asked : Bool) (ts : List PathTest)
      → paths_truth graph row asked ts ≡ on_one (λ (vs : List Cell). Ok (list_all (λ t. asked && is_met graph row t) ts)) (map_values graph (map (λ t. t.path) ts) row)
  paths_are asked [] = refl
  paths_are asked (t ∷ ts) =
      ap (both (path_truth graph row asked t)) (paths_are asked ts)
      ∙ both_values (asked && is_met graph row t) (list_all (λ u. asked && is_met graph row u) ts) (map_values graph (t.path ∷ []) row) (map_values graph (map (λ u. u.path) ts) row)
      ∙ ap (on_one (λ (vs : List Cell). Ok (list_all (λ u. asked && is_met graph row u) (t ∷ ts)))) (sym (values_both t.path (map (λ u. u.path) ts)))

  -- those so far, and one more
  pub paths_more : (asked : Bool) (ts : List PathTest) (t : PathTest) → paths_truth graph row asked (ts ++ t ∷ []) ≡ both (paths_truth graph row asked ts) (path_truth graph row asked t)
  paths_more asked [] t = both_last (path_truth graph row asked t) ∙ sym (both_first (path_truth graph row asked t))
  paths_more asked (u ∷ ts) t =
      ap (both (path_truth graph row asked u)) (paths_more asked ts t)
      ∙ sym (both_three (path_truth graph row asked u) (paths_truth graph row asked ts) (path_truth graph row asked t))

-- ---- paths after one that isn't met are not asked for

module _ (graph : Content) (row : List Cell) (asked : Bool) (t : PathTest) where
  -- the answer for a path, where it is looked for and where its maps alone are evaluated
  abbrev sought : Result (List Cell) EvalFault → Bool → Result Bool EvalFault
  sought maps still = on_one (λ (vs : List Cell). Ok (still && is_met graph row t)) maps

  after_unmet : (maps : Result (List Cell) EvalFault) (still : Bool) → both (Ok false) (sought maps still) ≡ both (Ok false) (sought maps asked)
  after_unmet (Ok vs) still = refl
  after_unmet (Err fault) still = refl

  after_fault : (f : EvalFault) (maps : Result (List Cell) EvalFault) (still : Bool) → both (Err f) (sought maps still) ≡ both (Err f) (sought maps asked)
  after_fault f (Ok vs) still = refl
  after_fault f (Err fault) still = refl

  -- the answers so far and one more, which is asked for only where all so far are met
  pub one_more : (met next result so_far : Result Bool EvalFault) → IsAnswer met (λ x. x) so_far
      → IsAnswer next (λ x. x) (path_truth graph row (asked && is_asked met) t)
      → ((a b : Result Bool EvalFault) → IsAnswer met (λ x. x) a → IsAnswer next (λ x. x) b → IsAnswer result (λ x. x) (both a b))
      → ((met ≡ Err NoMemory) ⊎ (next ≡ Err NoMemory) → result ≡ Err NoMemory)
      → IsAnswer result (λ x. x) (both so_far (path_truth graph row asked t))
  one_more (Ok true) next result so_far is also answers memory =
      subst (λ on. IsAnswer result (λ x. x) (both so_far (path_truth graph row on t))) (and_true asked) (answers so_far (path_truth graph row (asked && true) t) is also)
  one_more (Ok false) next result so_far is also answers memory =
      subst (λ o. IsAnswer result (λ x. x) o)
      (ap (λ o. both o (path_truth graph row (asked && false) t)) is
      ∙ after_unmet (map_values graph (t.path ∷ []) row) (asked && false)
      ∙ ap (λ o. both o (path_truth graph row asked t)) (sym is))
      (answers so_far (path_truth graph row (asked && false) t) is also)
  one_more (Err f) next result so_far (inl is) also answers memory =
      subst (λ o. IsAnswer result (λ x. x) o)
      (ap (λ o. both o (path_truth graph row (asked && false) t)) is
      ∙ after_fault f (map_values graph (t.path ∷ []) row) (asked && false)
      ∙ ap (λ o. both o (path_truth graph row asked t)) (sym is))
      (answers so_far (path_truth graph row (asked && false) t) (inl is) also)
  one_more (Err f) next result so_far (inr none) also answers memory =
      subst (λ o. IsAnswer o (λ x. x) (both so_far (path_truth graph row asked t))) (sym (memory (inl (ap Err none)))) (inr refl)

-- ---- the whole

true_both : (maps : Result (List Cell) EvalFault) (on : Bool) → both (on_one (λ (vs : List Cell). Ok on) maps) (Ok true) ≡ and_also maps (Ok on)
true_both (Ok vs) on = ap Ok (and_true on)
true_both (Err f) on = refl

false_both : (maps : Result (List Cell) EvalFault) (off : Bool) → both (on_one (λ (vs : List Cell). Ok off) maps) (Ok false) ≡ and_also maps (Ok false)
false_both (Ok vs) off = ap Ok (and_false off)
false_both (Err f) off = refl

fault_both : (maps : Result (List Cell) EvalFault) (off : Bool) (fault : EvalFault) → both (on_one (λ (vs : List Cell). Ok off) maps) (Err fault) ≡ and_also maps (Err fault)
fault_both (Ok vs) off fault = refl
fault_both (Err f) off fault = refl

module _ (maps : Result (List Cell) EvalFault) (met : Bool → Bool) (result : Result Bool EvalFault) where
  held_each : (truth t : Result Bool EvalFault) → IsAnswer truth (λ x. x) t
      → ((b : Result Bool EvalFault) → IsAnswer truth (λ x. x) b → IsAnswer result (λ x. x) (both (on_one (λ (vs : List Cell). Ok (met (is_asked truth))) maps) b))
      → (truth ≡ Err NoMemory → result ≡ Err NoMemory)
      → IsAnswer result (λ x. x) (and_also maps (on_one (λ b. Ok (b && met true)) t))
  held_each (Ok true) t is answers memory =
      subst (λ o. IsAnswer result (λ x. x) o) (true_both maps (met true) ∙ ap (λ o. and_also maps (on_one (λ b. Ok (b && met true)) o)) (sym is)) (answers (Ok true) refl)
  held_each (Ok false) t is answers memory =
      subst (λ o. IsAnswer result (λ x. x) o) (false_both maps (met false) ∙ ap (λ o. and_also maps (on_one (λ b. Ok (b && met true)) o)) (sym is)) (answers (Ok false) refl)
  held_each (Err fault) t (inl is) answers memory =
      subst (λ o. IsAnswer result (λ x. x) o) (fault_both maps (met false) fault ∙ ap (λ o. and_also maps (on_one (λ b. Ok (b && met true)) o)) (sym is)) (answers (Err fault) (inl refl))
  held_each (Err fault) t (inr none) answers memory =
      subst (λ o. IsAnswer o (λ x. x) (and_also maps (on_one (λ b. Ok (b && met true)) t))) (sym (memory (ap Err none))) (inr refl)

fused : (on : Bool) (o : Result Truth EvalFault) → on_one (λ b. Ok (b && on)) (on_one (λ truth. Ok (is_yes truth)) o) ≡ on_one (λ truth. Ok (is_yes truth && on)) o
fused on (Ok truth) = refl
fused on (Err fault) = refl

-- what answers whether the condition and the paths hold answers whether the WHERE does
pub where_held : (graph : Content) (row : List Cell) (w : Where) (truth result : Result Bool EvalFault)
    → IsAnswer truth (λ x. x) (on_one (λ t. Ok (is_yes t)) (test_truth graph w.test row))
    → ((b : Result Bool EvalFault) → IsAnswer truth (λ x. x) b → IsAnswer result (λ x. x) (both (paths_truth graph row (is_asked truth) w.paths) b))
    → (truth ≡ Err NoMemory → result ≡ Err NoMemory)
    → IsAnswer result (λ x. x) (where_truth graph w row)
where_held graph row w truth result is answers memory =
    let maps : Result (List Cell) EvalFault = map_values graph (map (λ t. t.path) w.paths) row in
    let met : Bool → Bool = λ asked. list_all (λ t. asked && is_met graph row t) w.paths in
    subst (λ o. IsAnswer result (λ x. x) (and_also maps o)) (fused (met true) (test_truth graph w.test row))
    (held_each maps met result truth (on_one (λ t. Ok (is_yes t)) (test_truth graph w.test row)) is
    (λ b given. subst (λ o. IsAnswer result (λ x. x) (both o b)) (paths_are graph row (is_asked truth) w.paths) (answers b given)) memory)
