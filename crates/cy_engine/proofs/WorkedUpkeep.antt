-- The worked run with the upkeep of its view, by any plan that serves it and whose upkeep may be done in no step.
use Rattle.std.proofs.Common.{◌≡◌, ◌≤◌, ℕ, zero, suc, ◌+◌, pos, List, [], ◌∷◌, length, Ok, Err, refl, subst, inl, inr, arith}
use Rattle.std.specs.Prelude.{IsTrue, codes, map}
use Rattle.std.specs.List.{AllByRecursion, Contains}
use Rattle.std.specs.Ordering.{eq_by_cmp}
use Rattle.std.specs.Cmp.{IsTotalOrder}
use Rattle.std.specs.declared.cmp.Ordering.TheVariants.{Equal}
use Rattle.std.proofs.lemmas.List.Sums.{count_by-le-length}
use Rattle.cy_scope_kinds.specs.declared.faults.ScopeFault.TheVariants as scope
use Rattle.cy_values.specs.declared.scalars.Value.TheVariants as value
use Rattle.cy_values.specs.declared.rows.Cell.{Cell}
use Rattle.cy_values.specs.Bag.{count_of}
use Rattle.cy_values.specs.Order.{row_cmp}
use Rattle.cy_graph.specs.declared.nodes.Node.{Node}
use Rattle.cy_graph.specs.Graph.{State, IsGraph, number_end}
use Rattle.cy_graph.specs.Maps.{rises}
use Rattle.cy_graph.specs.Stored.{IsStorable}
use Rattle.cy_planner_algebra.specs.Meaning as plans
use Rattle.cy_planner_algebra.specs.Plans.{Plan}
use Rattle.cy_planner_algebra.specs.Within.{CountsWithin, IsWithin}
use Rattle.cy_planner.specs.Serves.{Serves}
use Rattle.cy_planner.specs.WideTables.{wide_tables}
use Rattle.cy_engine_views.specs.Upkeep.{IsWithinCost, SomeHasTooManyRows, Upkeep}
use Rattle.cy_engine_views.specs.RegisteredViews.{Entries, View}
use Rattle.cy_engine_lines.specs.declared.faults.Fault.TheVariants as fault
use Rattle.cy_engine_lines.specs.declared.replies.Reply.TheVariants as reply
use Rattle.cy_engine_lines.specs.EngineStep.{Answer}
use Rattle.cy_engine.specs.KeptRuns.{KeptRun}
use Rattle.cy_engine_lines.specs.KeptStep.{KeptState, KeptStep, empty_kept_state}
use Rattle.cy_engine_lines.specs.State.{EngineState, empty_engine}
use Rattle.cy_engine.proofs.WorkedLines.{create_line, view_line, rows_line, set_line, unknown_line, null_line, delete_line, bare_line}
use Rattle.cy_engine.proofs.WorkedRun.{node, bare, keys, view, one, none, int, statement, counted, entry, fed_set, fed_null, fed_deleted, fed_created, worked_lines, created, made, unknown, shown, set_once, set_again, set_null, deleted, created_again}

-- ---- the graphs
one_graph : (id : ℕ) (n : Node) → 1 ≤ id → id + 1 ≤ number_end → IsTrue (rises n.labels) → IsTrue (rises n.props) → IsStorable n.props → IsGraph (one id n 0 []).graph
one_graph id n from to labels props stored = record {
  rising = refl;
  numbered = ((from, omega arith), tt);
  in_form = ((labels, props), tt);
  stored = (stored, tt);
  rels_rising = refl;
  rels_numbered = tt;
  rels_in_form = tt;
  rels_stored = tt;
  ends = tt;
  node_range = (omega arith, to);
  rel_range = (omega arith, omega arith);
}

int_graph : (n : ℕ) → IsGraph (one 1 (node (value.Int (pos n))) 0 []).graph
int_graph n = one_graph 1 (node (value.Int (pos n))) (omega arith) (omega arith) refl refl refl

bare_graph : IsGraph (one 1 bare 0 []).graph
bare_graph = one_graph 1 bare (omega arith) (omega arith) refl refl refl

next_graph : IsGraph (one 2 bare 0 []).graph
next_graph = one_graph 2 bare (omega arith) (omega arith) refl refl refl

none_graph : IsGraph (none 0 []).graph
none_graph = record {
  rising = refl;
  numbered = tt;
  in_form = tt;
  stored = tt;
  rels_rising = refl;
  rels_numbered = tt;
  rels_in_form = tt;
  rels_stored = tt;
  ends = tt;
  node_range = (omega arith, omega arith);
  rel_range = (omega arith, omega arith);
}

-- ---- no row counts too often

abbrev AreFew : List (List (List Cell)) → Type 0
AreFew tables = AllByRecursion (λ (t : List (List Cell)). length t ≤ 1) tables

of_few : (tables : List (List (List Cell))) (table : List (List Cell)) → AreFew tables → Contains tables table → length table ≤ 1
of_few [] table few (k, less, is) = absurd (omega (arith, less))
of_few (t ∷ tables) table few (zero, less, is) = subst (λ (x : List (List Cell)). length x ≤ 1) is few.0
of_few (t ∷ tables) table few (suc k, less, is) = of_few tables table few.1 (k, omega (arith, less), is)

-- a plan that serves its query; no step at all is within its cost from one graph to another
module _ (p : Plan) (serves : Serves p keys) (within : (before after : State) → IsGraph before → IsGraph after → IsWithinCost before after p 0) where
  -- kept up by the plan, in no step
  abbrev kept : List View → List Upkeep
  kept views = map (λ v. record { name = v.name; plan = p; steps = 0 }) views

  abbrev with_upkeep : EngineState → KeptState
  with_upkeep engine = record { engine = engine; upkeep = kept engine.views }

  -- no part of the plan has such a row, where the wide tables of the query have a row at most
  few_within : (graph : State) → IsGraph graph → AreFew (wide_tables graph.content keys) → SomeHasTooManyRows graph.content (kept (view [] ∷ [])) → ⊥
  few_within graph is few (inl (k, part, less, at, (r, many))) =
      once (subst (λ (q : Plan). IsWithin graph.content (wide_tables graph.content keys) q) at (serves.bounded graph is k part less) r)
    where
      once : CountsWithin (wide_tables graph.content keys) (count_of r (plans.rows_of graph.content part)) → ⊥
      once (inl le) = omega (arith, le, many)
      once (inr (table, there, (other, le))) =
          omega (arith, le, many, count_by-le-length (eq_by_cmp row_cmp other) table, of_few (wide_tables graph.content keys) table few there)
  few_within graph is few (inr none) = absurd none

  -- a step with the upkeep of the view
  abbrev Kept : EngineState → List ℕ → Answer → Entries → EngineState → Type 0
  Kept old line answer entries new = KeptStep (with_upkeep old) line answer entries (with_upkeep new)

  -- `CREATE (:A {k: 7})`
  created_kept : Kept (empty_engine 64) create_line (statement 1 0) [] (one 1 (node (int 7)) 1 [])
  created_kept = record { step = created; upkeep = record { upkeep = refl; within = λ many. absurd many } }

  -- `:view v MATCH (n:A) RETURN n.k`
  made_kept : Kept (one 1 (node (int 7)) 1 []) view_line (Ok (reply.Made (codes "n.k" ∷ []) 2 (codes "v"))) [] (one 1 (node (int 7)) 2 (view [] ∷ []))
  made_kept = record {
    step = made;
    upkeep = record { view = view []; plan = p; views = refl; serves = serves; upkeep = refl; within = few_within _ (int_graph 7) (omega arith, (omega arith, (omega arith, tt))) };
  }

  -- `MATCH (n:A) SET m.k = 9`
  unknown_kept : (tick : ℕ) (views : List View) → Kept (one 1 (node (int 8)) tick views) unknown_line (Err (fault.Scope scope.UnknownVariable)) [] (one 1 (node (int 8)) tick views)
  unknown_kept tick views = record { step = unknown tick views; upkeep = refl }

  module _ (total : IsTotalOrder row_cmp) (same : (x y : List Cell) → row_cmp x y ≡ Equal → x ≡ y) where
    -- `:rows v`
    shown_kept : Kept (one 1 (node (int 7)) 2 (view [] ∷ [])) rows_line (Ok (reply.Rows (counted (int 7)) 2 (codes "v"))) [] (one 1 (node (int 7)) 2 (view [] ∷ []))
    shown_kept = record { step = shown total same; upkeep = refl }

    -- `MATCH (n:A) SET n.k = 8`
    set_once_kept : Kept (one 1 (node (int 7)) 2 (view [] ∷ [])) set_line (statement 0 0) (entry 3 (counted (int 7)) (counted (int 8))) (one 1 (node (int 8)) 3 (view fed_set ∷ []))
    set_once_kept = record {
      step = set_once total same;
      upkeep = record { upkeep = (0, [], refl, within _ _ (int_graph 7) (int_graph 8), refl); within = few_within _ (int_graph 8) (omega arith, (omega arith, (omega arith, tt))) };
    }

    -- the same again
    set_again_kept : Kept (one 1 (node (int 8)) 3 (view fed_set ∷ [])) set_line (statement 0 0) [] (one 1 (node (int 8)) 3 (view fed_set ∷ []))
    set_again_kept = record { step = set_again total same; upkeep = record { upkeep = refl; within = few_within _ (int_graph 8) (omega arith, (omega arith, (omega arith, tt))) } }

    -- `MATCH (n:A) SET n.k = null`
    set_null_kept : Kept (one 1 (node (int 8)) 3 (view fed_set ∷ [])) null_line (statement 0 0) (entry 4 (counted (int 8)) (counted value.Null)) (one 1 bare 4 (view fed_null ∷ []))
    set_null_kept = record {
      step = set_null total same;
      upkeep = record { upkeep = (0, [], refl, within _ _ (int_graph 8) bare_graph, refl); within = few_within _ bare_graph (omega arith, (omega arith, (omega arith, tt))) };
    }

    -- `MATCH (n:A) DETACH DELETE n`
    deleted_kept : Kept (one 1 bare 4 (view fed_null ∷ [])) delete_line (statement 0 1) (entry 5 (counted value.Null) []) (none 5 (view fed_deleted ∷ []))
    deleted_kept = record {
      step = deleted total same;
      upkeep = record { upkeep = (0, [], refl, within _ _ bare_graph none_graph, refl); within = few_within _ none_graph (omega arith, (omega arith, (omega arith, tt))) };
    }

    -- `CREATE (:A)`
    created_again_kept : Kept (none 5 (view fed_deleted ∷ [])) bare_line (statement 1 0) (entry 6 [] (counted value.Null)) (one 2 bare 6 (view fed_created ∷ []))
    created_again_kept = record {
      step = created_again total same;
      upkeep = record { upkeep = (0, [], refl, within _ _ none_graph next_graph, refl); within = few_within _ next_graph (omega arith, (omega arith, (omega arith, tt))) };
    }

    -- the lines one after another
    kept_run : KeptRun (empty_kept_state 64) worked_lines (with_upkeep (one 2 bare 6 (view fed_created ∷ [])))
    kept_run =
        (_, created_kept, (_, made_kept, (_, shown_kept, (_, set_once_kept, (_, set_again_kept, (_, unknown_kept 3 (view fed_set ∷ []), (_, set_null_kept, (_, deleted_kept, (_, created_again_kept, refl)))))))))
