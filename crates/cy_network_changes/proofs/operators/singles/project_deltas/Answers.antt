use Rattle.std.proofs.Common.{◌≡◌, ℕ, ◌+◌, ◌*◌, ◌<◌, ◌≤◌, false, List, [], ◌∷◌, Option, Some, length, map, get_or, ap, sym, subst, ◌∙◌, arith}
use Rattle.std.specs.Prelude.{sum_by}
use Rattle.std.specs.List.{All}
use Rattle.std.proofs.Math.ListN.{set}
use Rattle.std.proofs.lemmas.List.{length-map}
use Rattle.cy_values.specs.declared.rows.Cell.{Cell}
use Rattle.cy_graph.specs.Graph.{State}
use Rattle.cy_network_memory.specs.Counts.{greatest_count}
use Rattle.cy_network_counts.specs.Merges.{IsImageChange, all_columns, image}
use Rattle.cy_network_counts.proofs.ChangedRows.{images_bounded}
use Rattle.cy_planner_algebra.specs.Plans as plan
use Rattle.cy_planner_algebra.specs.Plans.{Output, Plan}
use Rattle.cy_planner_algebra.specs.Expressions.{projected}
use Rattle.cy_planner_algebra.specs.PlanModels.{plan_of}
use Rattle.cy_network_memory.specs.declared.memory.Memory.{Ghosts}
use Rattle.cy_network_memory.specs.declared.memory.RowDelta.{RowDelta}
use Rattle.cy_network_operators.specs.Deltas.{IsBounded, IsDelta, counts, rows_at}
use Rattle.cy_network_sources.specs.Changes.{Touches}
use Rattle.cy_network_parts.specs.Memories.{is_row_by_row, none_where, own_keys}
use Rattle.cy_network_parts.specs.Parts.{first_below}
use Rattle.cy_network_parts.specs.internal.Upkeep.{HasTooMany, IsOwnDone, content_of}
use Rattle.cy_network_sources.specs.Work.{own_steps}
use Rattle.cy_network_changes.specs.internal.Passages.{images_by, outputs_of}
use Rattle.cy_network_parts.proofs.Lent.{done_as, own_length, steps_of_one}
use Rattle.cy_network_parts.proofs.Outcomes.{if_err_more, if_ok_from, if_ok_three}
use Rattle.cy_network_changes.specs.internal.OperatorsKeptUp.{FedRows}
use Rattle.cy_network_changes.specs.internal.Forms.{IsProject}
use Rattle.cy_network_changes.proofs.Formed.{fed_rows_as}
use Rattle.cy_network_changes.proofs.OwnSingles.{project_change, project_done, project_settled, project_within}
use Rattle.cy_network_changes.proofs.PassageLemmas.{project_is}
use Rattle.cy_network_changes.proofs.Shifted.{deltas_long}
use Rattle.cy_network_parts.proofs.Slices.{one_only, set_one}
use Rattle.cy_network_parts.proofs.Taken.{grown_of_one}
use Rattle.cy_network_changes.proofs.operators.singles.project_deltas.Goals as goal

-- what a projection is, told by its form
abbrev formed : Plan → List Output → Plan
formed p outputs = plan.project (first_below p) outputs

-- a projection that isn't gone through row by row has one memory
one_kept : {M : Type 0} (key_columns : M → List ℕ) (own : List M) (p : Plan) (outputs : List Output) → IsProject p outputs → is_row_by_row (first_below p) outputs ≡ false
    → map key_columns own ≡ own_keys p → length own ≡ 1
one_kept key_columns own p outputs is kept keyed =
    own_length key_columns own (own_keys p) keyed ∙ ap (λ q. length (own_keys q)) is ∙ ap (λ so. length (none_where so (all_columns (length outputs) ∷ []))) kept

pub offset_bounds-0 : goal.offset_bounds-0
offset_bounds-0 g c =
    let own = c.args.own.now in
    let p = plan_of c.args.part.now in
    let outputs = outputs_of p in
    let is = project_is p c.requires.project in
    let long = one_kept g.M.Memory.key_columns own p outputs is c.requires.kept c.requires.begun.1.1.1.fed.own.keyed in
    omega (arith, long)

pub bounds-own-0 : goal.bounds-own-0
bounds-own-0 g c =
    let own = c.args.own.now in
    let p = plan_of c.args.part.now in
    let outputs = outputs_of p in
    let is = project_is p c.requires.project in
    let long = one_kept g.M.Memory.key_columns own p outputs is c.requires.kept c.requires.begun.1.1.1.fed.own.keyed in
    omega (arith, long)

-- what a projection gives, by its memory
module _ {M C : Type 0} (memory : Ghosts M C) (d : M) (own : List M) (p : Plan) (outputs : List Output) (deltas given : List RowDelta) (are : given ≡ images_by p deltas) (is : IsProject p outputs)
    (kept : is_row_by_row (first_below p) outputs ≡ false) (new : M) (old : Option State) (now : State) (touches : Touches) (fed : FedRows memory own p deltas old now touches) where
  abbrev m : M
  m = get_or own 0 d

  long : length own ≡ 1
  long = one_kept memory.key_columns own p outputs is kept fed.own.keyed

  formed_fed : FedRows memory (m ∷ []) (formed p outputs) deltas old now touches
  formed_fed = fed_rows_as memory p (formed p outputs) own (m ∷ []) deltas old now touches is (one_only d own long) fed

  abbrev before : List (List Cell)
  before = rows_at (content_of old) (first_below p)

  abbrev after : List (List Cell)
  after = rows_at (Some now.content) (first_below p)

  change : IsImageChange outputs (memory.was m) given before after
  change = record { deltas = deltas; are = are ∙ ap (λ (made : List Output). map (image (projected made)) deltas) (ap outputs_of is); change = project_change formed_fed kept }

  ends : (to : List RowDelta)
      → ((made : List Output) (before after : List (List Cell)) → IsImageChange made (memory.was m) given before after → IsDelta (counts (map (projected made) before)) (counts (map (projected made) after)) to)
      → ((made : List Output) (before after : List (List Cell)) → IsImageChange made (memory.was m) given before after → memory.staged new ≡ counts (map (projected made) after)) → All IsBounded to
      → IsOwnDone old now p (map memory.staged (set own 0 new)) to
  ends to leads holds bounds =
      done_as memory.key_columns memory.was memory.staged old now p (formed p outputs) (set own 0 new) (new ∷ []) to is (set_one new own long)
      (project_done formed_fed kept to (memory.staged new) (leads outputs before after change) (holds outputs before after change) bounds)

  too_many : ((made : List Output) (before after : List (List Cell)) → IsImageChange made (memory.was m) given before after → (row : List Cell) × (greatest_count < counts (map (projected made) after) row))
      → HasTooMany now p
  too_many found = let row = found outputs before after change in subst (HasTooMany now) (sym is) (row.0, row.1)

  steps : memory.step_count new ≤ memory.step_count m + 2 * length given
      → sum_by memory.step_count (set own 0 new) ≤ sum_by memory.step_count own + own_steps (rows_at (content_of old)) (rows_at (Some now.content)) touches p
  steps most =
      steps_of_one memory.step_count own (set own 0 new) m new (own_steps (rows_at (content_of old)) (rows_at (Some now.content)) touches p) (one_only d own long) (set_one new own long)
      (subst (λ n. memory.step_count new ≤ memory.step_count m + n)
      (ap (λ n. 2 * n) (ap length are ∙ length-map deltas (image (projected (outputs_of p))) ∙ deltas_long old now (first_below p) deltas fed.below) ∙ ap (own_steps (rows_at (content_of old)) (rows_at (Some now.content)) touches) (sym is)) most)

pub project-requires : goal.project-requires
project-requires g c =
    let own = c.args.own.now in
    let p = plan_of c.args.part.now in
    let outputs = outputs_of p in
    let is = project_is p c.requires.project in
    let given = c.requires.begun.1.1.1 in
    let d = c.index-own-0.result in
    let one = one_only d own (one_kept g.M.Memory.key_columns own p outputs is c.requires.kept given.fed.own.keyed) in
    let old = c.requires.begun.0 in
    let now = c.requires.begun.1.0 in
    let f = fed_rows_as g.M.Memory p (formed p outputs) own (get_or own 0 d ∷ []) given.deltas old now c.requires.begun.1.1.0 is one given.fed in
    record {
      bounded = subst (All IsBounded) (sym given.are) (images_bounded (projected outputs) given.deltas given.fed.below.bounded);
      settled = project_settled f c.requires.kept;
      counts = project_within f c.requires.kept;
      held = (
        outputs,
        (
          rows_at (content_of old) (first_below p),
          (rows_at (Some now.content) (first_below p), record { deltas = given.deltas; are = given.are; change = project_change f c.requires.kept }),
        ),
      );
    }

pub returns : goal.returns
returns g c =
    let own = c.args.own.now in
    let p = plan_of c.args.part.now in
    let outputs = outputs_of p in
    let is = project_is p c.requires.project in
    let long = one_kept g.M.Memory.key_columns own p outputs is c.requires.kept c.requires.begun.1.1.1.fed.own.keyed in
    let d = c.index-own-0.result in
    let new = c.project.new.memory in
    let images = c.args.images.items in
    let one = one_only d own long in
    let after_one = set_one new own long in
    record {
      done =
          if_ok_three _ _ _ _ c.project.result c.project.ensures.delta c.project.ensures.staged c.project.ensures.deltas
          (λ made leads holds bounds old now touches given.
          ends g.M.Memory d own p outputs given.deltas images given.are is c.requires.kept new old now touches given.fed made.items leads holds bounds);
      too_many =
          if_err_more _ _ c.project.result c.project.ensures.too_many
          (λ fault found so old now touches given. too_many g.M.Memory d own p outputs given.deltas images given.are is c.requires.kept new old now touches given.fed (found so));
      was = ap (map g.M.Memory.was) after_one ∙ ap (λ n. n ∷ []) c.project.ensures.was ∙ sym (ap (map g.M.Memory.was) one);
      columns = ap (map g.M.Memory.key_columns) after_one ∙ ap (λ n. n ∷ []) c.project.ensures.columns ∙ sym (ap (map g.M.Memory.key_columns) one);
      grows = grown_of_one g.M.Memory.step_count own (set own 0 new) (get_or own 0 d) new one after_one c.project.ensures.grows;
      steps =
          if_ok_from _ c.project.result
          (λ made exact old now touches given. steps g.M.Memory d own p outputs given.deltas images given.are is c.requires.kept new old now touches given.fed (c.project.ensures.steps exact));
    }
