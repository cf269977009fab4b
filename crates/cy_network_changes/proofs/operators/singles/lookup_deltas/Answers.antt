use Rattle.std.proofs.Common.{◌≡◌, ℕ, ◌+◌, ◌≤◌, false, List, [], ◌∷◌, Option, Some, length, map, get_or, ap, sym, subst, ◌∙◌, arith}
use Rattle.std.specs.Prelude.{sum_by}
use Rattle.std.specs.List.{All}
use Rattle.std.proofs.Math.ListN.{set}
use Rattle.std.proofs.lemmas.Result.{IfOk-from_err}
use Rattle.cy_values.specs.declared.rows.Cell.{Cell}
use Rattle.cy_values.specs.Bag.{count_of}
use Rattle.cy_graph.specs.Graph.{State}
use Rattle.cy_planner_algebra.specs.declared.operators.Attribute.{Attribute}
use Rattle.cy_planner_algebra.specs.Plans as plan
use Rattle.cy_planner_algebra.specs.Plans.{Plan}
use Rattle.cy_planner_algebra.specs.Meaning.{with_attribute}
use Rattle.cy_planner_algebra.specs.PlanModels.{plan_of}
use Rattle.cy_network_memory.specs.declared.memory.Memory.{Ghosts}
use Rattle.cy_network_memory.specs.declared.memory.RowDelta.{RowDelta}
use Rattle.cy_network_operators.specs.Deltas.{IsBounded, IsDelta, counts, counts_after, rows_at}
use Rattle.cy_network_sources.specs.Changes.{IsChange, Touches}
use Rattle.cy_network_sources.specs.LookupCosts.{naming_rows}
use Rattle.cy_network_parts.specs.Memories.{is_scan, none_where, own_keys}
use Rattle.cy_network_parts.specs.Parts.{first_below}
use Rattle.cy_network_parts.specs.internal.Upkeep.{IsOwnDone, content_of, state_of}
use Rattle.cy_network_sources.specs.Work.{own_reads, own_steps}
use Rattle.cy_network_parts.proofs.Lent.{done_as, own_length, steps_of_one}
use Rattle.cy_network_changes.specs.internal.OperatorsKeptUp.{FedRows}
use Rattle.cy_network_changes.specs.internal.Forms.{IsLookup}
use Rattle.cy_network_changes.proofs.Formed.{fed_rows_as}
use Rattle.cy_network_changes.proofs.OwnSingles.{lookup_counted, lookup_done, lookup_keyed, lookup_leads, lookup_settled, lookup_within}
use Rattle.cy_network_parts.proofs.Refusals.{if_memory}
use Rattle.cy_network_changes.proofs.Shifted.{deltas_long}
use Rattle.cy_network_parts.proofs.Slices.{one_only, set_one}
use Rattle.cy_network_parts.proofs.Taken.{grown_of_one}
use Rattle.cy_network_changes.proofs.operators.singles.lookup_deltas.Goals as goal

-- what a look-up is, told by its form
abbrev formed : Plan → ℕ → Attribute → Plan
formed p column attribute = plan.lookup (first_below p) column attribute

-- what is no scan is none told by its form
still : (p : Plan) (column : ℕ) (attribute : Attribute) → IsLookup p column attribute → is_scan p ≡ false → is_scan (formed p column attribute) ≡ false
still p column attribute is kept = subst (λ q. is_scan q ≡ false) is kept

-- a look-up that is no scan has one memory
one_kept : {M : Type 0} (key_columns : M → List ℕ) (own : List M) (p : Plan) (column : ℕ) (attribute : Attribute) → IsLookup p column attribute → is_scan p ≡ false
    → map key_columns own ≡ own_keys p → length own ≡ 1
one_kept key_columns own p column attribute is kept keyed =
    own_length key_columns own (own_keys p) keyed ∙ ap (λ q. length (own_keys q)) is ∙ ap (λ so. length (none_where so ((column ∷ []) ∷ []))) (still p column attribute is kept)

-- what a look-up gives, by its memory
module _ {M C : Type 0} (memory : Ghosts M C) (d : M) (own : List M) (p : Plan) (column : ℕ) (attribute : Attribute) (deltas : List RowDelta) (is : IsLookup p column attribute) (kept : is_scan p ≡ false)
    (new : M) (old : Option State) (now : State) (touches : Touches) (fed : FedRows memory own p deltas old now touches) where
  abbrev m : M
  m = get_or own 0 d

  long : length own ≡ 1
  long = one_kept memory.key_columns own p column attribute is kept fed.own.keyed

  formed_fed : FedRows memory (m ∷ []) (formed p column attribute) deltas old now touches
  formed_fed = fed_rows_as memory p (formed p column attribute) own (m ∷ []) deltas old now touches is (one_only d own long) fed

  abbrev before : List (List Cell)
  before = rows_at (content_of old) (first_below p)

  abbrev after : List (List Cell)
  after = rows_at (Some now.content) (first_below p)

  counted : (row : List Cell) → memory.was m row ≡ count_of row before
  counted = lookup_counted formed_fed (still p column attribute is kept)

  ends : (made : List RowDelta)
      → ((first : State) (old new : List (List Cell)) → IsChange first now touches → ((row : List Cell) → memory.was m row ≡ count_of row old) → IsDelta (counts old) (counts new) deltas
      → IsDelta (counts (map (with_attribute first.content column attribute) old)) (counts (map (with_attribute now.content column attribute) new)) made)
      → ((first : State) → IsChange first now touches → All IsBounded made) → memory.staged new ≡ counts_after deltas (memory.was m) → IsOwnDone old now p (map memory.staged (set own 0 new)) made
  ends made leads bounds holds =
      done_as memory.key_columns memory.was memory.staged old now p (formed p column attribute) (set own 0 new) (new ∷ []) made is (set_one new own long)
      (lookup_done formed_fed (still p column attribute is kept) made (memory.staged new)
      (leads (state_of old) before after fed.step.change counted fed.below.delta) holds (bounds (state_of old) fed.step.change))

  steps : ((first : State) (rows rows_now : List (List Cell)) → IsChange first now touches → ((row : List Cell) → memory.was m row ≡ count_of row rows) → IsDelta (counts rows) (counts rows_now) deltas
      → memory.step_count new ≤ memory.step_count m + length touches.nodes + length touches.rels + naming_rows touches column rows rows_now)
      → sum_by memory.step_count (set own 0 new) ≤ sum_by memory.step_count own + own_steps (rows_at (content_of old)) (rows_at (Some now.content)) touches p
  steps most =
      steps_of_one memory.step_count own (set own 0 new) m new (own_steps (rows_at (content_of old)) (rows_at (Some now.content)) touches p) (one_only d own long) (set_one new own long)
      (subst (λ n. memory.step_count new ≤ memory.step_count m + n) (ap (own_steps (rows_at (content_of old)) (rows_at (Some now.content)) touches) (sym is))
      (let m = most (state_of old) before after fed.step.change counted fed.below.delta in omega (arith, m)))

  reads : (first last : ℕ) → last ≤ first + length deltas + length touches.nodes + length touches.rels
      → last ≤ first + own_reads (rows_at (content_of old)) (rows_at (Some now.content)) touches p
  reads first last most =
      subst (λ n. last ≤ first + n) (ap (own_reads (rows_at (content_of old)) (rows_at (Some now.content)) touches) (sym is))
      (let long = deltas_long old now (first_below p) deltas fed.below in omega (arith, most, long))

pub offset_bounds-0 : goal.offset_bounds-0
offset_bounds-0 g c =
    let own = c.args.own.now in
    let p = plan_of c.args.look_up.now.part.now in
    let column = c.args.look_up.now.asked.column in
    let attribute = c.args.look_up.now.asked.attribute.now in
    let long = one_kept g.M.Memory.key_columns own p column attribute c.requires.is c.requires.kept c.requires.begun.1.own.keyed in
    omega (arith, long)

pub bounds-own-0 : goal.bounds-own-0
bounds-own-0 g c =
    let own = c.args.own.now in
    let p = plan_of c.args.look_up.now.part.now in
    let column = c.args.look_up.now.asked.column in
    let attribute = c.args.look_up.now.asked.attribute.now in
    let long = one_kept g.M.Memory.key_columns own p column attribute c.requires.is c.requires.kept c.requires.begun.1.own.keyed in
    omega (arith, long)

pub lookup-requires : goal.lookup-requires
lookup-requires g c =
    let own = c.args.own.now in
    let p = plan_of c.args.look_up.now.part.now in
    let column = c.args.look_up.now.asked.column in
    let attribute = c.args.look_up.now.asked.attribute.now in
    let d = c.index-own-0.result in
    let fed = c.requires.begun.1 in
    let kept = still p column attribute c.requires.is c.requires.kept in
    let one = one_only d own (one_kept g.M.Memory.key_columns own p column attribute c.requires.is c.requires.kept fed.own.keyed) in
    let f = fed_rows_as g.M.Memory p (formed p column attribute) own (get_or own 0 d ∷ []) c.args.deltas.items c.requires.begun.0 c.args.sight.now.graph.now c.args.change.now c.requires.is one fed in
    record {
      columns = lookup_keyed f kept;
      held = lookup_leads f kept;
      settled = lookup_settled f kept;
      bounded = fed.below.bounded;
      within = lookup_within f kept;
    }

pub returns : goal.returns
returns g c =
    let own = c.args.own.now in
    let p = plan_of c.args.look_up.now.part.now in
    let column = c.args.look_up.now.asked.column in
    let attribute = c.args.look_up.now.asked.attribute.now in
    let deltas = c.args.deltas.items in
    let d = c.index-own-0.result in
    let new = c.lookup.new.memory in
    let now = c.args.sight.now.graph.now in
    let touches = c.args.change.now in
    let long = one_kept g.M.Memory.key_columns own p column attribute c.requires.is c.requires.kept c.requires.begun.1.own.keyed in
    let one = one_only d own long in
    let after_one = set_one new own long in
    record {
      done = λ old fed.
          ends g.M.Memory d own p column attribute deltas c.requires.is c.requires.kept new old now touches fed c.in_ok-made.made.items c.in_ok-made.ensures.delta c.in_ok-made.ensures.bounded c.in_ok-made.ensures.staged;
      too_many = tt;
      was = ap (map g.M.Memory.was) after_one ∙ ap (λ n. n ∷ []) c.lookup.ensures.was ∙ sym (ap (map g.M.Memory.was) one);
      columns = ap (map g.M.Memory.key_columns) after_one ∙ ap (λ n. n ∷ []) c.lookup.ensures.columns ∙ sym (ap (map g.M.Memory.key_columns) one);
      grows = grown_of_one g.M.Memory.step_count own (set own 0 new) (get_or own 0 d) new one after_one c.lookup.ensures.grows;
      graph = c.lookup.ensures.graph;
      steps = λ exact old fed.
          steps g.M.Memory d own p column attribute deltas c.requires.is c.requires.kept new old now touches fed (λ first rows rows_now change same leads. c.in_ok-made.ensures.steps first rows rows_now change same leads exact);
      reads = λ old fed.
          reads g.M.Memory d own p column attribute deltas c.requires.is c.requires.kept new old now touches fed c.args.sight.now.reads c.lookup.new.sight.reads c.lookup.ensures.reads;
    }

pub returns-in_err-made : goal.returns-in_err-made
returns-in_err-made g c =
    let own = c.args.own.now in
    let p = plan_of c.args.look_up.now.part.now in
    let column = c.args.look_up.now.asked.column in
    let attribute = c.args.look_up.now.asked.attribute.now in
    let d = c.index-own-0.result in
    let new = c.lookup.new.memory in
    let long = one_kept g.M.Memory.key_columns own p column attribute c.requires.is c.requires.kept c.requires.begun.1.own.keyed in
    let one = one_only d own long in
    let after_one = set_one new own long in
    record {
      done = IfOk-from_err c.from_residual.result _ c.from_residual.ensures.0;
      too_many = if_memory _ c.from_residual.result c.from_residual.ensures.1;
      was = ap (map g.M.Memory.was) after_one ∙ ap (λ n. n ∷ []) c.lookup.ensures.was ∙ sym (ap (map g.M.Memory.was) one);
      columns = ap (map g.M.Memory.key_columns) after_one ∙ ap (λ n. n ∷ []) c.lookup.ensures.columns ∙ sym (ap (map g.M.Memory.key_columns) one);
      grows = grown_of_one g.M.Memory.step_count own (set own 0 new) (get_or own 0 d) new one after_one c.lookup.ensures.grows;
      graph = c.lookup.ensures.graph;
      steps = IfOk-from_err c.from_residual.result _ c.from_residual.ensures.0;
      reads = IfOk-from_err c.from_residual.result _ c.from_residual.ensures.0;
    }
