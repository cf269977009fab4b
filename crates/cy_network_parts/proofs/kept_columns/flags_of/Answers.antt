use Rattle.std.proofs.Common.{◌≡◌, ℕ, ◌+◌, ◌<◌, ◌||◌, Bool, false, List, [], ◌∷◌, ◌++◌, Option, length, map, replicate, take, sym, ap, subst, ◌∙◌}
use Rattle.std.specs.Prelude.{is_some, slice_index_or}
use Rattle.std.proofs.lemmas.List.{get_or-replicate, length-replicate, map-append, take_all, take_more}
use Rattle.cy_planner_algebra.specs.declared.operators.Output as coded
use Rattle.cy_planner_algebra.specs.PlanModels.{output_of}
use Rattle.cy_network_sources.specs.Scans.{is_this, kept_at}
use Rattle.cy_network_relevance.specs.Lists.{column_alone}
use Rattle.cy_network_relevance.proofs.Rules.{alone_is}
use Rattle.cy_network_parts.proofs.Kept.{flags_are, kept_more}
use Rattle.cy_network_parts.proofs.kept_columns.flags_of.Goals as goal

-- at first no column is marked
none_kept : (number : ℕ) (flags : List Bool) → flags ≡ replicate number false → (k : ℕ) → k < number → slice_index_or flags k false ≡ is_some (kept_at k [])
none_kept number flags are k less = ap (λ (xs : List Bool). slice_index_or xs k false) are ∙ get_or-replicate number k false false less

-- one output more marks its column
next_kept : (outputs : List coded.Output) (i : ℕ) (o : coded.Output) → take (i + 1) outputs ≡ take i outputs ++ o ∷ [] → (before after : Bool) (k : ℕ) (column : Option ℕ) → column ≡ column_alone (output_of o)
    → before ≡ is_some (kept_at k (map output_of (take i outputs))) → after ≡ (before || is_this k column) → after ≡ is_some (kept_at k (map output_of (take (i + 1) outputs)))
next_kept outputs i o more before after k column is so_far marked =
    let first = map output_of (take i outputs) in
    marked ∙ ap (λ b. b || is_this k column) so_far
    ∙ ap (λ b. is_some (kept_at k first) || b) (ap (is_this k) is ∙ sym (alone_is k (output_of o)))
    ∙ sym (kept_more k first (output_of o))
    ∙ ap (λ os. is_some (kept_at k os)) (sym (ap (map output_of) more ∙ map-append output_of (take i outputs) (o ∷ [])))

pub loop-output-init : goal.loop-output-init
loop-output-init c =
    let are : c.in_ok-flags.flags.items ≡ replicate c.args.number false = c.in_ok-flags.ensures.items_if_clones_equal (λ y is. is) in
    record { long = ap length are ∙ length-replicate c.args.number false; kept = λ k less. none_kept c.args.number c.in_ok-flags.flags.items are k less }

pub loop-output-preserved : goal.loop-output-preserved
loop-output-preserved c =
    let outputs = c.args.outputs.now in
    let i = c.loop-output.output-index in
    let x = c.output-item.result in
    record {
      long = c.mark.ensures.long ∙ c.loop-output.invariant.long;
      kept = λ k less.
          next_kept outputs i x (take_more outputs i x c.loop-output-test.true ∙ ap (λ y. take i outputs ++ y ∷ []) (sym c.output-item.is)) (slice_index_or c.loop-output.flags.items k false) (slice_index_or c.mark.new.flags.items k false) k
          c.column_alone.result c.column_alone.ensures (c.loop-output.invariant.kept k less) (c.mark.ensures.marked k (subst (λ n. k < n) (sym c.loop-output.invariant.long) less));
    }

pub returns : goal.returns
returns c =
    flags_are c.args.number (map output_of c.args.outputs.now) c.loop-output.flags.items c.loop-output.invariant.long
    (λ k less. c.loop-output.invariant.kept k less ∙ ap (λ os. is_some (kept_at k (map output_of os))) (take_all c.loop-output.output-index c.args.outputs.now c.loop-output-test.false))
