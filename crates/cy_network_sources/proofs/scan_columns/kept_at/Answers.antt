use Rattle.std.proofs.Common.{◌≡◌, ℕ, ◌+◌, ◌<◌, true, false, cond, List, Option, Some, None, refl, sym, ap, ◌∙◌, suc, map, length, drop, get_or, arith}
use Rattle.std.specs.Option.{option_map}
use Rattle.std.proofs.lemmas.List.{at_drop_more, get_or-map, length-map}
use Rattle.cy_planner_algebra.specs.declared.operators.Output as coded_output
use Rattle.cy_planner_algebra.specs.Plans.{Output}
use Rattle.cy_planner_algebra.specs.PlanModels.{output_of}
use Rattle.cy_network_sources.specs.Scans.{is_column, kept_at}
use Rattle.cy_network_sources.proofs.scan_columns.kept_at.Goals as goal

module _ (column at : ℕ) (os : List Output) (d : Output) (within : at < length os) (whole : Option ℕ) (so_far : option_map (λ k. at + k) (kept_at column (drop at os)) ≡ whole) where
  opened : option_map (λ k. at + k) (cond (is_column column (get_or os at d)) (Some 0) (option_map suc (kept_at column (drop (at + 1) os)))) ≡ whole
  opened = sym (at_drop_more (λ xs. option_map (λ k. at + k) (kept_at column xs)) os at d within) ∙ so_far

  kept_here : is_column column (get_or os at d) ≡ true → Some at ≡ whole
  kept_here is =
      let nothing : at + 0 ≡ at = omega arith in
      ap Some (sym nothing) ∙ sym (ap (λ b. option_map (λ k. at + k) (cond b (Some 0) (option_map suc (kept_at column (drop (at + 1) os))))) is) ∙ opened

  kept_on : is_column column (get_or os at d) ≡ false → option_map (λ k. at + 1 + k) (kept_at column (drop (at + 1) os)) ≡ whole
  kept_on is = by (kept_at column (drop (at + 1) os)) ∙ sym (ap (λ b. option_map (λ k. at + k) (cond b (Some 0) (option_map suc (kept_at column (drop (at + 1) os))))) is) ∙ opened
    where
      by : (found : Option ℕ) → option_map (λ k. at + 1 + k) found ≡ option_map (λ k. at + k) (option_map suc found)
      by None = refl
      by (Some k) = let same : at + 1 + k ≡ at + suc k = omega arith in ap Some same

element : (outputs : List coded_output.Output) (at : ℕ) (x : coded_output.Output) → at < length outputs → x ≡ get_or outputs at x → output_of x ≡ get_or (map output_of outputs) at (output_of x)
element outputs at x within is = ap output_of is ∙ sym (get_or-map output_of outputs at x (output_of x) within)

longer : (outputs : List coded_output.Output) (at : ℕ) → at < length outputs → at < length (map output_of outputs)
longer outputs at within = let same = length-map outputs output_of in omega (arith, within, same)

pub returns-then-is_column : goal.returns-then-is_column
returns-then-is_column c =
    let x = c.index-outputs-at.result in
    let within : c.loop-at.at < length c.args.outputs.now = omega arith in
    kept_here c.args.column c.loop-at.at (map output_of c.args.outputs.now) (output_of x) (longer c.args.outputs.now c.loop-at.at within) _ c.loop-at.invariant
    (ap (is_column c.args.column) (sym (element c.args.outputs.now c.loop-at.at x within c.index-outputs-at.is)) ∙ sym c.is_column.ensures ∙ c.if-is_column.true)

pub loop-at-preserved : goal.loop-at-preserved
loop-at-preserved c =
    let x = c.index-outputs-at.result in
    let within : c.loop-at.at < length c.args.outputs.now = omega arith in
    kept_on c.args.column c.loop-at.at (map output_of c.args.outputs.now) (output_of x) (longer c.args.outputs.now c.loop-at.at within) _ c.loop-at.invariant
    (ap (is_column c.args.column) (sym (element c.args.outputs.now c.loop-at.at x within c.index-outputs-at.is)) ∙ sym c.is_column.ensures ∙ c.if-is_column.false)
