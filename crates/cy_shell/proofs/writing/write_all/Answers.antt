use Rattle.std.proofs.Common.{◌≤◌, ◌∙◌, ap, arith, length, take, drop, length-drop}
use Rattle.std.proofs.lemmas.List.{take_rest}
use Rattle.cy_shell.specs.Streams.{appended}
use Rattle.cy_shell.proofs.Appends.{appended-nil, appended_more, extends_same, extends_then, front_appended}
use Rattle.cy_shell.proofs.Outcomes.{on_err}
use Rattle.cy_shell.proofs.writing.write_all.Goals as goal

pub returns-in_err-at-clause-front : goal.returns-in_err-at-clause-front
returns-in_err-at-clause-front g c =
    on_err c.from_residual.result (front_appended _ _ c.args.bytes.now c.loop-at.at (c.in_err-at.ensures.moves_nothing ∙ c.loop-at.invariant.written))

pub loop-at-init : goal.loop-at-init
loop-at-init g c = record { within = omega arith; works = c.requires; keeps = extends_same _; written = appended-nil _ }

pub returns-in_err-at-clause-keeps : goal.returns-in_err-at-clause-keeps
returns-in_err-at-clause-keeps g c = extends_then _ _ _ c.loop-at.invariant.keeps c.in_err-at.ensures.keeps

pub returns-clause-keeps : goal.returns-clause-keeps
returns-clause-keeps g c = c.loop-at.invariant.keeps

pub loop-at-preserved : goal.loop-at-preserved
loop-at-preserved g c = record {
  within =
      let taken : c.in_ok-at.field-0 ≤ length (drop c.loop-at.at c.args.bytes.now) = rw take_rest at c.in_ok-at.ensures.within in
      omega (arith, taken, length-drop c.loop-at.at c.args.bytes.now);
  works = c.in_ok-at.ensures.works;
  keeps = extends_then _ _ _ c.loop-at.invariant.keeps c.in_ok-at.ensures.keeps;
  written =
      rw take_rest at c.in_ok-at.ensures.front
      ∙ ap (λ k. appended k (take c.in_ok-at.field-0 (drop c.loop-at.at c.args.bytes.now))) c.loop-at.invariant.written
      ∙ appended_more _ c.args.bytes.now c.loop-at.at c.in_ok-at.field-0;
}
