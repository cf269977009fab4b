use Rattle.std.proofs.Common.{◌≡◌, ℕ, suc, ◌-◌, List, ◌++◌, length, take, drop, sym, ◌∙◌, ap, add-one}
use Rattle.std.proofs.lemmas.List.{take_rest, drop-drop}
use Rattle.cy_shell.specs.internal.Lines.{buffered}
use Rattle.cy_shell.proofs.Outcomes.{on_err}
use Rattle.cy_shell.proofs.Progress.{served_first, served_more, served_broken, served_last_line, served_all}
use Rattle.cy_shell.proofs.Appends.{extends_same, extends_then}
use Rattle.cy_shell.proofs.session.Session.serve_piece.Goals as goal

behind : (rest next : List ℕ) (at : ℕ) → next ≡ drop at rest → take (length next - 1) (drop 1 next) ≡ drop (suc at) rest
behind rest next at is = take_rest next 1 ∙ ap (λ bytes. drop 1 bytes) is ∙ drop-drop 1 at rest ∙ ap (λ n. drop n rest) (add-one at)

pub returns-in_err-serve_line-clause-broken_off : goal.returns-in_err-serve_line-clause-broken_off
returns-in_err-serve_line-clause-broken_off g c =
    on_err c.from_residual.result (λ begun keeps.
    served_broken begun c.args.piece.now _ _ _ c.loop-end.rest.now c.in-Some.end _ _ _
    (c.loop-end.invariant.served begun keeps) (sym c.in-Some.ensures.first)
    (λ now is. c.in_err-serve_line.ensures.broken_off _ (c.append.ensures now is ∙ ap (λ line. buffered (now ++ line)) c.split_at.ensures.front)))

pub loop-end-init : goal.loop-end-init
loop-end-init g c = record {
  works = c.requires;
  handed = λ same. same;
  keeps = extends_same _;
  served = λ begun keeps. served_first begun c.args.piece.now _ _ _ keeps;
}

pub returns-in_err-serve_line-clause-keeps : goal.returns-in_err-serve_line-clause-keeps
returns-in_err-serve_line-clause-keeps g c = extends_then _ _ _ c.loop-end.invariant.keeps c.in_err-serve_line.ensures.keeps

pub loop-end-preserved : goal.loop-end-preserved
loop-end-preserved g c = record {
  works = c.in_ok-serve_line.ensures.works;
  handed = λ same. c.in_ok-serve_line.ensures.handed (c.loop-end.invariant.handed same);
  keeps = extends_then _ _ _ c.loop-end.invariant.keeps c.in_ok-serve_line.ensures.keeps;
  served = λ begun keeps.
      served_more begun c.args.piece.now _ _ _ _ _ c.loop-end.rest.now _ c.in-Some.end _ _ _
      (c.loop-end.invariant.served begun keeps) (sym c.in-Some.ensures.first)
      (behind c.loop-end.rest.now c.split_at.result.1.now c.in-Some.end c.split_at.ensures.back)
      (λ now is. c.in_ok-serve_line.ensures.served _ (c.append.ensures now is ∙ ap (λ line. buffered (now ++ line)) c.split_at.ensures.front))
      c.in_ok-serve_line.ensures.line;
}

pub returns-clause-line : goal.returns-clause-line
returns-clause-line g c = λ begun keeps.
    served_last_line begun c.args.piece.now _ _ _ _ c.loop-end.rest.now _ _ (c.loop-end.invariant.served begun keeps)
    (sym c.in_default.ensures.first) c.append-2.ensures

pub returns-clause-served : goal.returns-clause-served
returns-clause-served g c = λ begun keeps.
    served_all begun c.args.piece.now _ _ _ c.loop-end.rest.now _ _ (c.loop-end.invariant.served begun keeps) (sym c.in_default.ensures.first)

pub returns-clause-handed : goal.returns-clause-handed
returns-clause-handed g c = c.loop-end.invariant.handed

pub returns-clause-keeps : goal.returns-clause-keeps
returns-clause-keeps g c = c.loop-end.invariant.keeps
