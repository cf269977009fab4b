use Rattle.std.proofs.Common.{◌∙◌, ap, subst}
use Rattle.std.proofs.lemmas.Result.{on_ok_weaker, on_err_weaker}
use Rattle.cy_shell.specs.Streams.{appended}
use Rattle.cy_shell.specs.internal.Writing.{AppendsFront}
use Rattle.cy_shell.specs.internal.Printing.{printed_text}
use Rattle.cy_shell.proofs.Outcomes.{on_err}
use Rattle.cy_shell.proofs.Feeds.{line_served, line_begun, line_feeding}
use Rattle.cy_shell.proofs.Appends.{extends_then}
use Rattle.cy_shell.proofs.session.Session.serve_line.Goals as goal

-- the answer broke off
pub returns-in_err-write_text-clause-broken_off : goal.returns-in_err-write_text-clause-broken_off
returns-in_err-write_text-clause-broken_off g c =
    on_err c.from_residual.result (λ line keeps. line_begun _ line _ _ _ c.args.self.now.feed _ _ (c.print_answer-answered.ensures line keeps) (subst (AppendsFront _ _) (c.bytes.ensures ∙ ap (printed_text c.print_answer-answered.result.printed) c.as_slice.ensures.value) c.in_err-write_text.ensures.front))

pub returns-clause-served : goal.returns-clause-served
returns-clause-served g c =
    on_ok_weaker c.write_feed.result
    (λ written line keeps. line_served _ line _ _ _ c.args.self.now.feed _ _ _ (c.print_answer-answered.ensures line keeps)
    (c.in_ok-write_text.ensures.written ∙ ap (appended _) (c.bytes.ensures ∙ ap (printed_text c.print_answer-answered.result.printed) c.as_slice.ensures.value)) c.fed_entries-entries.result.now c.fed_entries-entries.ensures written)
    c.write_feed.ensures.written

-- the entries after it broke off
pub returns-clause-broken_off : goal.returns-clause-broken_off
returns-clause-broken_off g c =
    on_err_weaker c.write_feed.result
    (λ begun line keeps. line_feeding _ line _ _ _ c.args.self.now.feed _ _ _ (c.print_answer-answered.ensures line keeps)
    (c.in_ok-write_text.ensures.written ∙ ap (appended _) (c.bytes.ensures ∙ ap (printed_text c.print_answer-answered.result.printed) c.as_slice.ensures.value)) c.fed_entries-entries.result.now c.fed_entries-entries.ensures begun)
    c.write_feed.ensures.begun

pub returns-clause-handed : goal.returns-clause-handed
returns-clause-handed g c = on_ok_weaker c.write_feed.result (λ handed same. handed (c.in_ok-write_text.ensures.handed same)) c.write_feed.ensures.handed

pub returns-clause-keeps : goal.returns-clause-keeps
returns-clause-keeps g c = extends_then _ _ _ c.in_ok-write_text.ensures.keeps c.write_feed.ensures.keeps
