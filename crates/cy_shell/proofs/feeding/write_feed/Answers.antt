use Rattle.std.proofs.Common.{◌≡◌, ◌<◌, ◌+◌, ◌∷◌, ℕ, List, drop, length, get_or, suc, add-one, sym, ap, subst, ◌∙◌, arith}
use Rattle.std.proofs.Math.Seq.{drop-cons}
use Rattle.std.proofs.lemmas.List.{drop_all}
use Rattle.cy_bags.specs.declared.changes.Entry.{Entry}
use Rattle.cy_shell.specs.Streams.{appended}
use Rattle.cy_shell.specs.internal.Writing.{AppendsFront}
use Rattle.cy_shell.specs.internal.Printing.{printed_text}
use Rattle.cy_shell.proofs.Outcomes.{on_err}
use Rattle.cy_shell.proofs.Appends.{extends_same, extends_then}
use Rattle.cy_shell.proofs.Feeds.{fed_first, fed_more, fed_all, fed_begun}
use Rattle.cy_shell.proofs.feeding.write_feed.Goals as goal

-- the next entry, and those after it
next_entry : (entries : List (List ℕ × Entry)) (at : ℕ) (e : List ℕ × Entry) → e ≡ get_or entries at e → at < length entries → drop at entries ≡ e ∷ drop (at + 1) entries
next_entry entries at e is within = drop-cons entries at e within ∙ ap (λ f. f ∷ drop (suc at) entries) (sym is) ∙ ap (λ n. e ∷ drop n entries) (sym (add-one at))

pub returns-in_err-write_text-clause-begun : goal.returns-in_err-write_text-clause-begun
returns-in_err-write_text-clause-begun g c =
    let item = c.entry-item.result in
    on_err c.from_residual.result (fed_begun c.args.entries.now _ _ item _ _ _ _
    (next_entry c.args.entries.now c.loop-entry.entry-index item c.entry-item.is c.loop-entry-test.true)
    c.loop-entry.invariant.entry_texts c.print_entry-printed.ensures (subst (AppendsFront _ _) (c.bytes.ensures ∙ ap (printed_text c.print_entry-printed.result) c.as_slice.ensures.value) c.in_err-write_text.ensures.front))

pub loop-entry-init : goal.loop-entry-init
loop-entry-init g c = record { works = c.requires; handed = λ same. same; keeps = extends_same _; entry_texts = fed_first c.args.entries.now _ }

pub returns-in_err-write_text-clause-keeps : goal.returns-in_err-write_text-clause-keeps
returns-in_err-write_text-clause-keeps g c = extends_then _ _ _ c.loop-entry.invariant.keeps c.in_err-write_text.ensures.keeps

pub loop-entry-preserved : goal.loop-entry-preserved
loop-entry-preserved g c =
    let item = c.entry-item.result in
    record {
      works = c.in_ok-write_text.ensures.works;
      handed = λ same. c.in_ok-write_text.ensures.handed (c.loop-entry.invariant.handed same);
      keeps = extends_then _ _ _ c.loop-entry.invariant.keeps c.in_ok-write_text.ensures.keeps;
      entry_texts = fed_more c.args.entries.now _ _ item _ _ _ _
          (next_entry c.args.entries.now c.loop-entry.entry-index item c.entry-item.is c.loop-entry-test.true)
          c.loop-entry.invariant.entry_texts c.print_entry-printed.ensures (c.in_ok-write_text.ensures.written ∙ ap (appended _) (c.bytes.ensures ∙ ap (printed_text c.print_entry-printed.result) c.as_slice.ensures.value));
    }

pub returns-clause-written : goal.returns-clause-written
returns-clause-written g c =
    fed_all c.args.entries.now _ _ _ (drop_all c.loop-entry.entry-index c.args.entries.now (omega (arith, c.loop-entry-test.false))) c.loop-entry.invariant.entry_texts

pub returns-clause-handed : goal.returns-clause-handed
returns-clause-handed g c = c.loop-entry.invariant.handed

pub returns-clause-keeps : goal.returns-clause-keeps
returns-clause-keeps g c = c.loop-entry.invariant.keeps
