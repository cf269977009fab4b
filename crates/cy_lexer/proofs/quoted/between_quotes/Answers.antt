use Rattle.std.proofs.Common.{sym, rules}
use Rattle.cy_lexer.proofs.QuotedLemmas.{written-step, written-all, unquoted-closed, unquoted-bad_escape, unquoted-nil}
use Rattle.cy_lexer.proofs.quoted.between_quotes.Goals.{in-Some-split_first+then-closes, in-Some-split_first+else-closes+in_default-character, in_default-split_first}
use Rattle.cy_lexer.proofs.quoted.between_quotes.Goals as goal

pub returns-clause-value : goal.returns-clause-value
returns-clause-value c =
    written-all c.in-Some.quote _ _ _ _ _ c.in_ok-string.ensures.bytes c.in-Some.ensures.cases
    (elim c.match-split_first-2.branch [
      | in-Some-split_first+then-closes w ↦ unquoted-closed c.in-Some.quote w.in-Some-split_first.first _ _ w.in-Some-split_first.ensures.cases w.if-closes.ensures
      | in-Some-split_first+else-closes+in_default-character w ↦ unquoted-bad_escape c.in-Some.quote w.in-Some-split_first.first _ _ w.in-Some-split_first.ensures.cases w.if-closes.ensures (sym w.in_default-character.ensures.value)
      | in_default-split_first w ↦ unquoted-nil c.in-Some.quote _ w.in_default-split_first.ensures.cases
    ])
    c.loop-first.invariant.1

pub loop-first-preserved : goal.loop-first-preserved
loop-first-preserved c = (
  search rules,
  written-step c.in-Some.quote c.in-Some-split_first.first c.in-Some-character.c _ _ _ _ _ _ c.in-Some-split_first.ensures.cases c.if-closes.ensures c.in-Some-character.ensures.value c.in_ok-push.ensures.bytes c.loop-first.invariant.1,
)
