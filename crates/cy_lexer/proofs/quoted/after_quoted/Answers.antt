use Rattle.std.proofs.Common.{ℕ, Err, ap, sym, ◌∙◌, arith, rules}
use Rattle.cy_lexer.specs.declared.faults.LexFault.TheVariants.{BadEscape}
use Rattle.cy_lexer.proofs.CharactersLemmas.{offset-chars}
use Rattle.cy_lexer.proofs.QuotedLemmas.{quoted_len-plain, quoted_len-step, quoted_len-bad_escape}
use Rattle.cy_lexer.proofs.quoted.after_quoted.Goals as goal

pub returns-in_default-character-clause-value : goal.returns-in_default-character-clause-value
returns-in_default-character-clause-value c =
    ap (λ (x : ℕ). Err (BadEscape x)) (sym (offset-chars c.args.total c.loop-first.rest.now c.loop-first.invariant.0))
    ∙ sym (quoted_len-bad_escape c.args.total c.args.unclosed c.args.quote c.in-Some.first _ _ c.in-Some.ensures.cases c.if-closes.ensures (sym c.in_default-character.ensures.value))
    ∙ c.loop-first.invariant.1

pub loop-first-init : goal.loop-first-init
loop-first-init c = (
  search rules,
  quoted_len-plain c.args.total c.args.unclosed c.args.quote _ _ c.after_run-rest.ensures.value,
  c.after_run-rest.ensures.shorter,
)

pub loop-first-preserved : goal.loop-first-preserved
loop-first-preserved c = (
  search rules,
  quoted_len-plain c.args.total c.args.unclosed c.args.quote _ _ c.after_run-rest-in-Some.ensures.value
      ∙ sym (quoted_len-step c.args.total c.args.unclosed c.args.quote c.in-Some.first _ _ _ _ c.in-Some.ensures.cases c.if-closes.ensures c.in-Some-character.ensures.value)
      ∙ c.loop-first.invariant.1,
  omega (arith, c.after_run-rest-in-Some.ensures.shorter, c.in-Some-character.ensures.shorter, c.in-Some.ensures.shorter, c.loop-first.invariant.2),
)
