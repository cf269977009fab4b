use Rattle.std.proofs.Common.{◌≤◌, ◌^◌, ◌+◌, ◌-◌, sym, ◌∙◌, arith, rules, lit<}
use Rattle.std.proofs.Math.Nat.{pow-le-pow_right}
use Rattle.std.proofs.lemmas.Grind.{pow_more}
use Rattle.cy_lexer.proofs.CharactersLemmas.{drop-past}
use Rattle.cy_lexer.proofs.QuotedLemmas.{hexadecimal-step}
use Rattle.cy_lexer.proofs.quoted.coded_escape.Goals as goal

pub overflow_mul-code : goal.overflow_mul-code
overflow_mul-code c =
    let bound : 16 ^ c.loop.counter ≤ 16 ^ 7 = pow-le-pow_right (lit< tt) {j = 7} (omega arith) in
    omega arith

pub overflow_add-code : goal.overflow_add-code
overflow_add-code c =
    let bound : 16 ^ c.loop.counter ≤ 16 ^ 7 = pow-le-pow_right (lit< tt) {j = 7} (omega arith) in
    omega (arith, c.in_ok-code.ensures.value)

pub loop-preserved : goal.loop-preserved
loop-preserved c =
    let value = c.in_ok-code.ensures.value in (
      search rules,
      sym (hexadecimal-step c.loop.code (c.args.digits - c.loop.counter) (c.args.digits - (c.loop.counter + 1)) c.in_ok-first.first c.in_ok-code.field-0 _ _ c.in_ok-first.ensures.cases (omega arith) value.1 (omega (arith, value))) ∙ c.loop.invariant.1,
      drop-past c.loop.counter _ _ _ c.in_ok-first.first c.in_ok-first.ensures.cases c.loop.invariant.2,
      (let more = pow_more 16 c.loop.counter in omega (arith, value)),
      omega (arith, c.in_ok-first.ensures.shorter, c.loop.invariant.4),
    )
