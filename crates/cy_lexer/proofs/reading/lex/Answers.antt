use Rattle.std.proofs.Common.{arith, refl, rules, sym}
use Rattle.std.specs.Str.{IsUtf8}
use Rattle.std.proofs.lemmas.Result.{err_from_is_err_and}
use Rattle.cy_lexer.proofs.TokensLemmas.{IsRead-token, IsRead-gap, IsRead-all, IsRead-spans, IsRead-slices, IsRead-fault, IsRead-some, is_fault, tokens_of-long}
use Rattle.cy_lexer.proofs.GapsLemmas.{tokens_of-leaves_gaps}
use Rattle.cy_lexer.proofs.reading.lex.Goals as goal

pub loop-first-preserved-in_ok-push_token : goal.loop-first-preserved-in_ok-push_token
loop-first-preserved-in_ok-push_token c =
    let text : IsUtf8 c.in_ok-kind.left.now = search rules in (
      text,
      IsRead-token c.args.line.now c.loop-first.rest.now c.in_ok-kind.left.now c.in-Some.first _ c.in_ok-kind.kind c.in-Some-kind.kind c.loop-first.tokens.items _ c.loop-first.invariant.0 text c.in-Some.ensures.cases c.in_ok-kind.ensures.value c.in-Some-kind.is (omega (arith, c.in_ok-kind.ensures.shorter, c.in-Some.ensures.shorter)) c.in_ok-push_token.ensures.ok c.loop-first.invariant.1,
    )

pub loop-first-preserved : goal.loop-first-preserved
loop-first-preserved c =
    let text : IsUtf8 c.in_ok-kind.left.now = search rules in (
      text,
      IsRead-gap c.args.line.now c.loop-first.rest.now c.in_ok-kind.left.now c.in-Some.first _ c.in_ok-kind.kind c.loop-first.tokens.items c.loop-first.invariant.0 text c.in-Some.ensures.cases c.in_ok-kind.ensures.value c.in_default-kind.is (omega (arith, c.in_ok-kind.ensures.shorter, c.in-Some.ensures.shorter)) c.loop-first.invariant.1,
    )

pub returns-then-line-gt-LONGEST_LINE-clause-fault : goal.returns-then-line-gt-LONGEST_LINE-clause-fault
returns-then-line-gt-LONGEST_LINE-clause-fault c _ = tokens_of-long c.args.line.now c.if-line-gt-LONGEST_LINE.true

pub returns-in_err-kind-clause-fault : goal.returns-in_err-kind-clause-fault
returns-in_err-kind-clause-fault c =
    let bad = IsRead-fault c.args.line.now c.loop-first.rest.now c.loop-first.tokens.items c.in-Some.first _ c.in_err-kind.field-0.0 c.utf8.line c.if-line-gt-LONGEST_LINE.false c.loop-first.invariant.1 c.in-Some.ensures.cases (sym c.in_err-kind.ensures.value) in
    let returned = err_from_is_err_and c.from_residual.result c.from_residual.ensures.1 in
    rw (returned.1, returned.2) (λ _. bad)

pub returns-clause-tokens : goal.returns-clause-tokens
returns-clause-tokens c =
    IsRead-all c.args.line.now c.loop-first.rest.now c.loop-first.tokens.items c.utf8.line c.if-line-gt-LONGEST_LINE.false c.loop-first.invariant.1 c.in_default.ensures.cases

pub returns-clause-gaps : goal.returns-clause-gaps
returns-clause-gaps c =
    tokens_of-leaves_gaps c.args.line.now c.loop-first.tokens.items c.utf8.line c.if-line-gt-LONGEST_LINE.false (IsRead-all c.args.line.now c.loop-first.rest.now c.loop-first.tokens.items c.utf8.line c.if-line-gt-LONGEST_LINE.false c.loop-first.invariant.1 c.in_default.ensures.cases)

pub returns-clause-spans : goal.returns-clause-spans
returns-clause-spans c = IsRead-spans c.args.line.now c.loop-first.rest.now c.loop-first.tokens.items c.loop-first.invariant.1

pub returns-clause-slices : goal.returns-clause-slices
returns-clause-slices c = IsRead-slices c.args.line.now c.loop-first.rest.now c.loop-first.tokens.items c.loop-first.invariant.1

pub returns-in_err-kind-clause-memory : goal.returns-in_err-kind-clause-memory
returns-in_err-kind-clause-memory c =
    let bad = IsRead-fault c.args.line.now c.loop-first.rest.now c.loop-first.tokens.items c.in-Some.first _ c.in_err-kind.field-0.0 c.utf8.line c.if-line-gt-LONGEST_LINE.false c.loop-first.invariant.1 c.in-Some.ensures.cases (sym c.in_err-kind.ensures.value) in
    let returned = err_from_is_err_and c.from_residual.result c.from_residual.ensures.1 in
    rw (returned.1, returned.2) (λ _ none. is_fault c.in_err-kind.field-0.0 c.args.line.now bad none)

pub returns-in_err-push_token-clause-memory : goal.returns-in_err-push_token-clause-memory
returns-in_err-push_token-clause-memory c =
    let text : IsUtf8 c.in_ok-kind.left.now = search rules in
    let read = IsRead-token c.args.line.now c.loop-first.rest.now c.in_ok-kind.left.now c.in-Some.first _ c.in_ok-kind.kind c.in-Some-kind.kind c.loop-first.tokens.items _ c.loop-first.invariant.0 text c.in-Some.ensures.cases c.in_ok-kind.ensures.value c.in-Some-kind.is (omega (arith, c.in_ok-kind.ensures.shorter, c.in-Some.ensures.shorter)) refl c.loop-first.invariant.1 in
    let returned = err_from_is_err_and c.from_residual-in_err-push_token.result c.from_residual-in_err-push_token.ensures.1 in
    rw (returned.1, returned.2) (λ _. IsRead-some c.args.line.now c.in_ok-kind.left.now c.loop-first.tokens.items _ c.utf8.line c.if-line-gt-LONGEST_LINE.false read)
