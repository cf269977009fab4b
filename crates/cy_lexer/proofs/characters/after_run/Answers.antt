use Rattle.std.proofs.Common.{◌≡◌, ◌<◌, ℕ, List, true, false, get_or, length, refl, sym, ap, ◌∙◌, arith}
use borrow.Author.Tests.{ltb-true}
use Rattle.std.specs.Char.{is_ascii}
use Rattle.std.specs.Str.{chars}
use Rattle.std.proofs.lemmas.Str.{IsCharBoundary-start, IsCharBoundary-after_ascii}
use Rattle.cy_lexer.specs.Characters.{goes_on}
use Rattle.cy_lexer.proofs.CharactersLemmas.{ascii_step, run_step, run_stop}
use Rattle.cy_lexer.proofs.characters.after_run.Goals as goal

pub loop-at-init : goal.loop-at-init
loop-at-init c = (omega arith, IsCharBoundary-start c.args.text.now c.utf8.text, refl)

pub loop-at-preserved : goal.loop-at-preserved
loop-at-preserved c =
    let bs = c.args.text.now in
    let i = c.loop-at.at in
    let same = c.as_bytes-bytes.ensures.value in
    let within : i < length bs = rw same at c.loop-at-test.true in
    let byte : is_ascii (get_or bs i 0) ≡ true = ap (λ (x : List ℕ). is_ascii (get_or x i 0)) (sym same) ∙ sym c.is_ascii.ensures ∙ c.if-is_ascii.true in
    let goes : goes_on c.args.run (get_or bs i 0) ≡ true = ap (λ (x : List ℕ). goes_on c.args.run (get_or x i 0)) (sym same) ∙ sym c.goes_on.ensures ∙ c.if-not-goes_on.false in
    let small = ltb-true (get_or bs i 0) 128 byte in (
      omega arith,
      IsCharBoundary-after_ascii bs i c.utf8.text within small,
      sym (run_step (goes_on c.args.run) (get_or bs i 0) _ _ (ascii_step bs i c.utf8.text c.loop-at.invariant.1 within small) goes) ∙ c.loop-at.invariant.2,
    )

pub returns-then-not-goes_on-clause-value : goal.returns-then-not-goes_on-clause-value
returns-then-not-goes_on-clause-value c =
    let bs = c.args.text.now in
    let i = c.loop-at.at in
    let same = c.as_bytes-bytes.ensures.value in
    let within : i < length bs = rw same at c.loop-at-test.true in
    let byte : is_ascii (get_or bs i 0) ≡ true = ap (λ (x : List ℕ). is_ascii (get_or x i 0)) (sym same) ∙ sym c.is_ascii.ensures ∙ c.if-is_ascii.true in
    let stops : goes_on c.args.run (get_or bs i 0) ≡ false = ap (λ (x : List ℕ). goes_on c.args.run (get_or x i 0)) (sym same) ∙ sym c.goes_on.ensures ∙ c.if-not-goes_on.true in
    let small = ltb-true (get_or bs i 0) 128 byte in
    ap chars c.split_at.ensures.back
    ∙ sym (run_stop (goes_on c.args.run) (get_or bs i 0) _ _ (ascii_step bs i c.utf8.text c.loop-at.invariant.1 within small) stops)
    ∙ c.loop-at.invariant.2
