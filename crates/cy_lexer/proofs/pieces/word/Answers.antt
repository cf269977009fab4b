use Rattle.std.proofs.Common.{◌≡◌, ℕ, suc, List, ◌∷◌, drop, take, Some, sym, ap, ◌∙◌}
use Rattle.std.specs.List.{prefix_len, take_while}
use Rattle.std.specs.Str.{chars, encode_utf8_all}
use Rattle.cy_lexer.specs.declared.characters.Run.TheVariants as run
use Rattle.cy_lexer.specs.declared.tokens.TokenKind.{TokenKind}
use Rattle.cy_lexer.specs.Characters.{goes_on}
use Rattle.cy_lexer.specs.Keywords.{keyword_of}
use Rattle.cy_lexer.specs.Tokens.{word_kind}
use Rattle.cy_lexer.proofs.CharactersLemmas.{suffix-boundary, take-suffix}
use Rattle.cy_lexer.proofs.PiecesLemmas.{word_kind-keyword, word_kind-name}
use Rattle.cy_lexer.proofs.pieces.word.Goals.{in-Some, in-None}
use Rattle.cy_lexer.proofs.pieces.word.Goals as goal

pub split_at-requires : goal.split_at-requires
split_at-requires c =
    let m = prefix_len (goes_on run.Name) (chars c.args.after.now) in
    suffix-boundary c.args.text.now c.after_run-left.result.now (suc m) c.utf8.text c.after_run-left.utf8 (c.after_run-left.ensures.value ∙ ap (λ (x : List ℕ). drop (suc m) x) (sym c.requires.split.1))

pub returns-clause-value : goal.returns-clause-value
returns-clause-value c first split =
    let cs = chars c.args.after.now in
    let m = prefix_len (goes_on run.Name) cs in
    let word = first ∷ take_while (goes_on run.Name) cs in
    let bytes-are : c.split_at.result.0.now ≡ encode_utf8_all word =
    c.split_at.ensures.front ∙ take-suffix c.args.text.now c.after_run-left.result.now (suc m) c.utf8.text c.after_run-left.utf8 (c.after_run-left.ensures.value ∙ ap (λ (x : List ℕ). drop (suc m) x) (sym split)) ∙ ap (λ (x : List ℕ). encode_utf8_all (take (suc m) x)) split in
    let found = sym (ap (λ (x : List ℕ). keyword_of x) bytes-are) ∙ sym c.keyword_of.ensures in
    let kind-is : c.match-keyword_of.kind ≡ word_kind word =
    elim c.match-keyword_of.branch [
      | in-Some w ↦ w.kind-is ∙ sym (word_kind-keyword _ word (found ∙ w.in-Some.is))
      | in-None w ↦ w.kind-is ∙ sym (word_kind-name word (found ∙ w.in-None.is))
    ] in
    ap (λ (k : TokenKind). (Some k, chars c.after_run-left.result.now)) kind-is ∙ ap (λ (x : List ℕ). (Some (word_kind word), x)) c.after_run-left.ensures.value
