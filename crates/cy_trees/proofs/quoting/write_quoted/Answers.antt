use Rattle.std.proofs.Common.{rules, string_bytes, sym, ◌∙◌}
use Rattle.std.proofs.lemmas.Str.{IsUtf8-past_char}
use Rattle.std.specs.Prelude.{chars}
use Rattle.cy_trees.proofs.QuotingLemmas.{text_other, text_quote, text_end}
use Rattle.cy_trees.proofs.quoting.write_quoted.Goals as goal
use Rattle.cy_trees.proofs.quoting.write_quoted.Goals.{then-is_escaped+in_ok-push-2, else-is_escaped}

pub loop-character-preserved : goal.loop-character-preserved
loop-character-preserved c =
    let split = c.in-Some.ensures.steps.0 in
    let rest = c.next.new.self.rest.now in
    let before = c.loop-character.invariant.0 in
    let valid = c.loop-character.invariant.1 in
    elim c.if-is_escaped.branch [
      | then-is_escaped+in_ok-push-2 w ↦
          let is = text_quote _ _ _ rest c.in-Some.character valid split (sym c.is_escaped.ensures ∙ w.if-is_escaped.true) before in
          (search (rules, is), IsUtf8-past_char _ rest c.in-Some.character valid split)
      | else-is_escaped w ↦
          let is = text_other _ _ _ rest c.in-Some.character valid split (sym c.is_escaped.ensures ∙ w.if-is_escaped.false) before in
          (search (rules, is), IsUtf8-past_char _ rest c.in-Some.character valid split)
    ]

pub returns : goal.returns
returns c =
    let text = c.loop-character.text in
    let rest = c.loop-character.character-iterator.rest.now in
    let is = text_end (string_bytes text) (string_bytes c.args.text.now) (chars c.args.quoted.now) rest c.in-None.ensures.steps.0.0 c.loop-character.invariant.0 in
    search (rules, is)
