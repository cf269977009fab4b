use Rattle.std.proofs.Common.{rules, string_bytes}
use Rattle.std.proofs.lemmas.Str.{IsUtf8-past_char}
use Rattle.std.specs.Prelude.{chars}
use Rattle.cy_trees.proofs.QuotingLemmas.{name_other, name_backtick, name_end}
use Rattle.cy_trees.proofs.quoting.write_name.Goals as goal
use Rattle.cy_trees.proofs.quoting.write_name.Goals.{then-character-eq96+in_ok-push-2, else-character-eq96}

pub loop-character-preserved : goal.loop-character-preserved
loop-character-preserved c =
    let split = c.in-Some.ensures.steps.0 in
    let rest = c.next.new.self.rest.now in
    let before = c.loop-character.invariant.0 in
    let valid = c.loop-character.invariant.1 in
    elim c.if-character-eq96.branch [
      | then-character-eq96+in_ok-push-2 w ↦
          let is = name_backtick _ _ _ rest c.in-Some.character valid split w.if-character-eq96.true before in
          (search (rules, is), IsUtf8-past_char _ rest c.in-Some.character valid split)
      | else-character-eq96 w ↦
          let is = name_other _ _ _ rest c.in-Some.character valid split w.if-character-eq96.false before in
          (search (rules, is), IsUtf8-past_char _ rest c.in-Some.character valid split)
    ]

pub returns : goal.returns
returns c =
    let text = c.loop-character.text in
    let rest = c.loop-character.character-iterator.rest.now in
    let is = name_end (string_bytes text) (string_bytes c.args.text.now) (chars c.args.name.now) rest c.in-None.ensures.steps.0.0 c.loop-character.invariant.0 in
    search (rules, is)
