use Rattle.std.proofs.Common.{◌≡◌, subst, ap, ◌∙◌, [], length, arith}
use Rattle.std.proofs.lemmas.Bool.Decides.{nat_tests}
use Rattle.cy_parser_grammar.specs.SpellsClauses.{SpellsStatement}
use Rattle.cy_trees.specs.TreeModels.{statement_of}
use Rattle.cy_parser_grammar.proofs.SoundStatements.{statement-sound}
use Rattle.cy_parser_grammar.proofs.StatementsComplete.{statement-complete, statement-some}
use Rattle.cy_parser_grammar.proofs.ShownAgain.{shown-again}
use Rattle.cy_parser_grammar.specs.Shown.{with_columns}
use Rattle.cy_parser_grammar.proofs.Takes.{answers_one}
use Rattle.cy_parser.proofs.RefusalLemmas.{memory_alone}
use Rattle.cy_parser_grammar.specs.internal.Clauses.{statement as reads}
use Rattle.cy_parser.proofs.parsing.parse.Goals as goal

pub returns-in-Ok-clause-spelt : goal.returns-in-Ok-clause-spelt
returns-in-Ok-clause-spelt c =
    subst (λ z. SpellsStatement c.args.line.now (statement_of c.in-Ok.statement) z) c.new.ensures
    ((statement-sound c.args.line.now c.new.result).given _ _ c.in-Ok.ensures).0

pub returns-in-Ok-clause-complete : goal.returns-in-Ok-clause-complete
returns-in-Ok-clause-complete c = λ s spelt.
    answers_one (reads c.args.line.now c.new.result) (statement_of c.in-Ok.statement) s _ [] c.in-Ok.ensures
    (ap (reads c.args.line.now) c.new.ensures ∙ statement-complete c.args.line.now s c.args.tokens.now spelt)

pub returns-in-Err-clause-complete : goal.returns-in-Err-clause-complete
returns-in-Err-clause-complete c = λ s spelt.
    c.fault_of.ensures.memory (memory_alone c.in-Err.refusal (reads c.args.line.now c.new.result) (s, []) c.in-Err.ensures
    (ap (reads c.args.line.now) c.new.ensures ∙ statement-complete c.args.line.now s c.args.tokens.now spelt))

pub returns-in-Ok-clause-shown : goal.returns-in-Ok-clause-shown
returns-in-Ok-clause-shown c = λ s first spelling us utf8 of_first spelt short tokens of_line alike.
    returns-in-Ok-clause-complete c (with_columns s)
    (shown-again s first spelling c.args.line.now c.args.tokens.now us utf8 c.utf8.line of_first spelt of_line short tokens alike)

pub returns-in-Err-clause-shown : goal.returns-in-Err-clause-shown
returns-in-Err-clause-shown c = λ s first spelling us utf8 of_first spelt short tokens of_line alike.
    returns-in-Err-clause-complete c (with_columns s)
    (shown-again s first spelling c.args.line.now c.args.tokens.now us utf8 c.utf8.line of_first spelt of_line short tokens alike)

pub returns-then-is_empty-clause-shown : goal.returns-then-is_empty-clause-shown
returns-then-is_empty-clause-shown c = λ s first spelling us utf8 of_first spelt short tokens of_line alike.
    let none : length c.args.tokens.now ≡ 0 = grind (arith, nat_tests, c.is_empty.ensures, c.if-is_empty.ensures) in
    absurd (statement-some c.args.line.now (with_columns s) c.args.tokens.now
    (shown-again s first spelling c.args.line.now c.args.tokens.now us utf8 c.utf8.line of_first spelt of_line short tokens alike) none)

pub returns-then-is_empty-clause-complete : goal.returns-then-is_empty-clause-complete
returns-then-is_empty-clause-complete c = λ s spelt.
    let none : length c.args.tokens.now ≡ 0 = grind (arith, nat_tests, c.is_empty.ensures, c.if-is_empty.ensures) in
    absurd (statement-some c.args.line.now s c.args.tokens.now spelt none)
