use Rattle.cy_parser_grammar.proofs.StatementsComplete.{statement-unique}
use Rattle.cy_parser_grammar.proofs.ShownAgain.{shown-itself}
use Rattle.cy_parser_grammar.proofs.laws.trees_and_texts.Goals as goal

pub returns-clause-one : goal.returns-clause-one
returns-clause-one c = λ line tokens statement other. statement-unique line statement other tokens

pub returns-clause-shown : goal.returns-clause-shown
returns-clause-shown c = λ statement line tokens utf8 neighbours spelt short. shown-itself statement line tokens utf8 neighbours spelt short
