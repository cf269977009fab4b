use Rattle.std.proofs.Common.{rules}
use Rattle.std.proofs.lemmas.Str.{chars_from_encodes}
use Rattle.cy_expr.proofs.lists.size.Goals as goal

-- as many were counted as the text has characters
pub returns-in-Value-Text : goal.returns-in-Value-Text
returns-in-Value-Text c = search (rules, chars_from_encodes)
