use Rattle.std.proofs.lemmas.Bool.Decides.{same_from_decides, Decides-eqb}
use Rattle.std.proofs.lemmas.Slice.Eq.{slice_eq-Decides}
use Rattle.std.proofs.Common.{refl}
use Rattle.cy_lexer.specs.Keywords.{same_word}
use Rattle.cy_lexer.proofs.keywords.is_same_word.Goals as goal

pub returns : goal.returns
returns c = same_from_decides c.eq_ignore_ascii_case.result (same_word c.args.one.now c.args.other.now) c.eq_ignore_ascii_case.ensures.test (slice_eq-Decides Decides-eqb _ _ _ refl)
