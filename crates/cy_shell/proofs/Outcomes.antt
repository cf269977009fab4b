-- What holds whatever the outcome, or whatever the error.
use Rattle.std.specs.Prelude.{◌≡◌, Result, Ok, Err, OnErr}
use Rattle.std.proofs.Common.{◌∙◌}

pub on_err : {T E : Type 0} (r : Result T E) {P : Type 0} → P → OnErr r P
on_err (Ok x) p = tt
on_err (Err e) p = p
