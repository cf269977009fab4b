use Rattle.std.proofs.Common.{ap, sym, ◌∙◌}
use Rattle.std.specs.Map.{lookup}
use Rattle.std.specs.Str.{bytes_eq}
use Rattle.std.specs.Option.{option_or}
use Rattle.cy_scope_kinds.proofs.ScopesLemmas.{lookup_both}
use Rattle.cy_scope_kinds.proofs.expression_checks.find_kind.Goals as goal

pub returns-in-Some : goal.returns-in-Some
returns-in-Some c =
    let test = bytes_eq c.args.name.now in
    sym (lookup_both test c.args.front.now c.args.back.now ∙ ap (λ o. option_or o (lookup test c.args.back.now)) (sym c.find_kind.ensures ∙ c.in-Some.is))

pub returns-in-None : goal.returns-in-None
returns-in-None c =
    let test = bytes_eq c.args.name.now in
    c.find_kind-in-None.ensures ∙ sym (lookup_both test c.args.front.now c.args.back.now ∙ ap (λ o. option_or o (lookup test c.args.back.now)) (sym c.find_kind.ensures ∙ c.in-None.is))
