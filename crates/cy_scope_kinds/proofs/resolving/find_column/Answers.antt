use Rattle.std.proofs.Common.{◌+◌, ◌<◌, ◌^◌, length, Option, Some, ℕ, ap, sym, ◌∙◌, arith}
use Rattle.std.specs.Option.{option_or, option_map}
use Rattle.cy_scope_kinds.specs.Scopes.{find_column}
use Rattle.cy_scope_kinds.proofs.ScopesLemmas.{columns_both}
use Rattle.cy_scope_kinds.proofs.resolving.find_column.Goals as goal

pub returns-in-Some : goal.returns-in-Some
returns-in-Some c =
    let rest = option_map (λ n. length c.args.front.now + n) (find_column c.args.back.now c.args.name.now) in
    sym (columns_both c.args.front.now c.args.back.now c.args.name.now ∙ ap (λ o. option_or o rest) (sym c.find_column.ensures.value ∙ c.in-Some.is))

pub overflow_add-result : goal.overflow_add-result
overflow_add-result c = let h : c.in-Some-find_column.column < 2 ^ 63 = c.in-Some-find_column.ensures.small in omega arith

pub returns-in-Some-find_column : goal.returns-in-Some-find_column
returns-in-Some-find_column c =
    let a = c.args.front.now in let b = c.args.back.now in let name = c.args.name.now in
    ap (λ (n : ℕ). Some (n + c.in-Some-find_column.column)) c.len.ensures.len
    ∙ ap (λ (o : Option ℕ). option_map (λ n. length a + n) o) (sym c.in-Some-find_column.is ∙ c.find_column-in-None.ensures.value)
    ∙ ap (λ (o : Option ℕ). option_or o (option_map (λ n. length a + n) (find_column b name))) (sym c.in-None.is ∙ c.find_column.ensures.value)
    ∙ sym (columns_both a b name)

pub returns-in-None-find_column : goal.returns-in-None-find_column
returns-in-None-find_column c =
    let a = c.args.front.now in let b = c.args.back.now in let name = c.args.name.now in
    ap (λ (o : Option ℕ). option_map (λ n. length a + n) o) (sym c.in-None-find_column.is ∙ c.find_column-in-None.ensures.value)
    ∙ ap (λ (o : Option ℕ). option_or o (option_map (λ n. length a + n) (find_column b name))) (sym c.in-None.is ∙ c.find_column.ensures.value)
    ∙ sym (columns_both a b name)
