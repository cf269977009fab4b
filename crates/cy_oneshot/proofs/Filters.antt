-- Filters that are lent.
use Rattle.std.proofs.Common.{◌≡◌, Bor, None, Some, refl, ap, ◌∙◌}
use Rattle.std.specs.Prelude.{Option, option_map}
use Rattle.std.specs.Option.{option_copied}
use Rattle.cy_trees.specs.declared.expressions.Expr.{Expr}
use Rattle.cy_trees.specs.TreeModels.{expression_of, filter_of}

lent : (r : Option (Bor Expr)) → option_map (λ e. expression_of e.now) r ≡ filter_of (option_copied r)
lent None = refl
lent (Some e) = refl

-- a filter that is lent
pub filter_lent : (r : Option (Bor Expr)) (o : Option Expr) → option_copied r ≡ o → option_map (λ e. expression_of e.now) r ≡ filter_of o
filter_lent r o is = lent r ∙ ap filter_of is
