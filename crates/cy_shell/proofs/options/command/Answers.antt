use Rattle.std.proofs.Common.{◌≡◌, ◌∙◌, rules, ap, ap₂, subst, codes, ℤ, Option, Some}
use Rattle.std.specs.Prelude.{pos}
use Rattle.std.proofs.lemmas.Result.{IfOk-weaker}
use Rattle.clap.specs.Simple.{app_of_fields, new_app, new_rule}
use Rattle.clap.specs.Values.{NarrowsTo}
use Rattle.clap.specs.Words.{Rule, app_of, rule_of, with_rule}
use Rattle.clap.specs.declared.builder.ValueParser.{ValueParser}
use Rattle.clap.specs.declared.builder.ValueParser.TheVariants.{Unsigned}
use Rattle.cy_shell.specs.Options.{feed_option, history_option}
use Rattle.cy_shell.proofs.options.command.Goals as goal

narrowed : (from made : ValueParser) (low high : ℤ) → from ≡ Unsigned 0 18446744073709551615 → low ≡ pos 1 → high ≡ pos 4096
    → NarrowsTo from (Some low) (Some high) made → made ≡ Unsigned 1 4096
narrowed from made low high whole e f h =
    let first : NarrowsTo (Unsigned 0 18446744073709551615) (Some low) (Some high) made = subst (λ q. NarrowsTo q (Some low) (Some high) made) whole h in
    let second : NarrowsTo (Unsigned 0 18446744073709551615) (Some (pos 1)) (Some high) made =
    subst (λ n. NarrowsTo (Unsigned 0 18446744073709551615) (Some n) (Some high) made) e first in
    subst (λ n. NarrowsTo (Unsigned 0 18446744073709551615) (Some (pos 1)) (Some n) made) f second

pub returns : goal.returns
returns c =
    let given = c.value_parser-2.ensures.given in
    let parser_is : given.0 ≡ Unsigned 1 4096 = given.2 ∙ narrowed c.value_parser.result c.range.result _ _ c.value_parser.ensures c.new-2.ensures.start c.new-2.ensures.end c.range.ensures in
    let text_is : rule_of c.value_name.result ≡ record (new_rule (codes "history")) { long = Some (codes "history"); value_names = 1 } = search rules in
    let history_is : rule_of c.help-history.result ≡ history_option = ap rule_of c.help-history.ensures
    ∙ (ap rule_of c.value_parser-2.ensures.others
    ∙ ap₂ (λ (r : Rule) (p : Option ValueParser). record r { parser = p }) text_is (given.1 ∙ ap Some parser_is)) in
    let feed_is : rule_of c.help-feed.result ≡ feed_option = search rules in
    let named_is : app_of c.about.result ≡ new_app (codes "cypher_live") = ap app_of_fields c.about.ensures ∙ c.new-4.ensures.app in
    let first_is : app_of c.in_ok-arg.field-0 ≡ with_rule (new_app (codes "cypher_live")) history_option =
    c.in_ok-arg.ensures.shape (search rules) ∙ ap₂ with_rule named_is history_is in
    IfOk-weaker c.arg-2.result _ _ (λ made added. added.shape (search rules) ∙ ap₂ with_rule first_is feed_is) c.arg-2.ensures
