use Rattle.std.proofs.Common.{◌≡◌, ℕ, true, ◌&&◌, List, Some, map, ap, sym, ◌∙◌, nat_eq}
use Rattle.std.specs.Cmp.Lexicographic.{pointwise}
use Rattle.cy_values.specs.declared.scalars.Scalar.TheVariants as scalar
use Rattle.cy_values.specs.declared.scalars.Value.TheVariants as value
use Rattle.cy_graph.proofs.Same.{same_lists, same_label}
use Rattle.cy_network_sources.specs.Attributes.{node_attribute}
use Rattle.cy_network_sources.proofs.alike.node_has_same.Goals as goal

pub returns-in-Labels : goal.returns-in-Labels
returns-in-Labels c = λ yes.
    let old = c.args.old.now in
    let new = c.args.new.now in
    let labels : old.labels ≡ new.labels = same_lists (λ x y. pointwise nat_eq x.0 y.0 && true) same_label old.labels new.labels (sym c.eq.ensures ∙ yes) in
    ap (λ a. node_attribute a (Some old)) c.in-Labels.is
    ∙ ap (λ (ls : List (List ℕ × Unit {0})). value.List (map (λ l. scalar.Text l) (map (λ l. l.0) ls))) labels
    ∙ sym (ap (λ a. node_attribute a (Some new)) c.in-Labels.is)
