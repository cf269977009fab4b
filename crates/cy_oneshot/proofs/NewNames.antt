-- The names of columns, place by place and step by step.
use Rattle.std.proofs.Common.{◌≡◌, List, [], ◌∷◌, ◌++◌, refl, ap, ◌∙◌}
use Rattle.std.specs.Prelude.{Option, None, Some, flat_map, length, if◌then◌else◌}
use Rattle.cy_trees.specs.declared.clauses.Length.{Length}
use Rattle.cy_trees.specs.declared.expressions.Variable.{Variable}
use Rattle.cy_trees.specs.Trees.{Name, Path, RelationshipPattern, Step}
use Rattle.cy_oneshot_patterns.specs.Fits.{is_new}
use Rattle.cy_oneshot_patterns.specs.Places.{Place, link_place, path_places, places, step_places, variable_at}
use Rattle.cy_oneshot_meaning.specs.Queries.{name_of, with_new_names}
use Rattle.cy_oneshot.specs.internal.Names.{with_name, with_step_names, with_steps_names}

names_append : (columns : List Name) (ps qs : List Place) → with_new_names columns (ps ++ qs) ≡ with_new_names (with_new_names columns ps) qs
names_append columns [] qs = refl
names_append columns (p ∷ ps) qs = names_append (if is_new (length columns) p then columns ++ name_of (variable_at p) else columns) ps qs

link_variable : (r : RelationshipPattern) (l : Option Length) → variable_at (link_place r l) ≡ r.variable
link_variable r None = refl
link_variable r (Some l) = refl

step_names : (columns : List Name) (s : Step) → with_new_names columns (step_places s) ≡ with_step_names columns s
step_names columns s = ap (λ (v : Option Variable). with_name (with_name columns v) s.node.variable) (link_variable s.relationship s.relationship.length)

steps_names : (columns : List Name) (steps : List Step) → with_new_names columns (flat_map step_places steps) ≡ with_steps_names columns steps
steps_names columns [] = refl
steps_names columns (s ∷ steps) =
    names_append columns (step_places s) (flat_map step_places steps)
    ∙ ap (λ (l : List Name). with_new_names l (flat_map step_places steps)) (step_names columns s)
    ∙ steps_names (with_step_names columns s) steps

-- the names of a path, and then those of the others
pub path_names : (columns : List Name) (p : Path) (ps : List Path)
    → with_new_names columns (places (p ∷ ps)) ≡ with_new_names (with_steps_names (with_name columns p.start.variable) p.steps) (places ps)
path_names columns p ps =
    names_append columns (path_places p) (places ps) ∙ ap (λ (l : List Name). with_new_names l (places ps)) (steps_names (with_name columns p.start.variable) p.steps)
