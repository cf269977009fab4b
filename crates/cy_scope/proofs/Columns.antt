-- A variable that is bound has a column, also in a scope that has grown since.
use Rattle.std.proofs.Common.{arith, suc, is_some, if◌then◌else◌, ◌≡◌, ℕ, ◌+◌, Bool, true, false, cond, List, [], ◌∷◌, ◌++◌, length, Option, Some, None, refl, sym, ap, ◌∙◌}
use Rattle.std.specs.Prelude.{slice_get}
use Rattle.std.specs.List.{position_from}
use Rattle.std.specs.Map.{lookup}
use Rattle.std.specs.Option.{option_or, option_map}
use Rattle.std.specs.Str.{bytes_eq}
use Rattle.std.proofs.lemmas.Option.{none-some, same_Some}
use Rattle.std.proofs.lemmas.Slice.Eq.{bytes_eq-Decides}
use Rattle.cy_trees.specs.declared.expressions.Variable.{Variable}
use Rattle.cy_trees.specs.Trees.{Name, Step, Path}
use Rattle.cy_scope_kinds.specs.declared.kinds.Kind.{Kind}
use Rattle.cy_scope_kinds.specs.declared.kinds.Kind.TheVariants.{Node}
use Rattle.cy_scope_kinds.specs.Scopes.{Scope, find_kind, find_column, is_bound, added_name, added, relationship_kind, with_step, with_steps, with_path, with_paths}
use Rattle.cy_scope_kinds.proofs.ScopesLemmas.{lookup_both, columns_both}

-- the place of a name, counted from a number
abbrev pub IsFound : Name → Scope → Kind → ℕ → Type 0
IsFound name scope k i = (c : ℕ) × (position_from (λ v. bytes_eq name v.0) i scope ≡ Some (i + c)) × (slice_get scope c ≡ Some (name, k))

found_here : (name : Name) (v : Name × Kind) (vs : Scope) (k : Kind) (i : ℕ) → bytes_eq name v.0 ≡ true → v.1 ≡ k → IsFound name (v ∷ vs) k i
found_here name v vs k i is same =
    let named : name ≡ v.0 = (bytes_eq-Decides name v.0).0 is in (
      0,
      ap (λ t. cond t (Some i) (position_from (λ w. bytes_eq name w.0) (i + 1) vs)) is ∙ ap (λ (n : ℕ). Some n) (omega arith),
      ap (λ (n : Name). Some (n, v.1)) (sym named) ∙ ap (λ (l : Kind). Some (name, l)) same,
    )

found_later : (name : Name) (v : Name × Kind) (vs : Scope) (k : Kind) (i : ℕ) → bytes_eq name v.0 ≡ false → IsFound name vs k (i + 1) → IsFound name (v ∷ vs) k i
found_later name v vs k i is (c, place, there) =
    (suc c, ap (λ t. cond t (Some i) (position_from (λ w. bytes_eq name w.0) (i + 1) vs)) is ∙ place ∙ ap (λ (n : ℕ). Some n) (omega arith), there)

found_in : (name : Name) (v : Name × Kind) (vs : Scope) (k : Kind) (i : ℕ) → (find_kind vs name ≡ Some k → IsFound name vs k (i + 1))
    → find_kind (v ∷ vs) name ≡ Some k → IsFound name (v ∷ vs) k i
found_in name v vs k i others is = cases (bytes_eq name v.0) refl
  where
    cases : (t : Bool) → bytes_eq name v.0 ≡ t → IsFound name (v ∷ vs) k i
    cases true same = found_here name v vs k i same (same_Some v.1 k (sym (ap (λ t. cond t (Some v.1) (lookup (bytes_eq name) vs)) same) ∙ is))
    cases false same = found_later name v vs k i same (others (sym (ap (λ t. cond t (Some v.1) (lookup (bytes_eq name) vs)) same) ∙ is))

pub found : (name : Name) (scope : Scope) (k : Kind) (i : ℕ) → find_kind scope name ≡ Some k → IsFound name scope k i
found name [] k i is = absurd (none-some k is)
found name (v ∷ vs) k i is = found_in name v vs k i (found name vs k (i + 1)) is

-- what is bound in the first scope has in both the column that it has in the first
abbrev pub Reads : Scope → Scope → Type 0
Reads before after = (name : Name) (k : Kind) → find_kind before name ≡ Some k → (c : ℕ) × (find_column after name ≡ Some c) × (slice_get before c ≡ Some (name, k))

pub reads-same : (scope : Scope) → Reads scope scope
reads-same scope name k is =
    let (c, place, there) = found name scope k 0 is in
    (c, place ∙ ap (λ (n : ℕ). Some n) (omega arith), there)

-- what is bound in the first scope is of the same kind in the second
abbrev pub Keeps : Scope → Scope → Type 0
Keeps before after = (name : Name) (k : Kind) → find_kind before name ≡ Some k → find_kind after name ≡ Some k

pub keeps-same : (scope : Scope) → Keeps scope scope
keeps-same scope name k is = is

-- what holds of a scope, and still does with one variable more at its end, holds when names are added
abbrev Grows : (Scope → Type 0) → Type 0
Grows P = (after : Scope) (v : Name × Kind) → P after → P (after ++ v ∷ [])

module _ (P : Scope → Type 0) (more : Grows P) where
  name_added : (kind : Kind) (name : Name) (after : Scope) → P after → P (added_name after kind name)
  name_added kind name after holds = cases (is_bound after name)
    where
      cases : (t : Bool) → P (if t then after else after ++ (name, kind) ∷ [])
      cases true = holds
      cases false = more after (name, kind) holds

  variable_added : (kind : Kind) (v : Option Variable) (after : Scope) → P after → P (added after kind v)
  variable_added kind None after holds = holds
  variable_added kind (Some v) after holds = name_added kind v.name after holds

  step_added : (s : Step) (after : Scope) → P after → P (with_step after s)
  step_added s after holds =
      variable_added Node s.node.variable (added after (relationship_kind s.relationship.length) s.relationship.variable)
      (variable_added (relationship_kind s.relationship.length) s.relationship.variable after holds)

  steps_added : (steps : List Step) (after : Scope) → P after → P (with_steps after steps)
  steps_added [] after holds = holds
  steps_added (s ∷ steps) after holds = steps_added steps (with_step after s) (step_added s after holds)

  path_added : (p : Path) (after : Scope) → P after → P (with_path after p)
  path_added p after holds = steps_added p.steps (added after Node p.start.variable) (variable_added Node p.start.variable after holds)

  paths_added : (paths : List Path) (after : Scope) → P after → P (with_paths after paths)
  paths_added [] after holds = holds
  paths_added (p ∷ paths) after holds = paths_added paths (with_path after p) (path_added p after holds)

reads-more : (before : Scope) → Grows (Reads before)
reads-more before after v reads name k is =
    let (c, place, there) = reads name k is in
    (c, columns_both after (v ∷ []) name ∙ ap (λ (o : Option ℕ). option_or o (option_map (λ n. length after + n) (find_column (v ∷ []) name))) place, there)

keeps-more : (before : Scope) → Grows (Keeps before)
keeps-more before after v keeps name k is =
    lookup_both (bytes_eq name) after (v ∷ []) ∙ ap (λ (o : Option Kind). option_or o (find_kind (v ∷ []) name)) (keeps name k is)

pub reads-variable : (scope : Scope) (kind : Kind) (v : Option Variable) → Reads scope (added scope kind v)
reads-variable scope kind v = variable_added (Reads scope) (reads-more scope) kind v scope (reads-same scope)

pub reads-paths : (scope : Scope) (paths : List Path) → Reads scope (with_paths scope paths)
reads-paths scope paths = paths_added (Reads scope) (reads-more scope) paths scope (reads-same scope)

pub keeps-variable : (scope : Scope) (kind : Kind) (v : Option Variable) → Keeps scope (added scope kind v)
keeps-variable scope kind v = variable_added (Keeps scope) (keeps-more scope) kind v scope (keeps-same scope)

pub keeps-steps : (scope : Scope) (steps : List Step) → Keeps scope (with_steps scope steps)
keeps-steps scope steps = steps_added (Keeps scope) (keeps-more scope) steps scope (keeps-same scope)

pub keeps-paths : (scope : Scope) (paths : List Path) → Keeps scope (with_paths scope paths)
keeps-paths scope paths = paths_added (Keeps scope) (keeps-more scope) paths scope (keeps-same scope)

pub keeps-then : (a b c : Scope) → Keeps a b → Keeps b c → Keeps a c
keeps-then a b c former latter name k is = latter name k (former name k is)

-- a new name is found with its kind
pub added_here : (scope : Scope) (kind : Kind) (name : Name) → find_kind scope name ≡ None → find_kind (added_name scope kind name) name ≡ Some kind
added_here scope kind name none =
    ap (λ (o : Option Kind). find_kind (if is_some o then scope else scope ++ (name, kind) ∷ []) name) none
    ∙ lookup_both (bytes_eq name) scope ((name, kind) ∷ [])
    ∙ ap (λ (o : Option Kind). option_or o (find_kind ((name, kind) ∷ []) name)) none
    ∙ ap (λ t. cond t (Some kind) None) ((bytes_eq-Decides name name).1 refl)
