-- Names in a scope, and their columns.
use Rattle.std.proofs.Common.{arith, ◌<◌, suc, is_some, if◌then◌else◌, append_assoc, ◌≡◌, ℕ, ◌+◌, Bool, true, false, cond, List, [], ◌∷◌, ◌++◌, length, Option, Some, None, Vec, vec_len, String, Global, string_bytes, refl, sym, ap, ◌∙◌}
use Rattle.std.proofs.lemmas.List.{map-append, length-map}
use Rattle.std.specs.List.{position_from}
use Rattle.std.specs.Prelude.{slice_get}
use Rattle.std.specs.Map.{lookup}
use Rattle.std.specs.Option.{option_or, option_map, option_and_then}
use Rattle.std.proofs.lemmas.Option.{none-some, same_Some, slice_get-map}
use Rattle.cy_scope_kinds.specs.declared.kinds.Kind.{Kind}
use Rattle.std.specs.Str.{bytes_eq}
use Rattle.cy_scope_kinds.specs.Scopes.{Scope, find_kind, find_column, is_bound, added_name}
use Rattle.cy_scope_kinds.specs.internal.Maps.{variable_of, variables_of}

module _ {A : Type 0} (test : A → Bool) where
  -- a place in two lists, one after the other
  pub position_both : (i : ℕ) (a b : List A) → position_from test i (a ++ b) ≡ option_or (position_from test i a) (position_from test (i + length a) b)
  position_both i [] b = ap (λ (n : ℕ). position_from test n b) (let e : i ≡ i + 0 = omega arith in e)
  position_both i (x ∷ a) b =
      elim (test x) as (λ t. cond t (Some i) (position_from test (i + 1) (a ++ b)) ≡ option_or (cond t (Some i) (position_from test (i + 1) a)) (position_from test (i + length (x ∷ a)) b)) [
        | true ↦ refl
        | false ↦ position_both (i + 1) a b ∙ ap (λ (n : ℕ). option_or (position_from test (i + 1) a) (position_from test n b)) (let e : i + 1 + length a ≡ i + length (x ∷ a) = omega arith in e)
      ]

  -- places counted from another number
  pub position_later : (i k : ℕ) (b : List A) → position_from test (k + i) b ≡ option_map (λ n. k + n) (position_from test i b)
  position_later i k [] = refl
  position_later i k (x ∷ b) =
      elim (test x) as (λ t. cond t (Some (k + i)) (position_from test (k + i + 1) b) ≡ option_map (λ n. k + n) (cond t (Some i) (position_from test (i + 1) b))) [
        | true ↦ refl
        | false ↦ ap (λ (n : ℕ). position_from test n b) (let e : k + i + 1 ≡ k + (i + 1) = omega arith in e) ∙ position_later (i + 1) k b
      ]

  -- a place is below the number that follows the last
  pub position_inside : (i : ℕ) (xs : List A) (n : ℕ) → position_from test i xs ≡ Some n → n < i + length xs
  position_inside i [] n = λ is. absurd (none-some n is)
  position_inside i (x ∷ xs) n =
      elim (test x) as (λ t. cond t (Some i) (position_from test (i + 1) xs) ≡ Some n → n < i + length (x ∷ xs)) [
        | true ↦ λ is. let here : i ≡ n = same_Some i n is in omega arith
        | false ↦ λ is. let later : n < i + 1 + length xs = position_inside (i + 1) xs n is in omega arith
      ]

-- a look-up in two scopes, one after the other
pub lookup_both : (test : List ℕ → Bool) (a b : List (List ℕ × Kind)) → lookup test (a ++ b) ≡ option_or (lookup test a) (lookup test b)
lookup_both test [] b = refl
lookup_both test (v ∷ vs) b =
    elim (test v.0) as (λ t. cond t (Some v.1) (lookup test (vs ++ b)) ≡ option_or (cond t (Some v.1) (lookup test vs)) (lookup test b)) [
      | true ↦ refl
      | false ↦ lookup_both test vs b
    ]

-- the kind in a column, if there is one
abbrev pub kind_at : Scope → Option ℕ → Option Kind
kind_at scope column = option_map (λ v. v.1) (option_and_then (slice_get scope) column)

behind : (v : List ℕ × Kind) (scope : Scope) (column : Option ℕ) → kind_at (v ∷ scope) (option_map (λ n. 1 + n) column) ≡ kind_at scope column
behind v scope None = refl
behind v scope (Some column) = ap (λ n. kind_at (v ∷ scope) (Some n)) (let e : 1 + column ≡ suc column = omega arith in e)

-- a name's kind is that in its column
pub kind_found : (scope : Scope) (name : List ℕ) → kind_at scope (find_column scope name) ≡ find_kind scope name
kind_found [] name = refl
kind_found (v ∷ scope) name =
    let test = λ (w : List ℕ × Kind). bytes_eq name w.0 in
    elim (bytes_eq name v.0) as (λ t. kind_at (v ∷ scope) (cond t (Some 0) (position_from test (0 + 1) scope)) ≡ cond t (Some v.1) (find_kind scope name)) [
      | true ↦ refl
      | false ↦ ap (kind_at (v ∷ scope)) (position_later test 0 1 scope) ∙ behind v scope (find_column scope name) ∙ kind_found scope name
    ]

kinds_same : (variable : Option (String Global × Kind)) → option_map (λ v. v.1) variable ≡ option_map (λ v. v.1) (option_map variable_of variable)
kinds_same None = refl
kinds_same (Some v) = refl

-- the same, where the column is looked up among the variables
pub kind_read : (variables : List (String Global × Kind)) (scope : Scope) (name : List ℕ) (column : ℕ) (variable : Option (String Global × Kind)) → variables_of variables ≡ scope → Some column ≡ find_column scope name →
    slice_get variables column ≡ variable → option_map (λ v. v.1) variable ≡ find_kind scope name
kind_read variables scope name column variable are at is =
    kinds_same variable
    ∙ ap (option_map (λ v. v.1)) (ap (option_map variable_of) (sym is) ∙ sym (slice_get-map variable_of variables column))
    ∙ ap (λ s. kind_at s (Some column)) are
    ∙ ap (kind_at scope) at
    ∙ kind_found scope name

-- a name without a kind has no column
pub column_unbound : (i : ℕ) (scope : Scope) (name : List ℕ) → is_bound scope name ≡ false → position_from (λ v. bytes_eq name v.0) i scope ≡ None
column_unbound i [] name = λ is. refl
column_unbound i (v ∷ scope) name =
    elim (bytes_eq name v.0) as (λ t. is_some (cond t (Some v.1) (find_kind scope name)) ≡ false → cond t (Some i) (position_from (λ w. bytes_eq name w.0) (i + 1) scope) ≡ None) [
      | true ↦ λ is. cc
      | false ↦ column_unbound (i + 1) scope name
    ]

pub variables_count : (variables : Vec (String Global × Kind) Global) → vec_len variables ≡ length (variables_of variables.items)
variables_count variables = variables.ok.0 ∙ sym (length-map variables.items variable_of)

-- a new variable goes last
pub pushed : (es : List (String Global × Kind)) (key : String Global) (kind : Kind) (name : List ℕ) → string_bytes key ≡ name →
    variables_of (es ++ (key, kind) ∷ []) ≡ variables_of es ++ (name, kind) ∷ []
pushed es key kind name is =
    map-append variable_of es ((key, kind) ∷ []) ∙ ap (λ (n : List ℕ). variables_of es ++ (n, kind) ∷ []) is

bound_both : (a b : Scope) (name : List ℕ) → is_bound (a ++ b) name ≡ is_some (option_or (find_kind a name) (find_kind b name))
bound_both a b name = ap is_some (lookup_both (bytes_eq name) a b)

there : (o p : Option Kind) → is_some o ≡ true → is_some (option_or o p) ≡ true
there None p h = cc
there (Some k) p h = refl

elsewhere : (o p : Option Kind) → is_some o ≡ false → is_some (option_or o p) ≡ is_some p
elsewhere None p h = refl
elsewhere (Some k) p h = cc

pub added_when : (scope : Scope) (kind : Kind) (name : List ℕ) (b : Bool) → is_bound scope name ≡ b →
    added_name scope kind name ≡ (if b then scope else scope ++ (name, kind) ∷ [])
added_when scope kind name b is = ap (λ t. if t then scope else scope ++ (name, kind) ∷ []) is

-- a name that is bound in the first scope is not added
pub added_seen : (a b : Scope) (kind : Kind) (name : List ℕ) → is_bound a name ≡ true → a ++ b ≡ added_name (a ++ b) kind name
added_seen a b kind name is =
    sym (added_when (a ++ b) kind name true (bound_both a b name ∙ there (find_kind a name) (find_kind b name) is))

-- another one is added to the second
pub added_fresh : (a b : Scope) (kind : Kind) (name : List ℕ) → is_bound a name ≡ false → a ++ added_name b kind name ≡ added_name (a ++ b) kind name
added_fresh a b kind name none =
    let same : is_bound (a ++ b) name ≡ is_bound b name = bound_both a b name ∙ elsewhere (find_kind a name) (find_kind b name) none in
    cases (is_bound b name) refl same
  where
    cases : (t : Bool) → is_bound b name ≡ t → is_bound (a ++ b) name ≡ is_bound b name → a ++ added_name b kind name ≡ added_name (a ++ b) kind name
    cases true is same = ap (λ s. a ++ s) (added_when b kind name true is) ∙ sym (added_when (a ++ b) kind name true (same ∙ is))
    cases false is same =
        ap (λ s. a ++ s) (added_when b kind name false is) ∙ sym (append_assoc a b ((name, kind) ∷ [])) ∙ sym (added_when (a ++ b) kind name false (same ∙ is))

-- the columns of the second scope come after those of the first
pub columns_both : (a b : Scope) (name : List ℕ) → find_column (a ++ b) name ≡ option_or (find_column a name) (option_map (λ n. length a + n) (find_column b name))
columns_both a b name =
    let test = λ (v : List ℕ × Kind). bytes_eq name v.0 in
    let from : 0 + length a ≡ length a + 0 = omega arith in
    position_both test 0 a b ∙ ap (λ (n : ℕ). option_or (find_column a name) (position_from test n b)) from
    ∙ ap (λ (o : Option ℕ). option_or (find_column a name) o) (position_later test 0 (length a) b)
