-- What expressions ask, one after another.
use Rattle.std.proofs.Common.{◌≡◌, ℕ, ◌+◌, ◌<◌, List, [], ◌∷◌, ◌++◌, length, get_or, drop, refl, sym, ap, ◌∙◌}
use Rattle.std.specs.Prelude.{Option, None, Some}
use Rattle.std.proofs.lemmas.List.{drop_more}
use Rattle.cy_trees.specs.Trees.{Expression, unary, binary, comparison, list, case, call, Expressions, no_more, more, Links, no_links, link, Arms, no_arms, arm, Otherwise, nothing, otherwise}
use Rattle.cy_scope_kinds.specs.declared.functions.Function.{Function}
use Rattle.cy_scope_kinds.specs.declared.functions.Function.TheVariants as function
use Rattle.cy_scope_kinds.specs.Functions.{function_named}
use Rattle.cy_planner_rows.specs.declared.places.Wanted.{Wanted}
use Rattle.cy_planner_rows.specs.internal.Asked.{added, all_asked, asked, asked_by_arms, asked_by_call, asked_by_else, asked_by_links, with_arms, with_asked, with_call, with_elements, with_else, with_links, with_tree}

pub with_more_asked : (wanted asked others : List Wanted) → with_asked wanted (asked ++ others) ≡ with_asked (with_asked wanted asked) others
with_more_asked wanted [] others = refl
with_more_asked wanted (w ∷ asked) others = with_more_asked (added wanted w) asked others

call_is : (wanted : List Wanted) (f : Option Function) (es : Expressions) (made : List Wanted) (each : List Wanted) → made ≡ with_asked wanted each
    → with_call wanted f es made ≡ with_asked wanted (asked_by_call f es each)
call_is wanted (Some function.Labels) es made each is = refl
call_is wanted (Some function.Type) es made each is = refl
call_is wanted None es made each is = is
call_is wanted (Some f) es made each is = is

mutual
  pub tree_is : (wanted : List Wanted) (e : Expression) → with_tree wanted e ≡ with_asked wanted (asked e)
  tree_is wanted (unary operator e) = tree_is wanted e
  tree_is wanted (binary operator a b) = ap (λ w. with_tree w b) (tree_is wanted a) ∙ tree_is (with_asked wanted (asked a)) b ∙ sym (with_more_asked wanted (asked a) (asked b))
  tree_is wanted (comparison e links) =
      ap (λ w. with_links w links) (tree_is wanted e) ∙ links_are (with_asked wanted (asked e)) links ∙ sym (with_more_asked wanted (asked e) (asked_by_links links))
  tree_is wanted (list es) = elements_are wanted es
  tree_is wanted (case arms e) =
      ap (λ w. with_else w e) (arms_are wanted arms) ∙ else_is (with_asked wanted (asked_by_arms arms)) e ∙ sym (with_more_asked wanted (asked_by_arms arms) (asked_by_else e))
  tree_is wanted (call name distinct es) = call_is wanted (function_named name) es (with_elements wanted es) (all_asked es) (elements_are wanted es)
  tree_is wanted _ = refl

  elements_are : (wanted : List Wanted) (es : Expressions) → with_elements wanted es ≡ with_asked wanted (all_asked es)
  elements_are wanted no_more = refl
  elements_are wanted (more e es) =
      ap (λ w. with_elements w es) (tree_is wanted e) ∙ elements_are (with_asked wanted (asked e)) es ∙ sym (with_more_asked wanted (asked e) (all_asked es))

  links_are : (wanted : List Wanted) (links : Links) → with_links wanted links ≡ with_asked wanted (asked_by_links links)
  links_are wanted no_links = refl
  links_are wanted (link by e links) =
      ap (λ w. with_links w links) (tree_is wanted e) ∙ links_are (with_asked wanted (asked e)) links ∙ sym (with_more_asked wanted (asked e) (asked_by_links links))

  arms_are : (wanted : List Wanted) (arms : Arms) → with_arms wanted arms ≡ with_asked wanted (asked_by_arms arms)
  arms_are wanted no_arms = refl
  arms_are wanted (arm condition outcome arms) =
      ap (λ w. with_arms (with_tree w outcome) arms) (tree_is wanted condition)
      ∙ ap (λ w. with_arms w arms) (tree_is (with_asked wanted (asked condition)) outcome ∙ sym (with_more_asked wanted (asked condition) (asked outcome)))
      ∙ arms_are (with_asked wanted (asked condition ++ asked outcome)) arms
      ∙ sym (with_more_asked wanted (asked condition ++ asked outcome) (asked_by_arms arms))

  else_is : (wanted : List Wanted) (e : Otherwise) → with_else wanted e ≡ with_asked wanted (asked_by_else e)
  else_is wanted nothing = refl
  else_is wanted (otherwise e) = tree_is wanted e

-- what is left of a list begins with the element at the index
pub next_of : {X : Type 0} (xs : List X) (i : ℕ) (x : X) → i < length xs → x ≡ get_or xs i x → drop i xs ≡ x ∷ drop (i + 1) xs
next_of xs i x less is = drop_more xs i x less ∙ ap (λ y. y ∷ drop (i + 1) xs) (sym is)
