-- An expression has the same tree as itself.
use Rattle.std.proofs.Common.{◌≡◌, ◌&&◌, ℕ, Bool, true, false, List, [], ◌∷◌, refl}
use Rattle.std.specs.Str.{bytes_eq}
use Rattle.std.proofs.lemmas.Bool.{and_from}
use Rattle.std.proofs.lemmas.Bool.Decides.{Decides-int_eq}
use Rattle.std.proofs.lemmas.Slice.Eq.{bytes_eq-Decides}
use Rattle.cy_trees.specs.declared.expressions.UnaryOperator.{UnaryOperator}
use Rattle.cy_trees.specs.declared.expressions.UnaryOperator.TheVariants as unary_operator
use Rattle.cy_trees.specs.declared.expressions.BinaryOperator.{BinaryOperator}
use Rattle.cy_trees.specs.declared.expressions.BinaryOperator.TheVariants as binary_operator
use Rattle.cy_trees.specs.declared.expressions.Comparator.{Comparator}
use Rattle.cy_trees.specs.declared.expressions.Comparator.TheVariants as comparator
use Rattle.cy_trees.specs.Trees.{Name, Expression, null, boolean, integer, text, variable, property, has_labels, unary, binary, comparison, list, case, call, call_star, Expressions, no_more, more, Links, no_links, link, Arms, no_arms, arm, Otherwise, nothing, otherwise}
use Rattle.cy_scope_kinds.specs.Same.{same, same_expressions, same_links, same_arms, same_otherwise, same_names, same_flags, same_unary, same_binary, same_comparator}

flag : (a : Bool) → same_flags a a ≡ true
flag true = refl
flag false = refl

unary_itself : (a : UnaryOperator) → same_unary a a ≡ true
unary_itself unary_operator.Not = refl
unary_itself _ = refl

binary_itself : (a : BinaryOperator) → same_binary a a ≡ true
binary_itself binary_operator.Or = refl
binary_itself _ = refl

comparator_itself : (a : Comparator) → same_comparator a a ≡ true
comparator_itself comparator.Equal = refl
comparator_itself _ = refl

text_itself : (a : List ℕ) → bytes_eq a a ≡ true
text_itself a = (bytes_eq-Decides a a).1 refl

names_itself : (names : List Name) → same_names names names ≡ true
names_itself [] = refl
names_itself (a ∷ names) = and_from (bytes_eq a a) (same_names names names) (text_itself a) (names_itself names)

mutual
  pub same_itself : (e : Expression) → same e e ≡ true
  same_itself null = refl
  same_itself (boolean a) = flag a
  same_itself (integer a) = (Decides-int_eq a a).1 refl
  same_itself (text a) = text_itself a
  same_itself (variable a) = text_itself a.name
  same_itself (property a key) = and_from (same a a) (bytes_eq key key) (same_itself a) (text_itself key)
  same_itself (has_labels a labels) = and_from (same a a) (same_names labels labels) (same_itself a) (names_itself labels)
  same_itself (unary by a) = and_from (same_unary by by) (same a a) (unary_itself by) (same_itself a)
  same_itself (binary by a b) =
      and_from (same_binary by by && same a a) (same b b) (and_from (same_binary by by) (same a a) (binary_itself by) (same_itself a)) (same_itself b)
  same_itself (comparison a links) = and_from (same a a) (same_links links links) (same_itself a) (links_itself links)
  same_itself (list es) = expressions_itself es
  same_itself (case arms e) = and_from (same_arms arms arms) (same_otherwise e e) (arms_itself arms) (otherwise_itself e)
  same_itself (call name distinct es) =
      and_from (bytes_eq name name && same_flags distinct distinct) (same_expressions es es)
      (and_from (bytes_eq name name) (same_flags distinct distinct) (text_itself name) (flag distinct)) (expressions_itself es)
  same_itself (call_star name) = text_itself name

  expressions_itself : (es : Expressions) → same_expressions es es ≡ true
  expressions_itself no_more = refl
  expressions_itself (more a es) = and_from (same a a) (same_expressions es es) (same_itself a) (expressions_itself es)

  links_itself : (links : Links) → same_links links links ≡ true
  links_itself no_links = refl
  links_itself (link by a links) =
      and_from (same_comparator by by && same a a) (same_links links links)
      (and_from (same_comparator by by) (same a a) (comparator_itself by) (same_itself a)) (links_itself links)

  arms_itself : (arms : Arms) → same_arms arms arms ≡ true
  arms_itself no_arms = refl
  arms_itself (arm a b arms) =
      and_from (same a a && same b b) (same_arms arms arms) (and_from (same a a) (same b b) (same_itself a) (same_itself b)) (arms_itself arms)

  otherwise_itself : (e : Otherwise) → same_otherwise e e ≡ true
  otherwise_itself nothing = refl
  otherwise_itself (otherwise a) = same_itself a
