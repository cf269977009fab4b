-- The words of an expression's tree, by which items are looked up: from the left one can tell where each part ends.
use Rattle.std.specs.Prelude.{ℕ, ℤ, pos, ◌+◌, Bool, List, [], ◌∷◌, ◌++◌, if◌then◌else◌, int_lt, unsigned_abs, is_some, IsTrue}
use Rattle.std.specs.List.{All}
use Rattle.std.specs.Map.{lookup}
use Rattle.std.specs.BTreeMap.{is_at}
use Rattle.std.specs.Cmp.Lexicographic.{slice_cmp}
use Rattle.std.specs.Ordering.{nat_cmp}
use Rattle.std.specs.declared.alloc.Global.{Global}
use Rattle.std.specs.declared.vec.Vec.{Vec}
use Rattle.cy_trees.specs.declared.expressions.UnaryOperator.{UnaryOperator}
use Rattle.cy_trees.specs.declared.expressions.UnaryOperator.TheVariants as unary_operator
use Rattle.cy_trees.specs.declared.expressions.BinaryOperator.{BinaryOperator}
use Rattle.cy_trees.specs.declared.expressions.BinaryOperator.TheVariants as binary_operator
use Rattle.cy_trees.specs.declared.expressions.Comparator.{Comparator}
use Rattle.cy_trees.specs.declared.expressions.Comparator.TheVariants as comparator
use Rattle.cy_trees.specs.Trees.{Name, Expression, null, boolean, integer, text, variable, property, has_labels, unary, binary, comparison, list, case, call, call_star, Expressions, no_more, more, Links, no_links, link, Arms, no_arms, arm, Otherwise, nothing, otherwise, Item}

-- with one word more
unfoldable pub with_word : List ℕ → ℕ → List ℕ
with_word words word = words ++ word ∷ []

-- the bytes, each as one more than it is, and 0 after the last
abbrev pub with_text : List ℕ → List ℕ → List ℕ
with_text words [] = with_word words 0
with_text words (byte ∷ bytes) = with_text (with_word words (byte + 1)) bytes

-- each name after a 1, and 0 after the last
abbrev pub with_names : List ℕ → List Name → List ℕ
with_names words [] = with_word words 0
with_names words (name ∷ names) = with_names (with_text (with_word words 1) name) names

abbrev pub unary_word : UnaryOperator → ℕ
unary_word unary_operator.Not = 0
unary_word unary_operator.Plus = 1
unary_word unary_operator.Minus = 2
unary_word unary_operator.IsNull = 3
unary_word unary_operator.IsNotNull = 4

abbrev pub binary_word : BinaryOperator → ℕ
binary_word binary_operator.Or = 0
binary_word binary_operator.Xor = 1
binary_word binary_operator.And = 2
binary_word binary_operator.In = 3
binary_word binary_operator.Contains = 4
binary_word binary_operator.StartsWith = 5
binary_word binary_operator.EndsWith = 6
binary_word binary_operator.Add = 7
binary_word binary_operator.Subtract = 8
binary_word binary_operator.Multiply = 9
binary_word binary_operator.Divide = 10
binary_word binary_operator.Remainder = 11

abbrev pub comparator_word : Comparator → ℕ
comparator_word comparator.Equal = 0
comparator_word comparator.NotEqual = 1
comparator_word comparator.Less = 2
comparator_word comparator.LessOrEqual = 3
comparator_word comparator.Greater = 4
comparator_word comparator.GreaterOrEqual = 5

-- of an expression's form
abbrev pub form_word : Expression → ℕ
form_word null = 0
form_word (boolean b) = 1
form_word (integer n) = 2
form_word (text t) = 3
form_word (variable v) = 4
form_word (property e key) = 5
form_word (has_labels e labels) = 6
form_word (unary operator e) = 7
form_word (binary operator a b) = 8
form_word (comparison e links) = 9
form_word (list es) = 10
form_word (case arms e) = 11
form_word (call name distinct es) = 12
form_word (call_star name) = 13

abbrev pub with_flag : List ℕ → Bool → List ℕ
with_flag words flag = with_word words (if flag then 1 else 0)

abbrev pub with_integer : List ℕ → ℤ → List ℕ
with_integer words n = with_word (with_flag words (int_lt n (pos 0))) (unsigned_abs n)

abbrev mutual
  -- the word of its form, and then its parts
  pub with_tree : List ℕ → Expression → List ℕ
  with_tree words null = with_word words 0
  with_tree words (boolean b) = with_flag (with_word words 1) b
  with_tree words (integer n) = with_integer (with_word words 2) n
  with_tree words (text t) = with_text (with_word words 3) t
  with_tree words (variable v) = with_text (with_word words 4) v.name
  with_tree words (property e key) = with_text (with_tree (with_word words 5) e) key
  with_tree words (has_labels e labels) = with_names (with_tree (with_word words 6) e) labels
  with_tree words (unary operator e) = with_tree (with_word (with_word words 7) (unary_word operator)) e
  with_tree words (binary operator a b) = with_tree (with_tree (with_word (with_word words 8) (binary_word operator)) a) b
  with_tree words (comparison e links) = with_links (with_tree (with_word words 9) e) links
  with_tree words (list es) = with_elements (with_word words 10) es
  with_tree words (case arms e) = with_otherwise (with_arms (with_word words 11) arms) e
  with_tree words (call name distinct es) = with_elements (with_flag (with_text (with_word words 12) name) distinct) es
  with_tree words (call_star name) = with_text (with_word words 13) name

  -- each element after a 1, and 0 after the last; so of links and of arms
  pub with_elements : List ℕ → Expressions → List ℕ
  with_elements words no_more = with_word words 0
  with_elements words (more e es) = with_elements (with_tree (with_word words 1) e) es

  pub with_links : List ℕ → Links → List ℕ
  with_links words no_links = with_word words 0
  with_links words (link by e links) = with_links (with_tree (with_word (with_word words 1) (comparator_word by)) e) links

  pub with_arms : List ℕ → Arms → List ℕ
  with_arms words no_arms = with_word words 0
  with_arms words (arm condition outcome arms) = with_arms (with_tree (with_tree (with_word words 1) condition) outcome) arms

  pub with_otherwise : List ℕ → Otherwise → List ℕ
  with_otherwise words nothing = with_word words 0
  with_otherwise words (otherwise e) = with_tree (with_word words 1) e

abbrev pub words_of : Expression → List ℕ
words_of e = with_tree [] e

-- the words of an item's tree are among the keys, and those of each item
abbrev pub HasPlace : List (Vec ℕ Global × ℕ) → Item → Type 0
HasPlace entries i = IsTrue (is_some (lookup (is_at (λ k. slice_cmp nat_cmp (words_of i.expression) k.items)) entries))

abbrev pub ArePlaced : List (Vec ℕ Global × ℕ) → List Item → Type 0
ArePlaced entries items = All (HasPlace entries) items
