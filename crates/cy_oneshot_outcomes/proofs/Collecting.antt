-- What is collected from left to right are the columns that are read.
use Rattle.std.proofs.Common.{◌≡◌, ℕ, List, [], ◌∷◌, ◌++◌, Option, refl, sym, ap, ◌∙◌, append_assoc}
use Rattle.std.proofs.lemmas.List.{append-nil}
use Rattle.cy_trees.specs.Trees.{Expression, variable, property, has_labels, unary, binary, comparison, list, case, call, Expressions, no_more, more, Links, no_links, link, Arms, no_arms, arm, Otherwise, nothing, otherwise}
use Rattle.cy_oneshot_outcomes.specs.Columns.{column_list, columns_read, columns_of_arms, columns_of_elements, columns_of_links, columns_of_otherwise}
use Rattle.cy_oneshot_outcomes.specs.internal.Collected.{with_arms, with_column, with_columns, with_elements, with_links, with_otherwise}

-- one part after another
both : (columns first second middle all : List ℕ) → middle ≡ columns ++ first → all ≡ middle ++ second → all ≡ columns ++ (first ++ second)
both columns first second middle all one two = two ∙ ap (λ (cs : List ℕ). cs ++ second) one ∙ append_assoc columns first second

one_more : (columns : List ℕ) (column : Option ℕ) → with_column columns column ≡ columns ++ column_list column
unfolding with_column
one_more columns column = refl

none : (columns : List ℕ) → columns ≡ columns ++ []
none columns = sym (append-nil columns)

mutual
  pub collected : (columns : List ℕ) (e : Expression) → with_columns columns e ≡ columns ++ columns_read e
  collected columns (variable v) = one_more columns v.column
  collected columns (property e key) = collected columns e
  collected columns (has_labels e labels) = collected columns e
  collected columns (unary operator e) = collected columns e
  collected columns (binary operator a b) = both columns (columns_read a) (columns_read b) _ _ (collected columns a) (collected (with_columns columns a) b)
  collected columns (comparison e links) = both columns (columns_read e) (columns_of_links links) _ _ (collected columns e) (of_links (with_columns columns e) links)
  collected columns (list es) = of_elements columns es
  collected columns (case arms e) = both columns (columns_of_arms arms) (columns_of_otherwise e) _ _ (of_arms columns arms) (of_otherwise (with_arms columns arms) e)
  collected columns (call name distinct es) = of_elements columns es
  collected columns _ = none columns

  of_elements : (columns : List ℕ) (es : Expressions) → with_elements columns es ≡ columns ++ columns_of_elements es
  of_elements columns no_more = none columns
  of_elements columns (more e es) = both columns (columns_read e) (columns_of_elements es) _ _ (collected columns e) (of_elements (with_columns columns e) es)

  of_links : (columns : List ℕ) (links : Links) → with_links columns links ≡ columns ++ columns_of_links links
  of_links columns no_links = none columns
  of_links columns (link comparator e links) = both columns (columns_read e) (columns_of_links links) _ _ (collected columns e) (of_links (with_columns columns e) links)

  of_arms : (columns : List ℕ) (arms : Arms) → with_arms columns arms ≡ columns ++ columns_of_arms arms
  of_arms columns no_arms = none columns
  of_arms columns (arm condition outcome arms) =
      both columns (columns_read condition) (columns_read outcome ++ columns_of_arms arms) _ _ (collected columns condition)
      (both (with_columns columns condition) (columns_read outcome) (columns_of_arms arms) _ _ (collected (with_columns columns condition) outcome) (of_arms (with_columns (with_columns columns condition) outcome) arms))

  of_otherwise : (columns : List ℕ) (e : Otherwise) → with_otherwise columns e ≡ columns ++ columns_of_otherwise e
  of_otherwise columns nothing = none columns
  of_otherwise columns (otherwise e) = collected columns e
