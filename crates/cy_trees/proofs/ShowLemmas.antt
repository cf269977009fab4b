-- Parts of the code's values as parts of trees.
use Rattle.cy_lexer.specs.declared.keywords.Keyword.TheVariants as keyword
use Rattle.std.proofs.Common.{◌≡◌, None, length, List, [], ◌∷◌, map, refl, ap}
use Rattle.cy_trees.specs.declared.clauses.MapEntry as coded_entry
use Rattle.cy_trees.specs.declared.clauses.Step as coded_step
use Rattle.cy_trees.specs.declared.clauses.Path as coded_path
use Rattle.cy_trees.specs.declared.clauses.Item as coded_item
use Rattle.cy_trees.specs.declared.clauses.Key as coded_key
use Rattle.cy_trees.specs.declared.clauses.SetItem as coded_set
use Rattle.cy_trees.specs.declared.clauses.RemoveItem as coded_remove
use Rattle.cy_trees.specs.declared.clauses.PathTest as coded_path_test
use Rattle.cy_trees.specs.declared.clauses.Query as coded_query
use Rattle.cy_trees.specs.declared.clauses.Clause as coded_clause
use Rattle.cy_trees.specs.Show.{order_pieces, list_pieces, says, space, entry_pieces, step_pieces, path_pieces, item_pieces, key_pieces, set_item_pieces, remove_item_pieces, path_test_pieces, conjuncts_pieces, where_pieces, clause_pieces, query_pieces}
use Rattle.cy_trees.specs.TreeModels.{entry_of, step_of, path_of, item_of, key_of, set_item_of, remove_item_of, path_test_of, clause_of, query_of}

fused : {A B C : Type 0} (f : B → C) (g : A → B) (xs : List A) → map (λ x. f (g x)) xs ≡ map f (map g xs)
fused f g [] = refl
fused f g (x ∷ xs) = ap (λ ys. f (g x) ∷ ys) (fused f g xs)

pub entries_fused : (xs : List coded_entry.MapEntry) → map (λ x. entry_pieces (entry_of x)) xs ≡ map entry_pieces (map entry_of xs)
entries_fused xs = fused entry_pieces entry_of xs

pub steps_fused : (xs : List coded_step.Step) → map (λ x. step_pieces (step_of x)) xs ≡ map step_pieces (map step_of xs)
steps_fused xs = fused step_pieces step_of xs

pub paths_fused : (xs : List coded_path.Path) → map (λ x. path_pieces (path_of x)) xs ≡ map path_pieces (map path_of xs)
paths_fused xs = fused path_pieces path_of xs

pub items_fused : (xs : List coded_item.Item) → map (λ x. item_pieces (item_of x)) xs ≡ map item_pieces (map item_of xs)
items_fused xs = fused item_pieces item_of xs

pub keys_fused : (xs : List coded_key.Key) → map (λ x. key_pieces (key_of x)) xs ≡ map key_pieces (map key_of xs)
keys_fused xs = fused key_pieces key_of xs

pub set_items_fused : (xs : List coded_set.SetItem) → map (λ x. set_item_pieces (set_item_of x)) xs ≡ map set_item_pieces (map set_item_of xs)
set_items_fused xs = fused set_item_pieces set_item_of xs

pub remove_items_fused : (xs : List coded_remove.RemoveItem) → map (λ x. remove_item_pieces (remove_item_of x)) xs ≡ map remove_item_pieces (map remove_item_of xs)
remove_items_fused xs = fused remove_item_pieces remove_item_of xs

pub path_tests_fused : (xs : List coded_path_test.PathTest) → map (λ x. path_test_pieces (path_test_of x)) xs ≡ map path_test_pieces (map path_test_of xs)
path_tests_fused xs = fused path_test_pieces path_test_of xs

pub queries_fused : (xs : List coded_query.Query) → map (λ x. query_pieces (query_of x)) xs ≡ map query_pieces (map query_of xs)
queries_fused xs = fused query_pieces query_of xs

pub clauses_fused : (xs : List coded_clause.Clause) → map (λ x. clause_pieces (clause_of x)) xs ≡ map clause_pieces (map clause_of xs)
clauses_fused xs = fused clause_pieces clause_of xs

pub order_some : (ks : List coded_key.Key) → (length ks ≡ 0 → ⊥) → order_pieces (map key_of ks) ≡ space ∷ says keyword.Order ∷ space ∷ says keyword.By ∷ space ∷ list_pieces (map key_pieces (map key_of ks))
order_some [] some = elim (some refl) [ ]
order_some (k ∷ ks) some = refl

pub where_some : (tests : List coded_path_test.PathTest) → (length tests ≡ 0 → ⊥) → where_pieces None (map path_test_of tests) ≡ space ∷ says keyword.Where ∷ space ∷ conjuncts_pieces None (map path_test_of tests)
where_some [] some = elim (some refl) [ ]
where_some (t ∷ tests) some = refl
