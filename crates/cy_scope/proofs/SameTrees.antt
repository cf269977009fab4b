-- Expressions of the same tree are the same but for the columns of their variables.
use Rattle.std.proofs.Common.{◌≡◌, ℕ, ℤ, Bool, true, false, ◌&&◌, List, [], ◌∷◌, refl, sym, ap, ◌∙◌}
use Rattle.std.specs.Str.{bytes_eq}
use Rattle.std.proofs.lemmas.Bool.{and_parts}
use Rattle.std.proofs.lemmas.Bool.Decides.{Decides-int_eq}
use Rattle.std.proofs.lemmas.Slice.Eq.{bytes_eq-Decides}
use Rattle.cy_trees.specs.declared.expressions.UnaryOperator.{UnaryOperator}
use Rattle.cy_trees.specs.declared.expressions.UnaryOperator.TheVariants as unary_operator
use Rattle.cy_trees.specs.declared.expressions.BinaryOperator.{BinaryOperator}
use Rattle.cy_trees.specs.declared.expressions.BinaryOperator.TheVariants as binary_operator
use Rattle.cy_trees.specs.declared.expressions.Comparator.{Comparator}
use Rattle.cy_trees.specs.declared.expressions.Comparator.TheVariants as comparator
use Rattle.cy_trees.specs.Trees.{Name, Expression, null, boolean, integer, text, variable, property, has_labels, unary, binary, comparison, list, case, call, call_star, Expressions, no_more, more, Links, no_links, link, Arms, no_arms, arm, Otherwise, nothing, otherwise}
use Rattle.cy_scope_kinds.specs.Scopes.{Scope, find_column}
use Rattle.cy_scope_kinds.specs.ResolvedExpressions.{resolved, resolved_expressions, resolved_links, resolved_arms, resolved_otherwise}
use Rattle.cy_scope_kinds.specs.Same.{same, same_expressions, same_links, same_arms, same_otherwise, same_names, same_flags, same_unary, same_binary, same_comparator}

flags : (a b : Bool) → same_flags a b ≡ true → a ≡ b
flags true b is = sym is
flags false true is = cc
flags false false is = refl

unaries : (a b : UnaryOperator) → same_unary a b ≡ true → a ≡ b
unaries unary_operator.Not unary_operator.Not is = refl
unaries unary_operator.Plus unary_operator.Plus is = refl
unaries unary_operator.Minus unary_operator.Minus is = refl
unaries unary_operator.IsNull unary_operator.IsNull is = refl
unaries unary_operator.IsNotNull unary_operator.IsNotNull is = refl
unaries _ _ is = cc

binaries : (a b : BinaryOperator) → same_binary a b ≡ true → a ≡ b
binaries binary_operator.Or binary_operator.Or is = refl
binaries binary_operator.Xor binary_operator.Xor is = refl
binaries binary_operator.And binary_operator.And is = refl
binaries binary_operator.In binary_operator.In is = refl
binaries binary_operator.Contains binary_operator.Contains is = refl
binaries binary_operator.StartsWith binary_operator.StartsWith is = refl
binaries binary_operator.EndsWith binary_operator.EndsWith is = refl
binaries binary_operator.Add binary_operator.Add is = refl
binaries binary_operator.Subtract binary_operator.Subtract is = refl
binaries binary_operator.Multiply binary_operator.Multiply is = refl
binaries binary_operator.Divide binary_operator.Divide is = refl
binaries binary_operator.Remainder binary_operator.Remainder is = refl
binaries _ _ is = cc

comparators : (a b : Comparator) → same_comparator a b ≡ true → a ≡ b
comparators comparator.Equal comparator.Equal is = refl
comparators comparator.NotEqual comparator.NotEqual is = refl
comparators comparator.Less comparator.Less is = refl
comparators comparator.LessOrEqual comparator.LessOrEqual is = refl
comparators comparator.Greater comparator.Greater is = refl
comparators comparator.GreaterOrEqual comparator.GreaterOrEqual is = refl
comparators _ _ is = cc

texts : (a b : List ℕ) → bytes_eq a b ≡ true → a ≡ b
texts a b is = (bytes_eq-Decides a b).0 is

names : (a b : List Name) → same_names a b ≡ true → a ≡ b
names [] [] is = refl
names (a ∷ ns) (b ∷ ms) is =
    let (here, others) = and_parts (bytes_eq a b) (same_names ns ms) is in
    ap (λ (n : Name). n ∷ ns) (texts a b here) ∙ ap (λ (ls : List Name). b ∷ ls) (names ns ms others)
names _ _ is = cc

module _ (scope : Scope) where
  mutual
    -- they are the same where their variables have their columns
    pub same_resolved : (a b : Expression) → same a b ≡ true → resolved scope a ≡ resolved scope b
    same_resolved null null is = refl
    same_resolved (boolean a) (boolean b) is = ap (λ t. boolean t) (flags a b is)
    same_resolved (integer a) (integer b) is = ap (λ (n : ℤ). integer n) ((Decides-int_eq a b).0 is)
    same_resolved (text a) (text b) is = ap (λ (t : Name). text t) (texts a b is)
    same_resolved (variable a) (variable b) is = ap (λ (n : Name). variable (record { name = n; column = find_column scope n })) (texts a.name b.name is)
    same_resolved (property a key) (property b other) is =
        let (owners, keys) = and_parts (same a b) (bytes_eq key other) is in
        ap (λ (e : Expression). property e key) (same_resolved a b owners) ∙ ap (λ (k : Name). property (resolved scope b) k) (texts key other keys)
    same_resolved (has_labels a labels) (has_labels b others) is =
        let (owners, each) = and_parts (same a b) (same_names labels others) is in
        ap (λ (e : Expression). has_labels e labels) (same_resolved a b owners) ∙ ap (λ (ls : List Name). has_labels (resolved scope b) ls) (names labels others each)
    same_resolved (unary by a) (unary other b) is =
        let (operators, operands) = and_parts (same_unary by other) (same a b) is in
        ap (λ (o : UnaryOperator). unary o (resolved scope a)) (unaries by other operators) ∙ ap (λ (e : Expression). unary other e) (same_resolved a b operands)
    same_resolved (binary by a c) (binary other b d) is =
        let (former, right) = and_parts (same_binary by other && same a b) (same c d) is in
        let (operators, left) = and_parts (same_binary by other) (same a b) former in
        ap (λ (o : BinaryOperator). binary o (resolved scope a) (resolved scope c)) (binaries by other operators)
        ∙ ap (λ (e : Expression). binary other e (resolved scope c)) (same_resolved a b left)
        ∙ ap (λ (e : Expression). binary other (resolved scope b) e) (same_resolved c d right)
    same_resolved (comparison a links) (comparison b others) is =
        let (left, right) = and_parts (same a b) (same_links links others) is in
        ap (λ (e : Expression). comparison e (resolved_links scope links)) (same_resolved a b left)
        ∙ ap (λ (ls : Links). comparison (resolved scope b) ls) (same_resolved_links links others right)
    same_resolved (list es) (list others) is = ap (λ (fs : Expressions). list fs) (same_resolved_expressions es others is)
    same_resolved (case arms e) (case others f) is =
        let (left, right) = and_parts (same_arms arms others) (same_otherwise e f) is in
        ap (λ (ws : Arms). case ws (resolved_otherwise scope e)) (same_resolved_arms arms others left)
        ∙ ap (λ (o : Otherwise). case (resolved_arms scope others) o) (same_resolved_otherwise e f right)
    same_resolved (call name distinct es) (call other also others) is =
        let (former, each) = and_parts (bytes_eq name other && same_flags distinct also) (same_expressions es others) is in
        let (functions, marks) = and_parts (bytes_eq name other) (same_flags distinct also) former in
        ap (λ (n : Name). call n distinct (resolved_expressions scope es)) (texts name other functions)
        ∙ ap (λ t. call other t (resolved_expressions scope es)) (flags distinct also marks)
        ∙ ap (λ (fs : Expressions). call other also fs) (same_resolved_expressions es others each)
    same_resolved (call_star name) (call_star other) is = ap (λ (n : Name). call_star n) (texts name other is)
    same_resolved _ _ is = cc

    same_resolved_expressions : (es others : Expressions) → same_expressions es others ≡ true → resolved_expressions scope es ≡ resolved_expressions scope others
    same_resolved_expressions no_more no_more is = refl
    same_resolved_expressions (more a es) (more b others) is =
        let (here, each) = and_parts (same a b) (same_expressions es others) is in
        ap (λ (e : Expression). more e (resolved_expressions scope es)) (same_resolved a b here)
        ∙ ap (λ (fs : Expressions). more (resolved scope b) fs) (same_resolved_expressions es others each)
    same_resolved_expressions _ _ is = cc

    same_resolved_links : (links others : Links) → same_links links others ≡ true → resolved_links scope links ≡ resolved_links scope others
    same_resolved_links no_links no_links is = refl
    same_resolved_links (link by a links) (link other b others) is =
        let (former, each) = and_parts (same_comparator by other && same a b) (same_links links others) is in
        let (operators, operands) = and_parts (same_comparator by other) (same a b) former in
        ap (λ (o : Comparator). link o (resolved scope a) (resolved_links scope links)) (comparators by other operators)
        ∙ ap (λ (e : Expression). link other e (resolved_links scope links)) (same_resolved a b operands)
        ∙ ap (λ (ls : Links). link other (resolved scope b) ls) (same_resolved_links links others each)
    same_resolved_links _ _ is = cc

    same_resolved_arms : (arms others : Arms) → same_arms arms others ≡ true → resolved_arms scope arms ≡ resolved_arms scope others
    same_resolved_arms no_arms no_arms is = refl
    same_resolved_arms (arm a c arms) (arm b d others) is =
        let (former, each) = and_parts (same a b && same c d) (same_arms arms others) is in
        let (conditions, outcomes) = and_parts (same a b) (same c d) former in
        ap (λ (e : Expression). arm e (resolved scope c) (resolved_arms scope arms)) (same_resolved a b conditions)
        ∙ ap (λ (e : Expression). arm (resolved scope b) e (resolved_arms scope arms)) (same_resolved c d outcomes)
        ∙ ap (λ (ws : Arms). arm (resolved scope b) (resolved scope d) ws) (same_resolved_arms arms others each)
    same_resolved_arms _ _ is = cc

    same_resolved_otherwise : (e f : Otherwise) → same_otherwise e f ≡ true → resolved_otherwise scope e ≡ resolved_otherwise scope f
    same_resolved_otherwise nothing nothing is = refl
    same_resolved_otherwise (otherwise a) (otherwise b) is = ap (λ (e : Expression). otherwise e) (same_resolved a b is)
    same_resolved_otherwise _ _ is = cc
