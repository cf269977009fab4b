-- Plans that are the same, are one.
use Rattle.std.proofs.Common.{◌≡◌, ℕ, zero, suc, true, false, ◌&&◌, ◌==◌, ◌<◌, List, [], ◌∷◌, drop, length, nat_eq, refl, sym, ap, ◌∙◌, arith}
use Rattle.std.specs.Str.{bytes_eq}
use Rattle.std.specs.Cmp.Lexicographic.{same_text}
use Rattle.std.proofs.lemmas.Bool.{eqb-true, false≢true, and_parts}
use Rattle.cy_trees.specs.Trees.{Name, variable}
use Rattle.cy_planner_algebra.specs.declared.operators.Attribute.{Attribute}
use Rattle.cy_planner_algebra.specs.declared.operators.Attribute.TheVariants as attribute
use Rattle.cy_planner_algebra.specs.declared.operators.KeyColumns.{KeyColumns}
use Rattle.cy_planner_algebra.specs.declared.operators.Orientation.{Orientation}
use Rattle.cy_planner_algebra.specs.declared.operators.Orientation.TheVariants as orientation
use Rattle.cy_planner_algebra.specs.Plans as plan
use Rattle.cy_planner_algebra.specs.Plans.{Output, Plan, computed}
use Rattle.cy_network_parts.specs.declared.held.Side.{Side}
use Rattle.cy_network_parts.specs.Shared.{columns_at}
use Rattle.cy_network_parts.specs.SameConditions.{same_condition}
use Rattle.cy_network_parts.specs.SamePlans.{most_deep, same_attribute, same_columns, same_keys, same_names, same_orientation, same_output, same_outputs, same_plan}
use Rattle.cy_network_parts.proofs.SameConditions.{condition_is, variable_is}

output_is : (o p : Output) → same_output o p ≡ true → o ≡ p
output_is (computed (variable v)) (computed (variable w)) same = ap (λ u. computed (variable u)) (variable_is v w same)
output_is _ _ same = absurd (false≢true same)

outputs_are : (os ps : List Output) → same_outputs os ps ≡ true → os ≡ ps
outputs_are [] [] same = refl
outputs_are [] (p ∷ ps) same = absurd (false≢true same)
outputs_are (o ∷ os) [] same = absurd (false≢true same)
outputs_are (o ∷ os) (p ∷ ps) same =
    let parts = and_parts (same_output o p) (same_outputs os ps) same in
    ap (λ q. q ∷ os) (output_is o p parts.0) ∙ ap (λ qs. p ∷ qs) (outputs_are os ps parts.1)

names_are : (names others : List Name) → same_names names others ≡ true → names ≡ others
names_are [] [] same = refl
names_are [] (b ∷ others) same = absurd (false≢true same)
names_are (a ∷ names) [] same = absurd (false≢true same)
names_are (a ∷ names) (b ∷ others) same =
    let parts = and_parts (bytes_eq a b) (same_names names others) same in
    ap (λ q. q ∷ names) (same_text a b (sym parts.0)) ∙ ap (λ qs. b ∷ qs) (names_are names others parts.1)

orientation_is : (a b : Orientation) → same_orientation a b ≡ true → a ≡ b
orientation_is orientation.Directed orientation.Directed same = refl
orientation_is orientation.Directed orientation.Either same = absurd (false≢true same)
orientation_is orientation.Either orientation.Directed same = absurd (false≢true same)
orientation_is orientation.Either orientation.Either same = refl

attribute_is : (a b : Attribute) → same_attribute a b ≡ true → a ≡ b
attribute_is (attribute.Property key) (attribute.Property other) same = ap attribute.Property (same_text key other (sym same))
attribute_is attribute.RelType attribute.RelType same = refl
attribute_is attribute.Labels attribute.Labels same = refl
attribute_is _ _ same = absurd (false≢true same)

key_is : (k l : KeyColumns) → (k.left == l.left && k.right == l.right) ≡ true → k ≡ l
key_is k l same =
    let parts = and_parts (k.left == l.left) (k.right == l.right) same in
    let left = eqb-true k.left l.left parts.0 in
    let right = eqb-true k.right l.right parts.1 in
    λ i. record { left = left i; right = right i }

keys_are : (ks ls : List KeyColumns) → same_keys ks ls ≡ true → ks ≡ ls
keys_are [] [] same = refl
keys_are [] (l ∷ ls) same = absurd (false≢true same)
keys_are (k ∷ ks) [] same = absurd (false≢true same)
keys_are (k ∷ ks) (l ∷ ls) same =
    let parts = and_parts (k.left == l.left && k.right == l.right) (same_keys ks ls) same in
    ap (λ m. m ∷ ks) (key_is k l parts.0) ∙ ap (λ ms. l ∷ ms) (keys_are ks ls parts.1)

-- plans that are the same
pub plan_is : (deep : ℕ) (p q : Plan) → same_plan deep p q ≡ true → p ≡ q
plan_is zero p q same = absurd (false≢true same)
plan_is (suc deep) plan.nodes plan.nodes same = refl
plan_is (suc deep) (plan.rels types way) (plan.rels others other) same =
    let parts = and_parts (same_names types others) (same_orientation way other) same in
    ap (λ xs. plan.rels xs way) (names_are types others parts.0) ∙ ap (plan.rels others) (orientation_is way other parts.1)
plan_is (suc deep) (plan.project p outputs) (plan.project q others) same =
    let parts = and_parts (same_plan deep p q) (same_outputs outputs others) same in
    ap (λ r. plan.project r outputs) (plan_is deep p q parts.0) ∙ ap (plan.project q) (outputs_are outputs others parts.1)
plan_is (suc deep) (plan.lookup p column attribute) (plan.lookup q other wanted) same =
    let parts = and_parts (same_plan deep p q && column == other) (same_attribute attribute wanted) same in
    let first = and_parts (same_plan deep p q) (column == other) parts.0 in
    ap (λ r. plan.lookup r column attribute) (plan_is deep p q first.0) ∙ ap (λ c. plan.lookup q c attribute) (eqb-true column other first.1) ∙ ap (plan.lookup q other) (attribute_is attribute wanted parts.1)
plan_is (suc deep) (plan.filter p test) (plan.filter q other) same =
    let parts = and_parts (same_plan deep p q) (same_condition most_deep test other) same in
    ap (λ r. plan.filter r test) (plan_is deep p q parts.0) ∙ ap (plan.filter q) (condition_is most_deep test other parts.1)
plan_is (suc deep) (plan.join left right keys) (plan.join first second others) same =
    let parts = and_parts (same_plan deep left first && same_plan deep right second) (same_keys keys others) same in
    let inputs = and_parts (same_plan deep left first) (same_plan deep right second) parts.0 in
    ap (λ r. plan.join r right keys) (plan_is deep left first inputs.0) ∙ ap (λ r. plan.join first r keys) (plan_is deep right second inputs.1) ∙ ap (plan.join first second) (keys_are keys others parts.1)
plan_is (suc deep) _ _ same = absurd (false≢true same)

-- no keys are left of others while some are left of these
pub sooner_unlike : (keys others : List KeyColumns) (i : ℕ) → i < length keys → length others ≡ 0 → same_keys (drop i keys) others ≡ false
sooner_unlike [] others i less none = absurd (omega (arith, less))
sooner_unlike (k ∷ keys) (o ∷ others) i less none = absurd (omega (arith, none))
sooner_unlike (k ∷ keys) [] zero less none = refl
sooner_unlike (k ∷ keys) [] (suc i) less none = sooner_unlike keys [] i (omega (arith, less)) none

-- columns that are the same
pub columns_are : (cs ds : List ℕ) → same_columns cs ds ≡ true → cs ≡ ds
columns_are [] [] same = refl
columns_are [] (d ∷ ds) same = absurd (false≢true same)
columns_are (c ∷ cs) [] same = absurd (false≢true same)
columns_are (c ∷ cs) (d ∷ ds) same =
    let parts = and_parts (nat_eq c d) (same_columns cs ds) same in
    ap (λ q. q ∷ cs) (eqb-true c d parts.0) ∙ ap (λ qs. d ∷ qs) (columns_are cs ds parts.1)

-- no columns are left of others while some are left of these
pub sooner_over : (side : Side) (keys others : List KeyColumns) (i : ℕ) → i < length keys → length others ≡ 0 → same_columns (columns_at side (drop i keys)) (columns_at side others) ≡ false
sooner_over side [] others i less none = absurd (omega (arith, less))
sooner_over side (k ∷ keys) (o ∷ others) i less none = absurd (omega (arith, none))
sooner_over side (k ∷ keys) [] zero less none = refl
sooner_over side (k ∷ keys) [] (suc i) less none = sooner_over side keys [] i (omega (arith, less)) none
