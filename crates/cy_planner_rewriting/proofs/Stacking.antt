-- Layers, and look-ups below them, over plans.
use Rattle.std.proofs.Common.{◌≡◌, Global, ℕ, ◌+◌, ◌≤◌, List, [], ◌∷◌, ◌++◌, Vec, length, map, reverse, refl, sym, ap, subst, ◌∙◌}
use Rattle.std.specs.Prelude.{Err, Ok, OnOk, Result, Some}
use Rattle.std.proofs.lemmas.List.{length-reverse, map-append, reverse-append, reverse-reverse}
use Rattle.cy_trees.specs.declared.expressions.Expr.{Expr}
use Rattle.cy_trees.specs.TreeModels.{expression_of}
use Rattle.cy_planner_algebra.specs.declared.operators.Output.{Output}
use Rattle.cy_planner_algebra.specs.Plans as plan
use Rattle.cy_planner_algebra.specs.Plans.{Plan, width}
use Rattle.cy_planner_algebra.specs.PlanModels.{output_of}
use Rattle.cy_planner_algebra.specs.WellFormed.{IsWellFormed, greatest_width}
use Rattle.cy_planner_rows.specs.declared.places.Wanted.{Wanted}
use Rattle.cy_planner_rows.specs.internal.Lookups.{over}
use Rattle.cy_planner_rewriting.specs.declared.layers.Layer.{Layer}
use Rattle.cy_planner_rewriting.specs.declared.layers.Layer.TheVariants as layer
use Rattle.cy_planner_rewriting.specs.internal.Opened.{over_layer}
use Rattle.cy_planner_rewriting.specs.internal.Layers.{AreInPlace, GoesOn, layered, lookup_layer, stacked}
use Rattle.cy_planner_rewriting.specs.internal.Lowered.{AreMoved, moved, with_columns}
use Rattle.cy_planner_rewriting.specs.Rewritten.{IsRewritten}
use Rattle.cy_planner_rewriting.proofs.Congruent.{equal_plans, rewritten_again}
use Rattle.cy_planner_rewriting.proofs.Layering.{layers_over, over_all, well_below}
use Rattle.cy_planner_rewriting.proofs.Passing.{all_through_different, all_through_filter, all_through_project, looked_up_alike, well_looked_up}

over_more : (ws : List Wanted) (w : Wanted) (p : Plan) → over p (ws ++ w ∷ []) ≡ plan.lookup (over p ws) w.column w.attribute
over_more [] w p = refl
over_more (x ∷ ws) w p = over_more ws w (plan.lookup p x.column x.attribute)

-- look-ups as layers
pub as_layers : (ts : List Wanted) (p : Plan) → layered (map lookup_layer ts) p ≡ over p (reverse ts)
as_layers [] p = refl
as_layers (t ∷ ts) p =
    ap (λ (q : Plan). plan.lookup q t.column t.attribute) (as_layers ts p)
    ∙ sym (over_more (reverse ts) t p)
    ∙ ap (over p) (sym (reverse-append (t ∷ []) ts))

pub settled : (ls : List Layer) (ts : List Wanted) (p : Plan) → layered (ls ++ map lookup_layer ts) p ≡ stacked ls ts p
settled ls ts p = layers_over ls (map lookup_layer ts) p ∙ ap (layered ls) (as_layers ts p)

-- one look-up more
pub one_lower : (ls : List Layer) (ts : List Wanted) (w : Wanted) (p : Plan) → stacked ls (ts ++ w ∷ []) p ≡ stacked ls ts (plan.lookup p w.column w.attribute)
one_lower ls ts w p = ap (λ (ws : List Wanted). layered ls (over p ws)) (reverse-append ts (w ∷ []))

pub goes_on_same : (ls ms : List Layer) (ts us : List Wanted) (p q : Plan) → stacked ms us q ≡ stacked ls ts p → GoesOn ls ts p ms us q
goes_on_same ls ms ts us p q is well = equal_plans (stacked ls ts p) (stacked ms us q) (sym is)

-- look-ups that go down through a layer
pub through : (ls others : List Layer) (l m : Layer) (ts us : List Wanted) (p : Plan)
    → (IsWellFormed (over (over_layer l p) (reverse ts)) → IsRewritten (over (over_layer l p) (reverse ts)) (over_layer m (over p (reverse us))))
    → AreInPlace (ls ++ m ∷ []) others (over p (reverse us)) (over p (reverse us)) → GoesOn ls ts (over_layer l p) others us p
through ls others l m ts us p step place well =
    let above : Plan = over (over_layer l p) (reverse ts) in
    let below : Plan = over p (reverse us) in
    let here : IsRewritten (layered ls above) (layered ls (over_layer m below)) = over_all ls above (over_layer m below) (step (well_below ls above well)) in
    let next : IsRewritten (layered ls above) (layered (ls ++ m ∷ []) below) = subst (λ (q : Plan). IsRewritten (layered ls above) q) (sym (layers_over ls (m ∷ []) below)) here in
    rewritten_again (layered ls above) (layered (ls ++ m ∷ []) below) (layered others below) next (place (next.well_formed well))

-- look-ups that stay above a layer
pub stays : (ls settled_layers others : List Layer) (l : Layer) (ts us : List Wanted) (p : Plan) → settled_layers ≡ ls ++ map lookup_layer ts → us ≡ [] → AreInPlace (settled_layers ++ l ∷ []) others p p → GoesOn ls ts (over_layer l p) others us p
stays ls all others l ts us p is none place well =
    let whole : layered (all ++ l ∷ []) p ≡ stacked ls ts (over_layer l p) = layers_over all (l ∷ []) p ∙ ap (λ (ms : List Layer). layered ms (over_layer l p)) is ∙ settled ls ts (over_layer l p) in
    subst (λ (ws : List Wanted). IsRewritten (stacked ls ts (over_layer l p)) (stacked others ws p)) (sym none)
    (subst (λ (q : Plan). IsRewritten q (layered others p)) whole (place (subst IsWellFormed (sym whole) well)))

-- where there are none
pub without_lookups : (ls others : List Layer) (l : Layer) (ts : List Wanted) (p : Plan) → ts ≡ [] → AreInPlace (ls ++ l ∷ []) others p p → GoesOn ls ts (over_layer l p) others ts p
without_lookups ls others l ts p none place =
    subst (λ (ws : List Wanted). GoesOn ls ws (over_layer l p) others ws p) (sym none)
    (λ well. subst (λ (q : Plan). IsRewritten q (layered others p)) (layers_over ls (l ∷ []) p) (place (subst IsWellFormed (sym (layers_over ls (l ∷ []) p)) well)))

map_reversed : {A B : Type 0} (f : A → B) (xs : List A) → map f (reverse xs) ≡ reverse (map f xs)
map_reversed f [] = refl
map_reversed f (x ∷ xs) =
    ap (map f) (reverse-append (x ∷ []) xs)
    ∙ map-append f (reverse xs) (x ∷ [])
    ∙ ap (λ l. l ++ f x ∷ []) (map_reversed f xs)
    ∙ sym (reverse-append (f x ∷ []) (map f xs))

pub reversed_moves : (outputs : List plan.Output) (ts us : List Wanted) → map (moved outputs) ts ≡ map Some us → map (moved outputs) (reverse ts) ≡ map Some (reverse us)
reversed_moves outputs ts us is = map_reversed (moved outputs) ts ∙ ap reverse is ∙ sym (map_reversed Some us)

-- a step of the way down
pub next_stack : (orig p q : Plan) (ls ms : List Layer) (ts us : List Wanted) → IsWellFormed orig → IsRewritten orig (stacked ls ts p) → GoesOn ls ts p ms us q → IsRewritten orig (stacked ms us q)
next_stack orig p q ls ms ts us well before go = rewritten_again orig (stacked ls ts p) (stacked ms us q) before (go (before.well_formed well))

pub part_in_stack : (orig p q : Plan) (ls : List Layer) (ts : List Wanted) → IsRewritten p q → IsRewritten orig (stacked ls ts p) → IsRewritten orig (stacked ls ts q)
part_in_stack orig p q ls ts is before = rewritten_again orig (stacked ls ts p) (stacked ls ts q) before (over_all ls (over p (reverse ts)) (over q (reverse ts)) (looked_up_alike (reverse ts) p q is))

-- look-ups that are layers now
pub settled_stack : (ls ms : List Layer) (ts us : List Wanted) (p : Plan) → ms ≡ ls ++ map lookup_layer ts → us ≡ [] → stacked ms us p ≡ stacked ls ts p
settled_stack ls ms ts us p layers none = (λ i. stacked (layers i) (none i) p) ∙ settled ls ts p

pub both_ok : {T E P Q R : Type 0} (r : Result T E) → (P → Q → R) → OnOk r P → OnOk r Q → OnOk r R
both_ok (Ok x) step p q = step p q
both_ok (Err e) step p q = q

-- look-ups through each layer that lets them through
pub through_filter : (ls others : List Layer) (test : Expr) (ts : List Wanted) (p : Plan) → ((q : Plan) → AreInPlace (ls ++ layer.Filter test ∷ []) others q q) → GoesOn ls ts (over_layer (layer.Filter test) p) others ts p
through_filter ls others test ts p place = through ls others (layer.Filter test) (layer.Filter test) ts ts p (all_through_filter (reverse ts) p (expression_of test)) (place (over p (reverse ts)))

pub through_different : (ls others : List Layer) (columns : Vec ℕ Global) (ts : List Wanted) (p : Plan) → ((q : Plan) → AreInPlace (ls ++ layer.AllDifferent columns ∷ []) others q q) → GoesOn ls ts (over_layer (layer.AllDifferent columns) p) others ts p
through_different ls others columns ts p place = through ls others (layer.AllDifferent columns) (layer.AllDifferent columns) ts ts p (all_through_different (reverse ts) p columns.items) (place (over p (reverse ts)))

pub through_projection : (ls others : List Layer) (outputs wide : Vec Output Global) (ts us : List Wanted) (p : Plan) → AreMoved (map output_of outputs.items) (width p) ts us → map output_of wide.items ≡ with_columns (map output_of outputs.items) (width p) (length ts)
    → ((q : Plan) → AreInPlace (ls ++ layer.Project wide ∷ []) others q q) → GoesOn ls ts (over_layer (layer.Project outputs) p) others us p
through_projection ls others outputs wide ts us p are is place =
    let inner : List plan.Output = map output_of outputs.items in
    let long : length (reverse ts) ≡ length ts = length-reverse ts in
    through ls others (layer.Project outputs) (layer.Project wide) ts us p
    (λ well.
    subst (λ (os : List plan.Output). IsRewritten (over (plan.project p inner) (reverse ts)) (plan.project (over p (reverse us)) os)) (ap (with_columns inner (width p)) long ∙ sym is)
    (all_through_project (reverse ts) (reverse us) p inner (reversed_moves inner ts us are.0) (subst (λ (n : ℕ). width p + n ≤ greatest_width) (sym long) are.1) well))
    (place (over p (reverse us)))

pub well_in_stack : (ls : List Layer) (ts : List Wanted) (p : Plan) → IsWellFormed (stacked ls ts p) → IsWellFormed p
well_in_stack ls ts p well = well_looked_up (reverse ts) p (well_below ls (over p (reverse ts)) well)

pub well_under_layer : (l : Layer) (p q : Plan) → p ≡ over_layer l q → IsWellFormed p → IsWellFormed q
well_under_layer l p q is well = well_below (l ∷ []) q (subst IsWellFormed is well)

pub all_settled : (ls ms : List Layer) (ts ws : List Wanted) (p : Plan) → ms ≡ ls ++ map lookup_layer ts → ts ≡ reverse ws → layered ms p ≡ layered ls (over p ws)
all_settled ls ms ts ws p layers is = ap (λ (ks : List Layer). layered ks p) layers ∙ settled ls ts p ∙ ap (λ (us : List Wanted). layered ls (over p us)) (ap reverse is ∙ reverse-reverse ws)
