-- What the functions that group rows answer, from what their parts answer.
use Rattle.std.proofs.Common.{◌≡◌, ◌≢◌, ◌⊎◌, inl, inr, Bool, true, false, not, cond, List, [], ◌∷◌, ◌++◌, append_assoc, map, refl, sym, ap, subst, ◌∙◌}
use Rattle.std.specs.Prelude.{Option, None, Some, Result, Ok, Err}
use Rattle.std.specs.Option.{option_to_list}
use Rattle.std.specs.Vec.Iter.{into_iter_items, into_iter_steps}
use Rattle.std.specs.declared.alloc.Global.{Global}
use Rattle.std.specs.declared.vec.IntoIter.{IntoIter}
use Rattle.std.proofs.lemmas.List.{nil_from_length}
use Rattle.std.specs.Cmp.{IsTotalOrder}
use Rattle.cy_values.specs.declared.rows.Cell.{Cell}
use Rattle.cy_values.specs.Order.{row_cmp}
use Rattle.cy_trees.specs.Trees.{Expression, Item}
use Rattle.cy_scope_kinds.specs.Aggregates.{is_aggregate_call}
use Rattle.cy_graph.specs.Graph.{Content}
use Rattle.cy_expr.specs.declared.faults.EvalFault.{EvalFault}
use Rattle.cy_expr.specs.declared.faults.EvalFault.TheVariants.{NoMemory}
use Rattle.cy_expr.specs.Evaluation.{as_cell}
use Rattle.cy_oneshot_meaning.specs.Groups.{Grouped, argument_of, arguments, group_cells, group_rows, grouping, over_rows}
use Rattle.cy_oneshot_patterns.specs.Outcomes.{gathered, together}
use Rattle.cy_oneshot_meaning.specs.internal.Answers.{IsAnswer, sifted, with_fault}
use Rattle.cy_oneshot_projections.specs.internal.Grouping.{AreGroupsOf, Gathering, grouped_by, item_cell, kept_of}
use Rattle.cy_oneshot_meaning.specs.internal.Permuted.{Alike, IsAlikeAnswer}
use Rattle.cy_oneshot_projections.proofs.Aggregated.{many_alike, one_alike, row_of}
use Rattle.cy_oneshot_meaning.proofs.SeenRows.{expressions}
use Rattle.cy_oneshot_meaning.proofs.Together.{single, together_three}

-- ---- a fault of a grouping item, and what the groups make

fault_alike : {B : Type 0} (f : EvalFault) (meant : Result (List B) EvalFault) → Alike (Err f) meant → meant ≡ Err f
fault_alike f (Ok xs) alike = absurd alike
fault_alike f (Err g) alike = ap Err (sym alike)

module _ {A B : Type 0} (view : A → List B) where
  -- a call gave what is meant
  with_fault_answers : (fault : Option EvalFault) (made : Result A EvalFault) (whole meant : Result (List B) EvalFault) → IsAnswer made view whole → made ≢ Err NoMemory
      → Alike (with_fault fault whole) meant → IsAlikeAnswer (with_fault fault made) view meant
  with_fault_answers None (Ok x) whole meant is not alike = subst (λ (o : Result (List B) EvalFault). Alike o meant) is alike
  with_fault_answers None (Err g) whole meant (inl is) not alike = inl (fault_alike g meant (subst (λ (o : Result (List B) EvalFault). Alike o meant) is alike))
  with_fault_answers None (Err g) whole meant (inr none) not alike = inr none
  with_fault_answers (Some f) (Ok x) whole meant is not alike = inl (fault_alike f meant (subst (λ (o : Result (List B) EvalFault). Alike (with_fault (Some f) o) meant) is alike))
  with_fault_answers (Some f) (Err g) whole meant (inl is) not alike = inl (fault_alike _ meant (subst (λ (o : Result (List B) EvalFault). Alike (with_fault (Some f) o) meant) is alike))
  with_fault_answers (Some f) (Err g) whole meant (inr none) not alike = absurd (not (ap Err none))

  pub and_also_answers : (fault : Option EvalFault) (made r : Result A EvalFault) (whole meant : Result (List B) EvalFault) → IsAnswer made view whole
      → (made ≢ Err NoMemory → r ≡ with_fault fault made) → (made ≡ Err NoMemory → r ≡ Err NoMemory) → Alike (with_fault fault whole) meant → IsAlikeAnswer r view meant
  and_also_answers fault (Ok x) r whole meant is both memory alike =
      subst (λ (o : Result A EvalFault). IsAlikeAnswer o view meant) (sym (both (λ e. cc e))) (with_fault_answers fault (Ok x) whole meant is (λ e. cc e) alike)
  and_also_answers fault (Err g) r whole meant (inr none) both memory alike =
      subst (λ (o : Result A EvalFault). IsAlikeAnswer o view meant) (sym (memory (ap Err none))) (inr refl)
  and_also_answers fault (Err NoMemory) r whole meant (inl is) both memory alike = subst (λ (o : Result A EvalFault). IsAlikeAnswer o view meant) (sym (memory refl)) (inr refl)
  and_also_answers fault (Err g) r whole meant (inl is) both memory alike =
      subst (λ (o : Result A EvalFault). IsAlikeAnswer o view meant) (sym (both (λ e. cc e))) (with_fault_answers fault (Err g) whole meant (inl is) (λ e. cc e) alike)

-- ---- groups

one_item : (so_far : List Expression) (i : Item) (is : List Item)
    → cond (is_aggregate_call i.expression) so_far (so_far ++ i.expression ∷ []) ++ expressions (grouping is) ≡ so_far ++ expressions (grouping (i ∷ is))
one_item so_far i is =
    elim (is_aggregate_call i.expression) as (λ b. cond b so_far (so_far ++ i.expression ∷ []) ++ expressions (grouping is) ≡ so_far ++ expressions (cond (not b) (i ∷ grouping is) (grouping is))) [
      | true ↦ refl
      | false ↦ append_assoc so_far (i.expression ∷ []) (expressions (grouping is))
    ]

-- the expressions so far with the one of the next item, if it has no aggregate
pub grouping_more : (so_far next whole : List Expression) (i : Item) (is left : List Item) → left ≡ i ∷ is
    → next ≡ cond (is_aggregate_call i.expression) so_far (so_far ++ i.expression ∷ []) → so_far ++ expressions (grouping left) ≡ whole → next ++ expressions (grouping is) ≡ whole
grouping_more so_far next whole i is left are step before =
    ap (λ (l : List Expression). l ++ expressions (grouping is)) step
    ∙ one_item so_far i is
    ∙ ap (λ (l : List Item). so_far ++ expressions (grouping l)) (sym are)
    ∙ before

-- the arguments so far with the one of the next item, if it is an aggregate that takes one
one_argument : (b : Bool) (so_far taken rest : List Expression) → cond b (so_far ++ taken) so_far ++ rest ≡ so_far ++ cond b (taken ++ rest) rest
one_argument true so_far taken rest = append_assoc so_far taken rest
one_argument false so_far taken rest = refl

pub arguments_more : (so_far next whole : List Expression) (i : Item) (is left : List Item) → left ≡ i ∷ is
    → next ≡ cond (is_aggregate_call i.expression) (so_far ++ argument_of i.expression) so_far → so_far ++ arguments left ≡ whole → next ++ arguments is ≡ whole
arguments_more so_far next whole i is left are step before =
    ap (λ (l : List Expression). l ++ arguments is) step
    ∙ one_argument (is_aggregate_call i.expression) so_far (argument_of i.expression) (arguments is)
    ∙ ap (λ (l : List Item). so_far ++ arguments l) (sym are)
    ∙ before

-- ---- a row whose grouping items fault

-- there are as many keys as items without an aggregate
pub no_grouping : {X : Type 0} (f : X → Expression) (keys : List X) (items : List Item) → map f keys ≡ expressions items → keys ≡ [] → items ≡ []
no_grouping f keys [] same none = refl
no_grouping f [] (i ∷ items) same none = cc same
no_grouping f (k ∷ keys) (i ∷ items) same none = cc none

pub some_grouping : {X : Type 0} (f : X → Expression) (keys : List X) (items : List Item) → map f keys ≡ expressions items → items ≡ [] → keys ≡ []
some_grouping f [] items same none = refl
some_grouping f (k ∷ keys) [] same none = cc same
some_grouping f (k ∷ keys) (i ∷ items) same none = cc none

module _ (total : IsTotalOrder row_cmp) (graph : Content) (items : List Item) where
  pub groups_alike : (without_keys : Bool) → (without_keys ≡ true → grouping items ≡ []) → (without_keys ≡ false → grouping items ≡ [] → ⊥)
      → (rows : List (List Cell)) (gs : List Grouped) (fault : Option EvalFault) → sifted [] None (map (grouped_by graph (expressions (grouping items)) (arguments items)) rows) ≡ (gs, fault)
      → (groups : List Gathering) → AreGroupsOf without_keys gs groups → Alike (gathered (map (row_of graph items) groups)) (group_rows graph items gs)
  groups_alike true none some rows gs fault are groups is =
      subst (λ (l : List Gathering). Alike (gathered (map (row_of graph items) l)) (group_rows graph items gs)) (sym is) (one_alike graph items (none refl) rows gs fault are)
  groups_alike false none some rows gs fault are groups is = many_alike graph items (some refl) gs groups is

-- ---- the cells of a group

-- an item without an aggregate takes the next one, if there is one
kept_first : (r : Option Cell) (key left : List Cell) → key ≡ option_to_list r ++ left → (r ≡ None → left ≡ []) → (r ≡ (kept_of false key).0) × (left ≡ (kept_of false key).1)
kept_first None key left are end =
    let none : key ≡ [] = are ∙ end refl in
    (ap (λ (l : List Cell). (kept_of false l).0) (sym none), end refl ∙ ap (λ (l : List Cell). (kept_of false l).1) (sym none))
kept_first (Some c) key left are end = (ap (λ (l : List Cell). (kept_of false l).0) (sym are), ap (λ (l : List Cell). (kept_of false l).1) (sym are))

pub kept_next : (r : Option Cell) (key left : IntoIter Cell Global) → into_iter_items key ≡ option_to_list r ++ into_iter_items left → into_iter_steps key r left
    → (r ≡ (kept_of false (into_iter_items key)).0) × (into_iter_items left ≡ (kept_of false (into_iter_items key)).1)
kept_next r key left are steps =
    kept_first r (into_iter_items key) (into_iter_items left) are
    (λ none. nil_from_length (into_iter_items left) (sym left.rest.ok.0 ∙ (subst (λ (o : Option Cell). into_iter_steps key o left) none steps).1))

module _ (graph : Content) (rows : List (List Cell)) where
  -- the cell of the first item, and those of the others
  cell_first : (i : Item) (is : List Item) (key : List Cell) → gathered (group_cells graph (i ∷ is) key rows)
      ≡ together (single (item_cell graph i.expression rows (kept_of (is_aggregate_call i.expression) key).0)) (gathered (group_cells graph is (kept_of (is_aggregate_call i.expression) key).1 rows))
  cell_first i is [] =
      elim (is_aggregate_call i.expression) as (λ b. gathered (group_cells graph (i ∷ is) [] rows)
      ≡ together (single (item_cell graph i.expression rows (kept_of b []).0)) (gathered (group_cells graph is (kept_of b []).1 rows))) [ true ↦ refl | false ↦ refl ]
  cell_first i is (c ∷ key) =
      elim (is_aggregate_call i.expression) as (λ b. gathered (cond b (as_cell (over_rows graph i.expression rows) ∷ group_cells graph is (c ∷ key) rows) (Ok c ∷ group_cells graph is key rows))
      ≡ together (single (item_cell graph i.expression rows (kept_of b (c ∷ key)).0)) (gathered (group_cells graph is (kept_of b (c ∷ key)).1 rows))) [ true ↦ refl | false ↦ refl ]

  -- the cells so far with the one of the next item
  pub cells_more : (so_far next whole : Result (List Cell) EvalFault) (i : Item) (is left : List Item) (key after : List Cell) (kept : Option Cell) (outcome : Result Cell EvalFault)
      → left ≡ i ∷ is → kept ≡ (kept_of (is_aggregate_call i.expression) key).0 → after ≡ (kept_of (is_aggregate_call i.expression) key).1
      → next ≡ together so_far (single outcome) → outcome ≡ item_cell graph i.expression rows kept
      → together so_far (gathered (group_cells graph left key rows)) ≡ whole → together next (gathered (group_cells graph is after rows)) ≡ whole
  cells_more so_far next whole i is left key after kept outcome are taken others step made before =
      let cell : outcome ≡ item_cell graph i.expression rows (kept_of (is_aggregate_call i.expression) key).0 = made ∙ ap (item_cell graph i.expression rows) taken in
      ap (λ (o : Result (List Cell) EvalFault). together o (gathered (group_cells graph is after rows))) step
      ∙ together_three so_far (single outcome) (gathered (group_cells graph is after rows))
      ∙ ap (together so_far) ((λ j. together (single (cell j)) (gathered (group_cells graph is (others j) rows))) ∙ sym (cell_first i is key))
      ∙ ap (λ (l : List Item). together so_far (gathered (group_cells graph l key rows))) (sym are)
      ∙ before
