-- The walk over the parts of a plan: what is known of the part where it is leads to what is known of the whole.
use Rattle.std.proofs.Common.{◌≡◌, ℕ, List, sym, subst}
use Rattle.cy_trees.specs.Trees.{Expression}
use Rattle.cy_planner_algebra.specs.declared.operators.Attribute.{Attribute}
use Rattle.cy_planner_algebra.specs.declared.operators.Keeping.{Keeping}
use Rattle.cy_planner_algebra.specs.declared.operators.KeyColumns.{KeyColumns}
use Rattle.cy_planner_algebra.specs.Plans as plan
use Rattle.cy_planner_algebra.specs.Plans.{Output, Plan}
use Rattle.cy_network_relevance.specs.declared.masks.Mask.{Mask}
use Rattle.cy_network_relevance.specs.Masks.{joined}
use Rattle.cy_network_relevance.specs.internal.Left.{IsLimited, IsReadOf, IsWithin, LeavesUnread}
use Rattle.cy_network_relevance.proofs.MaskRules.{read_within, unread_different, unread_distinct, unread_filter, unread_join, unread_limited_filter, unread_limited_lookup, unread_lookup, unread_outer, unread_project, unread_semi, unread_union, unread_within, within_first, within_itself, within_second}

-- by each mask that has what was read so far
abbrev pub Leads : Mask → Plan → Plan → Type 0
Leads so_far part whole = (mask : Mask) → IsWithin so_far mask → LeavesUnread mask part → LeavesUnread mask whole

module _ (so_far : Mask) (q whole : Plan) (leads : Leads so_far q whole) where
  -- no more is read below
  pub ends_here : (more : Mask) → LeavesUnread more q → LeavesUnread (joined so_far more) whole
  ends_here more left =
      let both = joined so_far more in
      leads both (within_first so_far more both (within_itself both)) (unread_within more both (within_second so_far more both (within_itself both)) q left)

  pub ends_lookup : (limit : Mask) (p : Plan) (column : ℕ) (attribute : Attribute) → q ≡ plan.lookup p column attribute → IsLimited limit q → LeavesUnread (joined so_far limit) whole
  ends_lookup limit p column attribute is limited =
      ends_here limit (subst (LeavesUnread limit) (sym is) (unread_limited_lookup limit p column attribute (subst (IsLimited limit) is limited)))

  pub ends_filter : (limit : Mask) (p : Plan) (test : Expression) → q ≡ plan.filter p test → IsLimited limit q → LeavesUnread (joined so_far limit) whole
  ends_filter limit p test is limited = ends_here limit (subst (LeavesUnread limit) (sym is) (unread_limited_filter limit p test (subst (IsLimited limit) is limited)))

  pub leads_lookup : (more : Mask) (p : Plan) (column : ℕ) (attribute : Attribute) → q ≡ plan.lookup p column attribute → IsReadOf more attribute → Leads (joined so_far more) p whole
  leads_lookup more p column attribute is read mask within left =
      leads mask (within_first so_far more mask within)
      (subst (LeavesUnread mask) (sym is) (unread_lookup mask p left column attribute (read_within more mask (within_second so_far more mask within) attribute read)))

  pub leads_filter : (p : Plan) (test : Expression) → q ≡ plan.filter p test → Leads so_far p whole
  leads_filter p test is mask within left = leads mask within (subst (LeavesUnread mask) (sym is) (unread_filter mask p left test))

  pub leads_different : (p : Plan) (columns : List ℕ) → q ≡ plan.all_different p columns → Leads so_far p whole
  leads_different p columns is mask within left = leads mask within (subst (LeavesUnread mask) (sym is) (unread_different mask p left columns))

  pub leads_project : (p : Plan) (outputs : List Output) → q ≡ plan.project p outputs → Leads so_far p whole
  leads_project p outputs is mask within left = leads mask within (subst (LeavesUnread mask) (sym is) (unread_project mask p left outputs))

  pub leads_distinct : (p : Plan) → q ≡ plan.distinct p → Leads so_far p whole
  leads_distinct p is mask within left = leads mask within (subst (LeavesUnread mask) (sym is) (unread_distinct mask p left))

  -- of two parts the right one is known already
  module _ (more : Mask) (p r : Plan) (right : LeavesUnread more r) where
    known : (mask : Mask) → IsWithin (joined so_far more) mask → LeavesUnread mask r
    known mask within = unread_within more mask (within_second so_far more mask within) r right

    pub leads_join : (keys : List KeyColumns) → q ≡ plan.join p r keys → Leads (joined so_far more) p whole
    leads_join keys is mask within left = leads mask (within_first so_far more mask within) (subst (LeavesUnread mask) (sym is) (unread_join mask p r left (known mask within) keys))

    pub leads_outer : (keys : List KeyColumns) (test : Expression) → q ≡ plan.outer p r keys test → Leads (joined so_far more) p whole
    leads_outer keys test is mask within left = leads mask (within_first so_far more mask within) (subst (LeavesUnread mask) (sym is) (unread_outer mask p r left (known mask within) keys test))

    pub leads_semi : (keys : List KeyColumns) (keeping : Keeping) → q ≡ plan.semi p r keys keeping → Leads (joined so_far more) p whole
    leads_semi keys keeping is mask within left = leads mask (within_first so_far more mask within) (subst (LeavesUnread mask) (sym is) (unread_semi mask p r left (known mask within) keys keeping))

    pub leads_union : q ≡ plan.union p r → Leads (joined so_far more) p whole
    leads_union is mask within left = leads mask (within_first so_far more mask within) (subst (LeavesUnread mask) (sym is) (unread_union mask p r left (known mask within)))
