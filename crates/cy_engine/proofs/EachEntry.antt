-- What holds of each view and of the entry that a line makes for it.
use Rattle.std.proofs.Common.{◌≡◌, ℕ, cond, List, [], ◌∷◌, find, Option, None, Some, sym, ap, subst, ◌∙◌, inl, inr}
use Rattle.std.specs.List.{AllByRecursion}
use Rattle.std.specs.Option.{option_map}
use Rattle.std.specs.Str.{bytes_eq}
use Rattle.cy_values.specs.Bag.{IsSameBag}
use Rattle.cy_graph.specs.Graph.{Content}
use Rattle.cy_bags.specs.declared.changes.Entry.{Entry}
use Rattle.cy_engine_views.specs.RegisteredViews.{AreEntries, Entries, IsEntry, View, entry_at, rows_of}
use Rattle.cy_engine_views.specs.Upkeep.{AreNamed, IsNew}
use Rattle.cy_engine_views.proofs.Named.{itself, turned}

abbrev at_name : List ℕ → Entries → Option (List ℕ × Entry)
at_name name es = find (λ e. bytes_eq name e.0) es

abbrev entry_of : Option (List ℕ × Entry) → Option Entry
entry_of found = option_map (λ (e : List ℕ × Entry). e.1) found

module _ (before after : Content) (tick : ℕ) where
  none_at : (name : List ℕ) (vs : List View) (es : Entries) → IsNew name vs → AreEntries vs before after tick es → at_name name es ≡ None
  none_at name [] es new are = ap (at_name name) are
  none_at name (v ∷ vs) es new (inl (same, rest)) = none_at name vs es new.1 rest
  none_at name (v ∷ vs) es new (inr (entry, others, is, is_entry, rest)) =
      ap (at_name name) is ∙ ap (λ b. cond b (Some (v.name, entry)) (at_name name others)) (turned v.name name new.0) ∙ none_at name vs others new.1 rest

  module _ (P : View → Option Entry → Type 0) (stays : (v : View) → IsSameBag (rows_of v.query before) (rows_of v.query after) → P v None)
      (gets : (v : View) (e : Entry) → IsEntry v.query before after tick e → P v (Some e)) where
    abbrev Each : List View → Entries → Type 0
    Each vs es = AllByRecursion (λ (v : View). P v (entry_at v.name es)) vs

    -- the entry of another view before the others changes nothing
    past : (name : List ℕ) (e : Entry) (others : Entries) (vs : List View) → IsNew name vs → Each vs others → Each vs ((name, e) ∷ others)
    past name e others [] new each = tt
    past name e others (v ∷ vs) new each =
        (subst (λ (o : Option (List ℕ × Entry)). P v (entry_of o)) (sym (ap (λ b. cond b (Some (name, e)) (at_name v.name others)) new.0)) each.0, past name e others vs new.1 each.1)

    pub each_entry : (vs : List View) (es : Entries) → AreNamed vs → AreEntries vs before after tick es → Each vs es
    each_entry [] es named are = tt
    each_entry (v ∷ vs) es named (inl (same, rest)) =
        (subst (λ (o : Option (List ℕ × Entry)). P v (entry_of o)) (sym (none_at v.name vs es named.0 rest)) (stays v same), each_entry vs es named.1 rest)
    each_entry (v ∷ vs) es named (inr (e, others, is, is_entry, rest)) =
        subst (λ (fs : Entries). Each (v ∷ vs) fs) (sym is) (
          subst (λ (o : Option (List ℕ × Entry)). P v (entry_of o)) (sym (ap (λ b. cond b (Some (v.name, e)) (at_name v.name others)) (itself v.name))) (gets v e is_entry),
          past v.name e others vs named.0 (each_entry vs others named.1 rest),
        )
