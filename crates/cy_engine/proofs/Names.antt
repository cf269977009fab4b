-- Views keep names of their own.
use Rattle.std.proofs.Common.{◌≡◌, ◌⊎◌, ◌<◌, ℕ, zero, suc, false, cond, List, [], ◌∷◌, ◌++◌, find, length, get_or, Some, sym, ap, ◌∙◌, arith, inl, inr}
use Rattle.std.specs.Str.{bytes_eq}
use Rattle.cy_engine_views.specs.RegisteredViews.{View}
use Rattle.cy_engine_views.specs.Upkeep.{AreNamed, IsNew}
use Rattle.cy_engine_views.proofs.Named.{itself}

-- one of these views
abbrev pub Among : View → List View → Type 0
Among view [] = ⊥
Among view (v ∷ vs) = (v ≡ view) ⊎ Among view vs

pub among_either : (view last : View) (vs : List View) → Among view (vs ++ last ∷ []) → Among view vs ⊎ (last ≡ view)
among_either view last [] (inl is) = inr is
among_either view last [] (inr here) = absurd here
among_either view last (v ∷ vs) (inl is) = inl (inl is)
among_either view last (v ∷ vs) (inr here) = turn (among_either view last vs here)
  where
    turn : Among view vs ⊎ (last ≡ view) → Among view (v ∷ vs) ⊎ (last ≡ view)
    turn (inl rest) = inl (inr rest)
    turn (inr is) = inr is

pub among_from : (vs : List View) (view : View) (k : ℕ) → k < length vs → get_or vs k view ≡ view → Among view vs
among_from [] view k below is = absurd (omega arith)
among_from (v ∷ vs) view zero below is = inl is
among_from (v ∷ vs) view (suc k) below is = inr (among_from vs view k (omega arith) is)

-- a view among others has a name that is not that of a new one
pub other_name : (name : List ℕ) (view : View) (vs : List View) → IsNew name vs → Among view vs → bytes_eq view.name name ≡ false
other_name name view [] new here = absurd here
other_name name view (v ∷ vs) new (inl is) = ap (λ (w : View). bytes_eq w.name name) (sym is) ∙ new.0
other_name name view (v ∷ vs) new (inr here) = other_name name view vs new.1 here

pub found : (vs : List View) (view : View) → AreNamed vs → Among view vs → find (λ v. bytes_eq view.name v.name) vs ≡ Some view
found [] view named here = absurd here
found (v ∷ vs) view named (inl is) =
    ap (λ b. cond b (Some v) (find (λ w. bytes_eq view.name w.name) vs)) (ap (λ (w : View). bytes_eq view.name w.name) is ∙ itself view.name) ∙ ap Some is
found (v ∷ vs) view named (inr here) =
    ap (λ b. cond b (Some v) (find (λ w. bytes_eq view.name w.name) vs)) (other_name v.name view vs named.0 here) ∙ found vs view named.1 here
