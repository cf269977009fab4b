-- Where look-ups stand: each that is wanted in a column of its own, with its value.
use Rattle.std.proofs.Common.{◌≡◌, ℕ, suc, ◌+◌, ◌<◌, Bool, true, false, cond, ◌&&◌, ◌||◌, List, [], ◌∷◌, ◌++◌, length, map, get_or, refl, sym, ap, ◌∙◌, arith}
use Rattle.std.specs.List.{AllByRecursion, list_any}
use Rattle.std.proofs.lemmas.Bool.{and_parts, eq-eqb, eqb-true, false≢true, or_left, or_right}
use Rattle.std.proofs.lemmas.List.{append_assoc, length-append}
use Rattle.std.proofs.lemmas.List.Folds.{list_any-append}
use Rattle.std.proofs.lemmas.Slice.Eq.{bytes_eq-Decides}
use Rattle.std.proofs.Math.Seq.{get_or-append_seam}
use Rattle.cy_values.specs.declared.rows.Cell.{Cell}
use Rattle.cy_planner_algebra.specs.declared.operators.Attribute.{Attribute}
use Rattle.cy_planner_algebra.specs.declared.operators.Attribute.TheVariants.{Property, RelType, Labels}
use Rattle.cy_planner_algebra.specs.Expressions.{null}
use Rattle.cy_planner_rows.specs.declared.places.Wanted.{Wanted}
use Rattle.cy_planner_rows.specs.Places.{is_of, place, same_attribute}
use Rattle.cy_planner_rows.specs.internal.Asked.{added, with_asked}

-- a look-up is wanted
abbrev pub IsAmong : List Wanted → Wanted → Type 0
IsAmong wanted w = list_any (is_of w.column w.attribute) wanted ≡ true

-- attributes that are the same are equal
pub attribute_is : (a b : Attribute) → same_attribute a b ≡ true → a ≡ b
attribute_is (Property key) (Property other) h = ap Property ((bytes_eq-Decides key other).0 h)
attribute_is (Property key) RelType h = absurd (false≢true h)
attribute_is (Property key) Labels h = absurd (false≢true h)
attribute_is RelType (Property key) h = absurd (false≢true h)
attribute_is RelType RelType h = refl
attribute_is RelType Labels h = absurd (false≢true h)
attribute_is Labels (Property key) h = absurd (false≢true h)
attribute_is Labels RelType h = absurd (false≢true h)
attribute_is Labels Labels h = refl

pub attribute_itself : (a : Attribute) → same_attribute a a ≡ true
attribute_itself (Property key) = (bytes_eq-Decides key key).1 refl
attribute_itself RelType = refl
attribute_itself Labels = refl

look_up_is : (column : ℕ) (a : Attribute) (w : Wanted) → is_of column a w ≡ true → w ≡ record { column = column; attribute = a }
look_up_is column a w h =
    let both = and_parts _ (same_attribute w.attribute a) h in
    λ i. record { column = eqb-true w.column column both.0 i; attribute = attribute_is w.attribute a both.1 i }

look_up_itself : (w : Wanted) → is_of w.column w.attribute w ≡ true
look_up_itself w = (λ i. eq-eqb w.column w.column refl i && attribute_itself w.attribute i)

-- ---- what has been asked is wanted

among_more : (wanted others : List Wanted) (w : Wanted) → IsAmong wanted w → IsAmong (wanted ++ others) w
among_more wanted others w among = list_any-append (is_of w.column w.attribute) wanted others ∙ or_left _ _ among

added_keeps : (wanted : List Wanted) (new w : Wanted) (b : Bool) → IsAmong wanted w → IsAmong (cond b wanted (wanted ++ new ∷ [])) w
added_keeps wanted new w true among = among
added_keeps wanted new w false among = among_more wanted (new ∷ []) w among

added_has : (wanted : List Wanted) (w : Wanted) (b : Bool) → list_any (is_of w.column w.attribute) wanted ≡ b → IsAmong (cond b wanted (wanted ++ w ∷ [])) w
added_has wanted w true is = is
added_has wanted w false is =
    list_any-append (is_of w.column w.attribute) wanted (w ∷ [])
    ∙ or_right (list_any (is_of w.column w.attribute) wanted) _ (or_left (is_of w.column w.attribute w) false (look_up_itself w))

pub asked_keeps : (wanted asked : List Wanted) (w : Wanted) → IsAmong wanted w → IsAmong (with_asked wanted asked) w
asked_keeps wanted [] w among = among
asked_keeps wanted (new ∷ asked) w among =
    asked_keeps (added wanted new) asked w (added_keeps wanted new w (list_any (is_of new.column new.attribute) wanted) among)

pub asked_among : (wanted asked : List Wanted) → AllByRecursion (IsAmong (with_asked wanted asked)) asked
asked_among wanted [] = tt
asked_among wanted (w ∷ asked) =
    (asked_keeps (added wanted w) asked w (added_has wanted w (list_any (is_of w.column w.attribute) wanted) refl), asked_among (added wanted w) asked)

-- what holds of what is wanted and of what is asked holds of both together
added_each : (P : Wanted → Type 0) (wanted : List Wanted) (w : Wanted) (b : Bool) → AllByRecursion P wanted → P w → AllByRecursion P (cond b wanted (wanted ++ w ∷ []))
added_each P wanted w true each here = each
added_each P [] w false each here = (here, tt)
added_each P (v ∷ wanted) w false each here = (each.0, added_each P wanted w false each.1 here)

pub asked_each : (P : Wanted → Type 0) (wanted asked : List Wanted) → AllByRecursion P wanted → AllByRecursion P asked → AllByRecursion P (with_asked wanted asked)
asked_each P wanted [] each others = each
asked_each P wanted (w ∷ asked) each others =
    asked_each P (added wanted w) asked (added_each P wanted w (list_any (is_of w.column w.attribute) wanted) each others.0) others.1

-- ---- places

below_step : (first here last rest : ℕ) (b : Bool) → last ≡ first + suc rest → (b ≡ false → here < first + 1 + rest) → cond b first here < last
below_step first here last rest true is less = omega (arith, is)
below_step first here last rest false is less = let more = less refl in omega (arith, is, more)

or_else : (a b : Bool) → (a || b) ≡ true → a ≡ false → b ≡ true
or_else true b h none = cc
or_else false b h none = h

pub place_below : (first : ℕ) (wanted : List Wanted) (column : ℕ) (a : Attribute) → list_any (is_of column a) wanted ≡ true → place first wanted column a < first + length wanted
place_below first [] column a h = absurd (false≢true h)
place_below first (w ∷ wanted) column a h =
    below_step first (place (first + 1) wanted column a) (first + length (w ∷ wanted)) (length wanted) (is_of column a w) refl
    (λ none. place_below (first + 1) wanted column a (or_else (is_of column a w) (list_any (is_of column a) wanted) h none))

module _ (f : Wanted → Cell) (column : ℕ) (a : Attribute) where
  abbrev this : Wanted
  this = record { column = column; attribute = a }

  read_here : (before : List Cell) (w : Wanted) (wanted : List Wanted) (first : ℕ) → length before ≡ first
      → (b : Bool) → is_of column a w ≡ b → (b ≡ false → get_or ((before ++ f w ∷ []) ++ map f wanted) (place (first + 1) wanted column a) null ≡ f this)
      → get_or (before ++ f w ∷ map f wanted) (cond b first (place (first + 1) wanted column a)) null ≡ f this
  read_here before w wanted first long true is rest =
      ap (λ n. get_or (before ++ f w ∷ map f wanted) n null) (sym long)
      ∙ get_or-append_seam before (f w) (map f wanted) null
      ∙ ap f (look_up_is column a w is)
  read_here before w wanted first long false is rest =
      ap (λ l. get_or l (place (first + 1) wanted column a) null) (sym (append_assoc before (f w ∷ []) (map f wanted))) ∙ rest refl

  pub place_reads : (before : List Cell) (wanted : List Wanted) (first : ℕ) → length before ≡ first → list_any (is_of column a) wanted ≡ true
      → get_or (before ++ map f wanted) (place first wanted column a) null ≡ f this
  place_reads before [] first long h = absurd (false≢true h)
  place_reads before (w ∷ wanted) first long h =
      read_here before w wanted first long (is_of column a w) refl
      (λ none. place_reads (before ++ f w ∷ []) wanted (first + 1) (length-append before (f w ∷ []) ∙ ap (λ n. n + 1) long)
      (or_else (is_of column a w) (list_any (is_of column a) wanted) h none))
