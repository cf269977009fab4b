-- A list at a node follows the relationships.
use Rattle.std.proofs.Common.{◌≡◌, ℕ, ◌+◌, ◌<◌, Bool, true, false, cond, not, eqb, List, [], ◌∷◌, ◌++◌, filter, if◌then◌else◌, Option, Some, None, is_some, inl, inr, refl, sym, ap, subst, ◌∙◌, arith}
use Rattle.std.specs.List.{AllByRecursion}
use Rattle.std.specs.List.Retain.{RetainsInTurn}
use Rattle.std.specs.Option.{option_map}
use Rattle.std.specs.Ordering.{nat_cmp, is_eq, eq_by_cmp}
use Rattle.std.specs.declared.cmp.Ordering.{Ordering}
use Rattle.std.specs.declared.cmp.Ordering.TheVariants.{Less, Equal, Greater}
use Rattle.std.specs.FinMap.Entries as entries
use Rattle.std.proofs.lemmas.Bool.Decides.{nat_tests}
use Rattle.std.proofs.lemmas.Cmp.{nat_cmp_total}
use Rattle.std.proofs.lemmas.List.{append-nil}
use Rattle.std.proofs.lemmas.List.Elements.{filter-append, filter_agree}
use Rattle.cy_values.specs.declared.numbers.RelId.{RelId}
use Rattle.cy_graph.specs.declared.nodes.Rel.{Rel}
use Rattle.cy_graph.specs.internal.Adjacency.{is_live, IsCompacted}
use Rattle.cy_graph.specs.internal.Contents.{ids_by, IsListOf}
use Rattle.cy_graph.specs.internal.Slots.{RiseFrom, value_under}
use Rattle.cy_graph.specs.internal.Versions.{IsNumbered, with_last, with_edited, without_number, put_under}
use Rattle.cy_graph.specs.Model.{Numbered}
use Rattle.cy_graph.proofs.Joining.{without, is_other, id_of, ids_push, ids_without}
use Rattle.cy_graph.proofs.Slots.{below, kept_last, same_number}

-- ---- filters

module _ {X : Type 0} where
  -- two tests that agree on a list's elements
  filter_alike : (P : X → Type 0) (p q : X → Bool) → ((x : X) → P x → p x ≡ q x) → (xs : List X) → AllByRecursion P xs → filter p xs ≡ filter q xs
  filter_alike P p q agree [] all = refl
  filter_alike P p q agree (x ∷ xs) all =
      ap (λ b. cond b (x ∷ filter p xs) (filter p xs)) (agree x all.0) ∙ ap (λ l. cond (q x) (x ∷ l) l) (filter_alike P p q agree xs all.1)

  -- a test after another
  filter_both : (p q r : X → Bool) → ((x : X) → r x ≡ cond (q x) (p x) false) → (xs : List X) → filter r xs ≡ filter q (filter p xs)
  filter_both p q r is [] = refl
  filter_both p q r is (x ∷ xs) =
      let rest = filter_both p q r is xs in
      ap (λ b. cond b (x ∷ filter r xs) (filter r xs)) (is x)
      ∙ elim (p x) as (λ b. cond (cond (q x) b false) (x ∷ filter r xs) (filter r xs) ≡ filter q (cond b (x ∷ filter p xs) (filter p xs))) [
        | true ↦ elim (q x) as (λ c. cond (cond c true false) (x ∷ filter r xs) (filter r xs) ≡ cond c (x ∷ filter q (filter p xs)) (filter q (filter p xs))) [ true ↦ ap (λ l. x ∷ l) rest | false ↦ rest ]
        | false ↦ elim (q x) as (λ c. cond (cond c false false) (x ∷ filter r xs) (filter r xs) ≡ filter q (filter p xs)) [ true ↦ rest | false ↦ rest ]
      ]

  -- the same test twice
  filter_twice : (p : X → Bool) (xs : List X) → filter p (filter p xs) ≡ filter p xs
  filter_twice p xs = sym (filter_both p p p (λ x. elim (p x) as (λ b. b ≡ cond b b false) [ true ↦ refl | false ↦ refl ]) xs)

  all_filter : (P : X → Type 0) (p : X → Bool) (xs : List X) → AllByRecursion P xs → AllByRecursion P (filter p xs)
  all_filter P p [] all = tt
  all_filter P p (x ∷ xs) all = let rest = all_filter P p xs all.1 in elim (p x) as (λ b. AllByRecursion P (cond b (x ∷ filter p xs) (filter p xs))) [ true ↦ (all.0, rest) | false ↦ rest ]

  all_more : (P Q : X → Type 0) → ((x : X) → P x → Q x) → (xs : List X) → AllByRecursion P xs → AllByRecursion Q xs
  all_more P Q gives [] all = tt
  all_more P Q gives (x ∷ xs) all = (gives x all.0, all_more P Q gives xs all.1)

  all_and_last : (P : X → Type 0) (xs : List X) (y : X) → AllByRecursion P xs → P y → AllByRecursion P (xs ++ y ∷ [])
  all_and_last P [] y all last = (last, tt)
  all_and_last P (x ∷ xs) y all last = (all.0, all_and_last P xs y all.1 last)

-- what `retain` keeps, where the closure only tests, and stays as it was
pub retained : {S X : Type 0} (R : S → X → Bool → S → X → Type 0) (test : X → Bool) (f : S) → ((x : X) (b : Bool) (g : S) (y : X) → R f x b g y → (b ≡ test x) × (y ≡ x) × (g ≡ f)) → (xs ys : List X) → RetainsInTurn R f xs ys
    → ys ≡ filter test xs
retained R test f tests [] ys none = none
retained R test f tests (x ∷ xs) ys (b, g, y, call, zs, rest, is) =
    let one = tests x b g y call in
    let others = retained R test f tests xs zs (subst (λ s. RetainsInTurn R s xs zs) one.2 rest) in
    is ∙ (λ i. cond (one.0 i) (one.1 i ∷ others i) (others i))

-- ---- which numbers have a value

-- a smaller number has one where it had
find_push : {V : Type 0} (k next : ℕ) (v : V) → k < next → (es : List (ℕ × V)) → value_under k (es ++ (next, v) ∷ []) ≡ value_under k es
find_push k next v lt [] = ap (λ o. cond (is_eq o) (Some v) None) (below k next lt)
find_push k next v lt (e ∷ es) = ap (cond (eq_by_cmp nat_cmp k e.0) (Some e.1)) (find_push k next v lt es)

-- an edit leaves them
find_edited : {V : Type 0} (edited : V → V) (k q : ℕ) (es : List (ℕ × V)) (o : Option V) → value_under k es ≡ o → is_some (value_under q (put_under k (option_map edited o) es)) ≡ is_some (value_under q es)
find_edited edited k q es None is = refl
find_edited edited k q es (Some v) is =
    ap is_some (entries.find-put nat_cmp nat_cmp_total q k (edited v) es)
    ∙ elim (eq_by_cmp nat_cmp q k) as (λ b. eq_by_cmp nat_cmp q k ≡ b → is_some (cond b (Some (edited v)) (value_under q es)) ≡ is_some (value_under q es)) [
      | true ↦ λ t. sym (ap (λ n. is_some (value_under n es)) (same_number q k t) ∙ ap is_some is)
      | false ↦ λ t. refl
    ] refl

-- a removal leaves those of others
find_without : (k q : ℕ) (es : List (ℕ × Rel)) → is_some (value_under q (without k es)) ≡ cond (not (eq_by_cmp nat_cmp k q)) (is_some (value_under q es)) false
find_without k q es =
    ap is_some (entries.find-where_key nat_cmp (λ x. not (eq_by_cmp nat_cmp k x)) q (λ x tie. ap (λ n. not (eq_by_cmp nat_cmp k n)) (sym (same_number q x (ap is_eq tie)))) es)
    ∙ elim (not (eq_by_cmp nat_cmp k q)) as (λ b. is_some (cond b (value_under q es) None) ≡ cond b (is_some (value_under q es)) false) [ true ↦ refl | false ↦ refl ]

-- ---- a list

turned : (m n : ℕ) → eqb m n ≡ eqb n m
turned m n = grind (arith, nat_tests)

module _ (end : Rel → ℕ) (node : ℕ) (rels : Numbered Rel) (ids : List RelId) (is : IsListOf end node rels ids) where
  module _ (rel : Rel) where
    still_live : filter (is_live (with_last rel rels).entries) ids ≡ ids_by end node rels.entries
    still_live =
        filter_alike (λ id. id.0 < rels.next) (is_live (with_last rel rels).entries) (is_live rels.entries) (λ id lt. ap is_some (find_push id.0 rels.next rel lt rels.entries)) ids is.given ∙ is.live

    last_live : filter (is_live (with_last rel rels).entries) (id_of rels.next ∷ []) ≡ id_of rels.next ∷ []
    last_live = ap (λ b. cond b (id_of rels.next ∷ []) []) (kept_last rels.next rel rels.entries)

    given_on : AllByRecursion (λ (id : RelId). id.0 < rels.next + 1) ids
    given_on = all_more (λ id. id.0 < rels.next) (λ id. id.0 < rels.next + 1) (λ id lt. omega (arith, lt)) ids is.given

    -- one more relationship, which goes last in the list of its end
    pub list_added : IsListOf end node (with_last rel rels) (if eqb (end rel) node then ids ++ id_of rels.next ∷ [] else ids)
    list_added =
        elim (eqb (end rel) node) as (λ b. eqb (end rel) node ≡ b → IsListOf end node (with_last rel rels) (if b then ids ++ id_of rels.next ∷ [] else ids)) [
          | true ↦ λ t. record {
            given = all_and_last (λ id. id.0 < rels.next + 1) ids (id_of rels.next) given_on (omega arith);
            live =
                filter-append (is_live (with_last rel rels).entries) ids (id_of rels.next ∷ [])
                ∙ (λ i. still_live i ++ last_live i)
                ∙ sym (ids_push end node rels.next rels.entries rel ∙ ap (λ b. ids_by end node rels.entries ++ cond b (id_of rels.next ∷ []) []) (turned node (end rel) ∙ t));
          }
          | false ↦ λ t. record {
            given = given_on;
            live = still_live ∙ sym (append-nil (ids_by end node rels.entries)) ∙ sym (ids_push end node rels.next rels.entries rel ∙ ap (λ b. ids_by end node rels.entries ++ cond b (id_of rels.next ∷ []) []) (turned node (end rel) ∙ t));
          }
        ] refl

  -- one less, which stays in the list
  pub list_removed : (k : ℕ) → IsListOf end node (without_number k rels) ids
  list_removed k = record {
    given = is.given;
    live =
        filter_both (is_live rels.entries) (is_other k) (is_live (without k rels.entries)) (λ id. find_without k id.0 rels.entries) ids
        ∙ ap (filter (is_other k)) is.live ∙ ids_without end node k rels.entries;
  }

  -- those that were removed go
  pub list_compacted : (new : List RelId) → IsCompacted rels.entries ids new → IsListOf end node rels new
  list_compacted new (inl same) = subst (IsListOf end node rels) (sym same) is
  list_compacted new (inr left) = record {
    given = subst (AllByRecursion (λ (id : RelId). id.0 < rels.next)) (sym left) (all_filter (λ id. id.0 < rels.next) (is_live rels.entries) ids is.given);
    live = ap (filter (is_live rels.entries)) left ∙ filter_twice (is_live rels.entries) ids ∙ is.live;
  }

-- a list is compacted again
pub compacted_on : {V : Type 0} (values : List (ℕ × V)) (old mid new : List RelId) → IsCompacted values old mid → IsCompacted values mid new → IsCompacted values old new
compacted_on values old mid new (inl was) (inl is) = inl (is ∙ was)
compacted_on values old mid new (inl was) (inr is) = inr (is ∙ ap (filter (is_live values)) was)
compacted_on values old mid new (inr was) (inl is) = inr (is ∙ was)
compacted_on values old mid new (inr was) (inr is) = inr (is ∙ ap (filter (is_live values)) was ∙ filter_twice (is_live values) old)

-- ---- an edit that leaves the end

less : (m n : ℕ) → nat_cmp m n ≡ Less → m < n
less m n e = grind (arith, nat_tests)

-- a number below the others isn't among them
not_before : (number : ℕ) (rel : Rel) (low high : ℕ) (es : List (ℕ × Rel)) → number < low → RiseFrom low high es → value_under number es ≡ Some rel → ⊥
not_before number rel low high [] lt r found = cc
not_before number rel low high (e ∷ es) lt r found =
    elim (is_eq (nat_cmp number e.0)) as (λ b. is_eq (nat_cmp number e.0) ≡ b → cond b (Some e.1) (value_under number es) ≡ Some rel → ⊥) [
      | true ↦ λ t f. absurd (omega (arith, same_number number e.0 t, r.0))
      | false ↦ λ t f. not_before number rel (e.0 + 1) high es (omega (arith, r.0)) r.2 f
    ] refl found

module _ (end : Rel → ℕ) (edited : Rel → Rel) (same : (rel : Rel) → end (edited rel) ≡ end rel) (node : ℕ) where
  ids_put : (number : ℕ) (rel : Rel) (low high : ℕ) (es : List (ℕ × Rel)) → RiseFrom low high es → value_under number es ≡ Some rel → ids_by end node (entries.put nat_cmp number (edited rel) es) ≡ ids_by end node es
  ids_put number rel low high [] r found = cc
  ids_put number rel low high (e ∷ es) r found =
      let later : (o : Ordering) → nat_cmp number e.0 ≡ o → cond (is_eq o) (Some e.1) (value_under number es) ≡ Some rel =
      λ o t. sym (ap (λ q. cond (is_eq q) (Some e.1) (value_under number es)) t) ∙ found in
      elim (nat_cmp number e.0) as (λ o. nat_cmp number e.0 ≡ o → ids_by end node (entries.by_order o ((number, edited rel) ∷ e ∷ es) ((e.0, edited rel) ∷ es) (e ∷ entries.put nat_cmp number (edited rel) es)) ≡ ids_by end node (e ∷ es)) [
        | Less ↦ λ t. absurd (not_before number rel (e.0 + 1) high es (omega (arith, less number e.0 t)) r.2 (later Less t))
        | Equal ↦ λ t.
            let here : Some e.1 ≡ Some rel = later Equal t in
            let value : rel ≡ e.1 = cc in
            ap (λ b. cond b (id_of e.0 ∷ ids_by end node es) (ids_by end node es)) (ap (eqb node) (same rel ∙ ap end value))
        | Greater ↦ λ t.
            let rest = ids_put number rel (e.0 + 1) high es r.2 (later Greater t) in
            ap (λ ids. cond (eqb node (end e.1)) (id_of e.0 ∷ ids) ids) rest
      ] refl

  ids_edited : (number : ℕ) (o : Option Rel) (low high : ℕ) (es : List (ℕ × Rel)) → RiseFrom low high es → value_under number es ≡ o → ids_by end node (put_under number (option_map edited o) es) ≡ ids_by end node es
  ids_edited number None low high es r found = refl
  ids_edited number (Some rel) low high es r found = ids_put number rel low high es r found

  pub list_edited : (number : ℕ) (rels : Numbered Rel) (ids : List RelId) → IsNumbered rels → IsListOf end node rels ids → IsListOf end node (with_edited edited number rels) ids
  list_edited number rels ids numbered is = record {
    given = is.given;
    live =
        filter_agree (is_live (with_edited edited number rels).entries) (is_live rels.entries) (λ id. find_edited edited number id.0 rels.entries (value_under number rels.entries) refl) ids
        ∙ is.live ∙ sym (ids_edited number (value_under number rels.entries) 1 rels.next rels.entries numbered.rising refl);
  }
