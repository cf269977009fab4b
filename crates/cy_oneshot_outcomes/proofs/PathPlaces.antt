-- The places of a pattern with a step that has a length, and of that pattern written out.
use Rattle.std.proofs.Common.{◌≡◌, ℕ, zero, suc, ◌+◌, List, [], ◌∷◌, ◌++◌, length, None, refl, sym, ap, ◌∙◌, append_assoc, append-nil, length-append, arith}
use Rattle.std.specs.Prelude.{flat_map}
use Rattle.std.proofs.lemmas.List.Concat.{flat_map-append}
use Rattle.cy_trees.specs.Trees.{NodePattern, RelationshipPattern, Step}
use Rattle.cy_oneshot_patterns.specs.Places.{Place, link_place, node, relationships, path_places, places, step_places}
use Rattle.cy_oneshot_outcomes.specs.Lengths.{LongStep, pattern, places_before, ranged, single, single_steps, written_out}
use Rattle.cy_oneshot_outcomes.proofs.Walks.{between}

-- the places up to the left end of the step, and those after its right end
abbrev pub places_left : LongStep → List Place
places_left s = places (s.parts_before ++ record { start = s.start; steps = s.steps_before } ∷ [])

abbrev pub places_right : LongStep → List Place
places_right s = flat_map step_places s.steps_after ++ flat_map path_places s.parts_after

left_parts : (s : LongStep) → places_left s ≡ flat_map path_places s.parts_before ++ (node s.start ∷ flat_map step_places s.steps_before)
left_parts s =
    flat_map-append path_places s.parts_before (record { start = s.start; steps = s.steps_before } ∷ [])
    ∙ ap (λ l. flat_map path_places s.parts_before ++ l) (append-nil (node s.start ∷ flat_map step_places s.steps_before))

four_lists : {A : Type 0} (ws xs ys zs : List A) → ws ++ ((xs ++ ys) ++ zs) ≡ (ws ++ xs) ++ (ys ++ zs)
four_lists ws xs ys zs = ap (λ l. ws ++ l) (append_assoc xs ys zs) ∙ sym (append_assoc ws xs (ys ++ zs))

-- with some steps in the place of the step
places_by : (s : LongStep) (steps : List Step)
    → places (s.parts_before ++ record { start = s.start; steps = s.steps_before ++ (steps ++ s.steps_after) } ∷ s.parts_after) ≡ places_left s ++ (flat_map step_places steps ++ places_right s)
places_by s steps =
    let inner : flat_map step_places (s.steps_before ++ (steps ++ s.steps_after)) ≡ flat_map step_places s.steps_before ++ (flat_map step_places steps ++ flat_map step_places s.steps_after) =
    flat_map-append step_places s.steps_before (steps ++ s.steps_after) ∙ ap (λ l. flat_map step_places s.steps_before ++ l) (flat_map-append step_places steps s.steps_after) in
    flat_map-append path_places s.parts_before (record { start = s.start; steps = s.steps_before ++ (steps ++ s.steps_after) } ∷ s.parts_after)
    ∙ ap (λ l. flat_map path_places s.parts_before ++ ((node s.start ∷ l) ++ flat_map path_places s.parts_after)) inner
    ∙ four_lists (flat_map path_places s.parts_before) (node s.start ∷ flat_map step_places s.steps_before) (flat_map step_places steps ++ flat_map step_places s.steps_after) (flat_map path_places s.parts_after)
    ∙ (λ i. sym (left_parts s) i ++ append_assoc (flat_map step_places steps) (flat_map step_places s.steps_after) (flat_map path_places s.parts_after) i)

single_places : (r : RelationshipPattern) (count : ℕ) (end : NodePattern) → flat_map step_places (single_steps r (suc count) end) ≡ between r (suc count) ++ node end ∷ []
single_places r zero end = refl
single_places r (suc count) end = ap (λ l. flat_map step_places (record { relationship = single r; node = record { variable = None; labels = []; properties = None } } ∷ []) ++ l) (single_places r count end)

pub places_of_pattern : (s : LongStep) → places (pattern s) ≡ places_left s ++ (relationships (ranged s.relationship s.range) s.range ∷ node s.end ∷ places_right s)
places_of_pattern s = places_by s (record { relationship = ranged s.relationship s.range; node = s.end } ∷ [])

pub places_of_singles : (s : LongStep) (count : ℕ) → places (written_out s count) ≡ places_left s ++ (between s.relationship count ++ node s.end ∷ places_right s)
places_of_singles s zero =
    flat_map-append path_places s.parts_before (record { start = s.start; steps = s.steps_before } ∷ record { start = s.end; steps = s.steps_after } ∷ s.parts_after)
    ∙ sym (append_assoc (flat_map path_places s.parts_before) (node s.start ∷ flat_map step_places s.steps_before) (node s.end ∷ places_right s))
    ∙ ap (λ l. l ++ (node s.end ∷ places_right s)) (sym (left_parts s))
places_of_singles s (suc count) =
    places_by s (single_steps s.relationship (suc count) s.end)
    ∙ ap (λ l. places_left s ++ (l ++ places_right s)) (single_places s.relationship count s.end)
    ∙ ap (λ l. places_left s ++ l) (append_assoc (between s.relationship (suc count)) (node s.end ∷ []) (places_right s))

-- ---- the left end is a node's place

pub record EndsAtNode (ps : List Place) : Type 0 where
  pub others : List Place
  pub last : NodePattern
  pub parts : ps ≡ others ++ node last ∷ []

steps_end : (n : NodePattern) (steps : List Step) → EndsAtNode (node n ∷ flat_map step_places steps)
steps_end n [] = record { others = []; last = n; parts = refl }
steps_end n (step ∷ steps) =
    let rest : EndsAtNode (node step.node ∷ flat_map step_places steps) = steps_end step.node steps in
    record {
      others = node n ∷ link step ∷ rest.others;
      last = rest.last;
      parts = ap (λ l. node n ∷ link step ∷ l) rest.parts;
    }
  where
    link : Step → Place
    link s = link_place s.relationship s.relationship.length

pub left_end : (s : LongStep) → EndsAtNode (places_left s)
left_end s =
    let rest : EndsAtNode (node s.start ∷ flat_map step_places s.steps_before) = steps_end s.start s.steps_before in
    record {
      others = flat_map path_places s.parts_before ++ rest.others;
      last = rest.last;
      parts = left_parts s ∙ ap (λ l. flat_map path_places s.parts_before ++ l) rest.parts ∙ sym (append_assoc (flat_map path_places s.parts_before) rest.others (node rest.last ∷ []));
    }

pub one_before : (s : LongStep) → places_before s ≡ suc (length (left_end s).others)
one_before s =
    let e : length (places_left s) ≡ length (left_end s).others + 1 = ap length (left_end s).parts ∙ length-append (left_end s).others (node (left_end s).last ∷ []) in
    omega (arith, e)
