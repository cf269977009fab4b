-- Lemmas on keywords.
use Rattle.std.proofs.Common.{◌≡◌, ℕ, ◌<◌, Bool, ◌&&◌, ◌==◌, true, false, List, [], ◌∷◌, length, Some, None, refl, sym, ap, ◌∙◌, arith}
use Rattle.std.specs.Char.{to_ascii_lowercase, to_ascii_uppercase}
use Rattle.std.specs.List.{find, filter, slice_get}
use Rattle.std.proofs.lemmas.Bool.{eqb-true, eq-eqb, and_parts}
use Rattle.std.proofs.lemmas.Bool.Decides.{nat_tests}
use Rattle.cy_lexer.specs.declared.keywords.Keyword.{Keyword}
use Rattle.cy_lexer.specs.declared.keywords.Keyword.TheVariants as word
use Rattle.cy_lexer.specs.Keywords.{spelling, keywords, same_word, keyword_of}
use Rattle.cy_lexer.specs.internal.Reading.{begins_keyword}

by_found : {X : Type 0} → (p q : X → Bool) (x : X) (xs : List X) (found kept : Bool) → p x ≡ found → q x ≡ kept → (p x ≡ true → q x ≡ true) → find p (filter q xs) ≡ find p xs → find p (filter q (x ∷ xs)) ≡ find p (x ∷ xs)
by_found p q x xs true true found kept wider known = rw kept (rw found refl)
by_found p q x xs false true found kept wider known = rw kept (rw found known)
by_found p q x xs false false found kept wider known = rw (kept, found) known
by_found p q x xs true false found kept wider known = absurd (let yes = wider found in cc)

-- what a test finds is found too among those that a wider test keeps
find-kept : {X : Type 0} → (p q : X → Bool) → ((x : X) → p x ≡ true → q x ≡ true) → (xs : List X) → find p (filter q xs) ≡ find p xs
find-kept p q wider [] = refl
find-kept p q wider (x ∷ xs) = by_found p q x xs (p x) (q x) refl refl (wider x) (find-kept p q wider xs)

uppercase-lowercase : (c : ℕ) → to_ascii_uppercase (to_ascii_lowercase c) ≡ to_ascii_uppercase c
uppercase-lowercase c = grind (arith, nat_tests)

-- a keyword begins with a letter in capitals
front_of : (k : Keyword) → (c : ℕ) × (cs : List ℕ) × (spelling k ≡ c ∷ cs) × (to_ascii_uppercase (to_ascii_lowercase c) ≡ c)
front_of word.All = (_, _, refl, refl)
front_of k = (_, _, refl, refl)

begins_as_spelled : (letter : ℕ) (bytes : List ℕ) (k : Keyword) → same_word (spelling k) (letter ∷ bytes) ≡ true → begins_keyword letter k ≡ true
begins_as_spelled letter bytes k same =
    let front = front_of k in
    let both = and_parts _ _ (rw front.2 at same) in
    let first : to_ascii_lowercase front.0 ≡ to_ascii_lowercase letter = eqb-true _ _ both.0 in
    rw front.2 (eq-eqb front.0 (to_ascii_uppercase letter) (sym front.3 ∙ ap to_ascii_uppercase first ∙ uppercase-lowercase letter))

-- the keyword that a word is begins with the word's first letter
pub keyword_of-letter : (word : List ℕ) (letter : ℕ) (known : List Keyword) → Some letter ≡ slice_get word 0 → known ≡ filter (begins_keyword letter) keywords → find (λ k. same_word (spelling k) word) known ≡ keyword_of word
unfolding keyword_of
keyword_of-letter [] letter known e kept = absurd cc
keyword_of-letter (b ∷ bytes) letter known e kept =
    let first : letter ≡ b = cc in
    rw (kept, first) (find-kept (λ k. same_word (spelling k) (b ∷ bytes)) (begins_keyword b) (begins_as_spelled b bytes) keywords)

by_none : {X : Type 0} → (p : X → Bool) (x : X) (xs : List X) (found : Bool) → p x ≡ found → (p x ≡ true → ⊥) → find p xs ≡ None → find p (x ∷ xs) ≡ None
by_none p x xs true found never known = absurd (never found)
by_none p x xs false found never known = rw found known

-- a test that nothing passes finds nothing
find-none : {X : Type 0} → (p : X → Bool) → ((x : X) → p x ≡ true → ⊥) → (xs : List X) → find p xs ≡ None
find-none p never [] = refl
find-none p never (x ∷ xs) = by_none p x xs (p x) refl (never x) (find-none p never xs)

-- a keyword has two letters or more
two_letters : (k : Keyword) → (c : ℕ) × (d : ℕ) × (cs : List ℕ) × (spelling k ≡ c ∷ d ∷ cs)
two_letters word.All = (_, _, _, refl)
two_letters k = (_, _, _, refl)

never_and : (b : Bool) → b && false ≡ true → ⊥
never_and true e = cc
never_and false e = cc

longer_than_one : (letter : ℕ) (k : Keyword) → same_word (spelling k) (letter ∷ []) ≡ true → ⊥
longer_than_one letter k same =
    let front = two_letters k in
    never_and (to_ascii_lowercase front.0 == to_ascii_lowercase letter) (rw front.3 at same)

-- one letter is no keyword, and nothing is none
pub keyword_of_short : (word : List ℕ) → length word < 2 → None ≡ keyword_of word
unfolding keyword_of
keyword_of_short [] e = refl
keyword_of_short (b ∷ []) e = sym (find-none (λ k. same_word (spelling k) (b ∷ [])) (longer_than_one b) keywords)
keyword_of_short (b ∷ d ∷ bytes) e = absurd (omega arith)

-- nothing is no keyword
pub keyword_of-nothing : (word : List ℕ) → None ≡ slice_get word 0 → None ≡ keyword_of word
unfolding keyword_of
keyword_of-nothing [] e = refl
keyword_of-nothing (b ∷ bytes) e = absurd cc
