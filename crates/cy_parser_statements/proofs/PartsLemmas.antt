-- Parts of a WHERE, taken from the end of a list on.
use Rattle.std.proofs.Common.{◌≡◌, List, [], ◌∷◌, ◌++◌, map, reverse, Some, None, refl, ap, ◌∙◌}
use Rattle.std.proofs.lemmas.List.{reverse-append}
use Rattle.cy_lexer.specs.declared.tokens.Token.{Token}
use Rattle.cy_trees.specs.Trees.{Expression, PathTest, Where}
use Rattle.cy_parser_grammar.specs.SpellsClauses as spells
use Rattle.cy_parser_grammar.specs.internal.Reader.{Outcome, and_then}
use Rattle.cy_parser_grammar.specs.internal.Clauses.{conjoined, where_from}
use Rattle.cy_parser_statements.specs.declared.conditions.Part.{Part}
use Rattle.cy_parser_statements.specs.internal.Parts.{part_of}

-- the last part comes first
pub popped : (parts rest : List Part) (p : Part) → parts ≡ rest ++ (p ∷ []) → map part_of (reverse parts) ≡ part_of p ∷ map part_of (reverse rest)
popped parts rest p e = ap (λ ps. map part_of (reverse ps)) e ∙ ap (map part_of) (reverse-append rest (p ∷ []))

-- a condition that is joined, and one that isn't
pub joined : (found : Where) (e test : Expression) (ps : List spells.Part) (ts left : List Token) → conjoined found.test e ts ≡ Some (test, left) →
    where_from found (spells.condition e ∷ ps) ts ≡ where_from (record { test = Some test; paths = found.paths }) ps left
unfolding where_from and_then
joined found e test ps ts left made =
    ap (λ (o : Outcome Expression). and_then o (λ t. where_from (record { test = Some t; paths = found.paths }) ps)) made

refused : (found : Where) (e : Expression) (ps : List spells.Part) (ts : List Token) → conjoined found.test e ts ≡ None →
    where_from found (spells.condition e ∷ ps) ts ≡ None
unfolding where_from and_then
refused found e ps ts none = ap (λ (o : Outcome Expression). and_then o (λ t. where_from (record { test = Some t; paths = found.paths }) ps)) none

pub all_refused : {P : Type 0} {o : Outcome Where} (found : Where) (e : Expression) (ps : List spells.Part) (ts : List Token) →
    o ≡ where_from found (spells.condition e ∷ ps) ts → (P → conjoined found.test e ts ≡ None) → P → o ≡ None
all_refused found e ps ts all none p = all ∙ refused found e ps ts (none p)

pub path_added : (found : Where) (t : PathTest) (ps : List spells.Part) (ts : List Token) →
    where_from found (spells.path_test t ∷ ps) ts ≡ where_from (record { test = found.test; paths = found.paths ++ t ∷ [] }) ps ts
unfolding where_from
path_added found t ps ts = refl

pub no_parts : (found : Where) (ts : List Token) → where_from found [] ts ≡ Some (found, ts)
unfolding where_from
no_parts found ts = refl
