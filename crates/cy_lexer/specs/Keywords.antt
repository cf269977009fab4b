-- The keywords (openCypher 9, reserved words), those of this profile.
use Rattle.std.specs.Prelude.{ℕ, Bool, List, [], ◌∷◌, Option, map, find, codes}
use Rattle.std.specs.Char.{to_ascii_lowercase}
use Rattle.std.specs.Cmp.Lexicographic.{pointwise}
use Rattle.std.specs.Prelude.{nat_eq}
use Rattle.cy_lexer.specs.declared.keywords.Keyword.{Keyword}
use Rattle.cy_lexer.specs.declared.keywords.Keyword.TheVariants as word

-- how a keyword is written in capitals, as bytes
abbrev pub spelling : Keyword → List ℕ
spelling word.All = codes "ALL"
spelling word.And = codes "AND"
spelling word.As = codes "AS"
spelling word.Asc = codes "ASC"
spelling word.Ascending = codes "ASCENDING"
spelling word.By = codes "BY"
spelling word.Case = codes "CASE"
spelling word.Contains = codes "CONTAINS"
spelling word.Create = codes "CREATE"
spelling word.Delete = codes "DELETE"
spelling word.Desc = codes "DESC"
spelling word.Descending = codes "DESCENDING"
spelling word.Detach = codes "DETACH"
spelling word.Distinct = codes "DISTINCT"
spelling word.Else = codes "ELSE"
spelling word.End = codes "END"
spelling word.Ends = codes "ENDS"
spelling word.False = codes "FALSE"
spelling word.In = codes "IN"
spelling word.Is = codes "IS"
spelling word.Limit = codes "LIMIT"
spelling word.Match = codes "MATCH"
spelling word.Not = codes "NOT"
spelling word.Null = codes "NULL"
spelling word.Optional = codes "OPTIONAL"
spelling word.Or = codes "OR"
spelling word.Order = codes "ORDER"
spelling word.Remove = codes "REMOVE"
spelling word.Return = codes "RETURN"
spelling word.Set = codes "SET"
spelling word.Skip = codes "SKIP"
spelling word.Starts = codes "STARTS"
spelling word.Then = codes "THEN"
spelling word.True = codes "TRUE"
spelling word.Union = codes "UNION"
spelling word.Unwind = codes "UNWIND"
spelling word.When = codes "WHEN"
spelling word.Where = codes "WHERE"
spelling word.With = codes "WITH"
spelling word.Xor = codes "XOR"

-- each keyword once
abbrev pub keywords : List Keyword
keywords =
    word.All ∷ word.And ∷ word.As ∷ word.Asc ∷ word.Ascending ∷ word.By ∷ word.Case ∷
    word.Contains ∷ word.Create ∷ word.Delete ∷ word.Desc ∷ word.Descending ∷ word.Detach ∷
    word.Distinct ∷ word.Else ∷ word.End ∷ word.Ends ∷ word.False ∷ word.In ∷ word.Is ∷
    word.Limit ∷ word.Match ∷ word.Not ∷ word.Null ∷ word.Optional ∷ word.Or ∷ word.Order ∷
    word.Remove ∷ word.Return ∷ word.Set ∷ word.Skip ∷ word.Starts ∷ word.Then ∷ word.True ∷
    word.Union ∷ word.Unwind ∷ word.When ∷ word.Where ∷ word.With ∷ word.Xor ∷ []

-- two words are the same but for the case of ASCII letters
abbrev pub same_word : List ℕ → List ℕ → Bool
same_word a b = pointwise nat_eq (map to_ascii_lowercase a) (map to_ascii_lowercase b)

-- the keyword that a word's bytes are, if one
unfoldable pub keyword_of : List ℕ → Option Keyword
keyword_of bytes = find (λ keyword. same_word (spelling keyword) bytes) keywords
