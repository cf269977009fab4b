-- The tokens of some lines, and a line of words, computed.
use Rattle.std.proofs.Common.{◌≡◌, [], ◌∷◌, Ok, Err, true, false, refl}
use Rattle.std.specs.Prelude.{codes}
use Rattle.std.specs.Str.{chars}
use Rattle.std.specs.Char.{encode_utf8}
use Rattle.std.specs.Fmt.{digits}
use Rattle.unicode_ident.proofs.Computing.{unicode_ident}
use Rattle.cy_lexer.specs.declared.faults.LexFault.TheVariants.{BadCharacter, UnclosedText, BadEscape, UnclosedComment, UnclosedName, BadNumber}
use Rattle.cy_lexer.specs.declared.keywords.Keyword.TheVariants as word
use Rattle.cy_lexer.specs.declared.symbols.Symbol.TheVariants as sign
use Rattle.cy_lexer.specs.declared.tokens.TokenKind.TheVariants as kind
use Rattle.cy_lexer.specs.Keywords.{keyword_of}
use Rattle.cy_lexer.specs.Symbols as signs
use Rattle.cy_lexer.specs.Tokens.{piece, tokens_from, tokens_of}
use Rattle.cy_lexer.specs.Words.{keyword, name, text, number, symbol}
use Rattle.cy_lexer.specs.internal.SpacedWords.{written}

nothing : tokens_of [] ≡ Ok []
unfolding tokens_of tokens_from piece signs.symbol keyword_of chars encode_utf8 unicode_ident
nothing = refl

blanks : tokens_of (codes " /* a */ // b") ≡ Ok []
unfolding tokens_of tokens_from piece signs.symbol keyword_of chars encode_utf8 unicode_ident
blanks = refl

a_name : tokens_of (codes " n_1") ≡ Ok (record { kind = kind.Name; start = 1; end = 4 } ∷ [])
unfolding tokens_of tokens_from piece signs.symbol keyword_of chars encode_utf8 unicode_ident
a_name = refl

a_keyword : tokens_of (codes "Or") ≡ Ok (record { kind = kind.Keyword word.Or; start = 0; end = 2 } ∷ [])
unfolding tokens_of tokens_from piece signs.symbol keyword_of chars encode_utf8 unicode_ident
a_keyword = refl

a_number : tokens_of (codes "120") ≡ Ok (record { kind = kind.Number 120; start = 0; end = 3 } ∷ [])
unfolding tokens_of tokens_from piece signs.symbol keyword_of chars encode_utf8 unicode_ident
a_number = refl

a_text : tokens_of (codes "'a\\n'") ≡ Ok (record { kind = kind.Text; start = 0; end = 5 } ∷ [])
unfolding tokens_of tokens_from piece signs.symbol keyword_of chars encode_utf8 unicode_ident
a_text = refl

symbols : tokens_of (codes "< <=") ≡ Ok (record { kind = kind.Symbol sign.Less; start = 0; end = 1 } ∷ record { kind = kind.Symbol sign.LessOrEqual; start = 2; end = 4 } ∷ [])
unfolding tokens_of tokens_from piece signs.symbol keyword_of chars encode_utf8 unicode_ident
symbols = refl

unclosed_comment : tokens_of (codes "/* a") ≡ Err (UnclosedComment 0)
unfolding tokens_of tokens_from piece signs.symbol keyword_of chars encode_utf8 unicode_ident
unclosed_comment = refl

unclosed_text : tokens_of (codes " 'ab") ≡ Err (UnclosedText 1)
unfolding tokens_of tokens_from piece signs.symbol keyword_of chars encode_utf8 unicode_ident
unclosed_text = refl

bad_escape : tokens_of (codes "'a\\q") ≡ Err (BadEscape 2)
unfolding tokens_of tokens_from piece signs.symbol keyword_of chars encode_utf8 unicode_ident
bad_escape = refl

surrogate : tokens_of (codes "'\\uD800'") ≡ Err (BadEscape 1)
unfolding tokens_of tokens_from piece signs.symbol keyword_of chars encode_utf8 unicode_ident
surrogate = refl

unclosed_name : tokens_of (codes "`a") ≡ Err (UnclosedName 0)
unfolding tokens_of tokens_from piece signs.symbol keyword_of chars encode_utf8 unicode_ident
unclosed_name = refl

empty_name : tokens_of (codes "``") ≡ Err (BadCharacter 0)
unfolding tokens_of tokens_from piece signs.symbol keyword_of chars encode_utf8 unicode_ident
empty_name = refl

zero_first : tokens_of (codes "01") ≡ Err (BadNumber 0)
unfolding tokens_of tokens_from piece signs.symbol keyword_of chars encode_utf8 unicode_ident
zero_first = refl

bad_character : tokens_of (codes "#") ≡ Err (BadCharacter 0)
unfolding tokens_of tokens_from piece signs.symbol keyword_of chars encode_utf8 unicode_ident
bad_character = refl

words : written ((keyword word.Match, true) ∷ (symbol sign.LeftParenthesis, false) ∷ (name (codes "a`b"), false) ∷ (symbol sign.RightParenthesis, true) ∷ (text (codes "it's"), false) ∷ (symbol sign.Plus, false) ∷ (number 120, false) ∷ [])
    ≡ codes "MATCH (`a``b`) 'it\\'s'+120"
unfolding digits
words = refl
