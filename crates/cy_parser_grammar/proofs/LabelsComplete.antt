-- Labels that are spelt are read.
use Rattle.std.proofs.Common.{◌≡◌, ℕ, zero, suc, ◌≤◌, false, List, [], ◌∷◌, ◌++◌, length, Some, refl, ap, ◌∙◌, append_assoc, arith}
use Rattle.cy_lexer.specs.declared.tokens.Token.{Token}
use Rattle.cy_lexer.specs.declared.symbols.Symbol.TheVariants as sign
use Rattle.cy_trees.specs.Trees.{Name}
use Rattle.cy_parser_grammar.specs.Words.{is_word, denotes}
use Rattle.cy_parser_grammar.specs.internal.Reader.{kind_ahead, is_symbol}
use Rattle.cy_parser_grammar.specs.internal.Expressions.{labels, labels_from}
use Rattle.cy_parser_grammar.specs.Spells.{SpellsLabels, last_label, next_label}
use Rattle.cy_parser_grammar.proofs.Takes.{after, takes, eats_symbol, leaves_symbol}

module _ (line : List ℕ) where
  pub labels_shorten : (ls : List Name) (ts rest : List Token) → SpellsLabels line ls ts rest → suc (length rest) ≤ length ts
  labels_shorten _ _ rest (last_label t _ is) = omega arith
  labels_shorten _ _ rest (next_label ls t colon mid _ is is_colon s) = let x = labels_shorten ls mid rest s in omega (arith, x)

  labels_read_from : (k : ℕ) (found ls : List Name) (ts rest : List Token) → SpellsLabels line ls ts rest →
      is_symbol sign.Colon (kind_ahead rest) ≡ false → length ts ≤ k → labels_from line k found ts ≡ Some (found ++ ls, rest)
  unfolding labels_from
  labels_read_from zero found ls ts rest s stop few =
      let x = labels_shorten ls ts rest s in absurd (omega (arith, x, few))
  labels_read_from (suc k) found _ _ rest (last_label t _ is) stop few =
      after _ (takes is_word line t rest is) (after _ (leaves_symbol sign.Colon rest stop) refl)
  labels_read_from (suc k) found _ _ rest (next_label ls t colon mid _ is is_colon s) stop few =
      let fewer : length mid ≤ k = omega (arith, few) in
      after _ (takes is_word line t (colon ∷ mid) is) (after _ (eats_symbol sign.Colon colon mid is_colon)
      (labels_read_from k (found ++ denotes line t ∷ []) ls mid rest s stop fewer
      ∙ ap (λ z. Some (z, rest)) (append_assoc found (denotes line t ∷ []) ls)))

  pub labels_read : (ls : List Name) (ts rest : List Token) → SpellsLabels line ls ts rest →
      is_symbol sign.Colon (kind_ahead rest) ≡ false → labels line ts ≡ Some (ls, rest)
  unfolding labels
  labels_read ls ts rest s stop = labels_read_from (length ts) [] ls ts rest s stop (omega arith)
