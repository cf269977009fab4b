-- The text of what is answered to a line (own).
use Rattle.std.specs.Prelude.{◌≡◌, ℕ, Bool, true, false, List, [], ◌∷◌, ◌++◌, ◌⊎◌, Option, Some, None, Result, Ok, Err}
use Rattle.serde_json.specs.Data.{Data}
use Rattle.serde_json.specs.Written.{compact_text}
use Rattle.cy_lexer.specs.Faults as lexer
use Rattle.cy_lexer.specs.declared.faults.LexFault.{LexFault}
use Rattle.cy_engine_lines.specs.Faults.{code_of, offset_of}
use Rattle.cy_bags.specs.declared.changes.Entry.{Entry}
use Rattle.cy_engine_lines.specs.declared.faults.Fault.{Fault}
use Rattle.cy_engine_lines.specs.declared.faults.Fault.TheVariants.{NoMemory}
use Rattle.cy_engine_lines.specs.declared.replies.Reply.{Reply}
use Rattle.cy_shell.specs.Lines.{line_feed}
use Rattle.cy_shell.specs.Replies.{reply_json, entry_json, fault_json}

-- an object as it is printed: compact, on a line of its own
abbrev pub printed_line : Data → List ℕ
printed_line json = compact_text json ++ line_feed ∷ []

-- the text of out of memory, 90, which stands in for that of any fault
abbrev pub no_memory_text : List ℕ
no_memory_text = printed_line (fault_json None (code_of NoMemory))

-- the number of `ReplyLost`, which is the shell's own
abbrev pub reply_lost_code : ℕ
reply_lost_code = 91

-- its text, which stands in for that of any other object
abbrev pub reply_lost_text : List ℕ
reply_lost_text = printed_line (fault_json None reply_lost_code)

-- the text of a fault with this offset and number, or that of out of memory
abbrev pub IsFaultText : Option ℕ → ℕ → List ℕ → Type 0
IsFaultText at code text = (text ≡ printed_line (fault_json at code)) ⊎ (text ≡ no_memory_text)

-- the text of a fault of the lexer, or that of out of memory
abbrev pub IsLexFaultText : LexFault → List ℕ → Type 0
IsLexFaultText fault text = IsFaultText (lexer.at_of fault) (lexer.code_of fault) text

-- no text where there is no object, or the text of the object, or that of `ReplyLost`
abbrev pub IsObjectText : Option Data → List ℕ → Type 0
IsObjectText None text = text ≡ []
IsObjectText (Some json) text = (text ≡ printed_line json) ⊎ (text ≡ reply_lost_text)

abbrev pub IsReplyText : Reply → List ℕ → Type 0
IsReplyText reply text = IsObjectText (reply_json reply) text

-- the text of what the engine answered
abbrev pub IsAnswerText : Result Reply Fault → List ℕ → Type 0
IsAnswerText (Ok reply) text = IsReplyText reply text
IsAnswerText (Err fault) text = IsFaultText (offset_of fault) (code_of fault) text

-- the texts of entries, one after another, and nothing else
abbrev pub IsFeedText : List (List ℕ × Entry) → List ℕ → Type 0
IsFeedText [] text = text ≡ []
IsFeedText (e ∷ es) text = (first : List ℕ) × (rest : List ℕ) × (text ≡ first ++ rest) × IsObjectText (Some (entry_json e)) first × IsFeedText es rest

-- the entries that are printed: all of them, or none
abbrev pub fed : Bool → List (List ℕ × Entry) → List (List ℕ × Entry)
fed true entries = entries
fed false entries = []

-- the text of what the engine answered and, with the feed, of the entries that the line made
pub record IsLineText (feed : Bool) (result : Result Reply Fault) (entries : List (List ℕ × Entry)) (text : List ℕ) : Type 0 where
  pub answer : List ℕ
  pub entry_texts : List ℕ
  pub is : text ≡ answer ++ entry_texts
  pub answered : IsAnswerText result answer
  pub feeds : IsFeedText (fed feed entries) entry_texts
