-- The tokens that JSON is written as.
use Rattle.std.specs.Prelude.{ℕ, ℤ, List, ◌∷◌, map, unwrap_or}
use Rattle.json.specs.Token.{Token, key}
use Rattle.json.specs.Tree.{json_tokens, items_tokens}
use Rattle.serde_json.specs.Data.{Data, null, number}
use Rattle.serde_json.specs.Find.{of_integer}
use Rattle.serde_json.specs.View.{items_of}
use Rattle.serde_json.specs.Written.{outline, items_outline}
use Rattle.cy_engine_lines.specs.declared.replies.Reply.{Reply}
use Rattle.cy_shell.specs.Replies.{reply_json}

abbrev pub tokens_of : Data → List Token
tokens_of json = json_tokens (outline json)

-- a key with its value
abbrev pub field_tokens : List ℕ → Data → List Token
field_tokens name json = key name ∷ tokens_of json

-- the elements of a list, with the bracket after them
abbrev pub rest_tokens : {A : Type 0} → (A → Data) → List A → List Token
rest_tokens json elements = items_tokens (items_outline (items_of (map json elements)))

abbrev pub integer_json : ℤ → Data
integer_json whole = number (of_integer whole)

-- the object of a reply, or null where there is none
abbrev pub object_of : Reply → Data
object_of reply = unwrap_or (reply_json reply) null
