-- The JSON of replies, entries and faults, with keys in the order of their letters (own).
use Rattle.std.specs.Prelude.{ℕ, List, codes, Option, Some, None}
use Rattle.serde_json.specs.Data.{Data, null, number, unsigned, string, array, object, item, no_items, member, no_members}
use Rattle.cy_values.specs.declared.rows.Cell.{Cell}
use Rattle.cy_bags.specs.declared.changes.Entry.{Entry}
use Rattle.cy_engine_lines.specs.declared.replies.Changed.{Changed}
use Rattle.cy_engine_lines.specs.declared.replies.Reply.{Reply}
use Rattle.cy_engine_views.specs.declared.listings.ViewListing.{ViewListing}
use Rattle.cy_engine_lines.specs.declared.replies.Reply.TheVariants as reply
use Rattle.cy_shell.specs.Json.{keyed, list_json, row_json, counted_json}
use Rattle.cy_shell.specs.Words.{word_of}

abbrev pub columns_json : List (List ℕ) → Data
columns_json columns = list_json string columns

-- nodes made, nodes gone, relationships made, relationships gone
abbrev pub changed_json : Changed → Data
changed_json changed =
    array (item (number (unsigned changed.nodes_made)) (item (number (unsigned changed.nodes_gone))
    (item (number (unsigned changed.rels_made)) (item (number (unsigned changed.rels_gone)) no_items))))

-- {"changed":[..],"columns":[..],"rows":[..]}
abbrev pub statement_json : Changed → List (List ℕ) → List (List Cell) → Data
statement_json changed columns rows =
    object (member (codes "changed") (changed_json changed) (member (codes "columns") (columns_json columns)
    (member (codes "rows") (list_json row_json rows) no_members)))

-- {"columns":[..],"tick":t,"view":name}
abbrev pub made_json : List (List ℕ) → ℕ → List ℕ → Data
made_json columns tick name =
    object (member (codes "columns") (columns_json columns) (member (codes "tick") (number (unsigned tick))
    (member (codes "view") (string name) no_members)))

-- {"rows":[[row,count],..],"tick":t,"view":name}
abbrev pub rows_json : List (List Cell × ℕ) → ℕ → List ℕ → Data
rows_json rows tick name =
    object (member (codes "rows") (list_json counted_json rows) (member (codes "tick") (number (unsigned tick))
    (member (codes "view") (string name) no_members)))

-- {"added":[..],"removed":[..],"tick":t}
abbrev pub change_json : Entry → Data
change_json entry =
    object (member (codes "added") (list_json counted_json entry.change.added) (member (codes "removed") (list_json counted_json entry.change.removed)
    (member (codes "tick") (number (unsigned entry.tick)) no_members)))

-- {"entries":[..],"tick":t,"view":name}
abbrev pub entries_json : List Entry → ℕ → List ℕ → Data
entries_json entries tick name =
    object (member (codes "entries") (list_json change_json entries) (member (codes "tick") (number (unsigned tick))
    (member (codes "view") (string name) no_members)))

-- {"dropped":name}
abbrev pub dropped_json : List ℕ → Data
dropped_json name = keyed (codes "dropped") (string name)

-- {"columns":[..],"made":t,"name":name}
abbrev pub listing_json : ViewListing → Data
listing_json listing =
    object (member (codes "columns") (columns_json listing.columns) (member (codes "made") (number (unsigned listing.made))
    (member (codes "name") (string listing.name) no_members)))

-- {"views":[..]}
abbrev pub views_json : List ViewListing → Data
views_json views = keyed (codes "views") (list_json listing_json views)

-- [name,n]
abbrev pub upkeep_json : List ℕ × ℕ → Data
upkeep_json upkeep = array (item (string upkeep.0) (item (number (unsigned upkeep.1)) no_items))

-- {"steps":[[name,n],..]}
abbrev pub steps_json : List (List ℕ × ℕ) → Data
steps_json steps = keyed (codes "steps") (list_json upkeep_json steps)

-- {"index":[label,key]}
abbrev pub index_json : List ℕ → List ℕ → Data
index_json label key = keyed (codes "index") (array (item (string label) (item (string key) no_items)))

-- the object that a reply is printed as, where it is printed
abbrev pub reply_json : Reply → Option Data
reply_json reply.Nothing = None
reply_json (reply.Statement changed columns rows) = Some (statement_json changed columns rows)
reply_json (reply.Made columns tick name) = Some (made_json columns tick name)
reply_json (reply.Rows rows tick name) = Some (rows_json rows tick name)
reply_json (reply.Entries entries tick name) = Some (entries_json entries tick name)
reply_json (reply.Dropped name) = Some (dropped_json name)
reply_json (reply.Views views) = Some (views_json views)
reply_json (reply.Steps steps) = Some (steps_json steps)
reply_json (reply.Index label key) = Some (index_json label key)

-- {"added":[..],"removed":[..],"tick":t,"view":name}
abbrev pub entry_json : List ℕ × Entry → Data
entry_json e =
    object (member (codes "added") (list_json counted_json e.1.change.added) (member (codes "removed") (list_json counted_json e.1.change.removed)
    (member (codes "tick") (number (unsigned e.1.tick)) (member (codes "view") (string e.0) no_members))))

abbrev pub offset_json : Option ℕ → Data
offset_json None = null
offset_json (Some at) = number (unsigned at)

-- {"at":offset or null,"code":n,"error":word}
abbrev pub fault_json : Option ℕ → ℕ → Data
fault_json at code =
    object (member (codes "at") (offset_json at) (member (codes "code") (number (unsigned code))
    (member (codes "error") (string (word_of code)) no_members)))
