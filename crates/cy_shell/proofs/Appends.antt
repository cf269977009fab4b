-- Known bytes that grow.
use Rattle.std.proofs.Common.{◌≡◌, ℕ, ◌+◌, List, [], ◌++◌, take, drop, Option, Some, None, refl, sym, ◌∙◌, ap, append_assoc}
use Rattle.std.proofs.lemmas.List.{append-nil, take-append-drop}
use Rattle.std.proofs.Math.Seq.{take-add}
use Rattle.cy_shell.specs.Streams.{Extends, appended}
use Rattle.cy_shell.specs.internal.Writing.{AppendsFront}

pub appended-nil : (known : Option (List ℕ)) → known ≡ appended known []
appended-nil None = refl
appended-nil (Some bytes) = ap Some (sym (append-nil bytes))

pub appended-appended : (known : Option (List ℕ)) (a b : List ℕ) → appended (appended known a) b ≡ appended known (a ++ b)
appended-appended None a b = refl
appended-appended (Some bytes) a b = ap Some (append_assoc bytes a b)

pub extends_same : (known : Option (List ℕ)) → Extends known known
extends_same known = record { more = []; is = appended-nil known }

pub extends_then : (before between after : Option (List ℕ)) → Extends before between → Extends between after → Extends before after
extends_then before between after first second =
    record { more = first.more ++ second.more; is = second.is ∙ ap (λ k. appended k second.more) first.is ∙ appended-appended before first.more second.more }

-- one more piece of a text
pub appended_more : (known : Option (List ℕ)) (text : List ℕ) (at count : ℕ) → appended (appended known (take at text)) (take count (drop at text)) ≡ appended known (take (at + count) text)
appended_more known text at count = appended-appended known (take at text) (take count (drop at text)) ∙ ap (appended known) (sym (take-add at count text))

pub front_appended : (before after : Option (List ℕ)) (text : List ℕ) (at : ℕ) → after ≡ appended before (take at text) → AppendsFront before after text
front_appended before after text at is = record { front = take at text; rest = drop at text; whole = sym (take-append-drop at text); is = is }
