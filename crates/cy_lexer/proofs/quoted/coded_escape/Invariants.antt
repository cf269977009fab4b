use Rattle.std.proofs.Common.{◌≡◌, ◌≤◌, ◌<◌, ◌-◌, ◌^◌, length, drop}
use Rattle.std.specs.Str.{chars}
use Rattle.cy_lexer.specs.Quoted.{hexadecimal}
use denote.Text.{Utf8}
use denote.Shadow.{shadow}
use Rattle.cy_lexer.proofs.quoted.coded_escape.Given as goal

-- the digits so far write a number, after which the others write that of all digits
abbrev pub invariant-loop : goal.invariant-loop
invariant-loop l =
    shadow (Utf8 l.rest) × (hexadecimal l.code (l.digits - l.counter) (chars l.rest) ≡ hexadecimal 0 l.digits (chars l.text)) × (chars l.rest ≡ drop l.counter (chars l.text)) × (l.code < 16 ^ l.counter) × (length l.rest ≤ length l.text)
