use Rattle.std.proofs.Common.{◌≡◌, ◌++◌, drop}
use Rattle.cy_shell.specs.internal.Tokens.{rest_tokens}
use Rattle.cy_shell.proofs.json_values.write_list.Given as goal

abbrev pub invariant-loop-element : goal.invariant-loop-element
invariant-loop-element g l = record {
  tokens : l.out.tokens ++ rest_tokens g.T.WriteJson.json (drop l.element-index l.elements)
      ≡ l.initial.out.tokens ++ rest_tokens g.T.WriteJson.json l.elements;
  before : l.out.before ≡ l.initial.out.before;
}
