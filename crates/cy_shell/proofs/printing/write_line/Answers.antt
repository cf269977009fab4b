use Rattle.std.proofs.Common.{◌≡◌, ◌∙◌, ◌++◌, ◌∷◌, [], ap, ap₂}
use Rattle.json.specs.Print.{print}
use Rattle.serde_json.proofs.Texts.{print-outline}
use Rattle.cy_shell.specs.internal.Tokens.{tokens_of}
use Rattle.cy_shell.proofs.printing.write_line.Goals as goal

pub returns : goal.returns
returns g c =
    let json = g.T.WriteJson.json c.args.object.now in
    let out = c.write_json-written.new.out in
    let nothing : out.before ≡ [] = c.write_json-written.ensures.before ∙ (c.new-out.ensures.before ∙ c.emptied.ensures) in
    let written : out.tokens ≡ tokens_of json = c.in_ok-written.ensures.tokens ∙ ap (λ ts. ts ++ tokens_of json) c.new-out.ensures.tokens in
    let text = c.into_inner.ensures.items ∙ (ap₂ (λ before ts. before ++ print ts) nothing written ∙ print-outline json) in
    c.in_ok-push.ensures.items ∙ ap (λ bytes. bytes ++ 10 ∷ []) text
